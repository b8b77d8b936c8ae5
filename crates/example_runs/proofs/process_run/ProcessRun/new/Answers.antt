use Rattle.std.proofs.Common.{sym, ap, ◌∙◌}
use Rattle.cluster_file.specs.Reading.{file_of}
use Rattle.example_runs.proofs.StepLemmas.{new_reached}
use Rattle.example_runs.proofs.process_run.ProcessRun.new.Goals as goal

pub returns : goal.returns
returns c =
    new_reached _ c.in_ok-file.file (ap file_of (sym c.deref.ensures) ∙ c.in_ok-file.ensures) c.know_lawful.ensures
    c.in_ok-members.ensures c.new.ensures.items c.new-2.ensures.items
