use Rattle.std.proofs.Common.{◌<◌, length, refl, sym, ap, ◌∙◌, arith}
use Rattle.std.proofs.lemmas.Option.{slice_get_read}
use Rattle.cluster_file.specs.Reading.{file_of}
use Rattle.example_runs.proofs.StepLemmas.{on_ok, reached_on, started_in, started_leads}
use Rattle.example_runs.proofs.process_run.ProcessRun.start.Goals as goal

pub returns-clause-does : goal.returns-clause-does
returns-clause-does c =
    let run = c.args.self.now in
    let within : c.args.number < length run.members.items = omega (arith, c.len.ensures, c.if-place-len.false, run.members.ok.0) in
    let at = slice_get_read run.members.items (length run.members.items) c.args.number c.index_mut-member.result.now refl within
    c.index_mut-member.ensures.value in
    let read = ap file_of (sym c.deref.ensures) ∙ c.in_ok-file.ensures in
    on_ok c.start.result (started_in c.args.number run c.index_mut-member.result.now at c.in_ok-file.file c.start.new.self read)
    c.start.ensures

pub returns-clause-leads : goal.returns-clause-leads
returns-clause-leads c =
    on_ok c.start.result (started_leads c.left_logs_are_read.ensures c.args.number c.args.self.now _) (returns-clause-does c)

pub returns-clause-reached : goal.returns-clause-reached
returns-clause-reached c = on_ok c.start.result (reached_on c.args.self.now _) (returns-clause-leads c)
