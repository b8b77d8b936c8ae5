use Rattle.example_runs.proofs.NoticeLemmas.{all_noted}
use Rattle.example_runs.proofs.StepLemmas.{on_ok}
use Rattle.example_runs.proofs.steps.note_seen.Goals as goal

pub returns : goal.returns
returns c =
    let noted = c.in_ok-note_all.ensures in
    on_ok c.push_all.result
    (all_noted c.args.seen.now.items c.note_all.new.seen.items c.push_all.new.seen.items c.new-told.result.items
    c.note_all.new.told.items c.args.notices.items noted.begun c.new-told.ensures.items noted.told) c.push_all.ensures
