use Rattle.processes.specs.Events.{is_begun, is_told}
use Rattle.example_runs.proofs.NoticeLemmas.{noted_more}
use Rattle.example_runs.proofs.steps.note_all.Goals as goal

pub loop-notice-preserved : goal.loop-notice-preserved
loop-notice-preserved c =
    let loop = c.loop-notice in (
      noted_more is_begun c.args.seen.now.items loop.seen.items c.note_one.new.seen.items loop.yielded c.in-Some.notice
          loop.invariant.0 c.in_ok-note_one.ensures.begun,
      noted_more is_told c.args.told.now.items loop.told.items c.note_one.new.told.items loop.yielded c.in-Some.notice
          loop.invariant.1 c.in_ok-note_one.ensures.told,
    )
