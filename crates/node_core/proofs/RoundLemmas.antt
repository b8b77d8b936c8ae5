-- Rounds of a core whose steps are carried out, or cut off.
use Rattle.std.proofs.Common.{Some, ◌∙◌}
use Rattle.node.specs.Handles.{Handles as HandlesFrame}
use Rattle.node.specs.Recovering.{Notes as NotesLength}
use Rattle.node_store.specs.Serving.{all_outputs}
use Rattle.node_store.specs.Steps.{CutOffStepsWriteFirst, StepsWriteAll}
use Rattle.node_store.proofs.OutputLemmas.{chain_is}
use Rattle.node_store.proofs.ServingLemmas.{serves_unhandled}
use Rattle.node_core.specs.Laws.{CutOffRoundsStopEarly, FailedRoundsStopEarly, RoundsAreServed}
use Rattle.node_core.proofs.StepLemmas.{all_steps, cut_off_steps, keeps_log}

pub served : StepsWriteAll → RoundsAreServed
served law old new input round before after handled synced done =
    let (events, folds, reads, waits) = handled.handles in
    let chain = old.end.chain.state in
    let outputs = all_outputs events in
    let all = all_steps round.batch before after waits.none synced done in
    let (wrote, kept) = law chain round.batch outputs before after waits synced all in (
      (
        (events, folds, reads, wrote, handled.behind.chained ∙ chain_is chain round.batch outputs waits),
        (round.batch.log, keeps_log round.batch before after synced kept all, handled.behind.long),
      ),
      kept,
    )

pub cut_off : CutOffStepsWriteFirst → CutOffRoundsStopEarly
cut_off law old new input round before after error why handled synced off =
    let (events, folds, reads, waits) = handled.handles in
    let chain = old.end.chain.state in (
      events,
      new.node,
      folds,
      (round.rest.now, reads, why round.rest.now),
      law chain round.batch (all_outputs events) before after waits synced (cut_off_steps round.batch before after off),
    )

pub failed : FailedRoundsStopEarly
failed old input places error stops =
    serves_unhandled HandlesFrame NotesLength old.end.chain.state old.node (Some input) (Some places.kept)
    (Some places.sent) error stops
