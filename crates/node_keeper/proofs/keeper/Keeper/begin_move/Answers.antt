use Rattle.std.proofs.Common.{[], inr, refl, subst, ◌∷◌}
use Rattle.local_object.specs.Events.{LocalEvent}
use Rattle.node_keeper.specs.Doing.{IsOutcomeAt}
use Rattle.node_effects.specs.declared.notice.Notice.TheVariants as notice
use Rattle.recoveries.specs.Records.{LogRecord}
use Rattle.recoveries.proofs.LoggedIdLemmas.{move_logged as told_move}
use Rattle.node_keeper.specs.Beginning.{moving_call}
use Rattle.node_keeper.proofs.BegunLemmas.{begun_acts}
use Rattle.node_keeper.proofs.EpochLemmas.{refused_if}
use Rattle.node_keeper.proofs.EventLogLemmas.{lawful_of, move_logged}
use Rattle.node_keeper.proofs.CallLemmas.{alone_begun, gives_node, post_not_begun, refused_begins}
use Rattle.node_keeper.proofs.ResultLemmas.{err_same}
use Rattle.node_keeper.proofs.keeper.Keeper.begin_move.Goals as goal

pub returns-in_ok-post-in-Ok-clause-acts : goal.returns-in_ok-post-in-Ok-clause-acts
returns-in_ok-post-in-Ok-clause-acts c =
    let moved = LogRecord.Moves c.args.name.now c.in_ok-id.id c.args.layout in
    let done : IsOutcomeAt c.args.self.now.objects c.args.name.now (LocalEvent.BeginMove c.in_ok-id.id c.args.layout ∷ [])
    c.begin_move.new.self c.in-Ok.letters.items =
    subst (λ l. IsOutcomeAt c.args.self.now.objects c.args.name.now (LocalEvent.BeginMove c.in_ok-id.id l ∷ [])
    c.begin_move.new.self c.in-Ok.letters.items) c.in_ok-to.ensures.cases c.in-Ok.ensures.done in
    λ asker. begun_acts asker c.args.self.now _ c.args.work.now c.next_id.new.work c.log_move.new.work c.post.new.work
    c.args.name.now (LocalEvent.BeginMove c.in_ok-id.id c.args.layout) c.in_ok-id.id c.in-Ok.letters.items
    (moved ∷ []) (notice.Moves c.args.name.now c.in_ok-id.id c.args.layout) refl refl c.in_ok-id.ensures.gives
    done refl c.requires refl (inr (moved, refl))
    (move_logged c.args.self.now c.args.name.now c.in_ok-id.id c.args.layout c.requires c.in-Ok.ensures.cause)
    (told_move c.args.name.now c.in_ok-id.id c.args.layout)
    (c.in_ok-log_move-in-Ok.ensures.read (lawful_of done), tt) c.in_ok-log_move-in-Ok.ensures.logged
    c.in_ok-post-in-Ok.ensures.grown c.in_ok-post-in-Ok.ensures.writes

pub returns-in_ok-post-in-Ok-clause-begins : goal.returns-in_ok-post-in-Ok-clause-begins
returns-in_ok-post-in-Ok-clause-begins c =
    let id = c.in_ok-id.id in
    alone_begun (moving_call c.args.name.now c.args.layout) refl id c.args.self.now _ c.args.work.now c.next_id.new.work c.log_move.new.work
    c.post.new.work c.in-Ok.letters.items c.in_ok-id.ensures.gives c.in-Ok.ensures.cause
    (subst (λ l. IsOutcomeAt c.args.self.now.objects c.args.name.now (LocalEvent.BeginMove id l ∷ []) c.begin_move.new.self
    c.in-Ok.letters.items) c.in_ok-to.ensures.cases c.in-Ok.ensures.done) c.in_ok-log_move-in-Ok.ensures.logged
    c.in_ok-post-in-Ok.ensures.grown (c.in_ok-log_move-in-Ok.ensures.writes, tt) c.in_ok-post-in-Ok.ensures.writes refl refl

pub returns-in-Err-clause-acts : goal.returns-in-Err-clause-acts
returns-in-Err-clause-acts c =
    refused_if c.args.self.now _ c.args.work.now c.next_id.new.work c.in_ok-id.id c.in-Err.refusal c.refused.result
    c.refused.ensures.memory refl refl c.in_ok-id.ensures.gives c.in-Err.ensures.unchanged

pub returns-in-Err-clause-begins : goal.returns-in-Err-clause-begins
returns-in-Err-clause-begins c =
    refused_begins (moving_call c.args.name.now c.args.layout) c.args.self.now _ c.args.work.now c.next_id.new.work c.in_ok-id.id
    c.in-Err.refusal c.refused.result c.refused.ensures.memory c.refused.ensures.begun refl refl c.in_ok-id.ensures.gives
    c.in-Err.ensures.cause c.in-Err.ensures.unchanged

pub returns-in_err-post-in-Ok-clause-refused : goal.returns-in_err-post-in-Ok-clause-refused
returns-in_err-post-in-Ok-clause-refused c =
    let error = c.in_err-post-in-Ok.field-0.0 in
    err_same _ c.from_residual-in_err-post-in-Ok.result error c.from_residual-in_err-post-in-Ok.ensures.1
    (post_not_begun (moving_call c.args.name.now c.args.layout) c.args.self.now c.in_ok-id.id c.in_ok-id.ensures.next
    c.begin_move.new.self c.in-Ok.letters.items
    (subst (λ l. IsOutcomeAt c.args.self.now.objects c.args.name.now (LocalEvent.BeginMove c.in_ok-id.id l ∷ []) c.begin_move.new.self
    c.in-Ok.letters.items) c.in_ok-to.ensures.cases c.in-Ok.ensures.done) c.next_id.new.ids.node
    (gives_node c.args.self.now.ids c.in_ok-id.id c.next_id.new.ids c.args.work.now c.next_id.new.work c.in_ok-id.ensures.gives)
    error c.in_err-post-in-Ok.ensures.writes)
