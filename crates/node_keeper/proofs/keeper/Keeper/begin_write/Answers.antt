use Rattle.std.proofs.Common.{None, [], ap, inl, refl, subst, ◌∷◌, ◌≡◌}
use Rattle.deeds.specs.Deeds.{Notice as Seen}
use Rattle.local_object.specs.Doing.{write_refusal}
use Rattle.local_object.specs.Events.{LocalEvent}
use Rattle.node_keeper.specs.Objects.{objects_of}
use Rattle.node_keeper.specs.Doing.{IsOutcomeAt}
use Rattle.node_effects.specs.Work.{IsGrown}
use Rattle.recoveries.proofs.LoggedIdLemmas.{call_logged}
use Rattle.node_effects.specs.declared.notice.Notice.TheVariants as notice
use Rattle.node_keeper.specs.Beginning.{opened_growth, writing_call}
use Rattle.node_keeper.proofs.BegunLemmas.{begun_acts}
use Rattle.node_keeper.proofs.EpochLemmas.{refused_if}
use Rattle.node_keeper.proofs.EventLogLemmas.{write_logged}
use Rattle.node_keeper.proofs.CallLemmas.{alone_begun, gives_node, post_not_begun, IsRefusedBy, refused_begins}
use Rattle.node_keeper.proofs.ResultLemmas.{err_same}
use Rattle.node_keeper.proofs.keeper.Keeper.begin_write.Goals as goal

pub returns-in_ok-post-in-Ok-clause-acts : goal.returns-in_ok-post-in-Ok-clause-acts
returns-in_ok-post-in-Ok-clause-acts c =
    λ asker. begun_acts asker c.args.self.now _ c.args.work.now c.next_id.new.work c.note.new.self c.post.new.work
    c.args.name.now (LocalEvent.BeginWrite c.in_ok-id.id c.args.value) c.in_ok-id.id c.in-Ok.letters.items []
    (notice.Writes c.in_ok-name_seen-in-Ok.name_seen c.in_ok-id.id c.args.value) refl refl c.in_ok-id.ensures.gives
    (subst (λ v. IsOutcomeAt c.args.self.now.objects c.args.name.now (LocalEvent.BeginWrite c.in_ok-id.id v ∷ [])
    c.begin_write.new.self c.in-Ok.letters.items) c.in_ok-written.ensures.cases c.in-Ok.ensures.done) refl tt
    (ap (λ n. Seen.Writes n c.in_ok-id.id c.args.value ∷ []) c.in_ok-name_seen-in-Ok.ensures.cases) (inl refl)
    (write_logged c.args.self.now c.args.name.now c.in_ok-id.id c.args.value
    (subst (λ v. write_refusal (objects_of c.args.self.now.objects c.args.name.now) c.in_ok-id.id v ≡ None)
    c.in_ok-written.ensures.cases c.in-Ok.ensures.cause)) (call_logged c.in_ok-id.id) tt c.in_ok-note-in-Ok.ensures.grown
    c.in_ok-post-in-Ok.ensures.grown c.in_ok-post-in-Ok.ensures.writes

pub returns-in_ok-post-in-Ok-clause-begins : goal.returns-in_ok-post-in-Ok-clause-begins
returns-in_ok-post-in-Ok-clause-begins c =
    let id = c.in_ok-id.id in
    let sees : IsGrown c.next_id.new.work c.note.new.self
    (opened_growth c.args.self.now.digest [] (notice.Writes c.args.name.now id c.args.value)) =
    subst (λ n. IsGrown c.next_id.new.work c.note.new.self
    (opened_growth c.args.self.now.digest [] (notice.Writes n id c.args.value))) c.in_ok-name_seen-in-Ok.ensures.cases
    c.in_ok-note-in-Ok.ensures.grown in
    alone_begun (writing_call c.args.name.now c.args.value) refl id c.args.self.now _ c.args.work.now c.next_id.new.work c.note.new.self
    c.post.new.work c.in-Ok.letters.items c.in_ok-id.ensures.gives
    (subst (λ v. write_refusal (objects_of c.args.self.now.objects c.args.name.now) id v ≡ None) c.in_ok-written.ensures.cases
    c.in-Ok.ensures.cause)
    (subst (λ v. IsOutcomeAt c.args.self.now.objects c.args.name.now (LocalEvent.BeginWrite id v ∷ []) c.begin_write.new.self
    c.in-Ok.letters.items) c.in_ok-written.ensures.cases c.in-Ok.ensures.done) sees
    c.in_ok-post-in-Ok.ensures.grown tt c.in_ok-post-in-Ok.ensures.writes refl refl

pub returns-in-Err-clause-acts : goal.returns-in-Err-clause-acts
returns-in-Err-clause-acts c =
    refused_if c.args.self.now _ c.args.work.now c.next_id.new.work c.in_ok-id.id c.in-Err.refusal c.refused.result
    c.refused.ensures.memory refl refl c.in_ok-id.ensures.gives c.in-Err.ensures.unchanged

pub returns-in-Err-clause-begins : goal.returns-in-Err-clause-begins
returns-in-Err-clause-begins c =
    refused_begins (writing_call c.args.name.now c.args.value) c.args.self.now _ c.args.work.now c.next_id.new.work c.in_ok-id.id
    c.in-Err.refusal c.refused.result c.refused.ensures.memory c.refused.ensures.begun refl refl c.in_ok-id.ensures.gives
    (subst (λ v. IsRefusedBy (write_refusal (objects_of c.args.self.now.objects c.args.name.now) c.in_ok-id.id v) c.in-Err.refusal)
    c.in_ok-written.ensures.cases c.in-Err.ensures.cause) c.in-Err.ensures.unchanged

pub returns-in_err-post-in-Ok-clause-refused : goal.returns-in_err-post-in-Ok-clause-refused
returns-in_err-post-in-Ok-clause-refused c =
    let error = c.in_err-post-in-Ok.field-0.0 in
    err_same _ c.from_residual-in_err-post-in-Ok.result error c.from_residual-in_err-post-in-Ok.ensures.1
    (post_not_begun (writing_call c.args.name.now c.args.value) c.args.self.now c.in_ok-id.id c.in_ok-id.ensures.next
    c.begin_write.new.self c.in-Ok.letters.items
    (subst (λ v. IsOutcomeAt c.args.self.now.objects c.args.name.now (LocalEvent.BeginWrite c.in_ok-id.id v ∷ []) c.begin_write.new.self
    c.in-Ok.letters.items) c.in_ok-written.ensures.cases c.in-Ok.ensures.done) c.next_id.new.ids.node
    (gives_node c.args.self.now.ids c.in_ok-id.id c.next_id.new.ids c.args.work.now c.next_id.new.work c.in_ok-id.ensures.gives)
    error c.in_err-post-in-Ok.ensures.writes)
