use Rattle.std.proofs.Common.{[], ap, inl, refl, subst, ◌∷◌}
use Rattle.deeds.specs.Deeds.{Notice as Seen}
use Rattle.local_object.specs.Events.{LocalEvent}
use Rattle.node_effects.specs.Work.{IsGrown}
use Rattle.recoveries.proofs.LoggedIdLemmas.{call_logged}
use Rattle.node_effects.specs.declared.notice.Notice.TheVariants as notice
use Rattle.node_keeper.specs.Beginning.{opened_growth, reading_call}
use Rattle.node_keeper.specs.Fitting.{IsSendable}
use Rattle.node_keeper.specs.Resending.{first_for_all, to_all}
use Rattle.node_keeper.specs.Sendings.{asked}
use Rattle.node_keeper.specs.declared.keeper.Keeper.{Keeper}
use Rattle.node_keeper.proofs.ActLemmas.{acts_more}
use Rattle.node_keeper.proofs.AskedAllLemmas.{all_acts, first_asks, sent_as}
use Rattle.node_keeper.proofs.RequestCopyLemmas.{all_parts}
use Rattle.node_keeper.proofs.AskingReadLemmas.{read_first}
use Rattle.node_keeper.proofs.BegunLemmas.{begun_acts}
use Rattle.node_keeper.proofs.EpochLemmas.{refused_if}
use Rattle.node_keeper.proofs.EventLogLemmas.{read_logged}
use Rattle.node_keeper.proofs.CallLemmas.{call_begun, gives_node, refused_begins, requests_not_begun}
use Rattle.node_keeper.proofs.ResultLemmas.{err_same}
use Rattle.node_keeper.proofs.keeper.Keeper.begin_read.Goals as goal

pub returns-in_ok-post_requests-in-Ok-clause-acts : goal.returns-in_ok-post_requests-in-Ok-clause-acts
returns-in_ok-post_requests-in-Ok-clause-acts c =
    let old = c.args.self.now in
    let new : Keeper = record old { ids = c.next_id.new.ids; objects = c.begin_read.new.self } in
    let n = new.ids.node in
    let name = c.args.name.now in
    let id = c.in_ok-id.id in
    let letters = c.in-Ok.letters.items in
    let first = first_for_all c.args.asks_all letters in
    let sent = c.in_ok-post_requests-in-Ok.ensures.sent in
    let fits = all_parts (IsSendable n new.digest) (asked n name letters) (to_all n new.file name first)
    c.in_ok-post_requests-in-Ok.ensures.writes in
    λ asker. acts_more asker [] old new new c.args.work.now sent.between c.post_requests.new.work
    (begun_acts asker old new c.args.work.now c.next_id.new.work c.note.new.self sent.between name (LocalEvent.BeginRead id) id
    letters [] (notice.Reads c.in_ok-clone-in-Ok.field-0 id) refl refl c.in_ok-id.ensures.gives c.in-Ok.ensures.done refl tt
    (ap (λ m. Seen.Reads m id ∷ []) c.in_ok-clone-in-Ok.ensures.cases) (inl refl)
    (read_logged old name id c.in-Ok.ensures.cause) (call_logged id) tt c.in_ok-note-in-Ok.ensures.grown sent.asked fits.0)
    (all_acts asker new sent.between c.post_requests.new.work name new.file first
    (read_first old.objects new.objects name id letters c.args.asks_all c.in-Ok.ensures.cause c.in-Ok.ensures.done)
    (first_asks c.args.asks_all letters) sent.all fits.1)

pub returns-in_ok-post_requests-in-Ok-clause-begins : goal.returns-in_ok-post_requests-in-Ok-clause-begins
returns-in_ok-post_requests-in-Ok-clause-begins c =
    let old = c.args.self.now in
    let new : Keeper = record old { ids = c.next_id.new.ids; objects = c.begin_read.new.self } in
    let id = c.in_ok-id.id in
    let name = c.args.name.now in
    let letters = c.in-Ok.letters.items in
    let sees : IsGrown c.next_id.new.work c.note.new.self (opened_growth old.digest [] (notice.Reads name id)) =
    subst (λ n. IsGrown c.next_id.new.work c.note.new.self (opened_growth old.digest [] (notice.Reads n id)))
    c.in_ok-clone-in-Ok.ensures.cases c.in_ok-note-in-Ok.ensures.grown in
    call_begun (reading_call name c.args.asks_all) id old new c.args.work.now c.next_id.new.work c.note.new.self
    c.post_requests.new.work letters c.in_ok-id.ensures.gives c.in-Ok.ensures.cause c.in-Ok.ensures.done sees
    (sent_as c.args.asks_all new name letters c.note.new.self c.post_requests.new.work c.in_ok-post_requests-in-Ok.ensures.sent) tt
    c.in_ok-post_requests-in-Ok.ensures.writes refl refl

pub returns-in-Err-clause-acts : goal.returns-in-Err-clause-acts
returns-in-Err-clause-acts c =
    refused_if c.args.self.now _ c.args.work.now c.next_id.new.work c.in_ok-id.id c.in-Err.refusal c.refused.result
    c.refused.ensures.memory refl refl c.in_ok-id.ensures.gives c.in-Err.ensures.unchanged

pub returns-in-Err-clause-begins : goal.returns-in-Err-clause-begins
returns-in-Err-clause-begins c =
    refused_begins (reading_call c.args.name.now c.args.asks_all) c.args.self.now _ c.args.work.now c.next_id.new.work c.in_ok-id.id
    c.in-Err.refusal c.refused.result c.refused.ensures.memory c.refused.ensures.begun refl refl c.in_ok-id.ensures.gives
    c.in-Err.ensures.cause c.in-Err.ensures.unchanged

pub returns-in_err-post_requests-in-Ok-clause-refused : goal.returns-in_err-post_requests-in-Ok-clause-refused
returns-in_err-post_requests-in-Ok-clause-refused c =
    let error = c.in_err-post_requests-in-Ok.field-0.0 in
    err_same _ c.from_residual-in_err-post_requests-in-Ok.result error c.from_residual-in_err-post_requests-in-Ok.ensures.1
    (requests_not_begun (reading_call c.args.name.now c.args.asks_all) c.args.self.now c.in_ok-id.id c.in_ok-id.ensures.next
    c.begin_read.new.self c.in-Ok.letters.items c.in-Ok.ensures.done c.next_id.new.ids.node
    (gives_node c.args.self.now.ids c.in_ok-id.id c.next_id.new.ids c.args.work.now c.next_id.new.work c.in_ok-id.ensures.gives)
    error c.in_err-post_requests-in-Ok.ensures.writes)
