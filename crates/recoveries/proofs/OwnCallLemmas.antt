-- The open calls of a node have ids that it gave.
use Rattle.std.proofs.Common.{◌≡◌, ◌<◌, ◌≤◌, ◌⊎◌, inl, inr, ℕ, suc, Bool, true, false, cond, eqb, not, List, [], ◌∷◌}
use Rattle.std.proofs.Common.{Option, None, Some, refl, sym, subst, ◌∙◌, arith}
use Rattle.std.specs.List.{filter}
use Rattle.bank.specs.declared.kind.Kind.{Kind}
use Rattle.deeds.specs.CallId.{CallIds, HasRanges, after_given}
use Rattle.deeds.specs.Deeds.{Deed, after_deed, after_deeds}
use Rattle.deeds.specs.Ids.{HaveNextIds, IsGiven, IsLater, IsNextId, begun_id, deed_id}
use Rattle.deeds.specs.Named.{is_same_name}
use Rattle.deeds.proofs.IdLemmas.{given_later, later_then, next_later}
use Rattle.open_calls.proofs.ListLemmas.{all_append, all_weaker}
use Rattle.encoder.specs.Fragment.{fragment}
use Rattle.layout.specs.Layout.{Layout}
use Rattle.local_object.specs.Events.{LocalEvent, advanced_here, done_here, queried_here, taking_here}
use Rattle.local_object.specs.Outcomes.{begun_here, learnt_from, silent}
use Rattle.local_object.specs.Starting.{anew_number, number_at, reads_here}
use Rattle.local_object.specs.Local.{LocalObject, last_position, layout_here, with_heard}
use Rattle.open_calls.specs.OpenCalls.{taking_open, NodeCall, due_phase, open_call, with_open, without_call}
use Rattle.deeds.proofs.UsedIdLemmas.{next_unused}
use Rattle.record.specs.Legal.{is_move}
use Rattle.record.specs.declared.call.CallKind.{CallKind}
use Rattle.record.specs.declared.stage.Stage.{Stage}
use Rattle.open_calls.proofs.DistinctCallLemmas.{distinct_push}
use Rattle.recoveries.proofs.StayingCallLemmas.{due_own, filter_own, letter_same, on_open_same, queried_own, reads_own}
use Rattle.recoveries.proofs.StayingCallLemmas.{served_own, with_own}
use Rattle.recoveries.specs.OwnCalls.{AreOwnCalls, HandlingKeepsOwnCalls, NewNodesHaveOwnCalls, RestartingKeepsOwnCalls, WasGiven}

-- Ids

given_then : (before after : CallIds) (id : ℕ) → IsLater before after → WasGiven before id → WasGiven after id
given_then before after id later is = record {
  now = is.now;
  within = is.within;
  next = is.next;
  later = later_then (after_given is.now) before after is.later later;
}

later_calls : (before after : CallIds) (calls : List NodeCall) → IsLater before after → AreOwnCalls before calls → AreOwnCalls after calls
later_calls before after calls later own = record {
  given = all_weaker (λ (call : NodeCall). WasGiven before call.id) (λ (call : NodeCall). WasGiven after call.id)
      (λ call is. given_then before after call.id later is) calls own.given;
  distinct = own.distinct;
}

-- the id that is given next was not given before
unlike : (before after : CallIds) (id other : ℕ) → IsNextId before id after → WasGiven before other → other ≡ id → ⊥
unlike before after id other next is = next_unused (λ n. before) before.node before after id other refl next (record {
  now = is.now;
  within = is.within;
  next = is.next;
  later = go (eqb is.now.node before.node);
})
  where
    go : (b : Bool) → IsLater (after_given is.now) (cond b before before)
    go true = is.later
    go false = is.later

-- the next id is one that was given, from then on
given_next : (before after : CallIds) (id : ℕ) → IsNextId before id after → HasRanges after → WasGiven after id
given_next before after id next within = record {
  now = next.now;
  within = next.reached.within;
  next = next.next;
  later = subst (λ i. IsLater i after) (sym next.left) (record { node = refl; within = within; order = inr (refl, omega arith) });
}

-- Events

-- a call begins, with an id that no call has
begun_own : (local : LocalObject) (id : ℕ) (call_kind : CallKind) (stage : Stage) (kind : Kind) (number p : ℕ) (o : Option Layout)
    (before after : CallIds) → IsNextId before id after → HasRanges before → AreOwnCalls before local.calls →
    AreOwnCalls after (begun_here local id call_kind stage kind number p o).local.calls
begun_own local id call_kind stage kind number p None before after next within own =
    later_calls before after local.calls (next_later before after id next) own
begun_own local id call_kind stage kind number p (Some layout) before after next within own =
    let later = next_later before after id next in
    let still = later_calls before after local.calls later own in record {
      given = all_append (λ (call : NodeCall). WasGiven after call.id) local.calls _ still.given
          (given_next before after id next later.within, tt);
      distinct = distinct_push local.calls _ own.distinct
          (all_weaker (λ (call : NodeCall). WasGiven before call.id) (λ (call : NodeCall). call.id ≡ id → ⊥)
          (λ call is. unlike before after id call.id next is) local.calls own.given);
    }

event_own : (local : LocalObject) (event : LocalEvent) (before after : CallIds) → IsGiven before (begun_id event) after →
    HasRanges before → AreOwnCalls before local.calls → AreOwnCalls after (done_here fragment local event).local.calls
event_own local (LocalEvent.BeginRead id) before after given within own =
    begun_own local id _ _ _ _ local.start (layout_here local local.start) before after given within own
event_own local (LocalEvent.BeginWrite id value) before after given within own =
    begun_own local id _ _ _ _ local.start (layout_here local local.start) before after given within own
event_own local (LocalEvent.BeginMove id layout) before after given within own =
    let last = last_position local in
    let next = with_heard local (suc last) layout in
    begun_own next id _ _ _ _ last (layout_here next last) before after given within own
event_own local (LocalEvent.Advance id) before after same within own =
    subst (λ ids. AreOwnCalls ids (done_here fragment local (LocalEvent.Advance id)).local.calls) same
    (on_open_same local (open_call local.calls id) (λ call. advanced_here fragment local call (due_phase call))
    (λ call. due_own local call (due_phase call)) before own)
event_own local (LocalEvent.Serve letter) before after same within own =
    subst (λ ids. AreOwnCalls ids (done_here fragment local (LocalEvent.Serve letter)).local.calls) same
    (served_own (learnt_from local letter) letter letter.message.body before (letter_same local letter before own))
event_own local (LocalEvent.Take letter) before after same within own =
    let next = learnt_from local letter in
    subst (λ ids. AreOwnCalls ids (done_here fragment local (LocalEvent.Take letter)).local.calls) same
    (on_open_same next (open_call next.calls letter.message.call)
    (λ call. silent (taking_here next call letter.message letter.told))
    (λ call ids kept. with_own (taking_open letter.message call) next.calls ids kept) before (letter_same local letter before own))
event_own local (LocalEvent.Settle id value) before after same within own =
    subst (λ ids. AreOwnCalls ids (done_here fragment local (LocalEvent.Settle id value)).local.calls) same
    (on_open_same local (open_call local.calls id)
    (λ call. silent (record local { calls = with_open (record call { settled = Some value }) local.calls }))
    (λ call ids kept. with_own (record call { settled = Some value }) local.calls ids kept) before own)
event_own local (LocalEvent.Answer id) before after same within own =
    subst (λ ids. AreOwnCalls ids (without_call id local.calls)) same
    (filter_own (λ call. not (eqb call.id id)) local.calls before own)
event_own local (LocalEvent.Close position) before after same within own =
    subst (λ ids. AreOwnCalls ids local.calls) same own
event_own local (LocalEvent.Raise position) before after same within own =
    subst (λ ids. AreOwnCalls ids local.calls) same own
event_own local (LocalEvent.GiveUp id) before after same within own =
    subst (λ ids. AreOwnCalls ids (without_call id local.calls)) same
    (filter_own (λ call. not (eqb call.id id)) local.calls before own)
event_own local (LocalEvent.EndEarly id value) before after same within own =
    subst (λ ids. AreOwnCalls ids (without_call id local.calls)) same
    (filter_own (λ call. not (eqb call.id id)) local.calls before own)
event_own local (LocalEvent.Grow id) before after same within own = subst (λ ids. AreOwnCalls ids local.calls) same own
event_own local (LocalEvent.Hear letter) before after same within own =
    subst (λ ids. AreOwnCalls ids (learnt_from local letter).calls) same (letter_same local letter before own)
event_own local (LocalEvent.Redirect letter) before after same within own = subst (λ ids. AreOwnCalls ids local.calls) same own
event_own local (LocalEvent.ReadOn id) before after same within own =
    subst (λ ids. AreOwnCalls ids (done_here fragment local (LocalEvent.ReadOn id)).local.calls) same
    (on_open_same local (open_call local.calls id) (λ call. reads_here local call (number_at call local.start))
    (λ call. reads_own local call (number_at call local.start) local.start (layout_here local local.start)) before own)
event_own local (LocalEvent.BeginAnew id) before after same within own =
    subst (λ ids. AreOwnCalls ids (done_here fragment local (LocalEvent.BeginAnew id)).local.calls) same
    (on_open_same local (open_call local.calls id) (λ call. reads_here local call (anew_number call local.start))
    (λ call. reads_own local call (anew_number call local.start) local.start (layout_here local local.start)) before own)
event_own local (LocalEvent.Query id) before after same within own =
    subst (λ ids. AreOwnCalls ids (done_here fragment local (LocalEvent.Query id)).local.calls) same
    (on_open_same local (open_call local.calls id) (λ call. queried_here local call (layout_here local call.phase.position))
    (λ call. queried_own local call (layout_here local call.phase.position)) before own)

-- Deeds

abbrev AllOwn : CallIds → (List ℕ → LocalObject) → Type 0
AllOwn ids objects = (name : List ℕ) → AreOwnCalls ids (objects name).calls

deed_own : (objects : List ℕ → LocalObject) (deed : Deed) (before after : CallIds) → IsGiven before (deed_id deed) after →
    HasRanges before → AllOwn before objects → AllOwn after (after_deed fragment objects deed).objects
deed_own objects (Deed.Does name event) before after given within own other = go (is_same_name name other)
  where
    go : (b : Bool) → AreOwnCalls after (cond b (done_here fragment (objects name) event).local (objects other)).calls
    go true = event_own (objects name) event before after given within (own name)
    go false = later_calls before after (objects other).calls (given_later before after (begun_id event) within given) (own other)
deed_own objects (Deed.Resends name letters) before after same within own other =
    subst (λ ids. AreOwnCalls ids (objects other).calls) same (own other)

deeds_own : (objects : List ℕ → LocalObject) (deeds : List Deed) (before after : CallIds) → HaveNextIds before deeds after →
    HasRanges before → AllOwn before objects → AllOwn after (after_deeds fragment objects deeds).objects
deeds_own objects [] before after later within own = λ name. later_calls before after (objects name).calls later (own name)
deeds_own objects (deed ∷ deeds) before after ids within own =
    deeds_own (after_deed fragment objects deed).objects deeds ids.0 after ids.2
    (given_later before ids.0 (deed_id deed) within ids.1).within
    (deed_own objects deed before ids.0 ids.1 within own)

ids_within : (before after : CallIds) (deeds : List Deed) → HaveNextIds before deeds after → HasRanges after
ids_within before after [] later = later.within
ids_within before after (deed ∷ deeds) ids = ids_within ids.0 after deeds ids.2

-- The laws

pub new_own_calls : NewNodesHaveOwnCalls
new_own_calls file number = record {
  within = (omega arith, omega arith);
  own = λ name. record { given = tt; distinct = tt };
}

pub handled_own_calls : HandlingKeepsOwnCalls
handled_own_calls old new got sent notices handled has = record {
  within = ids_within old.ids new.ids handled.deeds handled.ids;
  own = λ name. subst (λ (local : LocalObject). AreOwnCalls new.ids local.calls) (sym (handled.objects name))
      (deeds_own old.objects handled.deeds old.ids new.ids handled.ids has.within has.own name);
}

less_epoch : (epoch before after : ℕ) (left right : ℕ) → before < after →
    (epoch < before) ⊎ ((epoch ≡ before) × (left ≤ right)) → epoch < after
less_epoch epoch before after left right more (inl less) = omega arith
less_epoch epoch before after left right more (inr same) = let e = same.0 in omega arith

pub restarted_own_calls : RestartingKeepsOwnCalls
restarted_own_calls before after restarted has = record {
  within = restarted.within;
  own = λ name.
      let moves = filter (λ (call : NodeCall). is_move call.kind) (before.objects name).calls in
      let kept = filter_own (λ (call : NodeCall). is_move call.kind) (before.objects name).calls before.ids (has.own name) in
      let own : AreOwnCalls after.ids moves = record {
        given = all_weaker (λ (call : NodeCall). WasGiven before.ids call.id) (λ (call : NodeCall). WasGiven after.ids call.id)
            (λ call is. given_again call.id is) moves kept.given;
        distinct = kept.distinct;
      } in
      subst (λ (calls : List NodeCall). AreOwnCalls after.ids calls) (sym (restarted.objects name).calls) own;
}
  where
    given_again : (id : ℕ) → WasGiven before.ids id → WasGiven after.ids id
    given_again id is = record {
      now = is.now;
      within = is.within;
      next = is.next;
      later = record {
        node = restarted.number ∙ is.later.node;
        within = restarted.within;
        order = inl (less_epoch (after_given is.now).epoch before.ids.epoch after.ids.epoch (after_given is.now).given
            before.ids.given restarted.epoch is.later.order);
      };
    }
