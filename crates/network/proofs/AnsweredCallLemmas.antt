-- A world in which a call is answered still follows the record, where the call is answered too.
use Rattle.std.proofs.Common.{◌≡◌, ℕ, zero, suc, ◌⊎◌, Bool, true, false, cond, not, eqb, is_some, List, [], ◌∷◌, map, set}
use Rattle.std.proofs.Common.{Option, Some, None, IsSome, refl, sym, subst, ap, ◌∙◌, inl, inr, slice_get, arith, eq-eqb, eqb-true}
use Rattle.std.proofs.lemmas.Option.{same_Some}
use Rattle.std.specs.List.{AllByRecursion}
use Rattle.bank.specs.declared.kind.Kind.{Kind}
use Rattle.mail.specs.Phase.{Phase}
use Rattle.record.specs.declared.call.CallKind.TheVariants.{Move}
use Rattle.record.specs.declared.call.Entry.{Entry}
use Rattle.record.specs.Fragments.{IsFetch}
use Rattle.record.specs.Journals.{entry_value}
use Rattle.record.specs.Legal.{IsLegal, due_of}
use Rattle.record.specs.Records.{Call, Object}
use Rattle.record.specs.Steps.{Step, on_call, answered_object}
use Rattle.record.specs.Wants.{want_after, want_for}
use Rattle.soundness.proofs.ListLemmas.{get_set, set_here}
use Rattle.network.specs.Worlds.{World}
use Rattle.open_calls.specs.OpenCalls.{NodeCall, without_call}
use Rattle.network.specs.Events.{Event, on_open, answered_entry, answered_world}
use Rattle.network.specs.Following.{Follows, LeadsOn, IsOpenIn, IsOpenMove, entry_in_steps, last_step_after}
use Rattle.network.specs.Followed.{IsFollowed}
use Rattle.network.proofs.ChangedCallLemmas.{other_open, own_entry, with_new}
use Rattle.network.proofs.CurrentPhaseLemmas.{ended_is, kind_is, next_is, want_is}
use Rattle.open_calls.proofs.OpenCallLemmas.{found, found_filter}
use Rattle.network.proofs.StepLemmas.{one_step}

-- Entries

-- an entry with an answer, where it is that of the call with this id
abbrev answered_at : Call → (id now : ℕ) → Entry → Entry
answered_at call id now entry =
    cond (eqb entry.call id) (record entry { answered = Some now; value = entry_value call.kind (Some now) call.settled }) entry

pub is_false : (b : Bool) → (b ≡ true → ⊥) → b ≡ false
is_false true no_true = absurd (no_true refl)
is_false false no_true = refl

-- entries of calls with other ids stay
other_entries : (call : Call) (now id : ℕ) (calls : List Call) →
    ((index : ℕ) (other : Call) → slice_get calls index ≡ Some other → other.id ≡ id → ⊥) →
    map (answered_at call id now) (map own_entry calls) ≡ map own_entry calls
other_entries call now id [] others = refl
other_entries call now id (first ∷ calls) others =
    ap (λ b. cond b (record (own_entry first) { answered = Some now; value = entry_value call.kind (Some now) call.settled })
    (own_entry first) ∷ map (answered_at call id now) (map own_entry calls))
    (is_false (eqb first.id id) (λ same. others 0 first refl (eqb-true first.id id same)))
    ∙ ap (λ l. own_entry first ∷ l) (other_entries call now id calls (λ index other at. others (suc index) other at))

-- the entries after a call is answered, whose id no other call has
entries_answered : (calls : List Call) (index now : ℕ) (call : Call) → slice_get calls index ≡ Some call →
    ((i : ℕ) (other : Call) → slice_get calls i ≡ Some other → other.id ≡ call.id → i ≡ index) →
    map own_entry (set calls index (record call { answered = Some now }))
    ≡ map (answered_at call call.id now) (map own_entry calls)
entries_answered [] index now call at alone = absurd (cc)
entries_answered (first ∷ calls) zero now call at alone =
    let same : first ≡ call = same_Some first call at in
    let is : eqb first.id call.id ≡ true = eq-eqb first.id call.id (ap (λ (c : Call). c.id) same) in
    let rest = sym (other_entries call now call.id calls
    (λ index other there e. suc_is_not_zero index (alone (suc index) other there e))) in
    ap (λ l. own_entry (record call { answered = Some now }) ∷ l) rest
    ∙ ap (λ (c : Call). record (own_entry c) { answered = Some now; value = entry_value call.kind (Some now) call.settled }
    ∷ map (answered_at call call.id now) (map own_entry calls)) (sym same)
    ∙ ap (λ b. cond b (record (own_entry first) { answered = Some now; value = entry_value call.kind (Some now) call.settled })
    (own_entry first) ∷ map (answered_at call call.id now) (map own_entry calls)) (sym is)
  where
    suc_is_not_zero : (index : ℕ) → suc index ≡ 0 → ⊥
    suc_is_not_zero index e = absurd (omega arith)
entries_answered (first ∷ calls) (suc index) now call at alone =
    let differs : eqb first.id call.id ≡ false = is_false (eqb first.id call.id)
    (λ same. zero_is_no_suc index (alone 0 first refl (eqb-true first.id call.id same))) in
    ap (λ l. own_entry first ∷ l)
    (entries_answered calls index now call at (λ i other there e. same_pred i index (alone (suc i) other there e)))
    ∙ ap (λ b. cond b (record (own_entry first) { answered = Some now; value = entry_value call.kind (Some now) call.settled })
    (own_entry first) ∷ map (answered_at call call.id now) (map own_entry calls)) (sym differs)
  where
    zero_is_no_suc : (index : ℕ) → 0 ≡ suc index → ⊥
    zero_is_no_suc index e = absurd (omega arith)

    same_pred : (i index : ℕ) → suc i ≡ suc index → i ≡ index
    same_pred i index e = omega arith

entry_steps : (old : NodeCall) (call : Call) (now : ℕ) → old.id ≡ call.id → old.kind ≡ call.kind →
    old.settled ≡ call.settled → (entry : Entry) →
    answered_at call call.id (last_step_after now) (entry_in_steps entry) ≡ entry_in_steps (answered_entry old now entry)
entry_steps old call now id kind settled entry = grind arith

entries_steps : (old : NodeCall) (call : Call) (now : ℕ) → old.id ≡ call.id → old.kind ≡ call.kind →
    old.settled ≡ call.settled → (history : List Entry) →
    map (answered_at call call.id (last_step_after now)) (map entry_in_steps history)
    ≡ map entry_in_steps (map (answered_entry old now) history)
entries_steps old call now id kind settled [] = refl
entries_steps old call now id kind settled (entry ∷ history) =
    ap (λ e. e ∷ map (answered_at call call.id (last_step_after now)) (map entry_in_steps history))
    (entry_steps old call now id kind settled entry)
    ∙ ap (λ l. entry_in_steps (answered_entry old now entry) ∷ l) (entries_steps old call now id kind settled history)

-- The calls that are left

all_without : (P Q : NodeCall → Type 0) (id : ℕ) (calls : List NodeCall) → AllByRecursion P calls →
    ((other : NodeCall) → eqb other.id id ≡ false → P other → Q other) → AllByRecursion Q (without_call id calls)
all_without P Q id [] all there = tt
all_without P Q id (first ∷ calls) all there =
    go (eqb first.id id) refl (all_without P Q id calls all.1 there)
  where
    go : (b : Bool) → eqb first.id id ≡ b → AllByRecursion Q (without_call id calls) →
        AllByRecursion Q (cond (not b) (first ∷ without_call id calls) (without_call id calls))
    go true e rest = rest
    go false e rest = (there first e all.0, rest)

differs : (b : Bool) → (b ≡ true → ⊥) → not b ≡ true
differs true no_true = absurd (no_true refl)
differs false no_true = refl

answered_follow : (world : World) (object : Object) (old : NodeCall) (is : IsOpenIn object old) → IsLegal object → Follows world object →
    Follows (answered_world (record world { now = suc world.now }) old)
    (with_new object object.mail is.index (record is.call { answered = Some (last_step_after (suc world.now)) }))
answered_follow world object old is legal follows =
    let now = last_step_after (suc world.now) in
    let call : Call = record is.call { answered = Some now } in
    let new = with_new object object.mail is.index call in record {
      one = follows.one;
      delta = follows.delta;
      layouts = follows.layouts;
      banks = follows.banks;
      sent = follows.sent;
      history = entries_answered object.calls is.index now is.call is.at
          (λ index other at same. legal.ids index is.index other is.call at is.at same)
          ∙ ap (map (answered_at is.call is.call.id now)) follows.history
          ∙ entries_steps old is.call (suc world.now) is.id is.kind is.settled world.history;
      calls = all_without (IsOpenIn object) (IsOpenIn new) old.id world.calls follows.calls
          (λ other e carried. other_open object object.mail is.index is.call call old.id is.id is.at refl other e carried);
      moves = λ index other at kind none.
          let move = was_move index other at kind none (get_set object.calls is.index index is.call call other is.at at) in record {
            carried = move.carried;
            found = found_filter (λ call. not (eqb call.id old.id)) world.calls other.id move.carried move.found
                (differs (eqb move.carried.id old.id) (λ e. never index other at none (same_place index other at
                (sym (found (λ call. Unit {0}) world.calls other.id move.carried (any world.calls) move.found).1
                ∙ eqb-true move.carried.id old.id e ∙ is.id))));
            kind = move.kind;
            node = move.node;
          };
      kept = follows.kept;
    }
  where
    any : (calls : List NodeCall) → AllByRecursion (λ call. Unit {0}) calls
    any [] = tt
    any (first ∷ calls) = (tt, any calls)

    -- a call with the id of the one that is answered is that one
    same_place : (index : ℕ) (other : Call) →
        slice_get (set object.calls is.index (record is.call { answered = Some (last_step_after (suc world.now)) })) index ≡ Some other →
        other.id ≡ is.call.id → index ≡ is.index
    same_place index other at same =
        go (get_set object.calls is.index index is.call
        (record is.call { answered = Some (last_step_after (suc world.now)) }) other is.at at)
      where
        go : ((index ≡ is.index) × (record is.call { answered = Some (last_step_after (suc world.now)) } ≡ other))
            ⊎ (slice_get object.calls index ≡ Some other) → index ≡ is.index
        go (inl here) = here.0
        go (inr there) = legal.ids index is.index other is.call there is.at same

    -- the call that is answered has an answer
    never : (index : ℕ) (other : Call) →
        slice_get (set object.calls is.index (record is.call { answered = Some (last_step_after (suc world.now)) })) index ≡ Some other →
        other.answered ≡ None → index ≡ is.index → ⊥
    never index other at none same =
        let here = set_here object.calls is.index is.call (record is.call { answered = Some (last_step_after (suc world.now)) }) is.at in
        let both = same_Some other (record is.call { answered = Some (last_step_after (suc world.now)) })
        (sym at
        ∙ ap (slice_get (set object.calls is.index (record is.call { answered = Some (last_step_after (suc world.now)) }))) same ∙ here) in
        let wrong : Some (last_step_after (suc world.now)) ≡ None = sym (ap (λ (c : Call). c.answered) both) ∙ none in
        absurd (cc)

    was_move : (index : ℕ) (other : Call) →
        slice_get (set object.calls is.index (record is.call { answered = Some (last_step_after (suc world.now)) })) index ≡ Some other →
        other.kind ≡ Move → other.answered ≡ None →
        ((index ≡ is.index) × (record is.call { answered = Some (last_step_after (suc world.now)) } ≡ other))
        ⊎ (slice_get object.calls index ≡ Some other) → IsOpenMove world other.id
    was_move index other at kind none (inl here) = absurd (never index other at none here.0)
    was_move index other at kind none (inr there) = follows.moves index other there kind none

-- The event

pub want_ready : (object : Object) (next : Option (Kind × ℕ)) (settled : Option (List ℕ)) (last : Phase) → IsSome last.end →
    (IsFetch last.kind → IsSome settled) → want_after object next settled (Some last) ≡ want_for object next
want_ready object next settled last ended fetched = grind arith

pub answer_followed : (id : ℕ) → IsFollowed (Event.Answer id)
answer_followed id fragment world object code sound follows may premised =
    let old = may.0 in
    let held = found (IsOpenIn object) world.calls id old follows.calls may.1 in
    let is = held.0 in
    let now = last_step_after (suc world.now) in
    let call : Call = record is.call { answered = Some now } in
    let ready = may.2 in
    let due = sym (next_is object old is follows.kept) ∙ may.3 in
    let wants = want_is object old is
    ∙ want_ready object (due_of object is.index is.call) is.call.settled is.last (ended_is object old is ready.complete)
    (λ fetch. ap is_some (sym is.settled) ∙ ready.fetched (fetch.0, kind_is object old is ∙ fetch.1))
    ∙ ap (want_for object) due in
    let new = answered_world (record world { now = suc world.now }) old in
    let led : LeadsOn fragment object (last_step_after world.now) new =
    one_step fragment object world.now (Step.AnswerCall is.index) (with_new object object.mail is.index call) new code refl sound
    (is.call, (is.at, wants)) (ap (λ o. on_call object o (λ c. answered_object object is.index c now)) is.at)
    (answered_follow world object old is sound.legal follows) in
    subst (λ o. LeadsOn fragment object (last_step_after world.now) (on_open (record world { now = suc world.now }) o
    (λ c. answered_world (record world { now = suc world.now }) c))) (sym may.1) led
