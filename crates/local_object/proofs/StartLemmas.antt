-- The start of an object: it grows by a call, and the node hears of a later one.
use Rattle.std.proofs.Common.{◌≡◌, ℕ, suc, ◌+◌, ◌^◌, ◌<◌, ◌&&◌, Bool, true, false, cond, eqb, eqb-true, eq-eqb, ltb, is_some, IsSome}
use Rattle.std.proofs.Common.{List, [], ◌∷◌, ◌++◌, Option, Some, None, refl, sym, subst, ap, ◌∙◌, arith}
use Rattle.std.proofs.lemmas.Bool.{ltb-true, ne_eqb}
use Rattle.layout.specs.Layout.{Layout}
use Rattle.bank.specs.declared.kind.Kind.{Kind}
use Rattle.bank.specs.declared.kind.Kind.TheVariants.{Next, Spread, Query, PreWrite, Finalize, Fetch}
use Rattle.bank.specs.declared.status.Status.TheVariants.{Unset, Pending, Final}
use Rattle.open_calls.specs.OpenCalls.{NodeCall, open_call}
use Rattle.local_object.specs.Anew.{can_grow}
use Rattle.local_object.specs.Distinct.{KnowsStart}
use Rattle.local_object.specs.Events.{LocalEvent}
use Rattle.local_object.specs.Leaving.{final_position, if_final, is_at}
use Rattle.letter.specs.declared.start.Start.{Start}
use Rattle.local_object.specs.Local.{LocalObject, Place, added_place, heard_place, heard_start_if, is_later_start, layout_here, layout_in}
use Rattle.local_object.specs.Local.{start_at, told_start_in, with_heard}
use Rattle.local_object.specs.May.{HasSpreadAt}
use Rattle.local_object.specs.Taking.{IsOutcomeWithAnswers, grow_events, grows_by}
use Rattle.local_object.proofs.DoneLemmas.{by_none, by_one}
use Rattle.local_object.proofs.NewObjectLemmas.{both}
use Rattle.local_object.proofs.PlaceLemmas.{layout_known}

final_at : (k : Kind) (position start : ℕ) → is_at (if_final k position) start ≡ true → (k ≡ Spread Final) × (position ≡ start)
final_at Next position start e = absurd (cc)
final_at (Spread Unset) position start e = absurd (cc)
final_at (Spread Pending) position start e = absurd (cc)
final_at (Spread Final) position start e = (refl, eqb-true position start e)
final_at Query position start e = absurd (cc)
final_at (PreWrite tag) position start e = absurd (cc)
final_at (Finalize tag) position start e = absurd (cc)
final_at (Fetch tag) position start e = absurd (cc)

-- what is so if the start grows by a call
pub record IsGrowing (local : LocalObject) (call : NodeCall) : Type 0 where
  pub spread : HasSpreadAt call local.start
  pub known : IsSome (layout_here local (suc local.start))
  pub small : local.start + 1 < 2 ^ 31

growing_of : (local : LocalObject) (call : NodeCall) → grows_by local (Some call) ≡ true → IsGrowing local call
growing_of local call e =
    let known = is_some (layout_here local (suc local.start)) in
    let small = ltb (local.start + 1) (2 ^ 31) in
    let one = both (is_at (final_position (Some call)) local.start) (is_some call.phase.end && (known && small)) e in
    let two = both (is_some call.phase.end) (known && small) one.1 in
    let three = both known small two.1 in
    let at = final_at call.phase.kind call.phase.position local.start one.0 in record {
      spread = record { kind = at.0; complete = two.0; at = at.1 };
      known = three.0;
      small = ltb-true (local.start + 1) (2 ^ 31) three.1;
    }

-- the call by which the start grows
pub grown_by : (local : LocalObject) (found : Option NodeCall) → grows_by local found ≡ true
    → (call : NodeCall) × (found ≡ Some call) × IsGrowing local call
grown_by local None e = absurd (cc)
grown_by local (Some call) e = (call, refl, growing_of local call e)

pub start_grows : (local : LocalObject) (id : ℕ) (new : LocalObject) → grows_by local (open_call local.calls id) ≡ true
    → new ≡ record local { start = local.start + 1 } → IsOutcomeWithAnswers local (grow_events local id) new [] []
start_grows local id new grows is =
    let by = grown_by local (open_call local.calls id) grows in
    subst (λ b. IsOutcomeWithAnswers local (cond b (LocalEvent.Grow id ∷ []) []) new [] []) (sym grows)
    (by_one local (LocalEvent.Grow id) new [] [] (by.0, by.1, by.2.spread)
    (is ∙ ap (λ n. record local { start = n }) (let e : local.start + 1 ≡ suc local.start = omega arith in e)) refl refl)

-- the node has heard of the start that has grown
pub grown_known : (local : LocalObject) (id : ℕ) → grows_by local (open_call local.calls id) ≡ true
    → KnowsStart local.places (local.start + 1)
grown_known local id grows =
    let by = grown_by local (open_call local.calls id) grows in record {
      known = subst (λ n. IsSome (layout_here local n)) (let e : suc local.start ≡ local.start + 1 = omega arith in e) by.2.known;
      small = by.2.small;
    }

pub start_stays : (local : LocalObject) (id : ℕ) (new : LocalObject) → grows_by local (open_call local.calls id) ≡ false
    → new ≡ local → IsOutcomeWithAnswers local (grow_events local id) new [] []
start_stays local id new grows is =
    subst (λ b. IsOutcomeWithAnswers local (cond b (LocalEvent.Grow id ∷ []) []) new [] []) (sym grows)
    (by_none local new [] [] is refl refl)

-- whether the start grows, by whether the call has raised its pointer

parts_in_order : (a b c : Bool) → ((a && b) && c) ≡ (a && (b && c))
parts_in_order true b c = refl
parts_in_order false b c = refl

pub grows_is : (o old : LocalObject) → o ≡ old → (id : ℕ) (call : NodeCall) → open_call o.calls id ≡ Some call → (raised : Bool)
    → raised ≡ (is_at (if_final call.phase.kind call.phase.position) o.start && is_some call.phase.end)
    → (raised && can_grow old) ≡ grows_by old (open_call old.calls id)
grows_is o old view id call carried raised raised_is =
    subst (λ (l : LocalObject). (raised && can_grow l) ≡ grows_by l (open_call l.calls id)) view
    (ap (λ b. b && can_grow o) raised_is
    ∙ parts_in_order (is_at (if_final call.phase.kind call.phase.position) o.start) (is_some call.phase.end) (can_grow o)
    ∙ sym (ap (grows_by o) carried))

-- a position of which the node hears is known then
pub heard_there : (places : List Place) (position : ℕ) (layout : Layout)
    → IsSome (layout_in (heard_place (added_place places (heard_place places position) position layout) position))
heard_there places position layout =
    layout_known (heard_place (added_place places (heard_place places position) position layout) position)
    (go (heard_place places position) refl)
  where
    more : Place
    more = record { position = position; layout = layout; bank = None }

    pushed : (ps : List Place) → heard_place ps position ≡ None → IsSome (heard_place (ps ++ more ∷ []) position)
    pushed [] none = ap (λ b. is_some (cond b (Some more) None)) (eq-eqb position position refl)
    pushed (p ∷ ps) none = split (eqb p.position position) none (λ rest. pushed ps rest)
      where
        split : (b : Bool) → cond b (Some p) (heard_place ps position) ≡ None
            → (heard_place ps position ≡ None → IsSome (heard_place (ps ++ more ∷ []) position))
            → IsSome (cond b (Some p) (heard_place (ps ++ more ∷ []) position))
        split true none rest = refl
        split false none rest = rest none

    go : (o : Option Place) → heard_place places position ≡ o
        → IsSome (heard_place (added_place places o position layout) position)
    go None e = pushed places e
    go (Some place) e = subst IsSome (sym e) refl

-- a later start is small
pub later_small : (local : LocalObject) (start : Start) → is_later_start local start ≡ true → start.position < 2 ^ 31
later_small local start e =
    ltb-true start.position (2 ^ 31) (both (ltb local.start start.position) (ltb start.position (2 ^ 31)) e).1

-- what the node keeps after it hears of a start, by whether it is later than its own

abbrev started : LocalObject → Start → Bool → LocalObject
started local start later = record (with_heard local start.position start.layout) { start = cond later start.position local.start }

pub heard_by : (o old : LocalObject) → o ≡ old → (told : Option Start) (start : Start) → Some start ≡ told → (later : Bool)
    → is_later_start old start ≡ later → (places : List Place)
    → places ≡ added_place o.places (heard_place o.places start.position) start.position start.layout
    → record o { places = places; start = cond later start.position o.start } ≡ heard_start_if old told
heard_by o old view told start is later later_is places places_are =
    ap (λ (ps : List Place). record o { places = ps; start = cond later start.position o.start }) places_are
    ∙ ap (λ (l : LocalObject). started l start later) view
    ∙ sym (ap (started old start) later_is)
    ∙ ap (heard_start_if old) is

-- the start of which a node tells others

abbrev start_of : ℕ → Layout → Start
start_of position layout = record { position = position; layout = layout }

pub told_zero : (places : List Place) (start : ℕ) → start ≡ 0 → None ≡ told_start_in places start
told_zero places start none = go (layout_in (heard_place places start))
  where
    go : (o : Option Layout) → None ≡ start_at start o
    go None = refl
    go (Some layout) = sym (ap (λ b. cond b None (Some (start_of start layout))) (eq-eqb start 0 none))

pub told_unknown : (places : List Place) (start : ℕ) → None ≡ layout_in (heard_place places start) → None ≡ told_start_in places start
told_unknown places start none = ap (start_at start) none

pub told_known : (places : List Place) (start : ℕ) (layout : Layout) → (start ≡ 0 → ⊥)
    → Some layout ≡ layout_in (heard_place places start) → Some (start_of start layout) ≡ told_start_in places start
told_known places start layout other known =
    sym (ap (λ b. cond b None (Some (start_of start layout))) (ne_eqb start 0 other)) ∙ ap (start_at start) known
