-- A call is answered or given up, and so its node no longer carries it out.
use Rattle.std.proofs.Common.{◌≡◌, ℕ, suc, Bool, true, false, cond, not, eqb, eq-eqb, eqb-true, List, [], ◌∷◌, map, Option, Some, None}
use Rattle.std.proofs.Common.{refl, sym, ap, ◌∙◌, arith}
use Rattle.std.specs.List.{AllByRecursion}
use Rattle.record.specs.declared.call.CallKind.TheVariants.{Move}
use Rattle.record.specs.declared.call.Entry.{Entry}
use Rattle.soundness.proofs.ListLemmas.{all_weaker}
use Rattle.record.specs.Fragments.{Code}
use Rattle.network.specs.Worlds.{World}
use Rattle.open_calls.specs.OpenCalls.{NodeCall, open_call, without_call}
use Rattle.network.specs.Events.{Event, answered_entry, answered_world, on_open, world_after}
use Rattle.open_calls.proofs.OpenCallLemmas.{found}
use Rattle.local_object.specs.Local.{LocalObject}
use Rattle.local_object.specs.Events.{LocalEvent, ended_here}
use Rattle.local_object.specs.Reports.{without_reports}
use Rattle.local_object.specs.Outcomes.{silent}
use Rattle.refinement.specs.Laws.{IsPlainEventOfWorld}
use Rattle.refinement.specs.Parts.{IsPartOf}
use Rattle.refinement.specs.Refined.{IsRefined, if_carried, with_answer}
use Rattle.refinement.specs.WellFormed.{HasAsked, HasEntry, IsWellFormed}
use Rattle.refinement.proofs.BegunCallLemmas.{ticked}
use Rattle.open_calls.proofs.CallsOfNodeLemmas.{calls_of, differs, filter_swap, filter_within, nothing_without, only_one}
use Rattle.refinement.proofs.ChangedCallLemmas.{IsCarried, carried}
use Rattle.open_calls.proofs.DistinctCallLemmas.{distinct_filter}
use Rattle.refinement.proofs.CallEntryLemmas.{entry_answered}
use Rattle.refinement.proofs.PartLemmas.{IsKept, asked_still, changed_world, formed_still, kept_told, part_still, part_told, part_with}
use Rattle.refinement.proofs.PartLemmas.{refined, sent_still}
use Rattle.refinement.proofs.TakenLetterLemmas.{still_kept}

-- what is so of each call that is left
pub all_left : (P Q : NodeCall → Type 0) (id : ℕ) → ((other : NodeCall) → (other.id ≡ id → ⊥) → P other → Q other) →
    (calls : List NodeCall) → AllByRecursion P calls → AllByRecursion Q (without_call id calls)
all_left P Q id there [] all = tt
all_left P Q id there (first ∷ calls) all = go (eqb first.id id) refl (all_left P Q id there calls all.1)
  where
    go : (b : Bool) → eqb first.id id ≡ b → AllByRecursion Q (without_call id calls) →
        AllByRecursion Q (cond (not b) (first ∷ without_call id calls) (without_call id calls))
    go true e rest = rest
    go false e rest =
        (there first (λ same. absurd (let wrong : false ≡ true = sym e ∙ eq-eqb first.id id same in cc)) all.0, rest)

not_false : (b : Bool) → not b ≡ false → b ≡ true
not_false true e = refl
not_false false e = absurd (cc)

module _ (fragment : Code) (world : World) (local : LocalObject) (id : ℕ) (call : NodeCall)
    (formed : IsWellFormed fragment world) (part : IsPartOf world local)
    (is : IsCarried world local id call) where
  other_left : (node : ℕ) → (node ≡ local.node → ⊥) → calls_of node (without_call id world.calls) ≡ calls_of node world.calls
  other_left node apart =
      filter_within (λ c. eqb c.node node) (λ c. not (eqb c.id id)) world.calls
      (all_weaker (λ (other : NodeCall). other.id ≡ id → other ≡ call)
      (λ (other : NodeCall). not (eqb other.id id) ≡ false → eqb other.node node ≡ false)
      (λ other one gone. differs other.node node (λ same. apart (sym same
      ∙ ap (λ (c : NodeCall). c.node) (one (eqb-true other.id id (not_false (eqb other.id id) gone))) ∙ is.node)))
      world.calls (only_one world.calls id call formed.ids is.open_there))

  abbrev pub left_to : List Entry → World
  left_to history = changed_world world (without_call id world.calls) world.sent history (suc world.now)

  pub left_kept : (history : List Entry) →
      ((other : NodeCall) → (other.id ≡ id → ⊥) → HasEntry world.history other → HasEntry history other) →
      IsKept fragment world (left_to history) (silent (ended_here local id)) 1 history
  left_kept history there =
      let calls = without_call id world.calls in record {
        formed = formed_still world calls world.sent history (suc world.now) fragment formed
            (distinct_filter (λ c. not (eqb c.id id)) world.calls formed.ids)
            (all_left (HasEntry world.history) (HasEntry history) id there world.calls formed.entries)
            (all_left (HasAsked fragment world) (HasAsked fragment (left_to history)) id
            (λ other apart. asked_still world calls world.sent history (suc world.now) fragment (λ message was. was) other)
            world.calls formed.asked);
        part = part_told (left_to history) (record local { calls = without_call id local.calls }) (without_reports id local.reports)
            (part_with world calls world.sent history (suc world.now) local (without_call id local.calls) part
            (ap (without_call id) part.calls
            ∙ sym (filter_swap (λ c. eqb c.node local.node) (λ c. not (eqb c.id id)) (λ c. not (eqb c.id id)) (λ c passes. refl)
            world.calls)));
        sent = tt;
        others = λ other apart is. part_still world calls world.sent history (suc world.now) other is (other_left other.node apart);
        kept = sent_still world calls world.sent history (suc world.now) (λ message was. was);
        files = refl;
        now = omega arith;
        entries = refl;
      }

pub answer_refined : (id : ℕ) → IsPlainEventOfWorld (LocalEvent.Answer id)
answer_refined id fragment world local formed part may premised =
    let call = may.0 in
    let is = carried fragment world local id call formed part may.1 in
    let history = map (answered_entry call (suc world.now)) world.history in
    let after = silent (ended_here local id) in
    let done = refined fragment world (Event.Answer id ∷ []) (left_to fragment world local id call formed part is history)
    after after history
    (ap (λ n. changed_world world (without_call n world.calls) world.sent history (suc world.now)) (sym is.same_id)
    ∙ ap (λ o. on_open (ticked world) o (λ c. answered_world (ticked world) c)) (sym is.open_there)) refl
    ((call, is.open_there, may.2, may.3), record { network = tt; log = tt; ids = tt }, tt)
    (left_kept fragment world local id call formed part is history
    (λ other apart has. entry_answered world.history call (suc world.now) other (λ same. apart (same ∙ is.same_id)) has)) in
    (done.0, done.1 ∙ ap (λ o. with_answer o (suc world.now) world.history) (sym may.1))

-- a call that is not a move is given up
pub given_up : (fragment : Code) (world : World) (local : LocalObject) (id : ℕ) (call : NodeCall) → IsWellFormed fragment world →
    IsPartOf world local → open_call local.calls id ≡ Some call → (call.kind ≡ Move → ⊥) →
    IsRefined fragment world (Event.GiveUp id ∷ []) (silent (ended_here local id))
    × ((world_after fragment (Event.GiveUp id ∷ []) world).history ≡ world.history)
given_up fragment world local id call formed part e no_move =
    let is = carried fragment world local id call formed part e in
    let after = silent (ended_here local id) in
    refined fragment world (Event.GiveUp id ∷ []) (left_to fragment world local id call formed part is world.history) after after
    world.history refl refl (
      all_weaker (λ (other : NodeCall). other.id ≡ id → other ≡ call) (λ (other : NodeCall). other.id ≡ id → other.kind ≡ Move → ⊥)
          (λ other one same move. no_move (ap (λ (c : NodeCall). c.kind) (sym (one same)) ∙ move)) world.calls
          (only_one world.calls id call formed.ids is.open_there),
      record { network = tt; log = tt; ids = tt },
      tt,
    )
    (left_kept fragment world local id call formed part is world.history (λ other apart has. has))

pub give_up_refined : (id : ℕ) → IsPlainEventOfWorld (LocalEvent.GiveUp id)
give_up_refined id fragment world local formed part may premised = go (open_call local.calls id) refl
  where
    go : (o : Option NodeCall) → open_call local.calls id ≡ o →
        IsRefined fragment world (if_carried o (Event.GiveUp id)) (silent (ended_here local id))
        × ((world_after fragment (if_carried o (Event.GiveUp id)) world).history ≡ world.history)
    go None e =
        let reports = without_reports id local.reports in
        refined fragment world [] world (silent (record local { reports = reports })) (silent (ended_here local id)) world.history refl
        (ap (λ calls. silent (record local { calls = calls; reports = reports })) (sym (nothing_without local.calls id e))) tt
        (kept_told fragment world world local reports 0 world.history (still_kept fragment world local formed part))
    go (Some call) e =
        let no_move = found (λ (c : NodeCall). c.id ≡ id → c.kind ≡ Move → ⊥) local.calls id call may e in
        given_up fragment world local id call formed part e (no_move.0 no_move.1)
