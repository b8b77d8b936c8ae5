-- What one pass over the list has seen.
use Rattle.std.proofs.Common.{◌≡◌, ℕ, ◌+◌, ◌<◌, ◌≤◌, ◌⊎◌, max, List, Option, Some, inl, inr, subst, arith}
use Rattle.std.proofs.lemmas.Bool.{cases_lt}
use Rattle.record.specs.declared.call.Entry.{Entry}
use Rattle.atomicity.specs.Atomic.{IsAnsweredBefore}
use Rattle.history.proofs.PairwiseByPlaceLemmas.{at, KeepsPlaces}

-- after so many places: they keep the order, and `latest` is the greatest step at which one of them was called
pub record HasSeen (entries : List Entry) (order : List ℕ) (index latest : ℕ) : Type 0 where
  pub kept : KeepsPlaces entries order index
  pub above : (earlier : ℕ) → earlier < index → (at entries order earlier).called ≤ latest
  pub reached : (latest ≡ 0) ⊎ ((earlier : ℕ) × (earlier < index) × ((at entries order earlier).called ≡ latest))

-- an answer before a step
abbrev pub IsBefore : Option ℕ → (step : ℕ) → Type 0
IsBefore answered step = (stamp : ℕ) × (answered ≡ Some stamp) × (stamp < step)

pub sees_more : (entries : List Entry) (order : List ℕ) (index latest next : ℕ) → HasSeen entries order index latest →
    (IsBefore (at entries order index).answered latest → ⊥) → next ≡ max latest (at entries order index).called →
    HasSeen entries order (index + 1) next
sees_more entries order index latest next seen not_before e = record {
  kept = λ earlier later below within. elim (cases_lt later index) [
    | inl old ↦ seen.kept earlier later below old
    | inr new ↦
        let is_index : index ≡ later = omega arith in
        subst (λ (place : ℕ). IsAnsweredBefore (at entries order place) (at entries order earlier) → ⊥) is_index
        (λ before. let above = seen.above earlier (omega arith) in let low = before.2 in not_before (before.0, before.1, omega arith))
  ];
  above = λ earlier within. elim (cases_lt earlier index) [
    | inl old ↦ let lower : (at entries order earlier).called ≤ latest = seen.above earlier old in omega arith
    | inr new ↦
        let is_index : index ≡ earlier = omega arith in
        subst (λ (place : ℕ). (at entries order place).called ≤ next) is_index (omega arith)
  ];
  reached = elim (cases_lt latest (at entries order index).called) [
    | inl greater ↦ inr (index, omega arith, omega arith)
    | inr lower ↦
        let same : latest ≡ next = omega arith in
        subst (λ (step : ℕ). (step ≡ 0) ⊎ ((earlier : ℕ) × (earlier < index + 1) × ((at entries order earlier).called ≡ step)))
        same
        (elim seen.reached [ inl none ↦ inl none | inr (earlier, below, is) ↦ inr (earlier, omega arith, is) ])
  ];
}

-- an answer before the latest step is before an earlier element's call
pub breaks : (entries : List Entry) (order : List ℕ) (index latest bound : ℕ) → HasSeen entries order index latest →
    index < bound → IsBefore (at entries order index).answered latest → KeepsPlaces entries order bound → ⊥
breaks entries order index latest bound seen within before keeps = elim seen.reached [
  | inl none ↦ let low = before.2 in absurd (omega arith)
  | inr (earlier, below, is) ↦ keeps earlier index below within (before.0, before.1, let low = before.2 in omega arith)
]
