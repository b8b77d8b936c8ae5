-- A tag that is held is put: each later query meets it, and each move takes it along.
use Rattle.std.proofs.Common.{◌≡◌, ℕ, zero, suc, ◌+◌, ◌<◌, ◌≤◌, ◌⊎◌, true, List, [], ◌∷◌, length, get_or, refl, subst, ap}
use Rattle.std.proofs.Common.{inl, inr, arith, le_of_lt}
use Rattle.std.proofs.lemmas.Bool.{cases_lt}
use Rattle.std.specs.List.{AllByRecursion}
use Rattle.tag.specs.declared.tag.Tag.{Tag}
use Rattle.layout.specs.Layout.{IsLawful, Layout}
use Rattle.layout.specs.Quorum.{has, IsQuorum}
use Rattle.bank.specs.Bank.{Bank}
use Rattle.bank.specs.Knowledge.{finalized_at, HasFinalized, pointer_at}
use Rattle.record.specs.Records.{Object, layout_at, bank_at, no_layout}
use Rattle.soundness.proofs.ListLemmas.{all_map}
use Rattle.soundness.proofs.Quorums.CommonMemberLemmas.{quorums_share}
use Rattle.soundness.proofs.Quorums.QuorumMeetingLemmas.{Pointed}
use Rattle.soundness.proofs.Quorums.ReplyTruthLemmas.{all_at, came_by_later, pointer_later}
use Rattle.soundness.proofs.StatusOrderLemmas.{rank}
use Rattle.atomicity.proofs.Stages.StageFactLemmas.{Put}
use Rattle.early_ends.specs.Held.{HasHeld, IsHeld}
use Rattle.early_ends.proofs.MemberMeetingLemmas.{members_meet}

lawful_or_none : (layouts : List Layout) (position : ℕ) → AllByRecursion IsLawful layouts →
    IsLawful (get_or layouts position no_layout) ⊎ (get_or layouts position no_layout ≡ no_layout)
lawful_or_none [] position all = inr refl
lawful_or_none (layout ∷ layouts) zero all = inl all.0
lawful_or_none (layout ∷ layouts) (suc position) all = lawful_or_none layouts position all.1

some_within : (xs : List ℕ) → AllByRecursion (λ i. i < 0) xs → 0 < length xs → ⊥
some_within [] within some = omega (arith, some)
some_within (x ∷ xs) within some = omega (arith, within.0)

-- a tag can be held only at a position of the object
pub held_lawful : (object : Object) (position : ℕ) (tag : Tag) (since now : ℕ) → AllByRecursion IsLawful object.layouts →
    IsHeld object position tag since now → IsLawful (layout_at object position)
held_lawful object position tag since now all held = go (lawful_or_none object.layouts position all)
  where
    go : IsLawful (layout_at object position) ⊎ (layout_at object position ≡ no_layout) → IsLawful (layout_at object position)
    go (inl lawful) = lawful
    go (inr none) =
        absurd (some_within held.members
        (subst (λ (l : Layout). AllByRecursion (λ i. i < length l.members) held.members) none held.within)
        (let some : 0 < 0 + length held.members = subst (λ (l : Layout). length l.members < l.k + length held.members) none held.enough in
        omega arith))

-- the bank had finalized the tag by each step by which it had a pointer
held_before : (bank : Bank) (tag : Tag) (since now step : ℕ) → HasHeld bank tag since now → 1 ≤ rank (pointer_at bank step) →
    HasFinalized bank tag step
held_before bank tag since now step held pointed = go (cases_lt step held.step)
  where
    go : (step < held.step) ⊎ (held.step ≤ step) → HasFinalized bank tag step
    go (inl early) =
        absurd (let later = pointer_later bank step held.step (le_of_lt early) in
        let unset : rank (pointer_at bank held.step) ≡ 0 = ap rank held.unset in omega arith)
    go (inr late) = came_by_later (finalized_at bank tag) held.step step late held.finalized

-- a quorum has a member that held the tag
pub held_meets : (object : Object) (position : ℕ) (tag : Tag) (since now : ℕ) → IsLawful (layout_at object position) →
    IsHeld object position tag since now → (members : List ℕ) → IsQuorum (layout_at object position) members →
    (i : ℕ) × (has members i ≡ true) × HasHeld (bank_at object position i) tag since now
held_meets object position tag since now lawful held members quorum =
    let met = members_meet (length (layout_at object position).members) held.members members held.distinct quorum.distinct
    quorum.within held.within
    (let a = held.enough in let b = quorum.enough in let c = lawful.enough in omega arith) in
    (met.0, met.2, all_at (λ i. HasHeld (bank_at object position i) tag since now) held.members met.0 held.each met.1)

-- a quorum that had a pointer and another quorum have a member in common that held the tag
held_meets_both : (object : Object) (position : ℕ) (tag : Tag) (since now step : ℕ) → IsLawful (layout_at object position) →
    IsHeld object position tag since now → Pointed object position step → (members : List ℕ) →
    IsQuorum (layout_at object position) members →
    (i : ℕ) × (has members i ≡ true) × HasFinalized (bank_at object position i) tag step
held_meets_both object position tag since now step lawful held pointed members quorum =
    let n = length (layout_at object position).members in
    let share = quorums_share (layout_at object position) pointed.members members lawful pointed.quorum quorum in
    let met = members_meet n held.members share.members held.distinct share.distinct
    (all_map (λ i h. all_at (λ j. j < n) pointed.members i pointed.quorum.within h) share.members share.in_first)
    held.within (let a = held.enough in let b = share.enough in omega arith) in (
      met.0,
      all_at (λ i. has members i ≡ true) share.members met.0 share.in_second met.2,
      held_before (bank_at object position met.0) tag since now step
          (all_at (λ i. HasHeld (bank_at object position i) tag since now) held.members met.0 held.each met.1)
          (all_at (λ i. 1 ≤ rank (pointer_at (bank_at object position i) step)) pointed.members met.0 pointed.all
          (all_at (λ i. has pointed.members i ≡ true) share.members met.0 share.in_first met.2)),
    )

-- a tag that is held is put
pub held_put : (object : Object) (position : ℕ) (tag : Tag) (since now : ℕ) → AllByRecursion IsLawful object.layouts →
    IsHeld object position tag since now → Put object now position tag
held_put object position tag since now all held = record {
  stored = record {
    meets = λ members quorum.
        let met = held_meets object position tag since now lawful held members quorum in
        let there = met.2 in (
          met.0,
          met.1,
          came_by_later (finalized_at (bank_at object position met.0) tag) there.step now there.by there.finalized,
        );
  };
  pointed = λ step pointed. record {
    meets = λ members quorum. held_meets_both object position tag since now step lawful held pointed members quorum;
  };
}
  where
    lawful : IsLawful (layout_at object position)
    lawful = held_lawful object position tag since now all held

-- no quorum had a pointer by a step from which on the tag was held
pub held_unpointed : (object : Object) (position : ℕ) (tag : Tag) (since now step : ℕ) →
    AllByRecursion IsLawful object.layouts → IsHeld object position tag since now → step ≤ since →
    Pointed object position step → ⊥
held_unpointed object position tag since now step all held early pointed =
    let met = held_meets object position tag since now (held_lawful object position tag since now all held) held pointed.members
    pointed.quorum in
    let there = met.2 in
    let bank = bank_at object position met.0 in
    let before = all_at (λ i. 1 ≤ rank (pointer_at (bank_at object position i) step)) pointed.members met.0 pointed.all met.1 in
    let later = pointer_later bank step there.step (let a = there.from in omega arith) in
    let unset : rank (pointer_at bank there.step) ≡ 0 = ap rank there.unset in
    omega arith

-- it was held at some step from then to `now`
pub held_since : (object : Object) (position : ℕ) (tag : Tag) (since now : ℕ) → AllByRecursion IsLawful object.layouts →
    IsHeld object position tag since now → since ≤ now
held_since object position tag since now all held = go held.members held.each held.enough
  where
    lawful : IsLawful (layout_at object position)
    lawful = held_lawful object position tag since now all held

    go : (members : List ℕ) → AllByRecursion (λ i. HasHeld (bank_at object position i) tag since now) members →
        length (layout_at object position).members < (layout_at object position).k + length members → since ≤ now
    go [] each enough = absurd (let a = lawful.enough in omega arith)
    go (i ∷ members) each enough = let there = each.0 in let a = there.from in let b = there.by in omega arith
