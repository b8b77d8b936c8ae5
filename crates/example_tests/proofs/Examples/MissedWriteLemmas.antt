-- A history in which a read misses an answered write is not atomic.
use Rattle.std.proofs.Common.{◌≡◌, ℕ, zero, false, nat_eq, eq-eqb, inl, suc, true, List, [], ◌∷◌, ◌<◌, ◌⊎◌}
use Rattle.std.proofs.Common.{◌==◌, ◌||◌, Bool, inr, map, eqb-true, Option, Some, IsSome, refl, sym, subst, ap, ◌∙◌}
use Rattle.std.specs.List.{AllByRecursion, IsDistinct}
use Rattle.std.proofs.lemmas.Option.{same_Some}
use Rattle.std.proofs.lemmas.Map.Keys.{IsDistinct-head}
use Rattle.record.specs.declared.call.Entry.{Entry}
use Rattle.record.specs.declared.call.Operation.{Operation}
use Rattle.atomicity.specs.Atomic.{IsAtomic, entry_at, Leaves, MayStand, IsRegister, KeepsOrder, IsAnsweredBefore}
use Rattle.layout.specs.Quorum.{has}
use Rattle.record.specs.declared.call.Operation.TheVariants as operation

all_has : {A : Type 0} (P : A → Type 0) (f : ℕ → A) (numbers : List ℕ) (number : ℕ) → AllByRecursion P (map f numbers) →
    has numbers number ≡ true → P (f number)
all_has P f [] number all there = absurd (cc)
all_has P f (x ∷ xs) number all there =
    go (x == number) refl (λ e. all_has P f xs number all.1 (sym (ap (λ b. b || has xs number) e) ∙ there))
  where
    go : (b : Bool) → (x == number) ≡ b → ((x == number) ≡ false → P (f number)) → P (f number)
    go true e later = subst (λ n. P (f n)) (eqb-true x number e) all.0
    go false e later = later e

-- the call of this number wrote the byte 65 and was answered
pub record Wrote (history : List Entry) (number : ℕ) : Type 0 where
  pub kind : (entry_at history number).kind ≡ operation.Write
  pub value : (entry_at history number).value ≡ Some (65 ∷ [])
  pub answered : IsSome (entry_at history number).answered

-- the call of this number read the empty value
pub record ReadNone (history : List Entry) (number : ℕ) : Type 0 where
  pub kind : (entry_at history number).kind ≡ operation.Read
  pub value : (entry_at history number).value ≡ Some []
  pub answered : IsSome (entry_at history number).answered

written_is : (kind : Operation) (value : Option (List ℕ)) (current next : List ℕ) → kind ≡ operation.Write →
    Leaves kind value current next → value ≡ Some next
written_is kind value current next k leaves = subst (λ o. Leaves o value current next) k leaves

returned_is : (kind : Operation) (value : Option (List ℕ)) (current next : List ℕ) → kind ≡ operation.Read →
    Leaves kind value current next → value ≡ Some current
returned_is kind value current next k leaves = (subst (λ o. Leaves o value current next) k leaves).0

-- of a write and a read alone, which may stand beside moves, the write was answered before the read was called
module _ (history : List Entry) (write read : ℕ) (wrote : Wrote history write) (reads : ReadNone history read)
    (before : IsAnsweredBefore (entry_at history write) (entry_at history read))
    (only : (number : ℕ) → MayStand (entry_at history number) → (number ≡ write) ⊎ (number ≡ read)) where
  abbrev entries_at : List ℕ → List Entry
  entries_at numbers = map (λ number. entry_at history number) numbers

  not_move : (kind other : Operation) → kind ≡ other → (other ≡ operation.Move → ⊥) → kind ≡ operation.Move → ⊥
  not_move kind other same apart e = apart (sym same ∙ e)

  -- the write stands first: the read behind it has another value
  write_first : (next : List ℕ) → Some (65 ∷ []) ≡ Some next → (rest : List ℕ) → IsDistinct nat_eq (write ∷ rest) →
      AllByRecursion (λ number. MayStand (entry_at history number)) rest → has rest read ≡ true →
      IsRegister next (entries_at rest) → ⊥
  write_first next same [] distinct fitting second register = cc
  write_first next same (b ∷ more) distinct fitting second register = go (only b fitting.0)
    where
      go : (b ≡ write) ⊎ (b ≡ read) → ⊥
      go (inl one) =
          let twice : nat_eq write b ≡ false = (IsDistinct-head nat_eq write (b ∷ more) distinct).0 in
          let clash : true ≡ false = sym (eq-eqb write b (sym one)) ∙ twice in cc
      go (inr two) =
          let here = subst (λ n. IsRegister next (entry_at history n ∷ entries_at more)) two register in
          let found = returned_is (entry_at history read).kind (entry_at history read).value next here.0 reads.kind here.1 in
          let values : ◌≡◌ {A = List ℕ} [] (65 ∷ []) = same_Some [] (65 ∷ []) (sym reads.value ∙ found ∙ sym same) in cc

  -- the read stands first: the write behind it was answered before
  read_first : (rest : List ℕ) → has rest write ≡ true →
      AllByRecursion (λ other. IsAnsweredBefore other (entry_at history read) → ⊥) (entries_at rest) → ⊥
  read_first rest first in_order =
      all_has (λ other. IsAnsweredBefore other (entry_at history read) → ⊥) (λ number. entry_at history number) rest write in_order first
      before

  other_behind : (a other : ℕ) (rest : List ℕ) → (a ≡ other → ⊥) → has (a ∷ rest) other ≡ true → has rest other ≡ true
  other_behind a other rest apart there = go (a == other) refl
    where
      go : (b : Bool) → (a == other) ≡ b → has rest other ≡ true
      go true e = absurd (apart (eqb-true a other e))
      go false e = sym (ap (λ b. b || has rest other) e) ∙ there

  two_calls : write ≡ read → ⊥
  two_calls same =
      let kinds : operation.Write ≡ operation.Read = sym wrote.kind ∙ ap (λ n. (entry_at history n).kind) same ∙ reads.kind in cc

  pub missed_at : IsAtomic history → ⊥
  missed_at atomic =
      go atomic.0 atomic.1.distinct atomic.1.fitting
      (atomic.1.complete write (not_move (entry_at history write).kind operation.Write wrote.kind (λ e. cc)) wrote.answered)
      (atomic.1.complete read (not_move (entry_at history read).kind operation.Read reads.kind (λ e. cc)) reads.answered)
      atomic.1.one_register atomic.1.in_order
    where
      go : (order : List ℕ) → IsDistinct nat_eq order → AllByRecursion (λ number. MayStand (entry_at history number)) order →
          has order write ≡ true → has order read ≡ true → IsRegister [] (entries_at order) → KeepsOrder (entries_at order) → ⊥
      go [] distinct fitting first second register in_order = cc
      go (a ∷ rest) distinct fitting first second register in_order = at_first (only a fitting.0)
        where
          at_first : (a ≡ write) ⊎ (a ≡ read) → ⊥
          at_first (inl one) =
              let here = subst (λ n. IsRegister [] (entry_at history n ∷ entries_at rest)) one register in
              let leaves = written_is (entry_at history write).kind (entry_at history write).value [] here.0 wrote.kind here.1 in
              write_first here.0 (sym wrote.value ∙ leaves) rest (subst (λ n. IsDistinct nat_eq (n ∷ rest)) one distinct) fitting.1
              (other_behind a read rest (λ e. two_calls (sym one ∙ e)) second) here.2
          at_first (inr two) =
              read_first rest (other_behind a write rest (λ e. two_calls (sym e ∙ two)) first)
              (subst (λ n. KeepsOrder (entry_at history n ∷ entries_at rest)) two in_order).0

-- the entries of a write, and of a read that returned the empty value, with the ids of both calls
abbrev missed_by : (write read called wrote began ended : ℕ) → List Entry
missed_by write read called wrote began ended =
    record { call = write; kind = operation.Write; called = called; answered = Some wrote; value = Some (65 ∷ []) }
    ∷ record { call = read; kind = operation.Read; called = began; answered = Some ended; value = Some [] } ∷ []

pub missed_is_refused : (write read called wrote began ended : ℕ) → wrote < began →
    IsAtomic (missed_by write read called wrote began ended) → ⊥
missed_is_refused write read called wrote began ended before =
    missed_at (missed_by write read called wrote began ended) 1 2 (record { kind = refl; value = refl; answered = refl })
    (record { kind = refl; value = refl; answered = refl }) (wrote, refl, before) only
  where
    only : (number : ℕ) → MayStand (entry_at (missed_by write read called wrote began ended) number) →
        (number ≡ 1) ⊎ (number ≡ 2)
    only zero stand = absurd (stand.0 refl)
    only (suc zero) stand = inl refl
    only (suc (suc zero)) stand = inr refl
    only (suc (suc (suc index))) stand = absurd (stand.0 refl)
