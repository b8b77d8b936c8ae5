-- The base: the positions before it are retired, and it stays where they do.
use Rattle.std.proofs.lemmas.Grind.{common_steps}
use Rattle.std.proofs.Common.{◌≡◌, ℕ, zero, suc, ◌<◌, ◌≤◌, Bool, true, false, cond, is_some}
use Rattle.std.proofs.Common.{List, [], ◌∷◌, ◌++◌, length, set, Option, Some, None, get_or, slice_get}
use Rattle.std.proofs.Common.{refl, sym, subst, ap, ◌∙◌, arith}
use Rattle.std.proofs.lemmas.Option.{same_Some}
use Rattle.std.specs.List.{AllByRecursion}
use Rattle.bank.specs.Bank.{Bank}
use Rattle.bank.specs.Knowledge.{came_by}
use Rattle.mail.specs.Phase.{Phase}
use Rattle.record.specs.declared.call.CallKind.{CallKind}
use Rattle.record.specs.declared.stage.Stage.{Stage}
use Rattle.record.specs.declared.stage.Stage.TheVariants.{ReadBegin}
use Rattle.record.specs.PhaseOrder.{stage_past, stage_after, BeginAtBase}
use Rattle.record.specs.Records.{Object, no_bank, retired_at, base_by, base_at, retired_first, base_of}

-- when the banks of a position, at a place of these, were retired
abbrev pub RetiredOf : List (List Bank) → ℕ → Option ℕ
RetiredOf banks position = (get_or (get_or banks position []) 0 no_bank).retired

-- a position before the base was retired by the step
pub below_base : (banks : List (List Bank)) (step j : ℕ) → j < base_by banks step → came_by (RetiredOf banks j) step ≡ true
below_base [] step j h = absurd (omega arith)
below_base (first ∷ later) step j h =
    go (came_by (get_or first 0 no_bank).retired step) refl (λ i less. below_base later step i less) j h
  where
    go : (b : Bool) → came_by (get_or first 0 no_bank).retired step ≡ b →
        ((i : ℕ) → i < base_by later step → came_by (RetiredOf later i) step ≡ true) →
        (j : ℕ) → j < cond b (suc (base_by later step)) 0 → came_by (RetiredOf (first ∷ later) j) step ≡ true
    go false e rest j h = absurd (omega arith)
    go true e rest zero h = e
    go true e rest (suc j) h = rest j (omega arith)

-- what came by a step came at one
pub came_at : (o : Option ℕ) (step : ℕ) → came_by o step ≡ true → (at : ℕ) × (o ≡ Some at) × (at ≤ step)
came_at o step e = grind arith

-- the base of a step is the same where the same positions were retired by then
pub base_same : (xs ys : List (List Bank)) (step : ℕ) →
    ((j : ℕ) → came_by (RetiredOf xs j) step ≡ came_by (RetiredOf ys j) step) → base_by xs step ≡ base_by ys step
base_same [] [] step same = refl
base_same [] (y ∷ ys) step same = ap (λ b. cond b (suc (base_by ys step)) 0) (same 0)
base_same (x ∷ xs) [] step same = ap (λ b. cond b (suc (base_by xs step)) 0) (same 0)
base_same (x ∷ xs) (y ∷ ys) step same =
    ap (λ b. cond b (suc (base_by xs step)) 0) (same 0)
    ∙ ap (λ n. cond (came_by (get_or y 0 no_bank).retired step) (suc n) 0) (base_same xs ys step (λ j. same (suc j)))

-- two lists of banks whose positions were retired at the same steps have the same base
pub first_same : (xs ys : List (List Bank)) → ((j : ℕ) → RetiredOf xs j ≡ RetiredOf ys j) → retired_first xs ≡ retired_first ys
first_same [] [] same = refl
first_same [] (y ∷ ys) same = ap (λ (o : Option ℕ). cond (is_some o) (suc (retired_first ys)) 0) (same 0)
first_same (x ∷ xs) [] same = ap (λ (o : Option ℕ). cond (is_some o) (suc (retired_first xs)) 0) (same 0)
first_same (x ∷ xs) (y ∷ ys) same =
    ap (λ (o : Option ℕ). cond (is_some o) (suc (retired_first xs)) 0) (same 0)
    ∙ ap (λ n. cond (is_some (get_or y 0 no_bank).retired) (suc n) 0) (first_same xs ys (λ j. same (suc j)))

came_some : (o : Option ℕ) (step : ℕ) → ((at : ℕ) → o ≡ Some at → at ≤ step) → came_by o step ≡ is_some o
came_some o step past = grind arith

-- the base is that of any step by which all that is retired was
pub base_now : (banks : List (List Bank)) (step : ℕ) → ((j at : ℕ) → RetiredOf banks j ≡ Some at → at ≤ step) →
    base_by banks step ≡ retired_first banks
base_now [] step past = refl
base_now (first ∷ later) step past =
    ap (λ b. cond b (suc (base_by later step)) 0) (came_some (get_or first 0 no_bank).retired step (past 0))
    ∙ ap (λ n. cond (is_some (get_or first 0 no_bank).retired) (suc n) 0) (base_now later step (λ j at e. past (suc j) at e))

-- a position before the base is retired
pub before_base : (banks : List (List Bank)) (j : ℕ) → j < retired_first banks → (at : ℕ) × (RetiredOf banks j ≡ Some at)
before_base [] j h = absurd (omega arith)
before_base (first ∷ later) j h = go (get_or first 0 no_bank).retired refl (λ i less. before_base later i less) j h
  where
    go : (o : Option ℕ) → (get_or first 0 no_bank).retired ≡ o →
        ((i : ℕ) → i < retired_first later → (at : ℕ) × (RetiredOf later i ≡ Some at)) →
        (j : ℕ) → j < cond (is_some o) (suc (retired_first later)) 0 → (at : ℕ) × (RetiredOf (first ∷ later) j ≡ Some at)
    go None e rest j h = absurd (omega arith)
    go (Some at) e rest zero h = (at, e)
    go (Some at) e rest (suc j) h = rest j (omega arith)

-- a record in which the same positions are retired
abbrev pub RetiredSame : Object → Object → Type 0
RetiredSame old new = (position : ℕ) → retired_at new position ≡ retired_at old position

pub bases_same : (old new : Object) → RetiredSame old new → (step : ℕ) → base_at new step ≡ base_at old step
bases_same old new same step = base_same new.banks old.banks step (λ j. ap (λ (o : Option ℕ). came_by o step) (same j))

pub leading_same : (old new : Object) → RetiredSame old new →
    ((position : ℕ) → base_of old ≤ position → retired_at old position ≡ None) →
    (position : ℕ) → base_of new ≤ position → retired_at new position ≡ None
leading_same old new same leading position h = grind (arith, first_same)

-- first readings that begin at the base, begin at another that is the same at their starts
pub base_kept : (base other : ℕ → ℕ) (kind : CallKind) (number : ℕ) (phases : List Phase) (stage : Stage) →
    AllByRecursion (λ phase. other phase.start ≡ base phase.start) phases → BeginAtBase base kind number stage phases →
    BeginAtBase other kind number stage phases
base_kept base other kind number [] stage same begins = tt
base_kept base other kind number (phase ∷ phases) stage same begins = (
  (λ first. begins.0 first ∙ sym same.0),
  base_kept base other kind number phases (stage_past kind number stage phase) same.1 begins.1,
)

-- and so does one more phase, where it begins at the base
pub base_push : (base : ℕ → ℕ) (kind : CallKind) (number : ℕ) (phases : List Phase) (stage : Stage) (next : Phase) →
    BeginAtBase base kind number stage phases →
    (stage_after kind number stage phases ≡ ReadBegin → next.position ≡ base next.start) →
    BeginAtBase base kind number stage (phases ++ next ∷ [])
base_push base kind number [] stage next begins at = (at, tt)
base_push base kind number (phase ∷ phases) stage next begins at =
    (begins.0, base_push base kind number phases (stage_past kind number stage phase) next begins.1 at)

-- and another in the last one's place, with its position and start
pub base_set : (base : ℕ → ℕ) (kind : CallKind) (number : ℕ) (phases : List Phase) (stage : Stage) (place : ℕ) (old new : Phase) →
    BeginAtBase base kind number stage phases → slice_get phases place ≡ Some old → suc place ≡ length phases →
    new.position ≡ old.position → new.start ≡ old.start → BeginAtBase base kind number stage (set phases place new)
base_set base kind number (phase ∷ []) stage zero old new begins at last p s =
    let same = same_Some phase old at in (
      (λ first. p ∙ sym (ap (λ (q : Phase). q.position) same) ∙ begins.0 first
          ∙ ap base (ap (λ (q : Phase). q.start) same ∙ sym s)),
      tt,
    )
base_set base kind number (phase ∷ next ∷ phases) stage zero old new begins at last p s = absurd (omega arith)
base_set base kind number (phase ∷ next ∷ phases) stage (suc place) old new begins at last p s =
    (begins.0, base_set base kind number (next ∷ phases) (stage_past kind number stage phase) place old new begins.1 at (omega arith) p s)
base_set base kind number _ stage _ old new begins at last p s = absurd (cc)

-- no position is retired from the first that is not
first_none : (banks : List (List Bank)) → RetiredOf banks 0 ≡ None → retired_first banks ≡ 0
first_none banks e = grind (arith, common_steps)

-- the base goes up by one where its banks are retired, and those of the next position are not
pub base_raised : (banks : List (List Bank)) (fresh : List Bank) (now : ℕ) → retired_first banks < length banks →
    (get_or fresh 0 no_bank).retired ≡ Some now → RetiredOf banks (suc (retired_first banks)) ≡ None →
    retired_first (set banks (retired_first banks) fresh) ≡ suc (retired_first banks)
base_raised [] fresh now below retired next = absurd (omega arith)
base_raised (first ∷ later) fresh now below retired next =
    go (get_or first 0 no_bank).retired refl (λ h n. base_raised later fresh now h retired n) below next
  where
    count : Option ℕ → ℕ
    count o = cond (is_some o) (suc (retired_first later)) 0

    go : (o : Option ℕ) → (get_or first 0 no_bank).retired ≡ o →
        (retired_first later < length later → RetiredOf later (suc (retired_first later)) ≡ None →
        retired_first (set later (retired_first later) fresh) ≡ suc (retired_first later)) →
        count (get_or first 0 no_bank).retired < suc (length later) →
        RetiredOf (first ∷ later) (suc (count (get_or first 0 no_bank).retired)) ≡ None →
        retired_first (set (first ∷ later) (count (get_or first 0 no_bank).retired) fresh)
        ≡ suc (count (get_or first 0 no_bank).retired)
    go None e rest h n =
        subst (λ o. retired_first (set (first ∷ later) (count o) fresh) ≡ suc (count o)) (sym e)
        (ap (λ (o : Option ℕ). cond (is_some o) (suc (retired_first later)) 0) retired
        ∙ ap suc (first_none later (subst (λ o. RetiredOf (first ∷ later) (suc (count o)) ≡ None) e n)))
    go (Some at) e rest h n =
        let below : suc (retired_first later) < suc (length later) = subst (λ o. count o < suc (length later)) e h in
        subst (λ o. retired_first (set (first ∷ later) (count o) fresh) ≡ suc (count o)) (sym e)
        (ap (λ (o : Option ℕ). cond (is_some o) (suc (retired_first (set later (retired_first later) fresh))) 0) e
        ∙ ap suc (rest (omega arith) (subst (λ o. RetiredOf (first ∷ later) (suc (count o)) ≡ None) e n)))
