-- Frames that come to the nodes to which they are.
use Rattle.std.proofs.Common.{◌≡◌, ◌⊎◌, ◌<◌, ◌≤◌, ◌+◌, ℕ, suc, length, true, false, refl, sym, subst, ◌∙◌, inl, inr, arith}
use Rattle.example_runs.specs.Steps.{AreBroughtIn, IsBroughtIn, IsCarriedIn, IsToNone}
use Rattle.example_runs.specs.declared.process_run.ProcessRun.{ProcessRun}

-- a number below the next one is below this one, or it is this one
below_next : (n number : ℕ) → n < number + 1 → (n < number) ⊎ (n ≡ number)
below_next n number below = grind (arith, below)

-- a frame that is not to the node of this number either is to none of those up to it
pub none_more : (place number : ℕ) (first old new : ProcessRun) → IsToNone place number old → old ≡ first →
    IsCarriedIn place number old new false → IsToNone place (number + 1) new × (new ≡ first)
none_more place number first old new none start (sent, at, found, same) =
    (subst (λ (run : ProcessRun). IsToNone place (number + 1) run) (sym same) more, same ∙ start)
  where
    go : (n : ℕ) → (n < number) ⊎ (n ≡ number) → n < length old.members.items → IsCarriedIn place n old old false
    go n (inl less) within = none n less within
    go n (inr is) within = subst (λ (k : ℕ). IsCarriedIn place k old old false) (sym is) (sent, at, found, refl)

    more : IsToNone place (number + 1) old
    more n below within = go n (below_next n number below) within

-- a frame that is to none of the nodes before this one came to this one, or there are no more nodes
pub brought : (place number : ℕ) (first old new : ProcessRun) → number < 255 → IsToNone place number old → old ≡ first →
    IsCarriedIn place number old new true ⊎ ((length old.members.items ≤ number) × (new ≡ old)) → IsBroughtIn place first new
brought place number first old new most none start either =
    subst (λ (run : ProcessRun). IsBroughtIn place run new) start (go either)
  where
    go : IsCarriedIn place number old new true ⊎ ((length old.members.items ≤ number) × (new ≡ old)) → IsBroughtIn place old new
    go (inl carried) = inl (number, carried)
    go (inr (all, same)) = inr ((λ n below within. none n (omega (arith, all, within)) within), same)

-- a frame that is to none of the nodes is left
pub to_none : (place number : ℕ) (old new : ProcessRun) → 255 ≤ number → IsToNone place number new → new ≡ old →
    IsBroughtIn place old new
to_none place number old new most none same =
    inr (
      subst (λ (run : ProcessRun). IsToNone place 255 run) same
          (λ n below within. none n (omega (arith, below, most)) within),
      same,
    )

-- one more frame came
pub one_more : (count first place : ℕ) (old between new : ProcessRun) → place ≡ first + count →
    AreBroughtIn count first old between → IsBroughtIn place between new → AreBroughtIn (count + 1) first old new
one_more count first place old between new is before next =
    let e : suc count ≡ count + 1 = omega arith in
    subst (λ (n : ℕ). AreBroughtIn n first old new) e
    (between, before, subst (λ (p : ℕ). IsBroughtIn p between new) is next)
