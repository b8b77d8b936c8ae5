-- A cluster has become what one step more, or none, makes of it.
use Rattle.std.proofs.Common.{◌≡◌, suc, inl, Bool, true, false, List, ℕ, subst, sym, Result, Ok, Err, IfOk, OnOk, OnErr}
use Rattle.tag.specs.declared.refusal.Refusal.{Refusal}
use Rattle.record.specs.Steps.{Step}
use Rattle.cluster.specs.Cluster.{Cluster}
use Rattle.cluster.specs.Preconditions.{MayMake}
use Rattle.cluster.specs.Steps.{with_step}
use Rattle.driver.specs.Driver.{IsTurn}
use Rattle.driver.specs.Rounds.{MakesRound, MakesStep}
use Rattle.driver.specs.declared.round.Round.{Round}
use Rattle.driver.specs.declared.round.Round.TheVariants as round
use Rattle.locked_steps.specs.Course.{IsStep, IsReachable, IsSoundCluster, PreservesReachable}
use Rattle.locked_steps.proofs.SoundClusterLemmas.{step_keeps}

pub goes_on : (old new : Cluster) → IsStep old new → PreservesReachable old new
goes_on old new step = (λ first h. (suc h.0, (old, (h.1, step))), step_keeps old new step)

pub goes_on_same : (old new : Cluster) → new ≡ old → PreservesReachable old new
goes_on_same old new same =
    (λ first h. subst (IsReachable first) (sym same) h, λ sound. subst (λ (c : Cluster). IsSoundCluster c) (sym same) sound)

pub goes_on_step : (old new : Cluster) (name : List ℕ) (step : Step) → MayMake old name step → new ≡ with_step old name step
    → PreservesReachable old new
goes_on_step old new name step may made = goes_on old new (inl (name, (step, (may, made))))

-- a step that was made or refused
pub goes_on_both : {T : Type 0} (answer : Result T Refusal) (old new : Cluster) (name : List ℕ) (step : Step)
    → OnOk answer (MayMake old name step) → OnOk answer (new ≡ with_step old name step) → OnErr answer (new ≡ old)
    → PreservesReachable old new
goes_on_both (Ok x) old new name step may made same = goes_on_step old new name step may made
goes_on_both (Err e) old new name step may made same = goes_on_same old new same

module _ {C : Type 0} (chooses : C → ℕ → ℕ → C → Type 0) (name : List ℕ) (call : ℕ) (again : Bool) (old : Cluster) (before : C)
    (new : Cluster) (after : C) where
  goes_on_turn : IsTurn chooses name call again old before new after → PreservesReachable old new
  goes_on_turn t = goes_on_step old new name t.step t.may t.made

  goes_on_round : (r : Round) → MakesRound chooses name call again old before new after r → PreservesReachable old new
  goes_on_round round.Stepped h = goes_on_turn h.0
  goes_on_round (round.Answered receipt) h = goes_on_turn h.turn
  goes_on_round round.Late h = absurd h
  goes_on_round _ h = goes_on_same old new h.0

  -- a round that was made or refused
  pub goes_on_round_both : (answer : Result Round Refusal) → IfOk answer (λ r. MakesRound chooses name call again old before new after r)
      → OnErr answer (new ≡ old) → PreservesReachable old new
  goes_on_round_both (Ok r) h same = goes_on_round r h
  goes_on_round_both (Err e) h same = goes_on_same old new same

-- a step that was made, not made or refused
pub goes_on_step_both : {C : Type 0} (chooses : C → ℕ → ℕ → C → Type 0) (name : List ℕ) (call : ℕ) (answer : Result Bool Refusal)
    (old : Cluster) (before : C) (new : Cluster) (after : C) → IfOk answer (λ b. MakesStep chooses name call old before new after b)
    → OnErr answer (new ≡ old) → PreservesReachable old new
goes_on_step_both chooses name call (Ok true) old before new after h same = goes_on_turn chooses name call false old before new after h.0
goes_on_step_both chooses name call (Ok false) old before new after h same = goes_on_same old new h.0
goes_on_step_both chooses name call (Err e) old before new after h same = goes_on_same old new same
