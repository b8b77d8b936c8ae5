-- A round that hands out the value that a call is to send.
use Rattle.std.proofs.Common.{◌≡◌, ℕ, pred, Bool, List, Option, Result, Ok, Err, IfOk, IfErr, refl, subst}
use Rattle.tag.specs.Cause.{IsRefusalBy}
use Rattle.tag.specs.Refusal.{IsByCause}
use Rattle.tag.specs.declared.refusal.Refusal.{Refusal}
use Rattle.record.specs.Steps.{Step}
use Rattle.cluster.specs.Cluster.{Cluster}
use Rattle.driver.specs.declared.round.Round.{Round}
use Rattle.driver.specs.declared.round.Round.TheVariants as round
use Rattle.driver.specs.Driver.{IsDue, IsRefused}
use Rattle.driver.specs.Rounds.{IsToEncode, HandsOutValue, MakesRound}

module _ {C : Type 0} (chooses : C → ℕ → ℕ → C → Type 0) (name : List ℕ) (call : ℕ) (again : Bool) (old : Cluster) (before : C) where
  pub value_round : (new : Cluster) → new ≡ old → IsDue chooses name call old again before before (Step.Supply (pred call))
      → (r : Result Round Refusal) → IfOk r (λ o. HandsOutValue new name call o)
      → IfOk r (λ o. MakesRound chooses name call again old before new before o)
  value_round new same due (Ok (round.Encode value k n)) handed =
      (same, refl, due, subst (λ m. IsToEncode m name call k n value) same handed)
  value_round new same due (Ok _) handed = absurd handed
  value_round new same due (Err e) handed = tt

  pub refused_round : (cause : Option Refusal) (r : Result Round Refusal)
      → ((e : Refusal) → IsRefusalBy cause e → IsRefused chooses name call old again before before e) → IsByCause cause r
      → IfErr r (λ e. IsRefused chooses name call old again before before e)
  refused_round cause (Ok o) each by = tt
  refused_round cause (Err e) each by = each e by
