-- Which steps leave the layouts and the banks as they are.
use Rattle.std.proofs.Common.{◌≡◌, ℕ, arith}
use Rattle.record.specs.Records.{Object}
use Rattle.record.specs.Fragments.{Code}
use Rattle.record.specs.Steps.{Step, stepped}

-- every step but the call of a move, a served request and retiring
abbrev pub LeavesBanks : Step → Type 0
LeavesBanks (Step.CallMove id layout) = ⊥
LeavesBanks (Step.Serve place) = ⊥
LeavesBanks Step.Retire = ⊥
LeavesBanks _ = Unit {0}

abbrev pub SameBanks : Object → Object → Type 0
SameBanks old new = (new.layouts ≡ old.layouts) × (new.banks ≡ old.banks)

module _ (fragment : Code) (object : Object) (now : ℕ) where
  pub banks_left : (step : Step) → LeavesBanks step → SameBanks object (stepped fragment step now object)
  banks_left step left = grind arith
