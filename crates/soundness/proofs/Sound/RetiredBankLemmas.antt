-- The banks once the base is retired.
use Rattle.std.proofs.lemmas.Grind.{common_steps}
use Rattle.std.proofs.Common.{◌≡◌, ℕ, ◌<◌, ◌⊎◌, List, map, get_or}
use Rattle.std.proofs.Common.{arith}
use Rattle.std.proofs.lemmas.Option.{same_Some}
use Rattle.bank.specs.Bank.{Bank}
use Rattle.bank.specs.Collect.{retired_bank}
use Rattle.record.specs.Records.{Object, bank_at, no_bank, base_of}
use Rattle.record.specs.Legal.{IsMovedOut, IsCaused}
use Rattle.record.specs.Steps.{retired_object}
use Rattle.soundness.proofs.Sound.KnownSinceLemmas.{get_or_set}
use Rattle.soundness.proofs.Sound.ServedBankLemmas.{retired_finalized, retired_arrived}

-- the banks of one position, each changed
mapped : (f : Bank → Bank) (banks : List Bank) (i : ℕ) →
    (get_or (map f banks) i no_bank ≡ get_or banks i no_bank) ⊎ (get_or (map f banks) i no_bank ≡ f (get_or banks i no_bank))
mapped f banks i = grind (arith, common_steps)

module _ (object : Object) (now : ℕ) where
  abbrev pub new : Object
  new = retired_object object now

  -- a bank that changed, or stayed
  abbrev pub Cases : (p i : ℕ) → Type 0
  Cases p i = (bank_at new p i ≡ bank_at object p i)
      ⊎ ((p ≡ base_of object) × (bank_at new p i ≡ retired_bank (bank_at object p i) now))

  pub retired_cases : (p i : ℕ) → Cases p i
  retired_cases p i = grind (arith, get_or_set, mapped, new)

-- a bank that is retired was caused so
pub retired_caused : (object : Object) (position answered now : ℕ) (bank : Bank) → IsMovedOut object position answered → answered < now →
    IsCaused object position bank → IsCaused object position (retired_bank bank now)
retired_caused object position answered now bank moved less caused = grind (arith, retired_arrived, retired_finalized, same_Some)
