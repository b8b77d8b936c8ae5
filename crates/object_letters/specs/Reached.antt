-- Banks that serve requests one after another, each at step 0, as the banks of a node do.
use Rattle.std.specs.Prelude.{◌≡◌, ℕ, List, [], ◌∷◌}
use Rattle.bank.specs.declared.request.Request.{Request}
use Rattle.local_object.specs.ChangedBanks.{bank_after}
use Rattle.bank.specs.Bank.{Bank, opened_bank}

-- the bank after it serves these requests, in this order, each at step 0, and forgets after each what it may
abbrev pub after_requests : Bank → List Request → Bank
after_requests bank [] = bank
after_requests bank (request ∷ requests) = after_requests (bank_after bank request) requests

-- some requests lead to the bank from one that was newly opened for the member with this point, all at step 0
abbrev pub IsReachedBank : (point : ℕ) → Bank → Type 0
IsReachedBank point bank = (requests : List Request) × (after_requests (opened_bank point bank.delta 0) requests ≡ bank)
