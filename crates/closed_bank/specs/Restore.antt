-- The contracts that docs/trusted.md lists do not depend on this file; other contracts and proofs do.
-- The requests that bring a closed bank back.
use Rattle.std.specs.Prelude.{List, [], ◌∷◌}
use Rattle.bank.specs.declared.request.Request.{Request}
use Rattle.bank.specs.declared.request.Request.TheVariants as request
use Rattle.bank.specs.declared.status.Status.TheVariants as status
use Rattle.bank.specs.Bank.{Bank}
use Rattle.closed_bank.specs.ClosedBank.{ClosedBank}

-- the requests that lead a newly opened bank to one that closes to this closed bank
abbrev pub requests_to_closed : ClosedBank → List Request
requests_to_closed closed = request.Spread status.Final ∷ request.Finalize closed.greatest ∷ []

-- the bank after these requests, in this order, where `serve` gives the bank after each
abbrev pub all_served : (serve : Bank → Request → Bank) → Bank → List Request → Bank
all_served serve bank [] = bank
all_served serve bank (q ∷ qs) = all_served serve (serve bank q) qs
