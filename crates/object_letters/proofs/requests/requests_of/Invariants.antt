use Rattle.std.proofs.Common.{◌≡◌, ◌++◌}
use Rattle.object_letters.specs.Requests.{requests_to, rows_requests}
use Rattle.object_letters.proofs.requests.requests_of.Given as goal

abbrev pub invariant-loop-tag : goal.invariant-loop-tag
invariant-loop-tag l = l.requests.items ++ rows_requests l.tag-iterator ≡ requests_to l.bank
