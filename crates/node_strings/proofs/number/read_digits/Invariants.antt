-- Reading the digits that are left behind those so far gives the number of all of them.
use Rattle.std.proofs.Common.{◌≡◌, ◌≤◌, drop}
use Rattle.node_strings.specs.Numbers.{digits_from}
use Rattle.node_strings.proofs.number.read_digits.Given as goal

abbrev pub invariant-loop-byte : goal.invariant-loop-byte
invariant-loop-byte g l =
    (digits_from l.bad l.most l.above l.number (drop l.byte-index l.bytes) ≡ digits_from l.bad l.most l.above l.first l.bytes)
    × (l.number ≤ l.most)
