-- What all strings write is what those write that are left, behind the numbers so far.
use Rattle.std.proofs.Common.{◌≡◌, drop, length}
use Rattle.client_commands.specs.Layouts.{small_numbers}
use Rattle.client_commands.proofs.MoveLemmas.{behind}
use Rattle.client_commands.proofs.layouts.small_numbers.Given as goal

abbrev pub invariant-loop-string : goal.invariant-loop-string
invariant-loop-string l =
    (small_numbers l.strings ≡ behind l.numbers.items (small_numbers (drop l.string-index l.strings)))
    × (length l.numbers.items ≡ l.string-index)
