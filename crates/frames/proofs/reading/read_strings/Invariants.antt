-- Reading all strings gives those so far, and then what reading the others gives.
use Rattle.std.proofs.Common.{◌≡◌, length}
use Rattle.std.specs.List.{AllByRecursion}
use Rattle.frames.specs.Frame.{IsShort}
use Rattle.frames.proofs.ReadStringLemmas.{Collects}
use Rattle.frames.proofs.reading.read_strings.Given as goal

abbrev pub invariant-loop : goal.invariant-loop
invariant-loop g l = (length l.strings.items ≡ l.counter) × AllByRecursion IsShort l.strings.items
    × Collects l.count l.strings.items l.counter (g.R.Read.remaining l.fn.reader) (g.R.Read.remaining l.reader)
