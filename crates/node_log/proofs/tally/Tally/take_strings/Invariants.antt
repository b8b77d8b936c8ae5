-- The strings so far were taken.
use Rattle.std.proofs.Common.{take}
use Rattle.std.specs.List.{flat_map}
use Rattle.frames.specs.Frame.{string_bytes}
use Rattle.node_log.specs.Tally.{Takes}
use Rattle.node_log.proofs.tally.Tally.take_strings.Given as goal

abbrev pub invariant-loop-string : goal.invariant-loop-string
invariant-loop-string l = Takes l.fn.self l.self (flat_map string_bytes (take l.string-index l.strings))
