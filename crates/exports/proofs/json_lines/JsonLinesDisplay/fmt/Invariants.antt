use Rattle.std.proofs.Common.{take}
use Rattle.std.specs.Fmt.{HasWritten, IsPlainFormatter}
use Rattle.std.specs.List.{enumerate_from, flat_map}
use Rattle.exports.specs.Json.{json_line}
use Rattle.exports.proofs.json_lines.JsonLinesDisplay.fmt.Given as goal

abbrev pub invariant-loop-index : goal.invariant-loop-index
invariant-loop-index g l = IsPlainFormatter l.initial.f
    → HasWritten g.W.Write.write_str_gives l.initial.f (flat_map json_line (take l.index (enumerate_from 0 l.self.0.now))) l.f
