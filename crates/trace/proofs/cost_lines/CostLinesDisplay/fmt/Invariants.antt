use Rattle.std.proofs.Common.{◌≡◌, take}
use Rattle.std.specs.Fmt.{HasWritten, IsPlainFormatter}
use Rattle.std.specs.List.{flat_map}
use Rattle.trace.specs.CostLines.{cost_line, total_of}
use Rattle.trace.proofs.cost_lines.CostLinesDisplay.fmt.Given as goal

abbrev pub invariant-loop-entry : goal.invariant-loop-entry
invariant-loop-entry g l = record {
  total : l.total ≡ total_of l.self.register.now.object (take l.entry-index l.self.entries.now);
  written : IsPlainFormatter l.initial.f → HasWritten g.W.Write.write_str_gives l.initial.f
      (flat_map (cost_line l.self.register.now.object) (take l.entry-index l.self.entries.now)) l.f;
}
