use Rattle.std.specs.Fmt.{HasWritten, IsPlainFormatter}
use Rattle.coding_commands.specs.Fragments.{fragments_text}
use Rattle.coding_commands.proofs.fragments.FragmentsLineDisplay.fmt.Given as goal

abbrev pub invariant-loop-i : goal.invariant-loop-i
invariant-loop-i g l = IsPlainFormatter l.initial.f
    → HasWritten g.W.Write.write_str_gives l.initial.f (fragments_text (record l.self.0.now { n = l.i })) l.f
