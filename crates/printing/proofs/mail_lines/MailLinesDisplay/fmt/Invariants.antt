use Rattle.std.proofs.Common.{take}
use Rattle.std.specs.Fmt.{HasWritten, IsPlainFormatter}
use Rattle.std.specs.List.{enumerate_from, flat_map}
use Rattle.printing.specs.MailLines.{message_line}
use Rattle.printing.proofs.mail_lines.MailLinesDisplay.fmt.Given as goal

abbrev pub invariant-loop-place : goal.invariant-loop-place
invariant-loop-place g l = IsPlainFormatter l.initial.f
    → HasWritten g.W.Write.write_str_gives l.initial.f (flat_map message_line (take l.place (enumerate_from 0 l.mail))) l.f
