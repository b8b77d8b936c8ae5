use Rattle.std.specs.Fmt.{HasWritten, IsPlainFormatter}
use Rattle.std.specs.List.{flat_map, range_with_len}
use Rattle.player.specs.AccountLine.{server_text}
use Rattle.player.proofs.account_line.AccountLineDisplay.fmt.Given as goal

abbrev pub invariant-loop-server : goal.invariant-loop-server
invariant-loop-server g l = IsPlainFormatter l.initial.f
    → HasWritten g.W.Write.write_str_gives l.initial.f (flat_map (server_text l.cluster) (range_with_len 0 l.server-counter)) l.f
