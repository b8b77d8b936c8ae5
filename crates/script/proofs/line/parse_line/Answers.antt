use Rattle.std.proofs.lemmas.Str.{IsUtf8-from_ascii}
use Rattle.script.proofs.line.parse_line.Goals as goal

pub unreachable-requires : goal.unreachable-requires
unreachable-requires c = c.in_default.ensures.cases.0 (IsUtf8-from_ascii c.args.line.now c.if-not-is_ascii.ensures.cases)
