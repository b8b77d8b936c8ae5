use Rattle.std.proofs.lemmas.Str.{IsUtf8-from_ascii}
use Rattle.hex.specs.Hex.{encode_lower, lower_digits}
use Rattle.hex.proofs.HexLemmas.{IsAscii-encode_with}
use Rattle.words.proofs.HexadecimalLemmas.{IsAscii-lower_digits}
use Rattle.words.proofs.hexadecimal.digits_of.Goals as goal

pub unreachable-requires-in_default-from_utf8 : goal.unreachable-requires-in_default-from_utf8
unreachable-requires-in_default-from_utf8 c =
    c.in_default-from_utf8.ensures.cases.0
    (rw (c.in-Ok.ensures.written)
    (IsUtf8-from_ascii (encode_lower c.args.bytes.now) (IsAscii-encode_with lower_digits c.args.bytes.now IsAscii-lower_digits)))
