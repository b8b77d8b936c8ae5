-- The strings so far were appended.
use Rattle.std.proofs.Common.{◌≡◌, ◌++◌, take}
use Rattle.std.specs.List.{flat_map}
use Rattle.frames.specs.Frame.{string_bytes}
use Rattle.client_commands.proofs.writing.append_strings.Given as goal

abbrev pub invariant-loop-string : goal.invariant-loop-string
invariant-loop-string l = l.bytes.items ≡ l.fn.bytes.items ++ flat_map string_bytes (take l.string-index l.strings)
