-- The strings of a frame, or of an entry of a log.
use Rattle.std.specs.Prelude.{ℕ, List}

-- strings of bytes, in order
abbrev pub Strings : Type 0
Strings = List (List ℕ)
