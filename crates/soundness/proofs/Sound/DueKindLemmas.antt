-- Which kind of phase is due, as a test.
use Rattle.std.specs.Prelude.{ℕ, Bool, true, false, Option, Some}
use Rattle.bank.specs.declared.kind.Kind.{Kind}
use Rattle.bank.specs.declared.kind.Kind.TheVariants.{PreWrite, Finalize, Fetch}

-- whether what is due sends pieces
abbrev pub sends : Option (Kind × ℕ) → Bool
sends (Some (PreWrite tag, position)) = true
sends _ = false

-- whether it finalizes a tag
abbrev pub finalizes : Option (Kind × ℕ) → Bool
finalizes (Some (Finalize tag, position)) = true
finalizes _ = false

-- whether it is a fetch
abbrev pub fetches : Option (Kind × ℕ) → Bool
fetches (Some (Fetch tag, position)) = true
fetches _ = false
