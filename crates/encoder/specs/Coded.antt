-- A coded value: what determines it, when it is lawful, and why a value is refused.
use Rattle.std.specs.Prelude.{◌≡◌, ℕ, ◌<◌, ◌≤◌, List, length, slice_get}
use Rattle.std.specs.Prelude.{Option, Some, None, if◌then◌else◌, ◌||◌, ◌==◌, nat_lt}
use Rattle.tag.specs.declared.limits.TheConstants.{MOST_MEMBERS, LONGEST_VALUE}
use Rattle.tag.specs.declared.refusal.Refusal.{Refusal}
use Rattle.tag.specs.declared.refusal.Refusal.TheVariants.{BadLayout, TooLong}
use Rattle.encoder.specs.Fragment.{piece_at_point}
use Rattle.piece.specs.declared.piece.Piece.{Piece}

-- a value that is coded into n pieces, any k of which determine it: its pieces follow from these
pub record Coding : Type 0 where
  pub k : ℕ
  pub n : ℕ
  pub value : List ℕ

-- a value may be coded with k and n: k is at least 1 and at most n, n is at most what a layout may have of members, and
-- the value is not too long
pub record IsCodable (k n : ℕ) (value : List ℕ) : Type 0 where
  pub some : 1 ≤ k
  pub within : k ≤ n
  pub most : n ≤ MOST_MEMBERS
  pub longest : length value ≤ LONGEST_VALUE

-- at each place i stands the value's piece at the point i
abbrev pub ArePieces : List ℕ → ℕ → List Piece → Type 0
ArePieces value k pieces = (i : ℕ) → i < length pieces → slice_get pieces i ≡ Some (piece_at_point value k i)

-- why a value of len bytes is not coded with k and n: first what is wrong with k and n, then with the length; none if
-- nothing is wrong
abbrev pub encode_cause : ℕ → ℕ → ℕ → Option Refusal
encode_cause k n len =
    if k == 0 || nat_lt n k || nat_lt MOST_MEMBERS n then Some BadLayout
    else (if nat_lt LONGEST_VALUE len then Some TooLong else None)
