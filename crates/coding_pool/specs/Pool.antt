-- Why a value is not encoded by several workers.
use Rattle.std.specs.Prelude.{ℕ, Option, Some, None, nat_lt, if◌then◌else◌}
use Rattle.tag.specs.declared.limits.TheConstants.{MOST_WORKERS}
use Rattle.tag.specs.declared.refusal.Refusal.{Refusal}
use Rattle.tag.specs.declared.refusal.Refusal.TheVariants.{Full}
use Rattle.encoder.specs.Coded.{encode_cause}

-- the first cause of refusal if there is one, and otherwise the second
abbrev pub first_cause : Option Refusal → Option Refusal → Option Refusal
first_cause None other = other
first_cause (Some r) other = Some r

-- why `encode_all` refuses a value of `len` bytes: as `encode` does, or otherwise as Full if there are too many workers
abbrev pub encode_all_cause : ℕ → ℕ → ℕ → ℕ → Option Refusal
encode_all_cause workers k n len =
    first_cause (encode_cause k n len) (if nat_lt MOST_WORKERS workers then Some Full else None)
