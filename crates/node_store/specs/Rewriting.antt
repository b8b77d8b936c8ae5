-- What a log has after it was written anew.
use Rattle.std.specs.Prelude.{◌≡◌, ◌⊎◌, ◌+◌, ◌-◌, ◌*◌, ◌^◌, ◌≤◌, ℕ, List, length, min, Option, Some, None, Result, Ok}
use Rattle.std.specs.Prelude.{Err, ⊤}
use Rattle.std.specs.Io.KnownBytes.{Appends, Keeps}
use Rattle.node_log.specs.Entry.{chain_behind, first_chain}
use Rattle.node_store.specs.Recovery.{log_bytes}
use Rattle.node_store.specs.declared.end.LogEnd.{LogEnd}
use Rattle.node_store.specs.declared.rewriting.Rewriting.{Rewriting}
use Rattle.node_store.specs.declared.rewriting.Rewriting.TheVariants as ends

-- if the bytes of a log are known, those of its second log are known too, and are these
abbrev pub IsBeside : Option (List ℕ) → (second : Option (List ℕ)) → List ℕ → Type 0
IsBeside None second bytes = ⊤
IsBeside (Some log) second bytes = second ≡ Some bytes

-- known bytes are replaced by those of a second log
abbrev pub Becomes : Option (List ℕ) → Option (List ℕ) → Option (List ℕ) → Type 0
Becomes None new second = ⊤
Becomes (Some bytes) new second = new ≡ second

-- known bytes stay as they are, or are replaced by those of a second log
abbrev pub KeepsOrBecomes : Option (List ℕ) → Option (List ℕ) → Option (List ℕ) → Type 0
KeepsOrBecomes old new second = Keeps old new ⊎ Becomes old new second

-- a log with these entries alone ends here
pub record IsEndOf (entries : List (List (List ℕ))) (end : LogEnd) : Type 0 where
  pub long : end.length ≡ length (log_bytes first_chain entries)
  pub chained : end.chain.state ≡ chain_behind first_chain entries

-- what the log keeps after it was to be written anew, of these entries: these; or what it kept before; or one of the
-- two
abbrev pub HasRewritten : {E : Type 0} → (old new : Option (List ℕ)) → List (List (List ℕ)) → Result Rewriting E
    → Type 0
HasRewritten old new entries (Ok (ends.Done end)) =
    Becomes old new (Some (log_bytes first_chain entries)) × IsEndOf entries end
HasRewritten old new entries (Ok (ends.GivenUp error)) = new ≡ old
HasRewritten old new entries (Err error) = KeepsOrBecomes old new (Some (log_bytes first_chain entries))

-- a log of so many bytes has become one of so many bytes: at least twice as many, and at least 16 MiB more
abbrev pub HasGrown : (before now : ℕ) → Type 0
HasGrown before now = (2 * before ≤ now) × (before + 16_777_216 ≤ now)

-- a log of so many bytes grew, and has become one of so many bytes, or of 2^64 - 1 if it has more
abbrev pub HasLengthened : (old new : Option (List ℕ)) → (before now : ℕ) → Type 0
HasLengthened old new before now =
    (bytes : List ℕ) × Appends old new bytes × (now ≡ min (before + length bytes) (2 ^ 64 - 1))
