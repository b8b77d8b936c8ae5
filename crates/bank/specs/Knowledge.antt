-- What a bank has recorded: for each event the step at which it happened, if it did. Past states follow from it.
use Rattle.std.specs.Prelude.{◌≡◌, ℕ, ◌+◌, ◌↔◌, ◌&&◌, ◌||◌, Bool, true, false, nat_le, if◌then◌else◌, Option, Some}
use Rattle.std.specs.Prelude.{None}
use Rattle.std.specs.Prelude.{IsSome, is_some, option_map, List, [], ◌∷◌}
use Rattle.std.specs.FinMap as map
use Rattle.tag.specs.declared.tag.Tag.{Tag}
use Rattle.tag.specs.Tag.{tag_lt}
use Rattle.bank.specs.declared.row.Label.{Label}
use Rattle.bank.specs.declared.row.Label.TheVariants.{PreWritten, Finalized}
use Rattle.bank.specs.declared.row.Row.{Row}
use Rattle.bank.specs.declared.status.Status.{Status}
use Rattle.bank.specs.declared.status.Status.TheVariants as status
use Rattle.bank.specs.declared.status.Pointer.{Pointer}
use Rattle.bank.specs.declared.status.Pointer.TheVariants.{Unset, Pending, Final}
use Rattle.bank.specs.declared.kind.Kind.{Kind}
use Rattle.bank.specs.declared.kind.Kind.TheVariants as kind
use Rattle.bank.specs.declared.reply.Answer.{Answer}
use Rattle.bank.specs.declared.reply.Answer.TheVariants as answer
use Rattle.bank.specs.Bank.{Bank}

-- whether the event happened at this step or earlier
abbrev pub came_by : Option ℕ → ℕ → Bool
came_by None step = false
came_by (Some came) step = nat_le came step

-- the step of the event if it happened before, and otherwise step `now`
abbrev pub since : Option ℕ → ℕ → Option ℕ
since None now = Some now
since (Some came) now = Some came

-- the step at which a label became finalized, if it did
abbrev pub final_step : Label → Option ℕ
final_step (PreWritten since) = None
final_step (Finalized since) = Some since

-- whether a label is finalized
abbrev pub is_finalized : Label → Bool
is_finalized l = is_some (final_step l)

-- the step at which the tag of a row was finalized, if it was
abbrev pub row_finalized : Option Row → Option ℕ
row_finalized None = None
row_finalized (Some r) = final_step r.label

-- the step at which the bank finalized a tag, if it did
abbrev pub finalized_at : Bank → Tag → Option ℕ
finalized_at b tag = row_finalized (map.get b.rows tag)

-- the step at which the first piece for the tag of a row arrived, if one did
abbrev pub row_arrived : Option Row → Option ℕ
row_arrived None = None
row_arrived (Some r) = option_map (λ a. a.step) r.arrival

-- the step at which the first piece for a tag arrived at the bank, if one did
abbrev pub arrived_at : Bank → Tag → Option ℕ
arrived_at b tag = row_arrived (map.get b.rows tag)

-- the step at which the pointer stopped being unset, if it did
abbrev pub pending_since : Pointer → Option ℕ
pending_since Unset = None
pending_since (Pending since) = Some since
pending_since (Final pending since) = Some pending

-- the step at which the pointer became final, if it did
abbrev pub final_since : Pointer → Option ℕ
final_since Unset = None
final_since (Pending since) = None
final_since (Final pending since) = Some since

-- the bank had finalized the tag just after this step
abbrev pub HasFinalized : Bank → Tag → ℕ → Type 0
HasFinalized b tag step = came_by (finalized_at b tag) step ≡ true

-- a piece for the tag had arrived at the bank just after this step
abbrev pub HadPiece : Bank → Tag → ℕ → Type 0
HadPiece b tag step = came_by (arrived_at b tag) step ≡ true

-- the status of the pointer just after this step
abbrev pub pointer_at : Bank → ℕ → Status
pointer_at b step = if came_by (final_since b.pointer) step then status.Final else
    (if came_by (pending_since b.pointer) step then status.Pending else status.Unset)

-- whether the first status is at most the second, in the order unset, pending, final
abbrev pub status_le : Status → Status → Bool
status_le status.Unset t = true
status_le status.Pending status.Unset = false
status_le status.Pending t = true
status_le status.Final status.Final = true
status_le status.Final t = false

-- how many of the entries have a greater tag and a label that passes the test
abbrev pub count_above : (Label → Bool) → Tag → List (Tag × Row) → ℕ
count_above test tag [] = 0
count_above test tag (e ∷ es) = (if tag_lt tag e.0 && test e.1.label then 1 else 0) + count_above test tag es

-- how many greater tags the bank has finalized
abbrev pub finals_above : Bank → Tag → ℕ
finals_above b tag = count_above is_finalized tag (map.entries b.rows)

-- how many greater tags the bank had finalized just after this step
abbrev pub finals_above_at : Bank → Tag → ℕ → ℕ
finals_above_at b tag step = count_above (λ l. came_by (final_step l) step) tag (map.entries b.rows)

-- whether there is a delta, and the number of greater finalized tags is at least delta + 1
abbrev pub exceeds : Option ℕ → ℕ → Bool
exceeds None greater = false
exceeds (Some delta) greater = nat_le (delta + 1) greater

-- whether the tag's pieces are to be dropped: the bank is retired, or finalized the tag and delta + 1 or more above it
abbrev pub is_dropped : Bank → Tag → Bool
is_dropped b tag = is_some b.retired || (is_some (finalized_at b tag) && exceeds b.delta (finals_above b tag))

-- whether the bank was to drop pieces of the tag just after this step, by the same rule
abbrev pub is_dropped_at : Bank → Tag → ℕ → Bool
is_dropped_at b tag step =
    came_by b.retired step || (came_by (finalized_at b tag) step && exceeds b.delta (finals_above_at b tag step))

-- the bank held a piece for the tag just after this step
abbrev pub HoldsPiece : Bank → Tag → ℕ → Type 0
HoldsPiece b tag step = HadPiece b tag step × (is_dropped_at b tag step ≡ false)

-- the answer to a request of this kind is true: it states what was so just after step `made`
abbrev pub IsTrueAnswer : Bank → ℕ → Kind → Answer → Type 0
IsTrueAnswer b made kind.Next (answer.Pointer found) = pointer_at b made ≡ found
IsTrueAnswer b made (kind.Spread found) answer.Done = status_le found (pointer_at b made) ≡ true
IsTrueAnswer b made kind.Query (answer.Greatest tag) =
    HasFinalized b tag made × ((other : Tag) → HasFinalized b other made → tag_lt tag other ≡ false)
IsTrueAnswer b made (kind.PreWrite tag) answer.Done = HadPiece b tag made
IsTrueAnswer b made (kind.Finalize tag) answer.Done = HasFinalized b tag made
IsTrueAnswer b made (kind.Fetch tag) (answer.Piece piece) =
    HasFinalized b tag made × (IsSome piece ↔ HoldsPiece b tag made)
IsTrueAnswer b made k a = ⊥
