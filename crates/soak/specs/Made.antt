-- The contracts that docs/trusted.md lists do not depend on this file; other contracts and proofs do.
-- What a client's calls add to its seat, and what the administrator's moves do to its state.
use Rattle.std.specs.Prelude.{◌≡◌, ℕ, zero, suc, ◌%◌, ◌==◌, if◌then◌else◌}
use Rattle.call.specs.declared.receipt.Receipt.{Receipt}
use Rattle.cluster.specs.Cluster.{Cluster}
use Rattle.locked_steps.specs.Moves.{AdminState, new_admin}
use Rattle.locked_steps.specs.Seats.{SeatState, AddsAnswered, new_seat}
use Rattle.locked_steps.specs.declared.call_record.Begin.{Begin}
use Rattle.locked_steps.specs.declared.call_record.Begin.TheVariants as begin
use Rattle.client.specs.Locked.{MovesThen}
use Rattle.soak_plan.specs.Call.{object_called, value_written}
use Rattle.soak_plan.specs.Moves.{layout_after, object_moved}

-- what a client's call of this number does: an even number writes, and an odd one reads
abbrev pub call_begun_by : (client call : ℕ) → Begin
call_begun_by client call = if (call % 2) == 0 then begin.Write (value_written client call) else begin.Read

-- in a store that was opened with `first`, the seat gets one more record, of the call of this number with a receipt
abbrev pub Makes : (first : Cluster) → (call : ℕ) → SeatState → SeatState → Type 0
Makes first call s t =
    (receipt : Receipt) × AddsAnswered first s (object_called call) (call_begun_by s.number call) receipt t

-- this many calls are made in a row, the first of which has the number 0
abbrev pub MakesAll : (first : Cluster) → (count : ℕ) → SeatState → SeatState → Type 0
MakesAll first zero s t = t ≡ s
MakesAll first (suc n) s t = (between : SeatState) × MakesAll first n s between × Makes first n between t

-- no call was made with the seat
abbrev pub IsUnusedSeat : SeatState → Type 0
IsUnusedSeat s = s ≡ new_seat s.number

-- the seat was new, and this many calls were made with it in a store that was opened with `first`
abbrev pub HasMade : (first : Cluster) → (count : ℕ) → SeatState → Type 0
HasMade first count t = (number : ℕ) × MakesAll first count (new_seat number) t

-- in a store that was opened with `first`, the move of this number is made and answered
abbrev pub MakesMove : (first : Cluster) → (number : ℕ) → AdminState → AdminState → Type 0
MakesMove first number a b =
    (receipt : Receipt) × MovesThen first a (object_moved number) (layout_after number) receipt b

-- this many moves are made in a row, the first of which has the number 0, and no other order is carried out
abbrev pub MovesAll : (first : Cluster) → (count : ℕ) → AdminState → AdminState → Type 0
MovesAll first zero a b = b ≡ a
MovesAll first (suc n) a b = (between : AdminState) × MovesAll first n a between × MakesMove first n between b

-- the administrator was that of a store just opened with `first`, and made this many moves and nothing else
abbrev pub HasMoved : (first : Cluster) → (count : ℕ) → AdminState → Type 0
HasMoved first count b = MovesAll first count (new_admin first) b
