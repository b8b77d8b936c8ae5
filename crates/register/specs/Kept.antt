-- The invariant of the type `Register`.
use Rattle.std.specs.Prelude.{◌≡◌, ℕ, ◌≤◌, Bool, ◌&&◌, not, is_some, List, length, slice_get, Some}
use Rattle.std.specs.List.{AllByRecursion, list_any}
use Rattle.tag.specs.declared.limits.TheConstants.{MOST_BYTES, MOST_CALLS, MOST_MESSAGES, MOST_PHASES, MOST_POSITIONS}
use Rattle.encoder.specs.Fragment.{fragment}
use Rattle.mail.specs.declared.message.Message.{Message}
use Rattle.mail.specs.Mail.{mail_bytes}
use Rattle.record.specs.Records.{Call, Object, base_of}
use Rattle.record.specs.Legal.{is_move, stage_of}
use Rattle.soundness.specs.Sound.{IsSound}
use Rattle.register.specs.Position.{all_bytes}
use Rattle.register.specs.Tracked.{Tracked}
use Rattle.register.specs.State.{Contents, HasNumbersAsIds, state_of}

-- whether a call is a move that is not answered
abbrev pub is_open_move : Call → Bool
is_open_move call = is_move call.kind && not (is_some call.answered)

-- whether a move is open: one of the calls is a move that is not answered
abbrev pub has_open_move : List Call → Bool
has_open_move calls = list_any is_open_move calls

-- the record is within the limits, except those that the type of a mail and the record's soundness imply
pub record IsWithinLimits (object : Object) : Type 0 where
  pub positions : length object.layouts ≤ MOST_POSITIONS
  pub calls : length object.calls ≤ MOST_CALLS
  pub phases : AllByRecursion (λ call. length call.phases ≤ MOST_PHASES) object.calls
  pub stored : all_bytes object.banks ≤ MOST_BYTES

-- the stage that is kept beside each call is the one to which its phases lead
abbrev pub AreStaged : Object → List Tracked → Type 0
AreStaged object calls = (index : ℕ) (t : Tracked) → slice_get calls index ≡ Some t
    → t.stage ≡ stage_of object index t.call

-- the invariant of `Register`: the record is sound and within the limits, and the values kept beside it agree with it
pub record IsKept (c : Contents) : Type 0 where
  pub sound : IsSound fragment (state_of c).object c.last
  pub limits : IsWithinLimits (state_of c).object
  pub based : c.base ≡ base_of (state_of c).object
  pub numbered : HasNumbersAsIds (state_of c).object
  pub staged : AreStaged (state_of c).object c.calls
  pub moving : c.is_moving ≡ has_open_move (state_of c).object.calls
  pub stored : c.stored ≡ all_bytes (state_of c).object.banks

-- if there are no more messages than may wait, there is room for their pieces
abbrev pub HasRoomIfFew : List Message → Type 0
HasRoomIfFew messages = length messages ≤ MOST_MESSAGES → mail_bytes messages ≤ MOST_BYTES
