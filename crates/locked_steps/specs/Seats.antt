-- A seat's state: the records of its calls, and how its calls change it.
use Rattle.std.specs.Prelude.{◌≡◌, ℕ, zero, suc, ◌<◌, ◌≤◌, nat_le, not, is_some, List, [], ◌∷◌, ◌++◌, length}
use Rattle.std.specs.Prelude.{Option, Some, None, MatchOption, max}
use Rattle.std.specs.Option.{option_map_or}
use Rattle.tag.specs.Cause.{IsRefusalBy}
use Rattle.tag.specs.declared.refusal.Refusal.{Refusal}
use Rattle.tag.specs.declared.refusal.Refusal.TheVariants.{NotNow, Stranger}
use Rattle.record.specs.declared.call.Operation.{Operation}
use Rattle.record.specs.declared.call.Operation.TheVariants as operation
use Rattle.record.specs.Records.{Object}
use Rattle.record.specs.Steps.{Step}
use Rattle.register.specs.Causes.{unless, read_cause, write_cause}
use Rattle.register.specs.State.{State}
use Rattle.call.specs.declared.receipt.Receipt.{Receipt}
use Rattle.cluster.specs.Cluster.{Cluster, named, place_of}
use Rattle.cluster.specs.Causes.{next, object_cause}
use Rattle.locked_steps.specs.Course.{IsStateOf}
use Rattle.locked_steps.specs.Moves.{one_more}
use Rattle.locked_steps.specs.declared.call_record.CallRecord.{CallRecord}
use Rattle.locked_steps.specs.declared.call_record.Begin.{Begin}
use Rattle.locked_steps.specs.declared.call_record.Begin.TheVariants as begin

-- a pending call, one neither answered nor abandoned, with the name of its object
pub record Pending : Type 0 where
  pub name : List ℕ
  pub kept : CallRecord

-- a seat: its number, the greatest answer step that it has seen, how many rounds of its calls asked again, its answered
-- and abandoned calls, and its pending call
pub record SeatState : Type 0 where
  pub number : ℕ
  pub floor : ℕ
  pub asked : ℕ
  pub records : List CallRecord
  pub pending : Option Pending

-- the pending call of this object with this record; none if there is no record
abbrev pub pending_of : List ℕ → Option CallRecord → Option Pending
pending_of name None = None
pending_of name (Some r) = Some (record { name = name; kept = r })

-- the record of the pending call as a list, which is empty if none is pending
abbrev pub pending_list : Option Pending → List CallRecord
pending_list None = []
pending_list (Some p) = p.kept ∷ []

-- all records of a seat, in the order of their calls
abbrev pub records_of : SeatState → List CallRecord
records_of s = s.records ++ pending_list s.pending

-- a pending call has no receipt
abbrev pub IsUnanswered : Option Pending → Type 0
IsUnanswered pending = MatchOption pending (Unit {0}) (λ p. p.kept.receipt ≡ None)

-- the lower bound for the next call's floor: the answer step, or this call's floor if it has no answer
abbrev pub least_after : ℕ → Option Receipt → ℕ
least_after floor receipt = option_map_or (λ t. t.answered) receipt floor

-- if there is a receipt, its answer is later than its call
abbrev pub IsAnsweredLater : Option Receipt → Type 0
IsAnsweredLater receipt = MatchOption receipt (Unit {0}) (λ t. t.called < t.answered)

-- floors, calls and answers rise from record to record, up to the seat's floor
abbrev pub IsRising : ℕ → List CallRecord → ℕ → Type 0
IsRising low [] high = low ≤ high
IsRising low (r ∷ rs) high =
    (low ≤ r.floor) × (r.floor < r.called) × IsAnsweredLater r.receipt
    × IsRising (least_after r.floor r.receipt) rs high

-- no floor is below an earlier one, and the seat's floor is not below any; in a record with a receipt, floor, call and
-- answer rise, and no later floor is below that answer
abbrev pub IsInOrder : ℕ → List CallRecord → ℕ → Type 0
IsInOrder low [] high = low ≤ high
IsInOrder low (r ∷ rs) high =
    (low ≤ r.floor) × MatchOption r.receipt (Unit {0}) (λ t. (r.floor < t.called) × (t.called < t.answered))
    × IsInOrder (least_after r.floor r.receipt) rs high

-- How a seat's calls change it

-- what a call does that begins so: it reads or it writes
abbrev pub begun_operation : Begin → Operation
begun_operation begin.Read = operation.Read
begun_operation (begin.Write value) = operation.Write

-- the value that such a call writes; none for a read
abbrev pub written_of : Begin → Option (List ℕ)
written_of begin.Read = None
written_of (begin.Write value) = Some value

-- the length of the value that such a call writes; 0 for a read
abbrev pub written_len : Begin → ℕ
written_len begin.Read = 0
written_len (begin.Write value) = length value

-- the step that begins such a call, with this id
abbrev pub call_step : (id : ℕ) → Begin → Step
call_step id begin.Read = Step.CallRead id
call_step id (begin.Write value) = Step.CallWrite id value

-- how many calls an object has; 0 if there is no object
abbrev pub call_count : Option State → ℕ
call_count None = 0
call_count (Some state) = length state.object.calls

-- the record of a call that begins now
abbrev pub record_begun : Cluster → (name : List ℕ) → (floor : ℕ) → Begin → CallRecord
record_begun cluster name floor what = record {
  object = place_of cluster.objects name;
  call = suc (call_count (named cluster.objects name));
  kind = begun_operation what;
  written = written_of what;
  floor = floor;
  called = suc cluster.counter;
  receipt = None;
}

-- the seat with this call pending
abbrev pub with_pending : SeatState → (name : List ℕ) → CallRecord → SeatState
with_pending s name r = record s { pending = Some (record { name = name; kept = r }) }

-- the seat after its pending call is answered with this receipt
abbrev pub settled : SeatState → CallRecord → Receipt → SeatState
settled s r t =
    record s {
      floor = max s.floor t.answered;
      records = s.records ++ (record r { receipt = Some t }) ∷ [];
      pending = None;
    }

-- there is a pending call, and the receipt has its number
abbrev pub IsReceiptOfPending : Option Pending → Receipt → Type 0
IsReceiptOfPending None receipt = ⊥
IsReceiptOfPending (Some p) receipt = receipt.call ≡ p.kept.call

-- the pending call gets this receipt, whose answer is later than its call and than all that the seat has seen
abbrev pub SettlesPending : Option Pending → SeatState → Receipt → SeatState → Type 0
SettlesPending None s receipt t = ⊥
SettlesPending (Some p) s receipt t =
    (receipt.call ≡ p.kept.call) × (receipt.called < receipt.answered) × (s.floor < receipt.answered)
    × (t ≡ settled s p.kept receipt)

-- the seat after one more round of a call that asked again
abbrev pub asked_once : SeatState → SeatState
asked_once s = record s { asked = one_more s.asked }

-- the seat after its pending call is abandoned, so that it stays without an answer
abbrev pub abandoned : SeatState → SeatState
abandoned s = record s { records = records_of s; pending = None }

-- the seat after it has learnt of the answer of another seat's call
abbrev pub learnt : SeatState → Receipt → SeatState
learnt s t = record s { floor = max s.floor t.answered }

-- the seat of this number in a new store
abbrev pub new_seat : ℕ → SeatState
new_seat number = record { number = number; floor = 0; asked = 0; records = []; pending = None }

-- the seats of a new store
abbrev pub new_seats : ℕ → List SeatState
new_seats zero = []
new_seats (suc n) = new_seats n ++ new_seat n ∷ []

-- Why a seat's call is refused

-- Stranger if the seat has seen a later step than the cluster has made; otherwise the later cause
abbrev pub unless_stranger : Cluster → SeatState → Option Refusal → Option Refusal
unless_stranger cluster s later = unless (nat_le s.floor cluster.counter) Stranger later

-- why an object does not begin such a call
abbrev pub calling_cause : Begin → (now : ℕ) → Object → Option Refusal
calling_cause begin.Read now object = read_cause now object
calling_cause (begin.Write value) now object = write_cause value now object

-- why a seat does not begin such a call of the object of this name
abbrev pub begin_cause : Cluster → SeatState → (name : List ℕ) → Begin → Option Refusal
begin_cause cluster s name what =
    unless_stranger cluster s
    (object_cause cluster name
    (λ object. unless (not (is_some s.pending)) NotNow (calling_cause what (next cluster) object)))

-- the seat gets one more record, of a call that begins in some state of the cluster and stays pending
abbrev pub AddsPending : (first : Cluster) → SeatState → (name : List ℕ) → Begin → SeatState → Type 0
AddsPending first s name what new =
    (cluster : Cluster)
    × (IsStateOf first cluster × (begin_cause cluster s name what ≡ None)
    × (new ≡ with_pending s name (record_begun cluster name s.floor what)))

-- the seat gets one more record, of a call that begins in some state of the cluster and gets this receipt
abbrev pub AddsAnswered : (first : Cluster) → SeatState → (name : List ℕ) → Begin → Receipt → SeatState → Type 0
AddsAnswered first s name what receipt new =
    (begun_seat : SeatState)
    × AddsPending first s name what begun_seat × SettlesPending begun_seat.pending begun_seat receipt new

-- in some state of the cluster the call is refused with this refusal, by its cause or for want of memory
abbrev pub BeginsNot : (first : Cluster) → SeatState → (name : List ℕ) → Begin → Refusal → Type 0
BeginsNot first s name what r =
    (cluster : Cluster) × (IsStateOf first cluster × IsRefusalBy (begin_cause cluster s name what) r)
