-- What the close of a store compares, and what it then guarantees.
use Rattle.std.specs.Prelude.{◌≡◌, ◌<◌, ℕ, Bool, true, not, ◌&&◌, ◌==◌, List, [], ◌∷◌, ◌++◌, length, Option, Some, None}
use Rattle.std.specs.Prelude.{MatchOption, is_some, map, count_by}
use Rattle.std.specs.List.{AllByRecursion, list_any}
use Rattle.std.specs.List.Sorted.{IsPermutation}
use Rattle.record.specs.declared.call.Entry.{Entry}
use Rattle.record.specs.declared.call.Operation.{Operation}
use Rattle.record.specs.declared.call.Operation.TheVariants as operation
use Rattle.call.specs.declared.receipt.Receipt.{Receipt}
use Rattle.cluster.specs.Cluster.{Cluster}
use Rattle.locked_steps.specs.declared.call_record.CallRecord.{CallRecord}
use Rattle.locked_steps.specs.Calls.{Shown, entry_of_call, history}
use Rattle.locked_steps.specs.Seats.{SeatState, records_of, IsInOrder}

-- the written value of a record is the value of a write's entry, and none for a read
abbrev pub IsWrittenAs : Operation → Option (List ℕ) → Option (List ℕ) → Type 0
IsWrittenAs operation.Read value written = written ≡ None
IsWrittenAs operation.Write value written = written ≡ value
IsWrittenAs operation.Move value written = ⊥

-- the receipt has the fields of the entry, of the object at this index
pub record IsReceiptOf (place : ℕ) (e : Entry) (t : Receipt) : Type 0 where
  pub object : t.object ≡ place
  pub kind : t.kind ≡ e.kind
  pub call : t.call ≡ e.call
  pub called : t.called ≡ e.called
  pub answered : e.answered ≡ Some t.answered
  pub value : t.value ≡ e.value

-- the entry is unanswered if there is no receipt, and is answered as the receipt says if there is one
abbrev pub IsToldAs : (place : ℕ) → Entry → Option Receipt → Type 0
IsToldAs place e None = e.answered ≡ None
IsToldAs place e (Some t) = IsReceiptOf place e t

-- the entry agrees with the record of the call
pub record Matches (e : Entry) (r : CallRecord) : Type 0 where
  pub call : e.call ≡ r.call
  pub kind : e.kind ≡ r.kind
  pub called : e.called ≡ r.called
  pub written : IsWrittenAs e.kind e.value r.written
  pub told : IsToldAs r.object e r.receipt

-- the record's call is in the history, and its entry agrees with the record
abbrev pub Stands : Cluster → CallRecord → Type 0
Stands cluster r = MatchOption (entry_of_call cluster r.object r.call) ⊥ (λ e. Matches e r)

-- each of these records agrees with the history
abbrev pub AllStand : Cluster → List CallRecord → Type 0
AllStand cluster records = AllByRecursion (Stands cluster) records

-- the records of all seats
abbrev pub all_records : List SeatState → List CallRecord
all_records [] = []
all_records (s ∷ seats) = records_of s ++ all_records seats

-- the call of a record: its object and its number
abbrev pub key_of : CallRecord → ℕ × ℕ
key_of r = (r.object, r.call)

-- whether these are the same call of the same object
abbrev pub same_key : ℕ × ℕ → ℕ × ℕ → Bool
same_key a b = (a.0 == b.0) && (a.1 == b.1)

-- whether no call occurs twice
abbrev pub are_distinct : List (ℕ × ℕ) → Bool
are_distinct [] = true
are_distinct (k ∷ ks) = not (list_any (λ q. same_key q k) ks) && are_distinct ks

-- there are this many seats, and their numbers are those below the count, each once
pub record AreAllSeats (count : ℕ) (seats : List SeatState) : Type 0 where
  pub length : length seats ≡ count
  pub once : (k : ℕ) → k < count → count_by (λ s. s.number == k) seats ≡ 1

-- the seats fit the history: all are there, their records agree with it, and no call is recorded twice
pub record Fit (count : ℕ) (cluster : Cluster) (seats : List SeatState) : Type 0 where
  pub numbered : AreAllSeats count seats
  pub stand : AllStand cluster (all_records seats)
  pub distinct : are_distinct (map key_of (all_records seats)) ≡ true

-- the step of the answer; none if there is no receipt
abbrev pub answer_of : Option Receipt → Option ℕ
answer_of None = None
answer_of (Some t) = Some t.answered

-- the value that was returned; none if there is no receipt
abbrev pub value_returned : Option Receipt → Option (List ℕ)
value_returned None = None
value_returned (Some t) = t.value

-- what the record of a call shows
abbrev pub shown_record : CallRecord → Shown
shown_record r = record {
  object = r.object;
  call = r.call;
  kind = r.kind;
  written = r.written;
  called = r.called;
  answered = answer_of r.receipt;
  told = value_returned r.receipt;
}

-- the reads and writes of the history are the seats' records, each once; each seat's calls are in the records' order
pub record IsAccounted (cluster : Cluster) (seats : List SeatState) : Type 0 where
  pub same : IsPermutation (map shown_record (all_records seats)) (history cluster)
  pub order : AllByRecursion (λ s. IsInOrder 0 (records_of s) s.floor) seats

-- how many records have a receipt
abbrev pub receipts_of : List CallRecord → ℕ
receipts_of records = count_by (λ r. is_some r.receipt) records
