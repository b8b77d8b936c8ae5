-- Floors and steps that rise along a seat's records.
use Rattle.std.proofs.Common.{◌≡◌, ℕ, ◌+◌, ◌<◌, ◌≤◌, List, [], ◌∷◌, ◌++◌, length, Some, None, sym, ap, arith, subst, false}
use Rattle.std.proofs.Common.{length-append}
use Rattle.std.specs.Prelude.{Option, is_some}
use Rattle.std.proofs.lemmas.List.{append-nil}
use Rattle.call.specs.declared.receipt.Receipt.{Receipt}
use Rattle.locked_steps.specs.declared.call_record.CallRecord.{CallRecord}
use Rattle.locked_steps.specs.Seats.{IsRising, IsAnsweredLater, least_after, pending_list, pending_of}

-- a greater floor
pub rising_higher : (low : ℕ) (rs : List CallRecord) (high up : ℕ) → IsRising low rs high → high ≤ up → IsRising low rs up
rising_higher low [] high up h le = omega arith
rising_higher low (r ∷ rs) high up h le = (h.0, h.1, h.2, rising_higher (least_after r.floor r.receipt) rs high up h.3 le)

-- a record more, whose floor is the seat's
pub rising_push : (low : ℕ) (rs : List CallRecord) (high : ℕ) (r : CallRecord) → IsRising low rs high → r.floor ≡ high → r.floor < r.called
    → r.receipt ≡ None → IsRising low (rs ++ r ∷ []) high
rising_push low [] high r h floor later none =
    (omega arith, later, subst IsAnsweredLater (sym none) tt, (let e = ap (least_after r.floor) none in omega arith))
rising_push low (x ∷ rs) high r h floor later none =
    (h.0, h.1, h.2, rising_push (least_after x.floor x.receipt) rs high r h.3 floor later none)

-- the last record gets its receipt
pub rising_answered : (low : ℕ) (rs : List CallRecord) (high up : ℕ) (r : CallRecord) (t : Receipt) → IsRising low (rs ++ r ∷ []) high
    → t.called < t.answered → t.answered ≤ up → IsRising low (rs ++ (record r { receipt = Some t }) ∷ []) up
rising_answered low [] high up r t h later le = (h.0, h.1, later, le)
rising_answered low (x ∷ rs) high up r t h later le =
    (h.0, h.1, h.2, rising_answered (least_after x.floor x.receipt) rs high up r t h.3 later le)

-- without a pending call all records are those kept
pub records_alone : (name : List ℕ) (rs : List CallRecord) (pending : Option CallRecord) → is_some pending ≡ false
    → rs ++ pending_list (pending_of name pending) ≡ rs
records_alone name rs None h = append-nil rs
records_alone name rs (Some r) h = absurd (cc (h))

-- a seat without a pending call gets one
pub rising_begun : (name : List ℕ) (rs new : List CallRecord) (pending : Option CallRecord) (floor : ℕ) (r : CallRecord) → new ≡ rs
    → is_some pending ≡ false
    → IsRising 0 (rs ++ pending_list (pending_of name pending)) floor → r.floor ≡ floor → floor < r.called → r.receipt ≡ None
    → IsRising 0 (new ++ r ∷ []) floor
rising_begun name rs new pending floor r same none h at later unanswered =
    let kept : IsRising 0 rs floor = subst (λ (l : List CallRecord). IsRising 0 l floor) (records_alone name rs pending none) h in
    rw same (rising_push 0 rs floor r kept at (omega arith) unanswered)

pub length_begun : (name : List ℕ) (rs new : List CallRecord) (pending : Option CallRecord) (r : CallRecord) → new ≡ rs
    → is_some pending ≡ false
    → length (new ++ r ∷ []) ≡ length (rs ++ pending_list (pending_of name pending)) + 1
length_begun name rs new pending r same none =
    omega (arith, length-append new (r ∷ []), ap length same, ap length (records_alone name rs pending none))

-- the pending call of a seat gets its receipt
pub rising_settled : (name : List ℕ) (rs new : List CallRecord) (pending : Option CallRecord) (floor up : ℕ) (p r : CallRecord)
    (t : Receipt) → pending ≡ Some p
    → r ≡ record p { receipt = Some t } → new ≡ rs ++ r ∷ [] → IsRising 0 (rs ++ pending_list (pending_of name pending)) floor
    → t.called < t.answered → t.answered ≤ up
    → IsRising 0 new up
rising_settled name rs new pending floor up p r t is set same h later le =
    let now : IsRising 0 (rs ++ p ∷ []) floor =
    subst (λ (o : Option CallRecord). IsRising 0 (rs ++ pending_list (pending_of name o)) floor) is h in
    rw (same, set) (rising_answered 0 rs floor up p t now later le)

pub length_settled : (name : List ℕ) (rs new : List CallRecord) (pending : Option CallRecord) (p r : CallRecord) → pending ≡ Some p
    → new ≡ rs ++ r ∷ []
    → length new ≡ length (rs ++ pending_list (pending_of name pending))
length_settled name rs new pending p r is same = cc (length-append rs (r ∷ []), length-append rs (p ∷ []))
