-- The records of all seats, seat by seat.
use Rattle.std.proofs.Common.{◌≡◌, ℕ, zero, suc, ◌+◌, ◌<◌, ◌≤◌, Bool, true, false, List, [], ◌∷◌, ◌++◌, length, take, get_or, Some, None}
use Rattle.std.proofs.Common.{sym, ap, ◌∙◌, subst, arith, append_assoc, length-append}
use Rattle.std.specs.Prelude.{Option, is_some, cond}
use Rattle.std.specs.List.{AllByRecursion}
use Rattle.std.proofs.lemmas.List.{append-nil, take_more}
use Rattle.std.proofs.lemmas.List.Sums.{sum_by-append, sum_by-cons}
use Rattle.call.specs.declared.receipt.Receipt.{Receipt}
use Rattle.cluster.specs.Cluster.{Cluster}
use Rattle.locked_steps.specs.declared.call_record.CallRecord.{CallRecord}
use Rattle.locked_steps.specs.Seats.{SeatState, Pending, records_of, pending_list, IsUnanswered}
use Rattle.locked_steps.specs.Closing.{AllStand, all_records, receipts_of}

pub all_append : {X : Type 0} (P : X → Type 0) (xs ys : List X) → AllByRecursion P xs → AllByRecursion P ys → AllByRecursion P (xs ++ ys)
all_append P [] ys a b = b
all_append P (x ∷ xs) ys a b = (a.0, all_append P xs ys a.1 b)

pub all_front : {X : Type 0} (P : X → Type 0) (xs ys : List X) → AllByRecursion P (xs ++ ys) → AllByRecursion P xs
all_front P [] ys a = tt
all_front P (x ∷ xs) ys a = (a.0, all_front P xs ys a.1)

pub all_back : {X : Type 0} (P : X → Type 0) (xs ys : List X) → AllByRecursion P (xs ++ ys) → AllByRecursion P ys
all_back P [] ys a = a
all_back P (x ∷ xs) ys a = all_back P xs ys a.1

-- one seat more
pub all_records-push : (ss : List SeatState) (s : SeatState) → all_records (ss ++ s ∷ []) ≡ all_records ss ++ records_of s
all_records-push [] s = append-nil (records_of s)
all_records-push (x ∷ ss) s =
    ap (λ l. records_of x ++ l) (all_records-push ss s) ∙ sym (append_assoc (records_of x) (all_records ss) (records_of s))

pub all_records_more : (ss : List SeatState) (i : ℕ) (d : SeatState) → i < length ss
    → all_records (take (i + 1) ss) ≡ all_records (take i ss) ++ records_of (get_or ss i d)
all_records_more ss i d less = ap all_records (take_more ss i d less) ∙ all_records-push (take i ss) (get_or ss i d)

pub all_seats_more : (P : SeatState → Type 0) (ss : List SeatState) (i : ℕ) (d : SeatState) → i < length ss → AllByRecursion P (take i ss)
    → P (get_or ss i d) → AllByRecursion P (take (i + 1) ss)
all_seats_more P ss i d less a b =
    subst (AllByRecursion P) (sym (take_more ss i d less)) (all_append P (take i ss) (get_or ss i d ∷ []) a (b, tt))

-- where all records stand, those of each seat do
pub stand_at : (h : Cluster) (ss : List SeatState) (i : ℕ) (d : SeatState) → i < length ss → AllStand h (all_records ss)
    → AllStand h (records_of (get_or ss i d))
stand_at h [] i d less a = absurd (omega arith)
stand_at h (s ∷ ss) zero d less a = all_front _ (records_of s) (all_records ss) a
stand_at h (s ∷ ss) (suc i) d less a = stand_at h ss i d (omega arith) (all_back _ (records_of s) (all_records ss) a)

pub length_all_records-push : (ss : List SeatState) (s : SeatState)
    → length (all_records (ss ++ s ∷ [])) ≡ length (all_records ss) + length (records_of s)
length_all_records-push ss s = ap length (all_records-push ss s) ∙ length-append (all_records ss) (records_of s)

-- a pending call has no receipt
pub receipts_alone : (rs : List CallRecord) (pending : Option Pending) → IsUnanswered pending
    → receipts_of (rs ++ pending_list pending) ≡ receipts_of rs
receipts_alone rs None h = ap receipts_of (append-nil rs)
receipts_alone rs (Some p) h =
    let one : ℕ = 1 in
    let none : cond (is_some p.kept.receipt) one 0 ≡ 0 = ap (λ (o : Option Receipt). cond (is_some o) one 0) h in
    omega (arith, sum_by-append (λ (x : CallRecord). cond (is_some x.receipt) 1 0) rs (p.kept ∷ []), none)

-- the receipts of one seat more
pub receipts_more : (ss : List SeatState) (i : ℕ) (d : SeatState) → i < length ss
    → receipts_of (all_records (take (i + 1) ss)) ≡ receipts_of (all_records (take i ss)) + receipts_of (records_of (get_or ss i d))
receipts_more ss i d less =
    ap receipts_of (all_records_more ss i d less)
    ∙ sum_by-append (λ (x : CallRecord). cond (is_some x.receipt) 1 0) (all_records (take i ss)) (records_of (get_or ss i d))

receipts_most : (rs : List CallRecord) → receipts_of rs ≤ length rs
receipts_most [] = omega arith
receipts_most (r ∷ rs) = go (is_some r.receipt) (receipts_most rs) (sum_by-cons (λ (x : CallRecord). cond (is_some x.receipt) 1 0) r rs)
  where
    go : (b : Bool) → receipts_of rs ≤ length rs → receipts_of (r ∷ rs) ≡ cond b 1 0 + receipts_of rs
        → receipts_of (r ∷ rs) ≤ suc (length rs)
    go true rest is = omega (arith, rest, is)
    go false rest is = omega (arith, rest, is)

taken_most : (n : ℕ) (ss : List SeatState) → length (all_records (take n ss)) ≤ length (all_records ss)
taken_most (suc n) (s ∷ ss) =
    let rest = taken_most n ss in
    let a = length-append (records_of s) (all_records (take n ss)) in
    omega (arith, rest, a, length-append (records_of s) (all_records ss))
taken_most _ _ = omega arith

-- there are no more receipts than records
pub receipts_few : (ss : List SeatState) (n : ℕ) → receipts_of (all_records (take n ss)) ≤ length (all_records ss)
receipts_few ss n =
    omega (arith, receipts_most (all_records (take n ss)), taken_most n ss)
