-- What a client's calls leave in its seat, how many receipts that are, and what the administrator's moves leave.
use Rattle.std.proofs.Common.{◌≡◌, ℕ, zero, suc, ◌+◌, ◌*◌, List, [], ◌∷◌, ◌++◌, length, Option, Some, None, Result, Ok, Err, IfOk, refl}
use Rattle.std.proofs.Common.{sym, ap, ◌∙◌, subst, arith}
use Rattle.std.specs.Prelude.{cond, is_some}
use Rattle.std.specs.List.{AllByRecursion}
use Rattle.std.proofs.Math.Nat.{suc-mul}
use Rattle.std.proofs.lemmas.List.{append-nil}
use Rattle.std.proofs.lemmas.List.Sums.{sum_by-append}
use Rattle.tag.specs.declared.refusal.Refusal.{Refusal}
use Rattle.call.specs.declared.receipt.Receipt.{Receipt}
use Rattle.locked_steps.specs.declared.call_record.CallRecord.{CallRecord}
use Rattle.cluster.specs.Cluster.{Cluster}
use Rattle.locked_steps.specs.Closing.{all_records, receipts_of}
use Rattle.locked_steps.specs.Moves.{AdminState}
use Rattle.locked_steps.specs.Seats.{SeatState, SettlesPending, record_begun, pending_list, new_seat, new_seats, records_of, with_pending}
use Rattle.locked_steps.proofs.SeatRecordLemmas.{all_append, all_back, all_front}
use Rattle.soak_plan.specs.Call.{object_called}
use Rattle.soak.specs.Closed.{IsClosed, IsOfClosed}
use Rattle.soak.specs.Made.{HasMade, IsUnusedSeat, Makes, MakesAll, MakesMove, MovesAll, call_begun_by}
use Rattle.soak_parts.specs.Summary.{IsSummaryOf}
use Rattle.soak_plan.specs.declared.plan.Plan.{Plan}
use Rattle.soak_parts.specs.declared.summary.Summary.{Summary}

-- one call more
pub MakesAll-more : (first : Cluster) (n : ℕ) (s between t : SeatState) → MakesAll first n s between → Makes first n between t
    → MakesAll first (n + 1) s t
MakesAll-more first n s between t before last =
    let next : suc n ≡ n + 1 = omega arith in subst (λ k. MakesAll first k s t) next (between, before, last)

-- one move more
pub MovesAll-more : (first : Cluster) (n : ℕ) (a between b : AdminState) → MovesAll first n a between
    → MakesMove first n between b → MovesAll first (n + 1) a b
MovesAll-more first n a between b before last =
    let next : suc n ≡ n + 1 = omega arith in subst (λ k. MovesAll first k a b) next (between, before, last)

-- the last of a list is taken off
pub all_popped : {X : Type 0} (P : X → Type 0) (xs rest : List X) (x : X) → xs ≡ rest ++ x ∷ [] → AllByRecursion P xs
    → AllByRecursion P rest × P x
all_popped P xs rest x is all =
    let both = subst (AllByRecursion P) is all in (all_front P rest (x ∷ []) both, (all_back P rest (x ∷ []) both).0)

-- one is put behind a list
pub all_pushed : {X : Type 0} (P : X → Type 0) (xs more : List X) (x : X) → more ≡ xs ++ x ∷ [] → AllByRecursion P xs → P x
    → AllByRecursion P more
all_pushed P xs more x is all here = subst (AllByRecursion P) (sym is) (all_append P xs (x ∷ []) all (here, tt))

-- the seats of a new store are new
pub new_seats-new : (n : ℕ) → AllByRecursion IsUnusedSeat (new_seats n)
new_seats-new zero = tt
new_seats-new (suc n) = all_append IsUnusedSeat (new_seats n) (new_seat n ∷ []) (new_seats-new n) (refl, tt)

receipts-append : (xs ys : List CallRecord) → receipts_of (xs ++ ys) ≡ receipts_of xs + receipts_of ys
receipts-append xs ys = sum_by-append (λ (x : CallRecord). cond (is_some x.receipt) 1 0) xs ys

-- every call has its receipt, and none is left open
record Counts (n : ℕ) (t : SeatState) : Type 0 where
  receipts : receipts_of t.records ≡ n
  settled : t.pending ≡ None

settles-counts : (n number : ℕ) (s t : SeatState) (r : Receipt) (p : CallRecord) (name : List ℕ) → Counts n s
    → SettlesPending (with_pending s name p).pending (with_pending s name p) r t → Counts (n + 1) t
settles-counts n number s t r p name was settles =
    let is = settles.3 in
    let one = receipts-append s.records ((record p { receipt = Some r }) ∷ []) in
    let before = was.receipts in
    let after : receipts_of t.records ≡ receipts_of (s.records ++ (record p { receipt = Some r }) ∷ []) =
    ap (λ (u : SeatState). receipts_of u.records) is in
    record { receipts = omega (arith, one, before, after); settled = ap (λ (u : SeatState). u.pending) is }

MakesAll-counts : (first : Cluster) (n number : ℕ) (t : SeatState) → MakesAll first n (new_seat number) t → Counts n t
MakesAll-counts first zero number t is =
    record { receipts = ap (λ (u : SeatState). receipts_of u.records) is; settled = ap (λ (u : SeatState). u.pending) is }
MakesAll-counts first (suc n) number t (s, before, (receipt, (b, (cluster, (state, none, is)), settles))) =
    let call = record_begun cluster (object_called n) s.floor (call_begun_by s.number n) in
    let more = settles-counts n number s t receipt call (object_called n) (MakesAll-counts first n number s before)
    (subst (λ (u : SeatState). SettlesPending u.pending u receipt t) is settles) in
    let next : n + 1 ≡ suc n = omega arith in
    subst (λ k. Counts k t) next more

HasMade-receipts : (first : Cluster) (n : ℕ) (t : SeatState) → HasMade first n t → receipts_of (records_of t) ≡ n
HasMade-receipts first n t (number, made) =
    let counts = MakesAll-counts first n number t made in
    ap (λ (o : Option _). receipts_of (t.records ++ pending_list o)) counts.settled ∙ ap receipts_of (append-nil t.records)
    ∙ counts.receipts

-- each seat has so many receipts
pub all-receipts : (first : Cluster) (n : ℕ) (seats : List SeatState) → AllByRecursion (HasMade first n) seats
    → receipts_of (all_records seats) ≡ length seats * n
all-receipts first n [] made = let none : 0 * n ≡ 0 = omega arith in sym none
all-receipts first n (s ∷ seats) made =
    let here = HasMade-receipts first n s made.0 in
    let rest = all-receipts first n seats made.1 in
    let both = receipts-append (records_of s) (all_records seats) in
    let step : suc (length seats) * n ≡ length seats * n + n = suc-mul (length seats) n in
    omega (arith, both, here, rest, step)

-- so a store that was closed gave each call of each client its receipt
pub closed-receipts : (first : Cluster) (plan : Plan) (cluster : Cluster) (receipts : ℕ) → IsClosed first plan cluster receipts
    → receipts ≡ plan.clients * plan.calls
closed-receipts first plan cluster receipts closed =
    closed.counted ∙ all-receipts first plan.calls closed.seats closed.made ∙ ap (λ k. k * plan.calls) closed.fit.numbered.length

-- a summary of such a store
pub summed_up : (first : Cluster) (plan : Plan) (cluster : Cluster) (receipts : ℕ) (result : Result Summary Refusal)
    → IsClosed first plan cluster receipts → IfOk result (λ s. IsSummaryOf cluster receipts s)
    → IfOk result (λ s. IsOfClosed first plan s)
summed_up first plan cluster receipts (Ok s) closed sums =
    record { cluster = cluster; receipts = receipts; closed = closed; sums_up = sums }
summed_up first plan cluster receipts (Err refusal) closed sums = tt

pub summed_up-receipts : (first : Cluster) (plan : Plan) (cluster : Cluster) (receipts : ℕ) (result : Result Summary Refusal)
    → IsClosed first plan cluster receipts → IfOk result (λ s. IsSummaryOf cluster receipts s)
    → IfOk result (λ s. s.receipts ≡ plan.clients * plan.calls)
summed_up-receipts first plan cluster receipts (Ok s) closed sums =
    sums.receipts ∙ closed-receipts first plan cluster receipts closed
summed_up-receipts first plan cluster receipts (Err refusal) closed sums = tt
