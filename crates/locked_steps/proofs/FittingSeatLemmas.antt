-- Seats that fit a history account for its reads and writes.
use Rattle.std.proofs.Common.{◌≡◌, ◌≢◌, ℕ, zero, suc, ◌+◌, ◌<◌, Bool, true, false, if◌then◌else◌, List, [], ◌∷◌, ◌++◌, length, slice_get}
use Rattle.std.proofs.Common.{Some, None, refl, sym, ap, ◌∙◌, subst, arith, length-append}
use Rattle.std.specs.Prelude.{Option, MatchOption, Contains, not, ◌&&◌, ◌||◌, ◌==◌, map, option_map, slice_index_or}
use Rattle.std.specs.List.{AllByRecursion, list_any}
use Rattle.std.proofs.lemmas.Bool.{eq-eqb}
use Rattle.record.specs.declared.call.CallKind.{CallKind}
use Rattle.record.specs.declared.call.CallKind.TheVariants.{Move}
use Rattle.record.specs.declared.call.Entry.{Entry}
use Rattle.record.specs.declared.call.Operation.{Operation}
use Rattle.record.specs.declared.call.Operation.TheVariants as operation
use Rattle.record.specs.Journals.{operation_of, entry_of}
use Rattle.record.specs.Records.{Call, Object}
use Rattle.register.specs.Causes.{call_at}
use Rattle.register.specs.State.{State}
use Rattle.call.specs.declared.receipt.Receipt.{Receipt}
use Rattle.register.proofs.ListLemmas.{same_some}
use Rattle.cluster.specs.Accounts.{object_sum}
use Rattle.cluster.specs.Cluster.{Named, Cluster, if_some}
use Rattle.cluster.specs.Places.{object_at}
use Rattle.locked_steps.specs.declared.call_record.CallRecord.{CallRecord}
use Rattle.locked_steps.specs.Calls.{Shown, is_client, client_count, client_calls, entry_of_call, history, shown_calls, shown_entry}
use Rattle.locked_steps.specs.Calls.{shown_from}
use Rattle.locked_steps.specs.Calls.{told_in, written_in}
use Rattle.locked_steps.specs.Seats.{SeatState, records_of, IsRising, IsInOrder, IsAnsweredLater, least_after}
use Rattle.locked_steps.specs.Closing.{IsWrittenAs, IsToldAs, Matches, Stands, AllStand, all_records, key_of, same_key, are_distinct, Fit}
use Rattle.locked_steps.specs.Closing.{answer_of, value_returned, shown_record, IsAccounted}
use Rattle.locked_steps.proofs.SameElementsLemmas.{AreApart, contains_here, contains_there, same_elements}
use Rattle.locked_steps.proofs.SeatRecordLemmas.{all_front, all_back}

written_shown : (o : Operation) (value written : Option (List ℕ)) → IsWrittenAs o value written → written_in o value ≡ written
written_shown operation.Move value written h = absurd h
written_shown _ value written h = sym h

written_client : (k : CallKind) (value written : Option (List ℕ)) → IsWrittenAs (operation_of k) value written → is_client k ≡ true
written_client Move value written h = absurd h
written_client _ value written h = refl

told_shown : (object : ℕ) (e : Entry) (o : Option Receipt) → IsToldAs object e o → (e.answered ≡ answer_of o)
    × (told_in e.answered e.value ≡ value_returned o)
told_shown object e None h = (h, ap (λ (a : Option ℕ). told_in a e.value) h)
told_shown object e (Some t) h = (h.answered, ap (λ (a : Option ℕ). told_in a e.value) h.answered ∙ sym h.value)

-- a record shows what its entry shows
matches_shown : (e : Entry) (r : CallRecord) → Matches e r → shown_entry r.object e ≡ shown_record r
matches_shown e r m =
    let w = written_shown e.kind e.value r.written m.written in
    let t = told_shown r.object e r.receipt m.told in
    λ i. record {
      object = r.object;
      call = m.call i;
      kind = m.kind i;
      written = w i;
      called = m.called i;
      answered = t.0 i;
      told = t.1 i;
    }

contains_if : (b : Bool) (x y : Shown) (xs : List Shown) → Contains xs y → Contains (if b then x ∷ xs else xs) y
contains_if true x y xs c = contains_there x y xs c
contains_if false x y xs c = c

contains_first : (b : Bool) (x y : Shown) (xs : List Shown) → b ≡ true → x ≡ y → Contains (if b then x ∷ xs else xs) y
contains_first true x y xs is same = contains_here x y xs same
contains_first false x y xs is same = absurd (cc)

-- the entry of a call is among those shown
in_calls : (number : ℕ) (calls : List Call) (i n : ℕ) (c : Call) (r : CallRecord) → slice_get calls i ≡ Some c → n ≡ number + i
    → Matches (entry_of n c) r
    → Contains (shown_calls r.object number calls) (shown_record r)
in_calls number [] i n c r at is m = absurd (cc)
in_calls number (x ∷ xs) zero n c r at is m =
    let same : n ≡ number = omega (arith, is) in
    let it : x ≡ c = same_some x c at in
    let mine : Matches (entry_of number x) r =
    subst (λ k. Matches (entry_of k x) r) same (subst (λ (y : Call). Matches (entry_of n y) r) (sym it) m) in
    contains_first (is_client x.kind) (shown_entry r.object (entry_of number x)) (shown_record r) (shown_calls r.object (suc number) xs)
    (written_client x.kind _ r.written mine.written) (matches_shown (entry_of number x) r mine)
in_calls number (x ∷ xs) (suc i) n c r at is m =
    contains_if (is_client x.kind) (shown_entry r.object (entry_of number x)) (shown_record r) (shown_calls r.object (suc number) xs)
    (in_calls (suc number) xs i n c r at (omega (arith, is)) m)

contains_front : {X : Type 0} (xs ys : List X) (y : X) → Contains xs y → Contains (xs ++ ys) y
contains_front [] ys y c = absurd (let less = c.1 in omega (arith, less))
contains_front (x ∷ xs) ys y c = go (contains_front xs ys y) c.0 c.1 c.2
  where
    go : (Contains xs y → Contains (xs ++ ys) y) → (k : ℕ) → k < length (x ∷ xs) → slice_index_or (x ∷ xs) k y ≡ y
        → Contains (x ∷ (xs ++ ys)) y
    go rest zero less is = contains_here x y (xs ++ ys) is
    go rest (suc k) less is = contains_there x y (xs ++ ys) (rest (k, omega arith, is))

contains_back : {X : Type 0} (xs ys : List X) (y : X) → Contains ys y → Contains (xs ++ ys) y
contains_back [] ys y c = c
contains_back (x ∷ xs) ys y c = contains_there x y (xs ++ ys) (contains_back xs ys y c)

in_objects : (base : ℕ) (objects : List Named) (place : ℕ) (state : State) (r : CallRecord) → object_at objects place ≡ Some state
    → r.object ≡ base + place
    → Contains (shown_calls r.object 1 state.object.calls) (shown_record r) → Contains (shown_from base objects) (shown_record r)
in_objects base [] place state r at is c = absurd (cc)
in_objects base (o ∷ os) zero state r at is c =
    let it : o.state ≡ state = same_some o.state state at in
    let same : r.object ≡ base = omega (arith, is) in
    contains_front (shown_calls base 1 o.state.object.calls) (shown_from (suc base) os) (shown_record r)
    (subst (λ n. Contains (shown_calls n 1 o.state.object.calls) (shown_record r)) same
    (subst (λ (s : State). Contains (shown_calls r.object 1 s.object.calls) (shown_record r)) (sym it) c))
in_objects base (o ∷ os) (suc place) state r at is c =
    contains_back (shown_calls base 1 o.state.object.calls) (shown_from (suc base) os) (shown_record r)
    (in_objects (suc base) os place state r at (omega (arith, is)) c)

call_found : (object : Object) (call : ℕ) (r : CallRecord)
    → MatchOption (option_map (entry_of call) (call_at object call)) ⊥ (λ e. Matches e r)
    → Contains (shown_calls r.object 1 object.calls) (shown_record r)
call_found object zero r m = absurd m
call_found object (suc i) r m = pick (slice_get object.calls i) refl m
  where
    pick : (found : Option Call) → slice_get object.calls i ≡ found → MatchOption (option_map (entry_of (suc i)) found) ⊥ (λ e. Matches e r)
        → Contains (shown_calls r.object 1 object.calls) (shown_record r)
    pick None at m = absurd m
    pick (Some c) at m = in_calls 1 object.calls i (suc i) c r at (omega arith) m

stands_found : (h : Cluster) (r : CallRecord) → Stands h r → Contains (history h) (shown_record r)
stands_found h r m = pick (object_at h.objects r.object) refl m
  where
    pick : (found : Option State) → object_at h.objects r.object ≡ found
        → MatchOption (if_some found (λ o. option_map (entry_of r.call) (call_at o r.call))) ⊥ (λ e. Matches e r)
        → Contains (history h) (shown_record r)
    pick None at m = absurd m
    pick (Some state) at m = in_objects 0 h.objects r.object state r at (omega arith) (call_found state.object r.call r m)

-- the records that stand are among the reads and writes
all_found : (h : Cluster) (rs : List CallRecord) → AllStand h rs → AllByRecursion (Contains (history h)) (map shown_record rs)
all_found h [] a = tt
all_found h (r ∷ rs) a = (stands_found h r a.0, all_found h rs a.1)

length_calls : (object number : ℕ) (calls : List Call) → length (shown_calls object number calls) ≡ client_count calls
length_calls object number [] = refl
length_calls object number (c ∷ cs) = pick (is_client c.kind) (length_calls object (suc number) cs)
  where
    pick : (b : Bool) → length (shown_calls object (suc number) cs) ≡ client_count cs
        → length (if b then shown_entry object (entry_of number c) ∷ shown_calls object (suc number) cs
        else shown_calls object (suc number) cs)
        ≡ (if b then suc (client_count cs) else client_count cs)
    pick true rest = ap suc rest
    pick false rest = rest

length_from : (base : ℕ) (objects : List Named)
    → length (shown_from base objects) ≡ object_sum (λ o. client_count o.state.object.calls) objects
length_from base [] = refl
length_from base (o ∷ os) =
    let one = length_calls base 1 o.state.object.calls in
    let rest = length_from (suc base) os in
    let both = length-append (shown_calls base 1 o.state.object.calls) (shown_from (suc base) os) in
    omega (arith, one, rest, both)

length_history : (h : Cluster) → length (history h) ≡ client_calls h
length_history h = length_from 0 h.objects

pub and_true : (a b : Bool) → (a && b) ≡ true → (a ≡ true) × (b ≡ true)
and_true true b e = (refl, e)
and_true false b e = absurd (cc (e))

pub not_true : (a : Bool) → not a ≡ true → a ≡ false
not_true true e = absurd (cc (e))
not_true false e = refl

pub or_false : (a b : Bool) → (a || b) ≡ false → (a ≡ false) × (b ≡ false)
or_false true b e = absurd (cc (e))
or_false false b e = (refl, e)

same_key-refl : (a b : ℕ × ℕ) → a.0 ≡ b.0 → a.1 ≡ b.1 → same_key a b ≡ true
same_key-refl a b p q = ap (λ (x : Bool). x && (a.1 == b.1)) (eq-eqb a.0 b.0 p) ∙ eq-eqb a.1 b.1 q

apart_from : (r : CallRecord) (rs : List CallRecord) → list_any (λ q. same_key q (key_of r)) (map key_of rs) ≡ false
    → AllByRecursion (λ y. shown_record r ≢ y) (map shown_record rs)
apart_from r [] h = tt
apart_from r (x ∷ xs) h =
    let t = or_false (same_key (key_of x) (key_of r)) (list_any (λ q. same_key q (key_of r)) (map key_of xs)) h in (
      λ e. (let k =
          same_key-refl (key_of x) (key_of r) (ap (λ (s : Shown). s.object) (sym e)) (ap (λ (s : Shown). s.call) (sym e)) in absurd
          (cc (k, t.0))),
      apart_from r xs t.1,
    )

-- records of different calls are apart
all_apart : (rs : List CallRecord) → are_distinct (map key_of rs) ≡ true → AreApart (map shown_record rs)
all_apart [] h = tt
all_apart (r ∷ rs) h =
    let t = and_true (not (list_any (λ q. same_key q (key_of r)) (map key_of rs))) (are_distinct (map key_of rs)) h in
    (apart_from r rs (not_true _ t.0), all_apart rs t.1)

own_called : (object : ℕ) (o : Option Receipt) (e : Entry) (called : ℕ) → IsToldAs object e o → e.called ≡ called
    → MatchOption o (Unit {0}) (λ t. t.called ≡ called)
own_called object None e called h is = tt
own_called object (Some t) e called h is = h.called ∙ is

stands_called : (o : Option Entry) (r : CallRecord) → MatchOption o ⊥ (λ e. Matches e r)
    → MatchOption r.receipt (Unit {0}) (λ t. t.called ≡ r.called)
stands_called None r h = absurd h
stands_called (Some e) r h = own_called r.object r.receipt e r.called h.told h.called

told_order : (o : Option Receipt) (floor called : ℕ) → floor < called → IsAnsweredLater o
    → MatchOption o (Unit {0}) (λ t. t.called ≡ called) → MatchOption o (Unit {0}) (λ t. (floor < t.called) × (t.called < t.answered))
told_order None floor called less later own = tt
told_order (Some t) floor called less later own = (omega arith, later)

-- a seat's records that stand are in order
pub in_order : (h : Cluster) (low : ℕ) (rs : List CallRecord) (high : ℕ) → IsRising low rs high → AllStand h rs → IsInOrder low rs high
in_order h low [] high r a = r
in_order h low (x ∷ xs) high r a = (
  r.0,
  told_order x.receipt x.floor x.called r.1 r.2 (stands_called (entry_of_call h x.object x.call) x a.0),
  in_order h (least_after x.floor x.receipt) xs high r.3 a.1,
)

all_in_order : (h : Cluster) (ss : List SeatState) → AllByRecursion (λ s. IsRising 0 (records_of s) s.floor) ss
    → AllStand h (all_records ss) → AllByRecursion (λ s. IsInOrder 0 (records_of s) s.floor) ss
all_in_order h [] r a = tt
all_in_order h (s ∷ ss) r a = (
  in_order h 0 (records_of s) s.floor r.0 (all_front _ (records_of s) (all_records ss) a),
  all_in_order h ss r.1 (all_back _ (records_of s) (all_records ss) a),
)

same_length : (rs : List CallRecord) → length (map shown_record rs) ≡ length rs
same_length [] = refl
same_length (r ∷ rs) = ap suc (same_length rs)

-- as many records as there are reads and writes, each apart and each standing
pub accounted : (n : ℕ) (h : Cluster) (ss : List SeatState) → Fit n h ss → AllByRecursion (λ s. IsRising 0 (records_of s) s.floor) ss
    → client_calls h ≡ length (all_records ss) → IsAccounted h ss
accounted n h ss f r count =
    let rs = all_records ss in
    let one = length_history h in
    let three = same_length rs in
    record {
      same = same_elements (map shown_record rs) (history h) (all_apart rs f.distinct) (all_found h rs f.stand) (omega arith);
      order = all_in_order h ss r f.stand;
    }
