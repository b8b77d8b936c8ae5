-- A list without repeats that names as many answered calls as there are names them all.
use Rattle.std.proofs.Common.{nat_eq, ◌≡◌, ℕ, zero, suc, ◌+◌, ◌<◌, ◌≤◌, ◌⊎◌, ◌≢◌}
use Rattle.std.proofs.Common.{Bool, true, false, cond, ◌&&◌, ◌||◌, List, [], ◌∷◌, length, get_or, take}
use Rattle.std.proofs.Common.{count_by, IsSome, IsTrue, is_some, refl, ap, sym, ◌∙◌, subst, inl, inr, arith}
use Rattle.std.specs.List.{IsDistinct}
use Rattle.std.proofs.Math.Seq.{take-length}
use Rattle.std.proofs.lemmas.Bool.{cases_eq, cases_lt, cases_Bool, and_parts, and_from, and_right, or_left, eq-eqb, ne_eqb}
use Rattle.std.proofs.lemmas.List.{get_or_past}
use Rattle.std.proofs.lemmas.List.Sums.{sum_by-cons, count_by_more_yes, count_by_more_no}
use Rattle.std.proofs.lemmas.Map.Keys.{IsDistinct-tail}
use Rattle.layout.specs.Quorum.{has}
use Rattle.layout.proofs.DistinctMemberLemmas.{has-head}
use Rattle.record.specs.declared.call.Entry.{Entry}
use Rattle.record.specs.declared.call.Operation.{Operation}
use Rattle.record.specs.declared.call.Operation.TheVariants as operation
use Rattle.atomicity.specs.Atomic.{no_entry, entry_at}
use Rattle.history.specs.Check.{MayAllStand, entries_listed, must_stand_as, must_stand}
use Rattle.history.proofs.PairwiseByPlaceLemmas.{is_call}

abbrev one : Bool → ℕ
one b = cond b 1 0

-- how many numbers below n pass f
abbrev pub tally : (ℕ → Bool) → ℕ → ℕ
tally f zero = 0
tally f (suc n) = one (f n) + tally f n

tally_none : (f : ℕ → Bool) → ((i : ℕ) → f i ≡ false) → (n : ℕ) → tally f n ≡ 0
tally_none f none zero = refl
tally_none f none (suc n) = rw (none n, tally_none f none n) refl

tally_same : (f g : ℕ → Bool) (n : ℕ) → ((i : ℕ) → i < n → f i ≡ g i) → tally f n ≡ tally g n
tally_same f g zero same = refl
tally_same f g (suc n) same = rw (same n (omega arith), tally_same f g n (λ i h. same i (omega arith))) refl

-- f and g agree but at y, where g is false
tally_more : (f g : ℕ → Bool) (y n : ℕ) → y < n → g y ≡ false → ((i : ℕ) → i ≢ y → f i ≡ g i) →
    tally f n ≡ one (f y) + tally g n
tally_more f g y zero h none same = absurd (omega arith)
tally_more f g y (suc n) h none same = elim (cases_eq n y) [
  | inl e ↦
      let below : tally f n ≡ tally g n = tally_same f g n (λ i lower. same i (omega arith)) in
      let here : f n ≡ f y = ap (λ (k : ℕ). f k) e in
      let there : g n ≡ false = ap (λ (k : ℕ). g k) e ∙ none in
      rw (below, here, there) (omega arith)
  | inr ne ↦
      let ih : tally f n ≡ one (f y) + tally g n = tally_more f g y n (omega arith) none same in
      let here : f n ≡ g n = same n ne in
      rw (ih, here) (omega arith)
]

one_le : (a b : Bool) → (a ≡ true → b ≡ true) → one a ≤ one b
one_le true true i = omega arith
one_le true false i = absurd (let e : false ≡ true = i refl in cc)
one_le false b i = omega arith

tally_le : (f g : ℕ → Bool) (n : ℕ) → ((i : ℕ) → f i ≡ true → g i ≡ true) → tally f n ≤ tally g n
tally_le f g zero i = omega arith
tally_le f g (suc n) i = omega (arith, one_le (f n) (g n) (i n), tally_le f g n i)

-- equal tallies of f and the wider g leave no number that passes g alone
tally_all : (f g : ℕ → Bool) (n : ℕ) → ((i : ℕ) → f i ≡ true → g i ≡ true) → tally f n ≡ tally g n →
    (i : ℕ) → i < n → g i ≡ true → f i ≡ true
tally_all f g zero wider e i h t = absurd (omega arith)
tally_all f g (suc n) wider e i h t =
    let low : tally f n ≤ tally g n = tally_le f g n wider in
    let step : one (f n) ≤ one (g n) = one_le (f n) (g n) (wider n) in
    let rest : tally f n ≡ tally g n = omega arith in
    let first : one (f n) ≡ one (g n) = omega arith in
    elim (cases_eq i n) [
      | inl same ↦ subst (λ (k : ℕ). f k ≡ true) (sym same) (full (f n) (g n) first (subst (λ (k : ℕ). g k ≡ true) same t))
      | inr ne ↦ tally_all f g n wider rest i (omega arith) t
    ]
  where
    full : (a b : Bool) → one a ≡ one b → b ≡ true → a ≡ true
    full true b e t = refl
    full false true e t = absurd (omega arith)
    full false false e t = t

count_take : (p : Entry → Bool) (entries : List Entry) (n : ℕ) → n ≤ length entries →
    count_by p (take n entries) ≡ tally (λ i. p (get_or entries i no_entry)) n
count_take p entries zero h = refl
count_take p entries (suc n) h =
    let ih : count_by p (take n entries) ≡ tally (λ i. p (get_or entries i no_entry)) n = count_take p entries n (omega arith) in
    let within : n < length entries = omega arith in
    let more : suc n ≡ n + 1 = omega arith in
    elim (cases_Bool (p (get_or entries n no_entry))) [
      | inl passes ↦
          rw (passes, more) (count_by_more_yes p entries n no_entry within passes ∙ omega (arith, ih))
      | inr fails ↦
          rw (fails, more) (count_by_more_no p entries n no_entry within fails ∙ omega (arith, ih))
    ]

pub count_all : (p : Entry → Bool) (entries : List Entry) →
    count_by p entries ≡ tally (λ i. p (get_or entries i no_entry)) (length entries)
count_all p entries =
    ap (λ (xs : List Entry). count_by p xs) (sym (take-length entries)) ∙ count_take p entries (length entries) (omega arith)

-- the entry at this place passes, and the list names its call
abbrev both : (Entry → Bool) → List Entry → List ℕ → ℕ → Bool
both p entries order index = p (get_or entries index no_entry) && has order (suc index)

count_named : (p : Entry → Bool) (entries : List Entry) (order : List ℕ) → MayAllStand entries order →
    IsDistinct nat_eq order → count_by p (entries_listed entries order) ≡ tally (both p entries order) (length entries)
count_named p entries [] standing distinct = sym (tally_none _ (λ i. and_right _ false refl) (length entries))
count_named p entries (zero ∷ cs) standing distinct = absurd (standing.0.0 refl)
count_named p entries (suc c ∷ cs) standing distinct =
    let ih : count_by p (entries_listed entries cs) ≡ tally (both p entries cs) (length entries) =
    count_named p entries cs standing.1 (IsDistinct-tail nat_eq (suc c) cs distinct) in
    let here = is_call entries (suc c) standing.0 in
    let new : has cs (suc c) ≡ false = has-head (suc c) cs distinct in
    let at_c : both p entries (suc c ∷ cs) c ≡ p (get_or entries c no_entry) =
    and_true (p (get_or entries c no_entry)) _ (or_left _ _ (eq-eqb (suc c) (suc c) refl)) in
    sum_by-cons (λ e. one (p e)) (get_or entries c no_entry) (entries_listed entries cs)
    ∙ ap (λ (n : ℕ). one (p (get_or entries c no_entry)) + n) ih
    ∙ ap (λ (b : Bool). one b + tally (both p entries cs) (length entries)) (sym at_c)
    ∙ sym (tally_more (both p entries (suc c ∷ cs)) (both p entries cs) c (length entries) (omega arith) (and_right _ _ new)
    (λ i ne. ap (λ (b : Bool). p (get_or entries i no_entry) && (b || has cs (suc i))) (ne_eqb (suc c) (suc i) (λ e. ne (omega arith)))))
  where
    and_true : (a b : Bool) → b ≡ true → (a && b) ≡ a
    and_true true b t = t
    and_true false b t = refl

must_so : (op : Operation) (answered : Bool) → op ≢ operation.Move → answered ≡ true → must_stand_as op answered ≡ true
must_so operation.Read answered no_move t = t
must_so operation.Write answered no_move t = t
must_so operation.Move answered no_move t = absurd (no_move refl)

must_from : (op : Operation) (answered : Bool) → must_stand_as op answered ≡ true → (op ≢ operation.Move) × (answered ≡ true)
must_from operation.Read answered t = ((λ e. absurd (cc)), t)
must_from operation.Write answered t = ((λ e. absurd (cc)), t)
must_from operation.Move answered t = absurd (cc)

-- each answered read and write is in the list
abbrev pub HoldsAnswered : List Entry → List ℕ → Type 0
HoldsAnswered entries order =
    (call : ℕ) → (entry_at entries call).kind ≢ operation.Move → IsSome (entry_at entries call).answered →
    IsTrue (has order call)

pub holds_from_count : (entries : List Entry) (order : List ℕ) → MayAllStand entries order → IsDistinct nat_eq order →
    count_by must_stand entries ≡ count_by must_stand (entries_listed entries order) → HoldsAnswered entries order
holds_from_count entries order standing distinct e zero no_move answered = absurd (no_move refl)
holds_from_count entries order standing distinct e (suc index) no_move answered = elim (cases_lt index (length entries)) [
  | inl within ↦
      let same : tally (both must_stand entries order) (length entries)
      ≡ tally (λ i. must_stand (get_or entries i no_entry)) (length entries) =
      sym (count_named must_stand entries order standing distinct) ∙ sym e ∙ count_all must_stand entries in
      (and_parts _ _ (tally_all (both must_stand entries order) (λ i. must_stand (get_or entries i no_entry)) (length entries)
      (λ i b. (and_parts _ _ b).0) same index within (must_so _ _ no_move answered))).1
  | inr past ↦ absurd (no_move (ap (λ (e : Entry). e.kind) (get_or_past entries index no_entry past)))
]

pub count_from_holds : (entries : List Entry) (order : List ℕ) → MayAllStand entries order → IsDistinct nat_eq order →
    HoldsAnswered entries order → count_by must_stand entries ≡ count_by must_stand (entries_listed entries order)
count_from_holds entries order standing distinct holds =
    count_all must_stand entries
    ∙ tally_same (λ i. must_stand (get_or entries i no_entry)) (both must_stand entries order) (length entries)
    (λ i h. agree i (cases_Bool (must_stand (get_or entries i no_entry))))
    ∙ sym (count_named must_stand entries order standing distinct)
  where
    agree : (i : ℕ) → (must_stand (get_or entries i no_entry) ≡ true) ⊎ (must_stand (get_or entries i no_entry) ≡ false) →
        must_stand (get_or entries i no_entry) ≡ both must_stand entries order i
    agree i (inl passes) =
        let parts = must_from (get_or entries i no_entry).kind (is_some (get_or entries i no_entry).answered) passes in
        passes ∙ sym (and_from _ _ passes (holds (suc i) parts.0 parts.1))
    agree i (inr fails) = rw fails refl
