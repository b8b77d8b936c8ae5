-- Folded bytes that stand for a state.
use Rattle.std.proofs.Common.{◌≡◌, ℕ, suc, ◌+◌, ◌-◌, ◌/◌, ◌%◌, ◌^◌, ◌<◌, ◌≤◌, List, length, take, set, get_or, bit_xor}
use Rattle.std.proofs.Common.{refl, sym, ap, ap₂, ◌∙◌, subst, arith, ⊎_elim}
use Rattle.std.specs.Int.Bits.{xor_assoc, xor_comm, xor_zero_r}
use Rattle.std.proofs.lemmas.Bool.{cases_lt}
use Rattle.std.proofs.lemmas.List.{get_or-set_same, get_or-set_other, take_all}
use Rattle.std.proofs.lemmas.List.Sums.{fold_more}
use Rattle.gf256.proofs.AdditiveFunctionLemmas.{IsAdditive, IsAdditive-zero}
use Rattle.node_log.specs.Crc32c.{after_byte, after_bytes}
use Rattle.node_log.specs.Folding.{by_bytes, over_powers, run, waiting, StandsAt, GoesOn, Unfolds}
use Rattle.node_log.proofs.ShiftLemmas.{zero_xor, IsAdditive-shifted_by, after_byte_split}
use Rattle.node_log.proofs.StateLemmas.{after_sum}
use Rattle.node_log.proofs.RunLemmas.{by_one, IsAdditive-by_bytes, by_one_last, by_sum, after_is, after_zero, powers_of_byte}
use Rattle.node_log.proofs.RunLemmas.{run_sum, run_same, run_first, run_zeros, run_of}
use Rattle.node_log.proofs.RunLemmas.{powers_sum, powers_same, powers_under, powers_first, powers_run}

-- the byte at a place of a list
abbrev pub at : List ℕ → ℕ → ℕ
at bytes i = get_or bytes i 0

-- a fact of each place below i, and of the byte that is written at i
pub put_next : (P : ℕ → ℕ → Type 0) (bytes : List ℕ) (i v : ℕ) → i < length bytes → ((j : ℕ) → j < i → P j (at bytes j)) → P i v
    → (j : ℕ) → j < i + 1 → P j (at (set bytes i v) j)
put_next P bytes i v within so_far here j h =
    ⊎_elim (λ low. subst (P j) (sym (get_or-set_other bytes i j v 0 (omega arith))) (so_far j low))
    (λ high. let e : i ≡ j = omega arith in
    subst (λ (k : ℕ). P k (at (set bytes i v) k)) e (subst (P i) (sym (get_or-set_same bytes i v 0 within)) here)) (cases_lt j i)

-- a write changes no byte behind it
pub put_before : (bytes : List ℕ) (i v j : ℕ) → i < j → at (set bytes i v) j ≡ at bytes j
put_before bytes i v j h = get_or-set_other bytes i j v 0 (omega arith)

-- what waits in the same bytes at another place
pub waiting_same : (f g : ℕ → ℕ) (p q : ℕ) → ((j : ℕ) → j < 437 → f (p + j) ≡ g (q + j)) → waiting f p ≡ waiting g q
waiting_same f g p q same =
    powers_same (λ (s : ℕ). by_bytes s (run (λ (i : ℕ). f (p + s + i)) (437 - s)))
    (λ (s : ℕ). by_bytes s (run (λ (i : ℕ). g (q + s + i)) (437 - s)))
    (λ s h. ap (by_bytes s) (run_same (λ (i : ℕ). f (p + s + i)) (λ (i : ℕ). g (q + s + i)) (437 - s)
    (λ i hi. ap f (omega arith) ∙ same (s + i) (omega arith) ∙ ap g (omega arith))))

-- ---- one byte more

-- the first byte of a part, apart from the others
part_first : (w : ℕ → ℕ) (p k m n : ℕ) → n ≡ suc m → m + suc k ≡ 437 → by_bytes k (run (λ (i : ℕ). w (p + k + i)) n)
    ≡ bit_xor (by_bytes 437 (w (p + k))) (by_bytes k (run (λ (i : ℕ). w (suc p + k + i)) m))
part_first w p k m n is whole =
    let f = λ (i : ℕ). w (p + k + i) in
    let far : suc m + k ≡ 437 = omega arith in
    let front : p + k + 0 ≡ p + k = omega arith in
    ap (λ (t : ℕ). by_bytes k (run f t)) is
    ∙ ap (by_bytes k) (run_first f m)
    ∙ (IsAdditive-by_bytes k).at_sum (by_bytes (suc m) (f 0)) (run (λ (i : ℕ). f (suc i)) m)
    ∙ ap₂ bit_xor (by_sum k (suc m) (f 0) ∙ ap₂ (λ (t x : ℕ). by_bytes t x) far (ap w front))
    (ap (by_bytes k) (run_same (λ (i : ℕ). f (suc i)) (λ (i : ℕ). w (suc p + k + i)) m (λ i h. ap w (omega arith))))

-- the last byte of a part, apart from the others
part_last : (w : ℕ → ℕ) (p k m n : ℕ) → n ≡ suc m → m + suc k ≡ 437 → by_bytes k (run (λ (i : ℕ). w (suc p + k + i)) n)
    ≡ bit_xor (by_one (by_bytes k (run (λ (i : ℕ). w (suc p + k + i)) m))) (by_bytes k (by_one (w (p + 437))))
part_last w p k m n is whole =
    let g = λ (i : ℕ). w (suc p + k + i) in
    ap (λ (t : ℕ). by_bytes k (run g t)) is
    ∙ ap (by_bytes k) (after_is (run g m) (g m))
    ∙ (IsAdditive-by_bytes k).at_sum (by_one (run g m)) (by_one (g m))
    ∙ ap₂ bit_xor (by_one_last k (run g m)) (ap (λ (x : ℕ). by_bytes k (by_one (w x))) (omega arith))

-- the first of three terms goes behind the others
others_last : (a x d : ℕ) → bit_xor (bit_xor a x) d ≡ bit_xor x (bit_xor d a)
others_last a x d = ap (λ (t : ℕ). bit_xor t d) (xor_comm a x) ∙ xor_assoc x a d ∙ ap (bit_xor x) (xor_comm a d)

-- folded bytes stand for the state after one byte more, one place further
pub one_byte_more : (w : ℕ → ℕ) (p d s : ℕ) → w (p + 437) < 2 ^ 8 → w (p + 437) ≡ bit_xor d (over_powers (λ (k : ℕ). w (p + k)))
    → by_bytes 437 s ≡ waiting w p → by_bytes 437 (after_byte s d) ≡ waiting w (suc p)
unfolding by_bytes
one_byte_more w p d s fits is stands =
    let one : IsAdditive by_one = IsAdditive-shifted_by 8 in
    let far : IsAdditive (by_bytes 437) = IsAdditive-by_bytes 437 in
    let v = w (p + 437) in
    let sum = over_powers (λ (k : ℕ). w (p + k)) in
    let rest : ℕ → ℕ = λ (k : ℕ). by_bytes k (run (λ (i : ℕ). w (suc p + k + i)) (436 - k)) in
    let old : by_bytes 437 s ≡ bit_xor (by_bytes 437 sum) (over_powers rest) =
    stands
    ∙ powers_same (λ (k : ℕ). by_bytes k (run (λ (i : ℕ). w (p + k + i)) (437 - k)))
    (λ (k : ℕ). bit_xor (by_bytes 437 (w (p + k))) (rest k))
    (λ k h. part_first w p k (436 - k) (437 - k) (omega arith) (omega arith))
    ∙ powers_sum (λ (k : ℕ). by_bytes 437 (w (p + k))) rest
    ∙ ap (λ (t : ℕ). bit_xor t (over_powers rest)) (sym (powers_under (by_bytes 437) (λ (k : ℕ). w (p + k)) far)) in
    let new : waiting w (suc p) ≡ bit_xor (by_one (over_powers rest)) (by_bytes 437 (by_one v)) =
    powers_same (λ (k : ℕ). by_bytes k (run (λ (i : ℕ). w (suc p + k + i)) (437 - k)))
    (λ (k : ℕ). bit_xor (by_one (rest k)) (by_bytes k (by_one v)))
    (λ k h. part_last w p k (436 - k) (437 - k) (omega arith) (omega arith))
    ∙ powers_sum (λ (k : ℕ). by_one (rest k)) (λ (k : ℕ). by_bytes k (by_one v))
    ∙ ap₂ bit_xor (sym (powers_under by_one rest one)) (powers_of_byte v fits) in
    ap (by_bytes 437) (after_is s d)
    ∙ far.at_sum (by_one s) (by_one d)
    ∙ ap (λ (t : ℕ). bit_xor t (by_bytes 437 (by_one d)))
    (by_one_last 437 s ∙ ap by_one old ∙ one.at_sum (by_bytes 437 sum) (over_powers rest))
    ∙ others_last (by_one (by_bytes 437 sum)) (by_one (over_powers rest)) (by_bytes 437 (by_one d))
    ∙ ap (bit_xor (by_one (over_powers rest)))
    (ap (bit_xor (by_bytes 437 (by_one d))) (sym (by_one_last 437 sum))
    ∙ sym (far.at_sum (by_one d) (by_one sum))
    ∙ ap (by_bytes 437) (sym (one.at_sum d sum))
    ∙ ap (λ (t : ℕ). by_bytes 437 (by_one t)) (sym is))
    ∙ sym new

-- folded bytes so far, from one place to another
abbrev pub FoldsSoFar : List ℕ → List ℕ → ℕ → List ℕ → Type 0
FoldsSoFar old bytes i now = (s : ℕ) → StandsAt s 0 old → StandsAt (after_bytes s (take i bytes)) i now

-- one byte more is folded
pub folds_more : (old bytes now new : List ℕ) (i v : ℕ) → FoldsSoFar old bytes i now → i < length bytes → 437 + i < length now
    → new ≡ set now (437 + i) v → v < 2 ^ 8 → v ≡ bit_xor (at bytes i) (over_powers (λ (k : ℕ). at now (i + k)))
    → FoldsSoFar old bytes (i + 1) new
unfolding StandsAt
folds_more old bytes now new i v so_far within room put fits is s stands =
    let state = after_bytes s (take i bytes) in
    let here : at new (i + 437) ≡ v =
    ap (λ (t : List ℕ). at t (i + 437)) put ∙ ap (at (set now (437 + i) v)) (omega arith) ∙ get_or-set_same now (437 + i) v 0 room in
    let before : (j : ℕ) → j < 437 + i → at new j ≡ at now j =
    λ j h. ap (λ (t : List ℕ). at t j) put ∙ get_or-set_other now (437 + i) j v 0 (omega arith) in
    let stood : by_bytes 437 (after_bytes s (take i bytes)) ≡ waiting (at new) i =
    so_far s stands ∙ waiting_same (at now) (at new) i i (λ j h. sym (before (i + j) (omega arith))) in
    let sum : over_powers (λ (k : ℕ). at now (i + k)) ≡ over_powers (λ (k : ℕ). at new (i + k)) =
    powers_same (λ (k : ℕ). at now (i + k)) (λ (k : ℕ). at new (i + k)) (λ k h. sym (before (i + k) (omega arith))) in
    let e : suc i ≡ i + 1 = omega arith in
    ap (by_bytes 437) (fold_more after_byte s bytes i 0 within)
    ∙ one_byte_more (at new) i (at bytes i) state (subst (λ (t : ℕ). t < 2 ^ 8) (sym here) fits)
    (here ∙ is ∙ ap (bit_xor (at bytes i)) sum) stood
    ∙ ap (waiting (at new)) e

-- all bytes are folded, and the last folded ones stand at the front
pub folds_moved : (old bytes now new : List ℕ) (n : ℕ) → FoldsSoFar old bytes n now → length bytes ≡ n
    → ((j : ℕ) → j < 437 → at new j ≡ at now (n + j)) → GoesOn old bytes new
unfolding StandsAt
folds_moved old bytes now new n so_far whole moved s stands =
    ap (λ (t : List ℕ). by_bytes 437 (after_bytes s t)) (sym (take_all n bytes (omega arith)))
    ∙ so_far s stands
    ∙ waiting_same (at now) (at new) n 0 (λ j h. sym (let e : 0 + j ≡ j = omega arith in ap (at new) e ∙ moved j h))

-- ---- the first state

-- a byte of a state reaches no other
one_byte_of : (r s b t : ℕ) → b ≡ s % 256 → t ≡ s / 256 → bit_xor (after_byte r b) t ≡ by_one (bit_xor r s)
one_byte_of r s b t is behind =
    ap₂ bit_xor (after_is r b ∙ ap (λ (x : ℕ). bit_xor (by_one r) (by_one x)) is) behind
    ∙ xor_assoc (by_one r) (by_one (s % 256)) (s / 256)
    ∙ ap (bit_xor (by_one r)) (xor_comm (by_one (s % 256)) (s / 256)
    ∙ ap (λ (x : ℕ). bit_xor (s / 256) (by_one x)) (sym (xor_zero_r (s % 256)))
    ∙ sym (after_byte_split s 0) ∙ after_zero s)
    ∙ sym ((IsAdditive-shifted_by 8).at_sum r s)

-- the state after the bytes of a state
bytes_of : (w : ℕ → ℕ) (s s1 s2 s3 : ℕ) → s1 ≡ s / 256 → s2 ≡ s1 / 256 → s3 ≡ s2 / 256 → 0 ≡ s3 / 256 → w 0 ≡ s % 256
    → w 1 ≡ s1 % 256 → w 2 ≡ s2 % 256 → w 3 ≡ s3 % 256 → run w 4 ≡ by_bytes 4 s
unfolding by_bytes
bytes_of w s s1 s2 s3 is1 is2 is3 is4 w0 w1 w2 w3 =
    sym (xor_zero_r (run w 4))
    ∙ one_byte_of (run w 3) s3 (w 3) 0 w3 is4
    ∙ ap by_one (one_byte_of (run w 2) s2 (w 2) s3 w2 is3
    ∙ ap by_one (one_byte_of (run w 1) s1 (w 1) s2 w1 is2
    ∙ ap by_one (one_byte_of 0 s (w 0) s1 w0 is1 ∙ ap by_one (zero_xor s))))

-- no bytes but zeros
run_none : (f : ℕ → ℕ) (n : ℕ) → ((i : ℕ) → f i ≡ 0) → run f n ≡ 0
run_none f n none =
    let e : n ≡ n + 0 = omega arith in
    ap (run f) e ∙ run_zeros f 0 n (λ i from h. none i) ∙ IsAdditive-zero (by_bytes n) (IsAdditive-by_bytes n)

-- the bytes of a state, with zeros behind them, stand for it
pub state_stands : (s : ℕ) (folded : List ℕ) → s < 2 ^ 32 → at folded 0 ≡ s % 256 → at folded 1 ≡ s / 256 % 256
    → at folded 2 ≡ s / 65536 % 256 → at folded 3 ≡ s / 16777216 % 256 → ((i : ℕ) → 4 ≤ i → at folded i ≡ 0) → StandsAt s 0 folded
unfolding StandsAt by_bytes
state_stands s folded fits w0 w1 w2 w3 none =
    let w = at folded in
    let four : run w 4 ≡ by_bytes 4 s =
    bytes_of w s (s / 256) (s / 65536) (s / 16777216) refl (omega arith) (omega arith) (omega arith) w0 w1 w2 w3 in
    sym (powers_first (λ (k : ℕ). by_bytes k (run (λ (i : ℕ). w (0 + k + i)) (437 - k)))
    (λ k from. ap (by_bytes k) (run_none (λ (i : ℕ). w (0 + k + i)) (437 - k) (λ i. none (0 + k + i) (omega arith)))
    ∙ IsAdditive-zero (by_bytes k) (IsAdditive-by_bytes k))
    ∙ run_zeros w 4 433 (λ i from h. none i from)
    ∙ ap (by_bytes 433) four
    ∙ by_sum 433 4 s)

-- ---- the end

-- what waits at one of the powers
waits : (old cleared : List ℕ) (s m : ℕ) → s + m ≡ 437 → s ≤ 177 → ((i : ℕ) → i < 437 → at cleared i ≡ at old i)
    → ((i : ℕ) → 437 ≤ i → i < 614 → at cleared i ≡ 0)
    → run (λ (i : ℕ). at cleared (i + s)) 437 ≡ by_bytes s (run (λ (i : ℕ). at old (0 + s + i)) m)
waits old cleared s m e low kept none =
    ap (run (λ (i : ℕ). at cleared (i + s))) (sym e)
    ∙ run_zeros (λ (i : ℕ). at cleared (i + s)) m s (λ i from h. none (i + s) (omega arith) (omega arith))
    ∙ ap (by_bytes s) (run_same (λ (i : ℕ). at cleared (i + s)) (λ (i : ℕ). at old (0 + s + i)) m
    (λ i h. kept (i + s) (omega arith) ∙ ap (at old) (omega arith)))

-- bytes to which each folded byte was added that waits there
pub unfolds : (old cleared bytes unfolded : List ℕ) → length bytes ≡ 437 → length unfolded ≡ 437
    → ((i : ℕ) → i < 437 → at cleared i ≡ at old i) → ((i : ℕ) → 437 ≤ i → i < 614 → at cleared i ≡ 0)
    → ((i : ℕ) → i < 437 → at unfolded i ≡ bit_xor (at bytes i) (over_powers (λ (s : ℕ). at cleared (i + s)))) → Unfolds old bytes unfolded
unfolding StandsAt
unfolds old cleared bytes unfolded many whole kept none is state stands =
    let sum : ℕ → ℕ = λ (i : ℕ). over_powers (λ (s : ℕ). at cleared (i + s)) in
    let own : run (at bytes) 437 ≡ after_bytes 0 bytes = sym (run_of bytes ∙ ap (run (at bytes)) many) in
    run_of unfolded
    ∙ ap (run (at unfolded)) whole
    ∙ run_same (at unfolded) (λ (i : ℕ). bit_xor (at bytes i) (sum i)) 437 is
    ∙ run_sum (at bytes) sum 437
    ∙ ap₂ bit_xor own
    (powers_run (λ (s i : ℕ). at cleared (i + s)) 437
    ∙ powers_same (λ (s : ℕ). run (λ (i : ℕ). at cleared (i + s)) 437)
    (λ (s : ℕ). by_bytes s (run (λ (i : ℕ). at old (0 + s + i)) (437 - s)))
    (λ s h. waits old cleared s (437 - s) (omega arith) h kept none)
    ∙ sym stands)
    ∙ ap (λ (n : ℕ). bit_xor (after_bytes 0 bytes) (by_bytes n state)) (sym many)
    ∙ sym (after_sum bytes 0 state)
    ∙ ap (λ (t : ℕ). after_bytes t bytes) (zero_xor state)
