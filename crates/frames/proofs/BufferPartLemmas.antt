-- Reads to a part of a buffer.
use Rattle.std.proofs.Common.{◌≡◌, ℕ, ◌+◌, List, ◌++◌, length, take, drop, Option, Some, None, Result, Ok, Err}
use Rattle.std.proofs.Common.{sym, ap, subst, ◌∙◌, append_assoc, arith, drop_at}
use Rattle.std.proofs.Math.Seq.{take-add}
use lib.Seq.{take-append-le}
use Rattle.std.specs.Prelude.{IfOk}
use Rattle.std.specs.Io.{ReadsAtMost}
use Rattle.std.specs.Io.KnownBytes.{Consumes, Keeps, ReadConsumes}

-- two reads one after another
pub Consumes_then : (a b c : Option (List ℕ)) (xs ys : List ℕ) → Consumes a b xs → Consumes b c ys → Consumes a c (xs ++ ys)
Consumes_then None b c xs ys p q = tt
Consumes_then (Some us) None c xs ys p q = absurd p
Consumes_then (Some us) (Some bs) None xs ys p q = absurd q
Consumes_then (Some us) (Some bs) (Some cs) xs ys p q = p ∙ ap (λ (t : List ℕ). xs ++ t) q ∙ sym (append_assoc xs ys cs)

-- a read before which nothing came
pub kept_then : (a b c : Option (List ℕ)) (xs : List ℕ) → Keeps a b → Consumes b c xs → Consumes a c xs
kept_then None b c xs p q = tt
kept_then (Some us) None c xs p q = absurd p
kept_then (Some us) (Some bs) None xs p q = absurd q
kept_then (Some us) (Some bs) (Some cs) xs p q = sym p ∙ q

-- what was read to a part stands behind the front
pub read_in_place : {E : Type 0} (a b : Option (List ℕ)) (r : Result ℕ E) (front part rest : List ℕ) (at : ℕ) → length front ≡ at
    → ReadsAtMost r part → ReadConsumes a b r part → IfOk r (λ n. Consumes a b (take n (drop at (front ++ (part ++ rest)))))
read_in_place a b (Ok n) front part rest at long fits read =
    subst (Consumes a b) (sym (ap (take n) (drop_at front (part ++ rest) at long) ∙ take-append-le n part rest fits.0)) read.0
read_in_place a b (Err e) front part rest at long fits read = tt

-- one more read to a buffer
pub filled_more : (a b c : Option (List ℕ)) (buf next : List ℕ) (filled count : ℕ) → take filled next ≡ take filled buf
    → Consumes a b (take filled buf) → Consumes b c (take count (drop filled next)) → Consumes a c (take (filled + count) next)
filled_more a b c buf next filled count same p q =
    subst (Consumes a c) (sym (take-add filled count next))
    (Consumes_then a b c (take filled next) (take count (drop filled next)) (subst (Consumes a b) (sym same) p) q)

-- a read to a part of a buffer that gave nothing
pub filled_no_more : (a b c : Option (List ℕ)) (buf next : List ℕ) (filled count : ℕ) → count ≡ 0 → take filled next ≡ take filled buf
    → Consumes a b (take filled buf) → Consumes b c (take count (drop filled next)) → Consumes a c (take filled next)
filled_no_more a b c buf next filled count none same p q =
    let e : filled + count ≡ filled = omega arith in
    subst (λ (n : ℕ). Consumes a c (take n next)) e (filled_more a b c buf next filled count same p q)
