-- What a worker has after a pop.
use Rattle.std.proofs.Common.{◌≡◌, ℕ, List, [], ◌∷◌, ◌++◌, length, refl, sym, ap, ◌∙◌, arith, map}
use Rattle.std.proofs.lemmas.List.{map-append}
use Rattle.crossbeam_queue.specs.Fifo.{Held}
use Rattle.piece.specs.declared.piece.Piece.{Piece}
use Rattle.coding_pool.specs.declared.jobs.Known.{Known}
use Rattle.coding_pool.specs.Jobs.{known, PARTS, times, once_below, IsWhole}
use Rattle.coding_pool.specs.Worker.{point_of}

none_in : (job : ℕ) (items : List ℕ) → length items ≡ 0 → times job items ≡ 0
none_in job [] none = refl
none_in job (x ∷ items) none = absurd (omega (arith, none))

-- where a pop with every part finds no job, each was popped, once
pub each_popped : (v : Known) (parts pushed : ℕ) (popped : List ℕ) → v.parts ≡ parts → v.pushed ≡ pushed →
    v.popped ≡ popped → Held 0 (IsWhole v) → parts ≡ PARTS → (job : ℕ) → times job popped ≡ once_below pushed job
each_popped v parts pushed popped p q e (items, none, learned) whole job =
    let t = learned (p ∙ whole) job in
    let a = ap (times job) e in
    let n = none_in job items none in
    let b = ap (λ (m : ℕ). once_below m job) q in
    omega (arith, t, a, n, b)

-- the job of a new piece is popped last
pub popped_more : (v w : Known) (pieces : List Piece) (p : Piece) (job : ℕ) → v.popped ≡ map point_of pieces →
    w ≡ known v.parts v.pushed (v.popped ++ job ∷ []) → point_of p ≡ job → w.popped ≡ map point_of (pieces ++ p ∷ [])
popped_more v w pieces p job old new at =
    ap (λ (u : Known). u.popped) new ∙ ap (λ (l : List ℕ). l ++ job ∷ []) old
    ∙ ap (λ (j : ℕ). map point_of pieces ++ j ∷ []) (sym at) ∙ sym (map-append point_of pieces (p ∷ []))
