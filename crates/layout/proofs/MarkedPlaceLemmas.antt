-- What the set of the marked places contains, and how large it is.
use Rattle.std.proofs.Common.{◌≡◌, ℕ, zero, suc, ◌+◌, ◌<◌, ◌≤◌, ◌||◌, Bool, true, false, cond, eqb, List, [], ◌∷◌, length, get_or, set, sym}
use Rattle.std.proofs.Common.{ap, ◌∙◌, refl, arith, zero-add}
use Rattle.std.specs.FinSet as sets
use Rattle.std.specs.Ordering.{nat_cmp, eq_by_cmp}
use Rattle.std.specs.Cmp.{nat_cmp_total}
use Rattle.std.specs.List.{list_any}
use Rattle.std.proofs.lemmas.Bool.Decides.{nat_tests}
use Rattle.std.proofs.lemmas.Grind.{common_steps}
use Rattle.layout.specs.MemberSet.{places, marked}

-- no place below the first is marked
any_below : (bs : List Bool) (from q : ℕ) → q < from → list_any (λ y. eqb y q) (places from bs) ≡ false
any_below [] from q below = refl
any_below (true ∷ bs) from q below = grind (arith, nat_tests, any_below bs (from + 1) q (omega arith))
any_below (false ∷ bs) from q below = any_below bs (from + 1) q (omega arith)

-- a place is listed where its mark is true
any_at : (bs : List Bool) (from k q : ℕ) → q ≡ from + k → list_any (λ y. eqb y q) (places from bs) ≡ get_or bs k false
any_at [] from k q is = refl
any_at (true ∷ bs) from zero q is = grind (arith, nat_tests)
any_at (false ∷ bs) from zero q is = any_below bs (from + 1) q (omega arith)
any_at (true ∷ bs) from (suc k) q is = grind (arith, nat_tests, any_at bs (from + 1) k q (omega arith))
any_at (false ∷ bs) from (suc k) q is = any_at bs (from + 1) k q (omega arith)

pub contains-marked : (bs : List Bool) (q : ℕ) → sets.contains (marked bs) q ≡ get_or bs q false
contains-marked bs q = sets.contains-from_list_nat (places 0 bs) q ∙ any_at bs 0 q q (sym (zero-add q))

-- no more places are marked than there are
len_places_le : (bs : List Bool) (from : ℕ) → sets.len (sets.from_list {R = nat_cmp} (places from bs)) ≤ length bs
len_places_le [] from = omega (arith, sets.len-empty nat_cmp)
len_places_le (true ∷ bs) from = grind (arith, sets.members, len_places_le bs (from + 1))
len_places_le (false ∷ bs) from = omega (arith, len_places_le bs (from + 1))

pub len-marked-le : (bs : List Bool) → sets.len (marked bs) ≤ length bs
len-marked-le bs = len_places_le bs 0

-- what an insert has, by the marks
contains-insert-marked : (bs : List Bool) (m q : ℕ)
    → sets.contains (sets.insert (marked bs) m) q ≡ (eq_by_cmp nat_cmp q m || get_or bs q false)
contains-insert-marked bs m q = sets.contains-insert nat_cmp_total (marked bs) m q
    ∙ ap (λ b. eq_by_cmp nat_cmp q m || b) (contains-marked bs q)

-- a mark more is a member more
pub marked-set : (bs : List Bool) (m : ℕ) → m < length bs → marked (set bs m true) ≡ sets.insert (marked bs) m
marked-set bs m within = sets.same_set nat_cmp_total sets.nat_cmp-IsAntisymmetric (marked (set bs m true)) (sets.insert (marked bs) m)
    (λ q. contains-marked (set bs m true) q ∙ one_more q ∙ sym (contains-insert-marked bs m q))
  where
    one_more : (q : ℕ) → get_or (set bs m true) q false ≡ (eq_by_cmp nat_cmp q m || get_or bs q false)
    one_more q = grind (arith, nat_tests, common_steps)

-- a member that is there adds nothing
pub insert_present : (bs : List Bool) (m : ℕ) → get_or bs m false ≡ true → sets.insert (marked bs) m ≡ marked bs
insert_present bs m there = sets.same_set nat_cmp_total sets.nat_cmp-IsAntisymmetric (sets.insert (marked bs) m) (marked bs)
    (λ q. contains-insert-marked bs m q ∙ same q ∙ sym (contains-marked bs q))
  where
    same : (q : ℕ) → (eq_by_cmp nat_cmp q m || get_or bs q false) ≡ get_or bs q false
    same q = grind (arith, nat_tests, λ (e : q ≡ m). ap (λ k. get_or bs k false) e)

-- the number of members after one more
pub len-marked-set : (bs : List Bool) (m : ℕ) → m < length bs → get_or bs m false ≡ false
    → sets.len (marked (set bs m true)) ≡ sets.len (marked bs) + 1
len-marked-set bs m within absent =
    let s = marked bs in
    ap sets.len (marked-set bs m within) ∙ sets.len-insert nat_cmp_total s m
    ∙ ap (λ b. cond b (sets.len s) (sets.len s + 1)) (contains-marked bs m ∙ absent)
