-- The contracts that docs/trusted.md lists do not depend on this file; other contracts and proofs do.
-- The set that a list of marks represents.
use Rattle.std.specs.Prelude.{ℕ, ◌+◌, Bool, List, [], ◌∷◌, if◌then◌else◌}
use Rattle.std.specs.FinSet as set
use Rattle.std.specs.Ordering.{nat_cmp}

-- the indices of the marks that are true, where the first mark has the index `from`
abbrev pub places : ℕ → List Bool → List ℕ
places from [] = []
places from (b ∷ bs) = if b then from ∷ places (from + 1) bs else places (from + 1) bs

-- the set of the indices of the marks that are true
abbrev pub marked : List Bool → set.FinSet nat_cmp
marked marks = set.from_list (places 0 marks)
