use Rattle.std.proofs.Common.{◌≡◌, ℕ, ◌+◌, ◌<◌, ◌≤◌, length, get_or, bit_xor}
use Rattle.gf256.specs.Field.{field_product}
use Rattle.poly.proofs.product.multiply_in_place.Given as goal

-- the coefficients from m on, and those that are left
abbrev pub invariant-loop-m : goal.invariant-loop-m
invariant-loop-m l =
    record {
      some : 0 < l.m;
      done : (j : ℕ) → l.m ≤ j + 1 → j + 1 < length l.row → get_or l.row (j + 1) 0
          ≡ bit_xor (get_or l.initial.row j 0) (field_product (get_or l.initial.row (j + 1) 0) l.root);
      left : (j : ℕ) → j < l.m → get_or l.row j 0 ≡ get_or l.initial.row j 0;
    }
