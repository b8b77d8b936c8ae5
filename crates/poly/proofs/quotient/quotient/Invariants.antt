use Rattle.std.proofs.Common.{◌≡◌, ℕ, ◌+◌, ◌<◌, ◌≤◌, length, drop, get_or}
use Rattle.gf256.specs.Polynomial.{evaluate}
use Rattle.poly.proofs.quotient.quotient.Given as goal

-- the coefficients from m on, the last of which is at hand, and the value of these
abbrev pub invariant-loop-m : goal.invariant-loop-m
invariant-loop-m l =
    record {
      coefficient : l.coefficient ≡ evaluate (drop (l.m + 1) l.polynomial) l.root;
      done : (j : ℕ) → l.m ≤ j → j < length l.row → get_or l.row j 0 ≡ evaluate (drop (j + 1) l.polynomial) l.root;
      value : l.value ≡ evaluate (drop l.m l.row) l.root;
    }
