use Rattle.std.proofs.Common.{◌≡◌, ℕ, ◌*◌, ◌<◌, ◌≤◌, get_or, bit_xor}
use Rattle.gf256.specs.Field.{field_product}
use Rattle.gf256.specs.Polynomial.{AreBytes}
use Rattle.kernels.proofs.sums.combine.Given as goal

abbrev pub invariant-loop-block : goal.invariant-loop-block
invariant-loop-block l =
    record {
      done : (n : ℕ) → n < l.block * 32
          → get_or l.target n 0 ≡ bit_xor (field_product l.own (get_or l.fn.target n 0)) (field_product l.other (get_or l.src n 0));
      left : (n : ℕ) → l.block * 32 ≤ n → get_or l.target n 0 ≡ get_or l.fn.target n 0;
      bytes : AreBytes l.fn.target;
    }

abbrev pub invariant-loop-b : goal.invariant-loop-b
invariant-loop-b l =
    record {
      done : (n : ℕ) → n < l.b
          → get_or l.target n 0 ≡ bit_xor (field_product l.own (get_or l.fn.target n 0)) (field_product l.other (get_or l.src n 0));
      left : (n : ℕ) → l.b ≤ n → get_or l.target n 0 ≡ get_or l.fn.target n 0;
      bytes : AreBytes l.fn.target;
    }
