use Rattle.std.proofs.Common.{◌≡◌, ℕ, ◌<◌, [], length, get_or}
use Rattle.gf256.specs.Polynomial.{AreBytes}
use Rattle.kernels.specs.Dot.{bytes_of}
use Rattle.decoder.proofs.lawful.have_len.Given as goal

-- the fragments so far
abbrev pub invariant-loop-i : goal.invariant-loop-i
invariant-loop-i l =
    record {
      lens : (m : ℕ) → m < l.i → length (get_or (bytes_of l.fragments) m []) ≡ l.len;
      bytes : (m : ℕ) → m < l.i → AreBytes (get_or (bytes_of l.fragments) m []);
    }
