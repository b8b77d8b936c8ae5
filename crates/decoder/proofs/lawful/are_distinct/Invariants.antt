use Rattle.std.proofs.Common.{◌≢◌, ℕ, ◌<◌, get_or}
use Rattle.decoder.proofs.lawful.are_distinct.Given as goal

abbrev pub invariant-loop-i : goal.invariant-loop-i
invariant-loop-i l = (m n : ℕ) → m < n → n < l.i → get_or l.points m 0 ≢ get_or l.points n 0

abbrev pub invariant-loop-j : goal.invariant-loop-j
invariant-loop-j l =
    record {
      before : (m n : ℕ) → m < n → n < l.i → get_or l.points m 0 ≢ get_or l.points n 0;
      here : (m : ℕ) → m < l.j → get_or l.points m 0 ≢ get_or l.points l.i 0;
    }
