use Rattle.std.proofs.Common.{◌≡◌, ◌≢◌, ℕ, ◌+◌, ◌*◌, ◌<◌, get_or}
use Rattle.decoder.proofs.sums.fill_column.Given as goal

-- the tables so far
abbrev pub invariant-loop-i : goal.invariant-loop-i
invariant-loop-i l =
    record {
      inside : (m : ℕ) → m < l.i → get_or l.tables (m * l.rows + l.r) 0 ≡ get_or l.table (m * l.k + l.j) 0;
      others : (m q : ℕ) → q < l.rows → q ≢ l.r → get_or l.tables (m * l.rows + q) 0 ≡ get_or l.initial.tables (m * l.rows + q) 0;
    }
