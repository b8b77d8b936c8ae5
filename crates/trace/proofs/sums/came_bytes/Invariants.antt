use Rattle.std.proofs.Common.{◌≡◌, ◌+◌, sum_by}
use Rattle.std.specs.FinMap as map
use Rattle.std.specs.Io.Iter.{u64_saturate}
use Rattle.trace.specs.Cost.{bytes_for}
use Rattle.trace.proofs.sums.came_bytes.Given as goal

abbrev pub invariant-loop-known : goal.invariant-loop-known
invariant-loop-known l = record {
  capped : l.total ≡ u64_saturate l.total;
  sum : u64_saturate (l.total + sum_by (bytes_for l.fragment l.tag) l.known-iterator)
      ≡ u64_saturate (sum_by (bytes_for l.fragment l.tag) (map.entries l.bank.rows));
}
