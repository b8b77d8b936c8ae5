use Rattle.std.proofs.Common.{◌≡◌, ◌+◌, ◌≤◌, ◌^◌, ◌-◌, min, sum_by}
use Rattle.std.specs.BTreeMap.{values}
use Rattle.bank.specs.Bytes.{row_bytes}
use Rattle.bank.proofs.rows.bytes.Given as goal

abbrev pub invariant-loop-row : goal.invariant-loop-row
invariant-loop-row l =
    (l.total ≤ 2 ^ 64 - 1) × (min (l.total + sum_by row_bytes l.row-iterator) (2 ^ 64 - 1)
    ≡ min (sum_by row_bytes (values l.rows)) (2 ^ 64 - 1))
