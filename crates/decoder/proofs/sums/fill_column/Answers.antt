use Rattle.std.proofs.Common.{◌≡◌, ◌+◌, ◌*◌, ◌<◌, length, get_or, ap, ◌∙◌, arith, ⊎_elim, sym}
use Rattle.std.proofs.lemmas.Bool.{cases_lt}
use Rattle.std.proofs.lemmas.Nat.{mul-add-lt}
use Rattle.std.proofs.lemmas.List.{get_or-set_other}
use Rattle.std.proofs.lemmas.Grind.{get_or-set_at}
use Rattle.encoder.proofs.RowPlaceLemmas.{rows_apart}
use Rattle.decoder.proofs.RowTableLemmas.{same_column}
use Rattle.decoder.proofs.sums.fill_column.Goals as goal

pub loop-i-preserved : goal.loop-i-preserved
loop-i-preserved c =
    let known = c.loop-i.invariant in
    let i = c.loop-i.i in
    let r = c.args.r in
    let w = c.args.rows in
    let tables = c.loop-i.tables in
    let place = i * w + r in
    let within : place < length tables = omega (arith, mul-add-lt i w r c.args.k (omega arith) c.requires.column, c.requires.room) in
    record {
      inside = λ m hm.
          ⊎_elim
          (λ low. get_or-set_other tables place (m * w + r) _ 0 (omega (arith, rows_apart m i w low, c.requires.column))
          ∙ known.inside m low)
          (λ high.
          let e : m ≡ i = omega arith in
          get_or-set_at tables place (m * w + r) _ 0 (ap (λ n. n * w + r) e) within ∙ c.new.ensures
          ∙ ap (λ n. get_or c.args.table.now (n * c.args.k + c.args.j) 0) (sym e))
          (cases_lt m i);
      others = λ m q hq ne.
          get_or-set_other tables place (m * w + q) _ 0 (λ e. ne (same_column m i q r w hq c.requires.column e)) ∙ known.others m q hq ne;
    }
