use Rattle.std.proofs.Common.{◌≡◌, ℕ, ◌+◌, ◌-◌, ◌/◌, ◌%◌, ◌<◌, [], length, length-set, get_or, sym, ap, ap₂, ◌∙◌, arith, subst, ⊎_elim}
use Rattle.std.proofs.lemmas.Bool.{cases_lt}
use Rattle.std.proofs.lemmas.List.{get_or_read, get_or-set_other}
use Rattle.std.proofs.lemmas.Grind.{get_or-set_at}
use Rattle.kernels.specs.Line.{line_at, no_line}
use Rattle.kernels.proofs.lanes.values.Goals as goal
use Rattle.kernels.proofs.lanes.values.Goals.{then-r-eq0, else-r-eq0}

pub loop-r-preserved : goal.loop-r-preserved
loop-r-preserved g c =
    let known = c.loop-r.invariant in
    let r = c.loop-r.r in
    let points = c.args.points.now in
    let line = get_or c.args.lines (r / 2) no_line in
    let u = get_or points (r / 2) 0 in
    let at : ℕ → ℕ → ℕ = λ m i. line_at (get_or c.args.lines (m / 2) no_line) (get_or points (m / 2) 0 + m % 2) i in
    let made : (i : ℕ) → u < 256 → u % 2 ≡ 0 → i < 32 → get_or c.if-r-eq0.sums i 0 ≡ at r i =
    λ i fits even hi. elim c.if-r-eq0.branch [
      | then-r-eq0 w ↦
          let within : r / 2 < length points = omega (arith, c.told-points, c.loop-r-test.true) in
          let none : u ≡ u + r % 2 = omega (arith, w.if-r-eq0.true) in
          ap (λ l. get_or l i 0) w.sums-is ∙ w.value.ensures i hi
          ∙ ap (λ v. line_at line v i)
          (sym w.index-points-r.is ∙ get_or_read points (r / 2) w.index-points-r.result within w.index-points-r.is 0 ∙ none)
      | else-r-eq0 w ↦
          let not_even : r % 2 ≡ 0 → ⊥ = w.if-r-eq0.false in
          let odd : r % 2 ≡ 1 = omega arith in
          let same : (r - 1) / 2 ≡ r / 2 = omega arith in
          let first : (r - 1) % 2 ≡ 0 = omega arith in
          let before : get_or points ((r - 1) / 2) 0 + (r - 1) % 2 ≡ u = omega (arith, first, ap (λ m. get_or points m 0) same) in
          let one : u + 1 ≡ u + r % 2 = omega arith in
          ap (λ l. get_or l i 0) w.sums-is
          ∙ w.next_value.ensures u (get_or line.level i 0) i fits even hi
          (known.done (r - 1) i (omega arith) (subst (λ m. get_or points m 0 < 256) (sym same) fits)
          (subst (λ m. get_or points m 0 % 2 ≡ 0) (sym same) even) hi
          ∙ ap₂ (λ m v. line_at (get_or c.args.lines m no_line) v i) same before)
          ∙ ap (λ v. line_at line v i) one
    ] in
    record {
      len = length-set c.loop-r.sums r _ ∙ known.len;
      wide = λ q hq.
          ⊎_elim
          (λ low. ap length (get_or-set_other c.loop-r.sums r q _ [] (omega arith)) ∙ known.wide q low)
          (λ high. ap length (get_or-set_at c.loop-r.sums r q _ [] (omega arith) (omega (arith, known.len))) ∙ c.if-r-eq0.auto.sums.0)
          (cases_lt q r);
      done = λ q i hq fits even hi.
          ⊎_elim
          (λ low. ap (λ l. get_or l i 0) (get_or-set_other c.loop-r.sums r q _ [] (omega arith)) ∙ known.done q i low fits even hi)
          (λ high.
          let e : q ≡ r = omega arith in
          ap (λ l. get_or l i 0) (get_or-set_at c.loop-r.sums r q _ [] e (omega (arith, known.len)))
          ∙ made i (subst (λ m. get_or points (m / 2) 0 < 256) e fits) (subst (λ m. get_or points (m / 2) 0 % 2 ≡ 0) e even) hi
          ∙ ap (λ m. at m i) (sym e))
          (cases_lt q r);
    }
