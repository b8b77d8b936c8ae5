use Rattle.std.proofs.Common.{◌≡◌, suc, ◌+◌, sym, ap, ap₂, ◌∙◌, arith, ⊎_elim}
use Rattle.std.proofs.lemmas.Bool.{cases_lt}
use Rattle.std.proofs.lemmas.List.{get_or-set_other}
use Rattle.std.proofs.lemmas.Grind.{get_or-set_at}
use Rattle.gf256.specs.Field.{field_product, field_power}
use Rattle.gf256.proofs.FieldLemmas.{power-zero, power-suc}
use Rattle.encoder.proofs.points.fill_powers.Goals as goal

pub loop-j-init : goal.loop-j-init
loop-j-init c =
    record {
      power = c.new-power.ensures ∙ sym (power-zero c.args.point);
      done = λ i hi. absurd (omega arith);
    }

pub loop-j-preserved : goal.loop-j-preserved
loop-j-preserved c =
    let known = c.loop-j.invariant in
    let j = c.loop-j.j in
    let tables = c.loop-j.tables in
    let next : suc j ≡ j + 1 = omega arith in
    record {
      power =
          c.product-power.ensures ∙ ap₂ field_product c.new-step.ensures known.power ∙ sym (power-suc c.args.point j)
          ∙ ap (field_power c.args.point) next;
      done = λ i hi.
          ⊎_elim
          (λ low. get_or-set_other tables j i _ 0 (omega arith) ∙ known.done i low)
          (λ high.
          let e : i ≡ j = omega arith in
          get_or-set_at tables j i _ 0 e (omega (arith, c.loop-j-test.true)) ∙ known.power ∙ ap (field_power c.args.point) (sym e))
          (cases_lt i j);
    }
