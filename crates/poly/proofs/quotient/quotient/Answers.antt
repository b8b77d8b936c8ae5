use Rattle.std.proofs.Common.{◌≡◌, ℕ, ◌+◌, ◌-◌, ◌<◌, List, length, drop, get_or, set, bit_xor, refl, ap, ap₂, sym, ◌∙◌, arith, ⊎_elim}
use Rattle.std.proofs.lemmas.Bool.{cases_lt}
use Rattle.std.proofs.lemmas.Grind.{get_or-set_at}
use Rattle.std.proofs.lemmas.List.{get_or-set_other, length-set, drop-set-lt}
use Rattle.gf256.specs.Field.{field_product}
use Rattle.gf256.specs.Polynomial.{evaluate}
use Rattle.poly.proofs.PolynomialQuotientLemmas.{evaluate-drop, evaluate-past}
use Rattle.poly.proofs.quotient.quotient.Goals as goal

pub loop-m-init : goal.loop-m-init
loop-m-init c = record {
  coefficient = sym (evaluate-past c.args.polynomial.now (length c.args.row.now + 1) c.args.root (omega (arith, c.requires)));
  done = λ j above below. absurd (omega arith);
  value = sym (evaluate-past c.args.row.now (length c.args.row.now) c.args.root (omega arith));
}

pub loop-m-preserved : goal.loop-m-preserved
loop-m-preserved c =
    let known = c.loop-m.invariant in
    let cs = c.args.polynomial.now in
    let row = c.loop-m.row in
    let root = c.args.root in
    let m = c.loop-m.m - 1 in
    let e : c.loop-m.m ≡ m + 1 = omega arith in
    let within : m < length row = omega arith in
    let written = bit_xor (get_or cs (m + 1) 0) c.mul.result in
    let next = set row m written in
    let made : written ≡ evaluate (drop (m + 1) cs) root =
    ap (bit_xor (get_or cs (m + 1) 0)) (c.mul.ensures
    ∙ ap (field_product root) (known.coefficient ∙ ap (λ n. evaluate (drop (n + 1) cs) root) e))
    ∙ sym (evaluate-drop cs (m + 1) root (omega (arith, c.requires))) in
    let same : drop (m + 1) next ≡ drop (m + 1) row = drop-set-lt (m + 1) row m written (omega arith) in
    record {
      coefficient = made;
      done = λ j above below.
          ⊎_elim
          (λ low.
          let here : j ≡ m = omega arith in
          get_or-set_at row m j written 0 here within ∙ made ∙ ap (λ n. evaluate (drop (n + 1) cs) root) (sym here))
          (λ high. get_or-set_other row m j written 0 (omega arith)
          ∙ known.done j (omega arith) (omega (arith, length-set {A = ℕ})))
          (cases_lt j (m + 1));
      value =
          ap₂ bit_xor (sym (get_or-set_at row m m written 0 refl within))
          (c.mul-in-loop-m.ensures ∙ ap (field_product root) (known.value ∙ ap (λ n. evaluate (drop n row) root) e
          ∙ ap (λ (xs : List ℕ). evaluate xs root) (sym same)))
          ∙ sym (evaluate-drop next m root (omega (arith, length-set row m written)));
    }
