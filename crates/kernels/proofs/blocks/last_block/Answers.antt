use Rattle.std.proofs.Common.{◌≡◌, ◌+◌, get_or, refl, sym, ap, ◌∙◌, arith, ⊎_elim, length-set}
use Rattle.std.proofs.lemmas.Bool.{cases_lt}
use Rattle.std.proofs.lemmas.List.{get_or_past, get_or-set_other}
use Rattle.std.proofs.lemmas.Grind.{get_or-set_at}
use Rattle.kernels.proofs.LaneSumLemmas.{get_or-zeros, same_as_lanes_from}
use Rattle.kernels.proofs.blocks.last_block.Goals as goal

pub loop-i-init : goal.loop-i-init
loop-i-init c =
    record {
      len = refl;
      done = λ n hn. omega arith;
      left = λ n hn. get_or-zeros 32 n;
    }

pub loop-i-preserved : goal.loop-i-preserved
loop-i-preserved c =
    let known = c.loop-i.invariant in
    let i = c.loop-i.i in
    let block = c.loop-i.block in
    record {
      len = length-set block i _ ∙ known.len;
      done = λ n hn.
          ⊎_elim
          (λ low. get_or-set_other block i n _ 0 (omega arith) ∙ known.done n low)
          (λ high.
          let e : n ≡ i = omega arith in
          get_or-set_at block i n _ 0 e (omega (arith, known.len)) ∙ ap (λ m. get_or c.args.value.now (c.args.start + m) 0) (sym e))
          (cases_lt n i);
      left = λ n hn. get_or-set_other block i n _ 0 (omega arith) ∙ known.left n (omega arith);
    }

pub returns : goal.returns
returns c =
    let known = c.loop-i.invariant in
    same_as_lanes_from (λ n. get_or c.args.value.now n 0) c.args.start c.loop-i.block known.len
    (λ i hi.
    ⊎_elim (λ low. known.done i low)
    (λ high. known.left i high ∙ sym (get_or_past c.args.value.now (c.args.start + i) 0 (omega arith)))
    (cases_lt i c.loop-i.i))
