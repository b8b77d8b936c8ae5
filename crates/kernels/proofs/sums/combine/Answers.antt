use Rattle.std.proofs.Common.{◌≡◌, ℕ, ◌+◌, ◌-◌, ◌*◌, get_or, bit_xor, ap, subst, ◌∙◌, arith, ⊎_elim}
use Rattle.std.proofs.lemmas.Bool.{cases_lt}
use Rattle.gf256.specs.Field.{field_product}
use Rattle.kernels.proofs.sums.combine.Goals as goal

pub loop-block-preserved : goal.loop-block-preserved
loop-block-preserved c =
    let known = c.loop-block.invariant in
    let block = c.combine_block.ensures in
    let start = c.loop-block.block * 32 in
    let old = c.args.target.now in
    let src = c.args.src.now in
    let new = c.combine_block.new.target in
    let sum : ℕ → ℕ = λ n. bit_xor (field_product c.args.own (get_or old n 0)) (field_product c.args.other (get_or src n 0)) in
    record {
      done = λ n hn.
          ⊎_elim (λ low. block.before n low ∙ known.done n low)
          (λ high.
          let b = n - start in
          let place : start + b ≡ n = omega arith in
          let Is : ℕ → Type 0 = λ m. get_or new m 0 ≡ sum m in
          subst Is place
          (block.inside b (omega arith)
          ∙ ap (λ y. bit_xor (field_product c.args.own y) (field_product c.args.other (get_or src (start + b) 0)))
          (known.left (start + b) (omega arith))))
          (cases_lt n start);
      left = λ n hn. block.after n (omega arith) ∙ known.left n (omega arith);
      bytes = known.bytes;
    }
