use Rattle.std.proofs.Common.{◌≡◌, ℕ, ◌+◌, ◌-◌, ◌*◌, get_or, subst, refl, arith, ⊎_elim}
use Rattle.std.proofs.lemmas.Bool.{cases_lt}
use Rattle.std.proofs.lemmas.List.{ext_get_or}
use Rattle.kernels.proofs.equality.same.Goals as goal

pub loop-block-preserved : goal.loop-block-preserved
loop-block-preserved c n hn =
    let start = c.loop-block.block * 32 in
    let Same : ℕ → Type 0 = λ m. get_or c.args.a.now m 0 ≡ get_or c.args.b.now m 0 in
    ⊎_elim (λ low. c.loop-block.invariant n low)
    (λ high.
    let place : start + (n - start) ≡ n = omega arith in
    subst Same place (c.is_block_same.ensures.0 c.if-not-is_block_same.false (n - start) (omega arith)))
    (cases_lt n start)

pub returns : goal.returns
returns c =
    (λ _. ext_get_or 0 c.args.a.now c.args.b.now c.requires (λ n hn. c.loop-i.invariant n (omega arith)), λ _. refl)
