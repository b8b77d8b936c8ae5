use Rattle.std.proofs.Common.{◌+◌, ◌-◌, ◌∙◌, ◌≡◌, ℕ, ap, refl, subst, bit_xor, arith, rules}
use Rattle.std.proofs.lemmas.Nat.{xor_lt}
use Rattle.node_log.proofs.FoldLemmas.{at, FoldsSoFar, folds_more, folds_moved}
use Rattle.node_log.proofs.folding.fold.Goals as goal

pub loop-i-preserved : goal.loop-i-preserved
loop-i-preserved c =
    let b = at c.args.bytes.now c.loop-i.i in (
      search rules,
      folds_more c.args.folded.now c.args.bytes.now c.loop-i.folded _ c.loop-i.i (bit_xor b c.added.result) c.loop-i.invariant.1
          (search rules) (search rules) refl (xor_lt 8 b c.added.result (search rules) (search rules)) (ap (bit_xor b) c.added.ensures),
    )

pub returns-clause-folds : goal.returns-clause-folds
returns-clause-folds c =
    let old = c.args.folded.now in
    let bytes = c.args.bytes.now in
    let now = c.loop-i.folded in
    let end : c.loop-i.i ≡ 1024 = omega (arith, c.loop-i-test.false, c.loop-i.auto.i-end) in
    folds_moved old bytes now c.copy_within.new.self 1024 (subst (λ (n : ℕ). FoldsSoFar old bytes n now) end c.loop-i.invariant.1)
    c.requires.block
    (λ j h. let e : 1024 + (j - 0) ≡ 1024 + j = omega arith in
    c.copy_within.ensures.by_index.0 j 0 (omega arith) (omega arith) ∙ ap (at now) e)
