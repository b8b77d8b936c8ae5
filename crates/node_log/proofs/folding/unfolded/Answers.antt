use Rattle.std.proofs.Common.{◌≡◌, ◌+◌, ℕ, ap, rules, bit_xor}
use Rattle.node_log.specs.Folding.{over_powers}
use Rattle.node_log.proofs.FoldLemmas.{at, put_next, unfolds}
use Rattle.node_log.proofs.folding.unfolded.Goals as goal

pub loop-i-2-preserved : goal.loop-i-2-preserved
loop-i-2-preserved c =
    let bytes = c.args.bytes.now in
    let i = c.loop-i-2.i in
    let v = bit_xor (at bytes i) c.added.result in (
      search rules,
      put_next (λ (j b : ℕ). b ≡ bit_xor (at bytes j) (over_powers (λ (s : ℕ). at c.loop-i.folded (j + s)))) c.loop-i-2.unfolded i v
          (search rules) c.loop-i-2.invariant.1 (ap (bit_xor (at bytes i)) c.added.ensures),
    )

pub returns : goal.returns
returns c =
    unfolds c.args.folded.now c.loop-i.folded c.args.bytes.now c.loop-i-2.unfolded c.requires.near c.loop-i-2.invariant.0
    c.loop-i.invariant.1 (λ j from h. c.loop-i.invariant.2 j from (search rules))
    (λ j h. c.loop-i-2.invariant.1 j (search rules))
