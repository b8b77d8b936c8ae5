use Rattle.std.proofs.Common.{◌≡◌, ◌∙◌, ℕ, List, ap, refl, get_or, arith, rules}
use Rattle.node_log.proofs.ZeroLemmas.{replicated}
use Rattle.node_log.proofs.FoldLemmas.{at, put_next, put_before, state_stands}
use Rattle.node_log.proofs.folding.folded_state.Goals as goal

pub loop-i-init : goal.loop-i-init
loop-i-init c = (search rules, (λ j h. absurd (omega arith)), (λ j h. replicated 1461 j))

pub loop-i-preserved : goal.loop-i-preserved
loop-i-preserved c =
    let low = c.to_le_bytes-low.result in
    let i = c.loop-i.i in (
      search rules,
      put_next (λ (j b : ℕ). b ≡ at low j) c.loop-i.folded i (at low i) (search rules) c.loop-i.invariant.1 refl,
      (λ j h. put_before c.loop-i.folded i (at low i) j (omega arith) ∙ c.loop-i.invariant.2 j (omega arith)),
    )

pub returns : goal.returns
returns c =
    let s = c.args.state in
    let low = c.to_le_bytes-low.ensures in
    let byte = c.loop-i.invariant.1 in
    state_stands s c.loop-i.folded c.ranges.state.fits
    (byte 0 (search rules) ∙ ap (λ (l : List ℕ). get_or l 0 0) low)
    (byte 1 (search rules) ∙ ap (λ (l : List ℕ). get_or l 1 0) low)
    (byte 2 (search rules) ∙ ap (λ (l : List ℕ). get_or l 2 0) low)
    (byte 3 (search rules) ∙ ap (λ (l : List ℕ). get_or l 3 0) low)
    (λ j h. c.loop-i.invariant.2 j (search rules))
