use Rattle.std.proofs.Common.{◌≡◌, ◌∷◌, ◌<◌, [], arith, rules, sym}
use Rattle.std.proofs.Output.{has_written_append, has_written_of_eq}
use Rattle.coding_commands.proofs.FragmentLineLemmas.{fragments_text-more}
use Rattle.coding_commands.proofs.fragments.FragmentsLineDisplay.fmt.Goals as goal
use Rattle.coding_commands.proofs.fragments.FragmentsLineDisplay.fmt.Goals.{then-i-eq0, else-i-eq0}

pub loop-i-preserved : goal.loop-i-preserved
loop-i-preserved g c = λ plain.
    let first : c.loop-i.i ≡ 0 → c.if-i-eq0.separator.now ≡ [] = λ e. elim c.if-i-eq0.branch [
      | then-i-eq0 w ↦ search rules
      | else-i-eq0 w ↦ absurd (omega arith)
    ] in
    let more : 0 < c.loop-i.i → c.if-i-eq0.separator.now ≡ 32 ∷ [] = λ above. elim c.if-i-eq0.branch [
      | then-i-eq0 w ↦ absurd (omega arith)
      | else-i-eq0 w ↦ search rules
    ] in
    has_written_of_eq _ _ _ _ _
    (sym (fragments_text-more c.args.self.now.0.now c.loop-i.i c.if-i-eq0.separator.now c.piece_at-piece.result.now
    c.piece_at-piece.ensures first more))
    (has_written_append _ _ _ _ _ _ (c.loop-i.invariant plain) (search rules))
