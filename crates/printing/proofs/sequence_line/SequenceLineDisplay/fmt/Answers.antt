use Rattle.std.proofs.Common.{◌≡◌, ℕ, List, ◌∷◌, arith, rules, sym, ap, ◌∙◌}
use Rattle.std.proofs.Output.{has_written_append, has_written_of_eq}
use Rattle.std.specs.Fmt.{HasWritten, decimal}
use Rattle.std.proofs.lemmas.Grind.{common_steps}
use Rattle.printing.specs.SequenceLine.{sequence_text}
use Rattle.printing.proofs.FlattenedListLemmas.{flat_map-all, join_with_byte-flat_map}
use Rattle.printing.proofs.sequence_line.SequenceLineDisplay.fmt.Goals as goal

pub returns-clause-writes : goal.returns-clause-writes
returns-clause-writes g c = λ plain _.
    let first = c.in-Some.first.now in
    let rest = c.in-Some.rest.now in
    let whole : c.args.self.now.0.now ≡ first ∷ rest = search rules in
    let head : HasWritten g.W.Write.write_str_gives c.args.f.now (decimal first) c.write.new.self = search rules in
    has_written_of_eq _ _ _ _ _
    (flat_map-all (decimal first) (λ (call : ℕ). 32 ∷ decimal call) rest c.loop-call.call-index (omega arith)
    ∙ sym (join_with_byte-flat_map 32 decimal first rest) ∙ ap (λ (calls : List ℕ). sequence_text calls) (sym whole))
    (has_written_append _ _ _ _ _ _ head (c.loop-call.invariant head.plain))

pub loop-call-preserved : goal.loop-call-preserved
loop-call-preserved g c = grind (arith, common_steps)
