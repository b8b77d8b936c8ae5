use Rattle.std.proofs.Common.{[], rules, sym, arith}
use Rattle.std.proofs.Output.{has_written_append, has_written_of_eq}
use Rattle.exports.specs.Edn.{edn_line}
use Rattle.printing.proofs.FlattenedListLemmas.{flat_map-numbered_all, flat_map-numbered_item}
use Rattle.exports.proofs.edn_lines.EdnLinesDisplay.fmt.Goals as goal

pub loop-index-preserved : goal.loop-index-preserved
loop-index-preserved g c = λ plain.
    has_written_of_eq _ _ _ _ _
    (sym (flat_map-numbered_item edn_line c.args.self.now.0.now c.loop-index.index c.event-item.result (omega arith) c.event-item.is))
    (has_written_append _ _ _ _ _ _ (c.loop-index.invariant plain) (search rules))

pub returns-clause-writes : goal.returns-clause-writes
returns-clause-writes g c = λ plain _.
    has_written_of_eq _ _ _ _ _ (flat_map-numbered_all [] edn_line c.args.self.now.0.now c.loop-index.index (omega arith))
    (c.loop-index.invariant plain)
