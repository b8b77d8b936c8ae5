use Rattle.std.proofs.Common.{[], ◌∷◌, ◌++◌}
use Rattle.std.specs.Fmt.{decimal}
use Rattle.frames.specs.Frame.{line_end}
use Rattle.node_log.proofs.TallyLemmas.{takes_then}
use Rattle.node_log.proofs.tally.Tally.take_header.Goals as goal

pub returns : goal.returns
returns c =
    takes_then _ _ _ (c.args.mark ∷ []) (decimal c.args.number ++ line_end) c.take.ensures
    (takes_then _ _ _ (decimal c.args.number) line_end c.take_number.ensures c.take_line_end.ensures)
