use Rattle.std.proofs.Common.{◌++◌, length}
use Rattle.frames.specs.Frame.{header, line_end}
use Rattle.node_log.proofs.TallyLemmas.{takes_then}
use Rattle.node_log.proofs.tally.Tally.take_string.Goals as goal

pub returns : goal.returns
returns c =
    let string = c.args.string.now in
    takes_then _ _ _ (header 36 (length string)) (string ++ line_end) c.take_header.ensures
    (takes_then _ _ _ string line_end c.take.ensures c.take_line_end.ensures)
