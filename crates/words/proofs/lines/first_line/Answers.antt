use Rattle.std.proofs.Common.{◌+◌, ◌∙◌, sym}
use Rattle.words.proofs.LineSplitLemmas.{drop-whole, if_none, lines-first, lines-last}
use Rattle.words.proofs.lines.first_line.Goals as goal

pub returns-in_err-end-clause-last : goal.returns-in_err-end-clause-last
returns-in_err-end-clause-last c =
    if_none c.from_residual.result _ (lines-last c.args.text.now (sym c.line_feed.ensures ∙ c.in_err-end.was))

pub returns-clause-cut : goal.returns-clause-cut
returns-clause-cut c =
    let text = c.args.text.now in
    let cut = lines-first text c.in_ok-end.end (sym c.line_feed.ensures ∙ c.in_ok-end.was) in
    rw (c.without_carriage_return.ensures, drop-whole text (c.in_ok-end.end + 1)) cut.1
