use Rattle.std.proofs.Common.{◌∙◌, rules, tests}
use Rattle.std.proofs.lemmas.Iterator.Consumers.{YieldsList-at, YieldsList-from_filter, YieldsList-from_rest, count_from_yields_List}
use Rattle.std.proofs.lemmas.List.Sums.{length-filter}
use Rattle.indexmap.specs.IndexMap.{values}
use Rattle.node.specs.Info.{is_move_open}
use Rattle.node.proofs.node.peer_lines.count_moves.Goals as goal

pub returns : goal.returns
returns c =
    let calls = values c.args.calls.now in
    count_from_yields_List _ _ c.count.ensures.ran
    (YieldsList-from_filter _ is_move_open (YieldsList-at c.filter.ensures.source (YieldsList-from_rest calls c.values.ensures.rest))
    c.filter.ensures.closure (λ x r q k. search (rules, tests))) ∙ length-filter is_move_open calls
