use Rattle.std.proofs.Common.{◌≡◌}
use Rattle.node.specs.Starts.{start_entries}
use Rattle.node_core.proofs.OpeningLemmas.{begun}
use Rattle.node_core.proofs.opening.begin.Goals as goal

pub returns-in-Ok : goal.returns-in-Ok
returns-in-Ok c =
    let made = c.opened_with.ensures in
    let same = c.deref.ensures.value in
    let started = c.in-Ok.ensures.entries in
    let those : c.deref.result.now ≡ start_entries c.args.node = cc in
    begun c.args.node c.start.new.self c.args.end c.args.cut c.deref.result.now c.opened_with.result
    c.in-Ok.ensures.named c.in-Ok.ensures.started c.in-Ok.ensures.desk those made.stays made.lost made.node made.bytes
    made.long made.chained made.going made.refused
