use Rattle.std.proofs.Common.{◌<◌, ◌∷◌, [], List, length, sym, ap₂, arith}
use Rattle.exports.specs.declared.event.Event.{Event}
use Rattle.exports.specs.Event.{ends_of}
use Rattle.exports.proofs.FlattenedPairLemmas.{both_more, flat_map-zip_all}
use Rattle.exports.proofs.event.both_ends.Goals as goal

pub loop-index-preserved : goal.loop-index-preserved
loop-index-preserved c =
    let same = c.requires in
    let below : c.loop-index.index < length c.args.entries.now = omega arith in
    let beside : c.loop-index.index < length c.args.processes.now = omega (arith, same, below) in
    let pair : Event → Event → List Event = λ one two. one ∷ two ∷ [] in
    both_more (ends_of c.args.end) c.args.entries.now c.args.processes.now c.loop-index.index c.index-entries-index.result _ _ _
    _ _ _ below beside c.index-entries-index.is (sym (ap₂ pair c.in_ok-begin_event.ensures c.in_ok-end_event.ensures))
    c.loop-index.invariant c.in_ok-push.ensures.items c.in_ok-push-2.ensures.items

pub returns : goal.returns
returns c =
    flat_map-zip_all (ends_of c.args.end) c.args.entries.now c.args.processes.now c.loop-index.index c.loop-index.events.items
    c.loop-index.invariant c.requires (omega arith)
