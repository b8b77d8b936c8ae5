use Rattle.std.proofs.Common.{◌<◌, ℕ, List, length, get_or, sym, ap, subst, ◌∙◌, arith}
use Rattle.std.proofs.lemmas.List.{get_or_read}
use Rattle.record.specs.declared.call.Entry.{Entry}
use Rattle.atomicity.specs.Atomic.{no_entry}
use Rattle.exports.specs.declared.event.Process.{Process}
use Rattle.exports.specs.Clients.{TakesProcess}
use Rattle.exports.proofs.FollowsLemmas.{Follows}
use Rattle.exports.proofs.FreeClientLemmas.{one_more}
use Rattle.exports.proofs.ListLemmas.{length-pushed}
use Rattle.exports.proofs.clients.assign.Goals as goal

pub loop-entry-preserved : goal.loop-entry-preserved
loop-entry-preserved c =
    let entries = c.args.entries.now in
    let processes = c.loop-entry.processes.items in
    let process = c.in_ok-process.process in
    let new = c.process_of.new.clients.items in
    let within : c.loop-entry.entry-index < length entries = omega arith in
    let item = get_or_read entries c.loop-entry.entry-index c.entry-item.result within c.entry-item.is no_entry in
    let place = ap (λ (n : ℕ). get_or entries n no_entry) (sym c.loop-entry.invariant.count) in
    let takes = subst (λ (e : Entry). TakesProcess c.loop-entry.clients.items e new process) (item ∙ place) c.in_ok-process.ensures in
    let more = ap (λ (ps : List Process). length ps) c.in_ok-push.ensures.items in
    let one = length-pushed processes process in
    let count = c.loop-entry.invariant.count in
    record {
      count = omega (arith, more, one, count);
      follows = subst (λ (ps : List Process). Follows entries ps new) (sym c.in_ok-push.ensures.items)
          (one_more entries processes c.loop-entry.clients.items new process c.loop-entry.invariant.follows takes);
    }
