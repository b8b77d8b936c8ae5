use Rattle.std.proofs.lemmas.Grind.{common_steps}
use Rattle.std.proofs.Common.{rules, ap, sym, ◌∙◌, ℕ, arith}
use Rattle.node_log.specs.Entry.{chain_after, first_chain}
use Rattle.node_store.proofs.LogBytesLemmas.{chain_more}
use Rattle.node_store.proofs.RewritingLemmas.{one_waits, part_written, same_written}
use Rattle.node_store.proofs.rewriting.write_entries.Goals.{then-len-ge-PART_BYTES+in_ok-length, else-len-ge-PART_BYTES}
use Rattle.node_store.proofs.rewriting.write_entries.Goals as goal

pub loop-entry-preserved : goal.loop-entry-preserved
loop-entry-preserved g c =
    let entries = c.args.entries.now in
    let index = c.loop-entry.entry-index in
    let entry = c.entry-item.result in
    let waits = one_waits first_chain c.loop-entry.chain.state _ _ c.loop-entry.part c.push_entry.new.bytes
    c.loop-entry.length entries index entry entry c.loop-entry-test.true c.entry-item.is c.loop-entry.invariant.1
    c.in_ok-push_entry.ensures c.loop-entry.invariant.0 in
    let chained = c.pass.ensures ∙ ap (λ (n : ℕ). chain_after n entry) c.loop-entry.invariant.1
    ∙ sym (chain_more first_chain entries index entry entry c.loop-entry-test.true c.entry-item.is) in
    elim c.if-len-ge-PART_BYTES.branch [
      | then-len-ge-PART_BYTES+in_ok-length w ↦ (
        same_written _ _ _ _ _ _ _ _ (ap g.L.Log.written w.log-is)
            w.part-is w.length-is
            (part_written _ _ _ c.push_entry.new.bytes _ _ _ _ waits w.in_ok-length.ensures.written
            w.in_ok-length.ensures.empty w.in_ok-length.ensures.length),
        chained,
        ap g.L.Log.sound w.log-is ∙ w.in_ok-length.ensures.sound ∙ c.loop-entry.invariant.2,
        ap g.L.Log.failed w.log-is ∙ w.in_ok-length.ensures.failure ∙ c.loop-entry.invariant.3,
      )
      | else-len-ge-PART_BYTES w ↦ (
        same_written _ _ _ _ _ _ _ _ (ap g.L.Log.written w.log-is)
            w.part-is w.length-is waits,
        chained,
        ap g.L.Log.sound w.log-is ∙ c.loop-entry.invariant.2,
        ap g.L.Log.failed w.log-is ∙ c.loop-entry.invariant.3,
      )
    ]

pub returns-clause-synced : goal.returns-clause-synced
returns-clause-synced g c = search rules

pub returns-clause-written : goal.returns-clause-written
returns-clause-written g c = grind (arith, common_steps)

pub returns-clause-end : goal.returns-clause-end
returns-clause-end g c = grind (arith, common_steps)
