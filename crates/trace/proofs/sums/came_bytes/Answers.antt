use Rattle.std.proofs.Common.{◌≡◌, ◌∷◌, ◌∙◌, arith}
use Rattle.std.proofs.lemmas.Map.Iter.{rest_more, rest_all}
use Rattle.tag.specs.declared.tag.Tag.{Tag}
use Rattle.bank.specs.declared.row.Row.{Row}
use Rattle.trace.specs.Cost.{bytes_for}
use Rattle.trace.proofs.CappedSumLemmas.{capped_rest}
use Rattle.trace.proofs.sums.came_bytes.Goals as goal

pub loop-known-init : goal.loop-known-init
loop-known-init c = grind arith

pub loop-known-preserved : goal.loop-known-preserved
loop-known-preserved c =
    let first : Tag × Row = (c.in-Some.known.now, c.in-Some.row.now) in
    let is : c.loop-known.known-iterator ≡ first ∷ c.next.new.self = grind (arith, rest_more) in
    record {
      capped = grind arith;
      sum = capped_rest (bytes_for c.args.fragment c.args.tag) first c.next.new.self c.loop-known.known-iterator c.loop-known.total _ _
          is c.bytes_for.ensures c.saturating_add-total.ensures ∙ c.loop-known.invariant.sum;
    }

pub returns : goal.returns
returns c = grind (arith, rest_all)
