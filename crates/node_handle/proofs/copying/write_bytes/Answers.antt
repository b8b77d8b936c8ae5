use Rattle.std.proofs.Common.{◌≡◌, List, ℕ, length, take, sym, ap, ◌∙◌, length-append, arith}
use Rattle.std.specs.List.{concat}
use Rattle.node_handle.proofs.CopyingLemmas.{length_kept, one_more, part_placed, part_within}
use Rattle.node_handle.proofs.copying.write_bytes.Goals as goal

pub write_at-requires : goal.write_at-requires
write_at-requires c =
    let long = c.len.ensures in
    let equal : length c.args.out.now ≡ length c.args.bytes.now = omega (arith, c.if-out-len.false) in
    part_within c.parts.result.0.now c.loop-part.part-index c.deref.result.now c.part-item.result c.loop-part-test.true
    (c.deref.ensures ∙ c.part-item.is) c.parts.result.1.now c.args.bytes.now c.args.out.now c.loop-part.out c.loop-part.count
    c.parts.ensures c.loop-part.invariant.1 c.loop-part.invariant.0 equal

pub loop-part-preserved : goal.loop-part-preserved
loop-part-preserved c =
    let parts = c.parts.result.0.now in let part = c.deref.result.now in let i = c.loop-part.part-index in
    let is = c.deref.ensures ∙ c.part-item.is in let lt = c.loop-part-test.true in
    let before = concat (take i parts) in let count = c.loop-part.invariant.1 in let whole_long = c.len.ensures in
    let equal : length c.args.out.now ≡ length c.args.bytes.now = omega (arith, c.if-out-len.false) in
    let room = part_within parts i part c.part-item.result lt is c.parts.result.1.now c.args.bytes.now c.args.out.now
    c.loop-part.out c.loop-part.count c.parts.ensures count c.loop-part.invariant.0 equal in
    let long = c.len-count.ensures.value ∙ ap (λ (t : List ℕ). length t) (sym c.deref.ensures) in
    let more = one_more parts i part c.part-item.result lt is in let written = c.write_at.ensures in
    let added = length-append before part in let all = ap (λ (t : List ℕ). length t) more in (
      length_kept before part c.loop-part.out c.write_at.new.out c.loop-part.count c.len-count.result long written room
          ∙ c.loop-part.invariant.0,
      omega arith,
      part_placed before part c.loop-part.out c.write_at.new.out c.loop-part.count c.len-count.result long written
          c.loop-part.invariant.2 count ∙ sym more,
    )
