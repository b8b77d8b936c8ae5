use Rattle.std.proofs.Common.{◌≡◌, ◌∙◌, sym, ap, take, get_or, arith}
use Rattle.std.proofs.lemmas.Bool.Decides.{nat_tests}
use Rattle.std.proofs.lemmas.List.{take_more, take_all}
use Rattle.std.specs.Cmp.{nat_cmp_total}
use Rattle.std.specs.FinSet as set
use Rattle.std.specs.Ordering.{nat_cmp}
use Rattle.layout.proofs.DistinctMemberLemmas.{size, distinct_from_size, size_from_distinct}
use Rattle.layout.proofs.layout.are_distinct.Goals as goal

pub loop-member-preserved : goal.loop-member-preserved
loop-member-preserved c =
    let xs = c.args.members.now in
    let i = c.loop-member.member-index in
    let x = get_or xs i 0 in
    c.insert.ensures.inserted ∙ ap (λ s. set.insert s x) c.loop-member.invariant
    ∙ sym (ap (set.from_list {R = nat_cmp}) (take_more xs i 0 c.loop-member-test.true)
    ∙ set.from_list_push nat_cmp_total set.nat_cmp-IsAntisymmetric (take i xs) x)

pub returns : goal.returns
returns c =
    let xs = c.args.members.now in
    let all = ap (λ ys. size ys) (take_all c.loop-member.member-index xs c.loop-member-test.false) in
    let counted : c.count.result ≡ size xs = c.count.ensures ∙ ap set.len c.loop-member.invariant ∙ all in
    (λ same. distinct_from_size xs (grind (arith, nat_tests)), λ distinct. grind (arith, nat_tests, size_from_distinct xs distinct))
