use Rattle.std.proofs.Common.{◌≡◌, ◌<◌, length, get_or, take, rules, subst, sym, List}
use Rattle.std.specs.List.{AllByRecursion}
use Rattle.std.proofs.lemmas.List.{take_more}
use Rattle.layout.specs.Layout.{IsLawful, Layout}
use Rattle.soundness.proofs.ListLemmas.{all_push}
use Rattle.cluster.proofs.cluster.laws.are_lawful.Goals as goal

pub loop-layout-preserved : goal.loop-layout-preserved
loop-layout-preserved c =
    let i = c.loop-layout.layout-index in
    let ls : List Layout = c.args.layouts.now in
    let l : Layout = c.layout-item.result in
    let less : i < length ls = search rules in
    let is : l ≡ get_or ls i l = c.layout-item.is in
    subst (AllByRecursion IsLawful) (sym (take_more ls i l less))
    (all_push IsLawful (take i ls) (get_or ls i l) c.loop-layout.invariant (subst IsLawful is c.k.ensures.lawful))
