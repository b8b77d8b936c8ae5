use Rattle.std.proofs.Common.{take}
use Rattle.std.specs.List.{AllByRecursion}
use Rattle.layout.specs.Layout.{IsLawful}
use Rattle.cluster.proofs.cluster.laws.are_lawful.Given as goal

abbrev pub invariant-loop-layout : goal.invariant-loop-layout
invariant-loop-layout l = AllByRecursion IsLawful (take l.layout-index l.layouts)
