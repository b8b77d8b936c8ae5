use Rattle.std.proofs.Common.{◌≡◌, ◌⊎◌}
use Rattle.cluster.specs.Places.{IsObjectAt}
use Rattle.driver.specs.Driver.{Drives, IsNotAnswered}
use Rattle.driver.proofs.driver.finish.Given as goal

abbrev pub invariant-loop-turn : goal.invariant-loop-turn
invariant-loop-turn g l = record {
  drives : Drives g.C.Chooser.chooses l.name l.call l.resumed l.turn l.initial.cluster l.initial.chooser l.cluster l.chooser;
  placed : IsObjectAt l.cluster l.name l.object;
  open_call : (l.turn ≡ 0) ⊎ IsNotAnswered l.cluster l.name l.call;
}
