-- Events of the world, and then more events.
use Rattle.std.proofs.Common.{◌≡◌, List, [], ◌∷◌, ◌++◌}
use Rattle.std.proofs.Common.{refl, sym, subst, ap, ◌∙◌}
use Rattle.record.specs.Fragments.{Code}
use Rattle.network.specs.Worlds.{World, opened_world}
use Rattle.network.specs.Events.{Event, happens, world_after}
use Rattle.network.specs.Laws.{IsReached}
use Rattle.network.specs.Premises.{MayHappenInTurn}

pub run_append : (fragment : Code) (first second : List Event) (world : World) →
    world_after fragment (first ++ second) world ≡ world_after fragment second (world_after fragment first world)
run_append fragment [] second world = refl
run_append fragment (event ∷ first) second world = run_append fragment first second (happens fragment world event)

pub may_append : (fragment : Code) (first second : List Event) (world : World) → MayHappenInTurn fragment first world →
    MayHappenInTurn fragment second (world_after fragment first world) → MayHappenInTurn fragment (first ++ second) world
may_append fragment [] second world a b = b
may_append fragment (event ∷ first) second world a b =
    (a.0, a.1, may_append fragment first second (happens fragment world event) a.2 b)

-- a world that is reached leads to such worlds
pub reached_later : (fragment : Code) (world : World) (events : List Event) → IsReached fragment world →
    MayHappenInTurn fragment events world → IsReached fragment (world_after fragment events world)
reached_later fragment world events reached may = record {
  files = reached.files;
  one = reached.one;
  lawful = reached.lawful;
  events = reached.events ++ events;
  may = may_append fragment reached.events events (opened_world reached.files) reached.may
      (subst (MayHappenInTurn fragment events) (sym reached.result) may);
  result = run_append fragment reached.events events (opened_world reached.files)
      ∙ ap (world_after fragment events) reached.result;
}
