use Rattle.std.proofs.Common.{◌≡◌, ◌<◌, ℕ, List, Some, true, slice_get}
use Rattle.object_letters.specs.Leading.{can_be_led_to}
use Rattle.node_keeper.specs.Objects.{heard_names, objects_of}
use Rattle.node_keeper.proofs.keeper.Keeper.may_rewrite.Given as goal

abbrev pub invariant-loop-index : goal.invariant-loop-index
invariant-loop-index l = (i : ℕ) (name : List ℕ) → i < l.index → slice_get (heard_names l.self.objects) i ≡ Some name →
    can_be_led_to (objects_of l.self.objects name) ≡ true
