-- A world whose open calls become fewer, but for the moves, still follows the record.
use Rattle.std.proofs.Common.{◌≡◌, ℕ, suc, Bool, true, false, ◌&&◌, not, eqb-true, List, Some, refl, arith}
use Rattle.std.specs.List.{filter}
use Rattle.bank.specs.Bank.{Bank}
use Rattle.record.specs.Records.{Object}
use Rattle.record.specs.declared.call.CallKind.TheVariants.{Move}
use Rattle.network.specs.Worlds.{World}
use Rattle.open_calls.specs.OpenCalls.{NodeCall, open_call}
use Rattle.network.specs.Events.{Event}
use Rattle.network.specs.Following.{Follows, IsOpenIn}
use Rattle.network.specs.Followed.{IsFollowed}
use Rattle.open_calls.proofs.OpenCallLemmas.{all_filter, found, found_filter}
use Rattle.network.proofs.StepLemmas.{no_step}

-- the world with other calls, one event later
abbrev pub with_calls : World → List NodeCall → World
with_calls world calls = record world { calls = calls; now = suc world.now }

-- the world with those calls alone that pass a test, which each move that is found does
pub fewer_follow : (world : World) (object : Object) (test : NodeCall → Bool) →
    ((id : ℕ) (call : NodeCall) → open_call world.calls id ≡ Some call → call.kind ≡ Move → test call ≡ true) →
    Follows world object → Follows (with_calls world (filter test world.calls)) object
fewer_follow world object test moves follows = record {
  one = follows.one;
  delta = follows.delta;
  layouts = follows.layouts;
  banks = follows.banks;
  sent = follows.sent;
  history = follows.history;
  calls = all_filter (IsOpenIn object) test world.calls follows.calls;
  moves = λ index call at kind none. let move = follows.moves index call at kind none in record {
    carried = move.carried;
    found = found_filter test world.calls call.id move.carried move.found (moves call.id move.carried move.found move.kind);
    kind = move.kind;
    node = move.node;
  };
  kept = follows.kept;
}

stays : (same : Bool) → not (same && not true) ≡ true
stays true = refl
stays false = refl

pub restart_followed : (node : ℕ) (banks : List (List Bank)) (calls : List NodeCall) → IsFollowed (Event.Restart node banks calls)
restart_followed node banks calls fragment world object code sound follows may premised =
    grind (arith, fewer_follow, found, no_step, stays, with_calls)

passes : (b : Bool) → (b ≡ true → ⊥) → not b ≡ true
passes true no_true = absurd (no_true refl)
passes false no_true = refl

pub give_up_followed : (id : ℕ) → IsFollowed (Event.GiveUp id)
give_up_followed id fragment world object code sound follows may premised =
    grind (arith, eqb-true, fewer_follow, found, no_step, passes, with_calls)
