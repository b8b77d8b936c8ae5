-- A fit node stays fit at a tick, and can send all requests of calls that ask again.
use Rattle.std.proofs.Common.{◌&&◌, not, ℕ, Bool, true, false, List, [], ◌∷◌, Option, None, Some, sym, subst}
use Rattle.std.specs.Prelude.{IfSome}
use Rattle.indexmap.specs.IndexMap.{keys}
use Rattle.node.specs.Failures.{CanAge, FailsTicks}
use Rattle.node.specs.Ticks.{AreTicked, IsKeptAs, IsKeptAtAge, IsTicked, aged_at, hearing}
use Rattle.node.specs.declared.node.Node.{Node}
use Rattle.node_clients.specs.Calls.{aged_call, call_under}
use Rattle.node_clients.specs.declared.open_call.Aged.{Aged}
use Rattle.node_clients.specs.declared.open_call.OpenCall.{OpenCall}
use Rattle.node_effects.specs.declared.error.NodeError.TheVariants as errors
use Rattle.node_keeper.specs.Sendings.{Sending}
use Rattle.node_keeper.specs.declared.keeper.Keeper.{Keeper}
use Rattle.node_strings.specs.declared.heard.Heard.{Heard}
use Rattle.writable.specs.Keepers.{IsFitKeeper}
use Rattle.writable.proofs.AskingLemmas.{asked_again_fit, can_resend_fit}
use Rattle.writable.proofs.KeeperLemmas.{given_up_fit}
use Rattle.node.specs.FitDesks.{IsFitOpenCall}
use Rattle.node.specs.FitNodes.{IsFitNode}
use Rattle.node.proofs.FitComingLemmas.{tick_brings_none}
use Rattle.node.proofs.FitDeskLemmas.{found_call}
use Rattle.node.proofs.FitServiceLemmas.{service_fit}

kept_as : (given_up asks : Bool) (old : Keeper) (name : List ℕ) (id : ℕ) (new : Keeper) → IsFitKeeper old →
    IsKeptAs given_up asks old name id new → IsFitKeeper new
kept_as false false old name id new fit kept = subst IsFitKeeper (sym kept) fit
kept_as false true old name id new fit kept = (asked_again_fit old new name id fit).0 kept
kept_as true asks old name id new fit kept = given_up_fit old new name id fit kept.0 kept.1

kept_at_age : (old : Keeper) (id : ℕ) (o : Option Aged) (new : Keeper) → IsFitKeeper old → IsKeptAtAge old id o new → IsFitKeeper new
kept_at_age old id None new fit kept = subst IsFitKeeper (sym kept) fit
kept_at_age old id (Some aged) new fit kept = kept_as (aged.is_late && not aged.is_move) aged.asks_again old aged.name id new fit kept

ticked_fit : (id : ℕ) (old : Node) (sends : List Sending) (new : Node) → IsFitNode old → IsTicked id old sends new → IsFitNode new
ticked_fit id old sends new fit is = record {
  keeper = kept_at_age old.keeper id (aged_at old id) new.keeper fit.keeper is.kept;
  desk = service_fit old.keeper.file.ticks old.keeper.file.fixed.delta old.desk is.service new.desk fit.desk
      (tick_brings_none id is.service is.tick) is.done;
}

all_ticked_fit : (ids : List ℕ) (old : Node) (sends : List Sending) (new : Node) → IsFitNode old → AreTicked ids old sends new →
    IsFitNode new
all_ticked_fit [] old sends new fit is = subst IsFitNode (sym is.1) fit
all_ticked_fit (id ∷ ids) old sends new fit is =
    all_ticked_fit ids is.0 is.2 new (ticked_fit id old is.1 is.0 fit is.4) is.5

can_age : (node : Node) (id : ℕ) → IsFitNode node → CanAge node.keeper id (aged_at node id)
can_age node id fit = go (call_under node.desk.calls id) (found_call node.desk id fit.desk.calls)
  where
    go : (o : Option OpenCall) → IfSome o IsFitOpenCall → CanAge node.keeper id (aged_call node.keeper.file.ticks o)
    go None is = tt
    go (Some call) is = can_resend_fit node.keeper call.name id _ fit.keeper is.name

pub ticks_do_not_fail : (heard : Heard) (node : Node) → IsFitNode node →
    FailsTicks (keys node.desk.calls) (hearing heard node) errors.Unwritable → ⊥
ticks_do_not_fail heard node fit fails =
    let there : IsFitNode (hearing heard node) = record { keeper = fit.keeper; desk = fit.desk } in
    let ticked : IsFitNode fails.middle = all_ticked_fit fails.first (hearing heard node) fails.sends fails.middle there fails.ticked in
    fails.fails (can_age fails.middle fails.id ticked)
