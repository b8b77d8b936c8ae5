-- The names at a desk stay short with what comes in frames of bytes, and with what follows up.
use Rattle.std.proofs.Common.{◌≡◌, ◌≤◌, ◌++◌, ℕ, List, [], ◌∷◌, Option, None, Some, length, refl, subst, sym, arith}
use Rattle.std.specs.List.{AllByRecursion}
use Rattle.client_commands.specs.Reading.{command_at}
use Rattle.frames.specs.declared.limits.TheConstants.{MOST_STRINGS}
use Rattle.indexmap.specs.IndexMap.{keys}
use Rattle.letter.specs.declared.letter.NamedLetter.{NamedLetter}
use Rattle.node.proofs.FitCommandLemmas.{read_fit}
use Rattle.node.proofs.FitServiceLemmas.{services_fit}
use Rattle.node.specs.FitCommands.{IsFitFound}
use Rattle.node.specs.FitDesks.{IsFitDesk, IsFitService}
use Rattle.node.specs.FitNodes.{CameInBytes, IsByteFrame, IsFitAtWork, IsFitNode, StaysFit}
use Rattle.node.specs.Serving.{AreTicksOf, FollowsUp, IsComing, IsTickOf, ServesClients, ServesMore}
use Rattle.node.specs.declared.node.Node.{Node}
use Rattle.node_clients.specs.Services.{Service}
use Rattle.node_clients.specs.declared.desk.Desk.{Desk}
use Rattle.node_effects.specs.declared.work.Work.{Work}
use Rattle.node_strings.specs.Arrival.{arrival_at, arrival_strings}
use Rattle.node_strings.specs.Strings.{Strings}
use Rattle.node_strings.specs.declared.arrival.Arrival.{Arrival}
use Rattle.node_strings.specs.declared.arrival.Arrival.TheVariants as came
use Rattle.node_strings.proofs.ArrivalLemmas.{arrival_ok}
use Rattle.open_calls.proofs.ListLemmas.{all_append, all_weaker}
use Rattle.writable.specs.Keepers.{HasFitOwn, IsFitNamed, IsLeftFit}

-- what follows up brings no command
follows_brings_none : (service : Service) → FollowsUp service → IsFitService service
follows_brings_none (Service.Arrives client command) follows = absurd follows
follows_brings_none (Service.Leaves client) follows = tt
follows_brings_none (Service.Begins client command id) follows = tt
follows_brings_none (Service.Replies client first answer) follows = tt
follows_brings_none (Service.Quits client) follows = tt
follows_brings_none (Service.Ends name ended answer told) follows = tt
follows_brings_none (Service.Passes name ended client rest) follows = tt
follows_brings_none (Service.Ages id) follows = tt
follows_brings_none (Service.GivesUp id told) follows = tt
follows_brings_none (Service.Releases id told) follows = tt

pub all_bring_none : (services : List Service) → AllByRecursion FollowsUp services → AllByRecursion IsFitService services
all_bring_none services follows = all_weaker FollowsUp IsFitService follows_brings_none services follows

-- a tick brings no command
pub tick_brings_none : (id : ℕ) (service : Service) → IsTickOf id service → IsFitService service
tick_brings_none id (Service.Arrives client command) tick = absurd tick
tick_brings_none id (Service.Leaves client) tick = tt
tick_brings_none id (Service.Begins client command other) tick = tt
tick_brings_none id (Service.Replies client first answer) tick = tt
tick_brings_none id (Service.Quits client) tick = tt
tick_brings_none id (Service.Ends name ended answer told) tick = tt
tick_brings_none id (Service.Passes name ended client rest) tick = tt
tick_brings_none id (Service.Ages other) tick = tt
tick_brings_none id (Service.GivesUp other told) tick = tt
tick_brings_none id (Service.Releases other told) tick = tt

pub ticks_bring_none : (ids : List ℕ) (services : List Service) → AreTicksOf ids services → AllByRecursion IsFitService services
ticks_bring_none [] [] ticks = tt
ticks_bring_none [] (service ∷ services) ticks = absurd ticks
ticks_bring_none (id ∷ ids) [] ticks = absurd ticks
ticks_bring_none (id ∷ ids) (service ∷ services) ticks =
    (tick_brings_none id service ticks.0, ticks_bring_none ids services ticks.1)

-- What comes

same_services : (services wanted : List Service) → services ≡ wanted → AllByRecursion IsFitService wanted →
    AllByRecursion IsFitService services
same_services services wanted e fit = subst (λ (ss : List Service). AllByRecursion IsFitService ss) (sym e) fit

-- a command that comes in a frame of bytes
pub command_fit : (client : ℕ) (command : Strings) → CameInBytes (Some (came.Command client command)) → IsFitFound (command_at command)
command_fit client command is =
    let few : length (arrival_strings (came.Command client command)) ≤ MOST_STRINGS = is.frame.few in
    read_fit command (omega (arith, few))

pub coming_fit : (desk : Desk) (services : List Service) (o : Option Arrival) → CameInBytes o → IsComing desk o services →
    AllByRecursion IsFitService services
coming_fit desk services None is comes = same_services services [] comes tt
coming_fit desk services (Some (came.Command client command)) is comes =
    same_services services (Service.Arrives client command ∷ []) comes (command_fit client command is, tt)
coming_fit desk services (Some (came.Left client)) is comes = same_services services (Service.Leaves client ∷ []) comes (tt, tt)
coming_fit desk services (Some (came.Message sender message)) is comes = same_services services [] comes tt
coming_fit desk services (Some (came.Tick heard)) is comes = ticks_bring_none (keys desk.calls) services comes

-- what comes in a frame of bytes does so
pub came_in_bytes : (frame : Strings) → IsByteFrame frame → CameInBytes (arrival_at frame)
came_in_bytes frame is = go (arrival_at frame) refl
  where
    go : (o : Option Arrival) → arrival_at frame ≡ o → CameInBytes o
    go None e = tt
    go (Some arrival) e = subst IsByteFrame (arrival_ok frame arrival e) is

-- the names at the desk stay short as clients are served
pub served_fit : (a b : Node) (u v : Work) (services : List Service) → IsFitDesk a.desk → AllByRecursion IsFitService services →
    ServesClients a u services b v → IsFitDesk b.desk
served_fit a b u v services fit all serves =
    services_fit a.keeper.file.ticks a.keeper.file.fixed.delta a.desk b.desk services fit all serves.has.served

-- a node stays fit with what has come, if what it keeps does
pub comes_fit : (o : Option Arrival) (a b : Node) (u v : Work) (coming more : List Service) → IsComing a.desk o coming →
    AllByRecursion FollowsUp more → ServesClients a u (coming ++ more) b v →
    (CameInBytes o → IsFitNode a → IsLeftFit u b.keeper v) → CameInBytes o → StaysFit a u b v
comes_fit o a b u v coming more comes follows serves leaves is was =
    let left = leaves is was.fit in
    let all = all_append IsFitService coming more (coming_fit a.desk coming o is comes) (all_bring_none more follows) in record {
      fit = record { keeper = left.keeper; desk = served_fit a b u v (coming ++ more) was.fit.desk all serves };
      own = left.own was.own;
    }

-- a node stays fit with what follows up, if what it keeps does
pub more_fit : (a b : Node) (u v : Work) → ServesMore a u b v → IsLeftFit u b.keeper v → StaysFit a u b v
more_fit a b u v m left was = record {
  fit = record {
    keeper = left.keeper;
    desk = served_fit a b u v m.services was.fit.desk (all_bring_none m.services m.follows) m.serves;
  };
  own = left.own was.own;
}

-- no letter of the node to itself waits
pub none_wait : (node : Node) (work : Work) → work.own.items ≡ [] → IsFitNode node → IsFitAtWork node work
none_wait node work none fit =
    record { fit = fit; own = subst (λ (its : List NamedLetter). AllByRecursion IsFitNamed its) (sym none) tt }

-- one letter of the node to itself was taken out
pub taken_own : (before after : Work) (it : NamedLetter) → before.own.items ≡ it ∷ after.own.items → HasFitOwn before →
    IsFitNamed it × HasFitOwn after
taken_own before after it taken own = subst (λ (its : List NamedLetter). AllByRecursion IsFitNamed its) taken own
