-- No command that may be carried out is left waiting.
use Rattle.std.proofs.Common.{◌≡◌, ◌≢◌, inl, inr, ℕ, true, false, List, [], ◌∷◌, nat_eq, sym, subst, ◌∙◌}
use Rattle.std.proofs.lemmas.Bool.{false≢true}
use Rattle.std.specs.List.{AllByRecursion}
use Rattle.indexmap.specs.IndexMap.{get}
use Rattle.node_clients.specs.Connections.{has_next}
use Rattle.node_clients.specs.declared.connections.Connections.{Connections}
use Rattle.open_calls.proofs.ListLemmas.{all_weaker}
use Rattle.node_clients.specs.declared.next.Next.{Next}
use Rattle.node_effects.specs.declared.work.Work.{Work}
use Rattle.node_clients.specs.Desk.{IsDue, NoneWaits}
use Rattle.node_clients.specs.Served.{IsCommandTaken}
use Rattle.node_clients.specs.Services.{Service}
use Rattle.node_clients.specs.declared.desk.Desk.{Desk}
use Rattle.node_clients.proofs.WaitLemmas.{IsNoArrival, command_waits, services_wait}
use Rattle.node.specs.Serving.{AreTicksOf, FollowsUp, IsCommandDone, IsTickOf, ServesClients, ServesCommand, ServesMore}
use Rattle.node.specs.Serving.{ServesTicks}
use Rattle.node.specs.declared.node.Node.{Node}
use Rattle.node.proofs.CommandLemmas.{command_is, command_served}

-- a connection that gives no next command need not be due
pub not_next_waits : (clients : Connections) (client : ℕ) (due : List ℕ) →
    has_next (get nat_eq clients.by_number client) ≡ false → NoneWaits clients (client ∷ due) → NoneWaits clients due
not_next_waits clients client due none waits other next = go (waits other next)
  where
    go : IsDue (client ∷ due) other → IsDue due other
    go (inl same) =
        absurd (false≢true (sym none ∙ subst (λ n. has_next (get nat_eq clients.by_number n) ≡ true) same next))
    go (inr is) = is

-- the next command of a connection was carried out, which need not be due any more
pub taken_waits : (a b c : Node) (u v : Work) (client : ℕ) (next : Next) → IsCommandTaken a.desk client next b.desk →
    ServesCommand client next b u c v → NoneWaits a.desk.clients (client ∷ u.due.items) →
    NoneWaits c.desk.clients v.due.items
taken_waits a b c u v client next taken s waits =
    let ticks = a.keeper.file.ticks in
    let delta = a.keeper.file.fixed.delta in
    subst (λ xs. NoneWaits c.desk.clients xs) (sym s.due)
    (command_waits ticks delta a.desk c.desk client s.service u.due.items
    (command_is b.desk c.desk client next s.service s.done).0
    (command_served ticks delta a.desk b.desk c.desk client next s.service taken s.done)
    (λ other apart next. others other apart (waits other next)))
  where
    others : (other : ℕ) → other ≢ client → IsDue (client ∷ u.due.items) other → IsDue u.due.items other
    others other apart (inl same) = absurd (apart same)
    others other apart (inr is) = is

-- anything happens but that a command comes
pub serves_wait : (a b : Node) (u v : Work) (services : List Service) → ServesClients a u services b v →
    AllByRecursion IsNoArrival services → NoneWaits a.desk.clients u.due.items → NoneWaits b.desk.clients v.due.items
serves_wait a b u v services s none waits =
    subst (λ xs. NoneWaits b.desk.clients xs) (sym s.has.due)
    (services_wait a.keeper.file.ticks a.keeper.file.fixed.delta a.desk b.desk services u.due.items none s.has.served waits)

follows_none : (service : Service) → FollowsUp service → IsNoArrival service
follows_none (Service.Arrives client command) follows = absurd follows
follows_none (Service.Leaves client) follows = tt
follows_none (Service.Begins client command id) follows = tt
follows_none (Service.Replies client command answer) follows = tt
follows_none (Service.Quits client) follows = tt
follows_none (Service.Ends name ended answer told) follows = tt
follows_none (Service.Passes name ended client rest) follows = tt
follows_none (Service.Ages id) follows = tt
follows_none (Service.GivesUp id told) follows = tt
follows_none (Service.Releases id told) follows = tt

pub more_waits : (a b : Node) (u v : Work) → ServesMore a u b v → NoneWaits a.desk.clients u.due.items →
    NoneWaits b.desk.clients v.due.items
more_waits a b u v s waits =
    serves_wait a b u v s.services s.serves (all_weaker FollowsUp IsNoArrival follows_none s.services s.follows) waits

tick_none : (id : ℕ) (service : Service) → IsTickOf id service → IsNoArrival service
tick_none id (Service.Arrives client command) tick = absurd tick
tick_none id (Service.Leaves client) tick = tt
tick_none id (Service.Begins client command other) tick = tt
tick_none id (Service.Replies client command answer) tick = tt
tick_none id (Service.Quits client) tick = tt
tick_none id (Service.Ends name ended answer told) tick = tt
tick_none id (Service.Passes name ended client rest) tick = tt
tick_none id (Service.Ages other) tick = tt
tick_none id (Service.GivesUp other told) tick = tt
tick_none id (Service.Releases other told) tick = tt

ticks_none : (ids : List ℕ) (services : List Service) → AreTicksOf ids services → AllByRecursion IsNoArrival services
ticks_none [] [] ticks = tt
ticks_none [] (service ∷ services) ticks = absurd ticks
ticks_none (id ∷ ids) [] ticks = absurd ticks
ticks_none (id ∷ ids) (service ∷ services) ticks = (tick_none id service ticks.0, ticks_none ids services ticks.1)

pub ticks_wait : (ids : List ℕ) (a b : Node) (u v : Work) → ServesTicks ids a u b v → NoneWaits a.desk.clients u.due.items →
    NoneWaits b.desk.clients v.due.items
ticks_wait ids a b u v s waits = serves_wait a b u v s.services s.serves (ticks_none ids s.services s.ticks) waits
