-- What a node does for its clients, one thing after another.
use Rattle.std.proofs.Common.{◌≡◌, ℕ, List, [], ◌∷◌, ◌++◌}
use Rattle.std.proofs.Common.{refl, sym, subst, ap, ◌∙◌}
use Rattle.std.proofs.lemmas.List.{append-nil}
use Rattle.std.specs.List.{AllByRecursion}
use Rattle.cluster_file.specs.File.{FileContents}
use Rattle.deeds.specs.CallId.{CallIds}
use Rattle.open_calls.proofs.ListLemmas.{all_append}
use Rattle.node_effects.specs.declared.work.Work.{Work}
use Rattle.node_clients.specs.Served.{HasServed, IsServiceDone}
use Rattle.node_clients.specs.Services.{Service, service_dues, service_frames, service_notices}
use Rattle.node_clients.proofs.ServedLemmas.{has_served_then, one_served}
use Rattle.node_keeper.specs.declared.keeper.Keeper.{Keeper}
use Rattle.node.specs.BegunCalls.{HasPutOut}
use Rattle.node.specs.GivenIds.{UsesIds}
use Rattle.node.specs.Replies.{IsRight}
use Rattle.node.specs.Serving.{FollowsUp, ServesClients}
use Rattle.node.specs.Serving.{ServesMore}
use Rattle.node.specs.declared.node.Node.{Node}
use Rattle.node.specs.declared.peers.Peers.{Peers}
use Rattle.node.proofs.GivenIdLemmas.{one_used, used_then, uses_node}

-- nothing is done for clients
pub serves_none : (old new : Node) (u v : Work) → new.desk ≡ old.desk → v.to_clients.items ≡ u.to_clients.items →
    v.due.items ≡ u.due.items → v.notices.items ≡ u.notices.items → new.keeper.file ≡ old.keeper.file →
    new.keeper.ids ≡ old.keeper.ids → ServesClients old u [] new v
serves_none old new u v desk told due notices file ids = record {
  has = record {
    served = desk;
    told = told ∙ sym (append-nil u.to_clients.items);
    due = due ∙ sym (append-nil u.due.items);
    notices = notices ∙ sym (append-nil u.notices.items);
  };
  right = tt;
  ids = ids;
  file = file;
  number = ap (λ (i : CallIds). i.node) ids;
}

-- one thing is done
pub serves_one : (old new : Node) (u v : Work) (service : Service) →
    IsServiceDone old.keeper.file.ticks old.keeper.file.fixed.delta old.desk service new.desk →
    v.to_clients.items ≡ u.to_clients.items ++ service_frames service → v.due.items ≡ u.due.items ++ service_dues service →
    v.notices.items ≡ u.notices.items ++ service_notices service → IsRight old.keeper.ids.node old.keeper.file service →
    new.keeper.file ≡ old.keeper.file → UsesIds old.keeper.ids service new.keeper.ids → ServesClients old u (service ∷ []) new v
serves_one old new u v service served told due notices right file ids = record {
  has = one_served old.keeper.file.ticks old.keeper.file.fixed.delta old.desk new.desk u v service served told due notices;
  right = (right, tt);
  ids = one_used old.keeper.ids new.keeper.ids service ids;
  file = file;
  number = uses_node old.keeper.ids new.keeper.ids service ids;
}

pub all_right : (number same : ℕ) (file also : FileContents) (services : List Service) → same ≡ number → also ≡ file →
    AllByRecursion (IsRight same also) services → AllByRecursion (IsRight number file) services
all_right number same file also services e f is =
    subst (λ n. AllByRecursion (IsRight n file) services) e
    (subst (λ g. AllByRecursion (IsRight same g) services) f is)

-- one thing after another, and then more
pub serves_then : (a b c : Node) (u v w : Work) (first second : List Service) → ServesClients a u first b v →
    ServesClients b v second c w → ServesClients a u (first ++ second) c w
serves_then a b c u v w first second f s = record {
  has = has_served_then a.keeper.file.ticks a.keeper.file.fixed.delta a.desk b.desk c.desk u v w first second f.has
      (subst (λ (file : FileContents). HasServed file.ticks file.fixed.delta b.desk v second c.desk w) f.file s.has);
  right = all_append (IsRight a.keeper.ids.node a.keeper.file) first second f.right
      (all_right a.keeper.ids.node b.keeper.ids.node a.keeper.file b.keeper.file second f.number f.file s.right);
  ids = used_then a.keeper.ids b.keeper.ids c.keeper.ids first second f.ids s.ids;
  file = s.file ∙ f.file;
  number = s.number ∙ f.number;
}

-- no further service is done
pub more_none : (old new : Node) (u v : Work) → ServesClients old u [] new v → ServesMore old u new v
more_none old new u v serves = record { services = []; serves = serves; follows = tt; put_out = tt }

-- one further service is done
pub more_one : (old new : Node) (u v : Work) (service : Service) → FollowsUp service → HasPutOut old.keeper v.outputs.items service →
    ServesClients old u (service ∷ []) new v → ServesMore old u new v
more_one old new u v service follows put_out serves =
    record { services = service ∷ []; serves = serves; follows = (follows, tt); put_out = (put_out, tt) }

-- one service that changes the desk alone: it sends no frame, no client sees anything, and no connection is idle again
pub unsent_one : (old new : Node) (work : Work) (service : Service) →
    IsServiceDone old.keeper.file.ticks old.keeper.file.fixed.delta old.desk service new.desk →
    service_frames service ≡ [] → service_dues service ≡ [] →
    service_notices service ≡ [] → IsRight old.keeper.ids.node old.keeper.file service → new.keeper ≡ old.keeper →
    UsesIds old.keeper.ids service old.keeper.ids → ServesClients old work (service ∷ []) new work
unsent_one old new work service served frames dues notices right same none =
    serves_one old new work work service served
    (sym (append-nil work.to_clients.items) ∙ ap (λ xs. work.to_clients.items ++ xs) (sym frames))
    (sym (append-nil work.due.items) ∙ ap (λ xs. work.due.items ++ xs) (sym dues))
    (sym (append-nil work.notices.items) ∙ ap (λ xs. work.notices.items ++ xs) (sym notices))
    right (ap (λ (k : Keeper). k.file) same)
    (subst (λ (k : Keeper). UsesIds old.keeper.ids service k.ids) (sym same) none)

-- services do not depend on what the node knows of the other nodes
pub serves_beside : (old new : Node) (peers : Peers) (u v : Work) (services : List Service) →
    ServesClients (record old { peers = peers }) u services new v → ServesClients old u services new v
serves_beside old new peers u v services s = record { has = s.has; right = s.right; ids = s.ids; file = s.file; number = s.number }

-- where nothing changes but what the node knows of the other nodes, nothing is done for clients
pub peers_alone : (node : Node) (peers : Peers) (work : Work) → ServesClients node work [] (record node { peers = peers }) work
peers_alone node peers work = serves_none node (record node { peers = peers }) work work refl refl refl refl refl refl

pub more_beside : (old new : Node) (peers : Peers) (u v : Work) → ServesMore old u new v →
    ServesMore old u (record new { peers = peers }) v
more_beside old new peers u v m =
    let s = m.serves in
    let serves : ServesClients old u m.services (record new { peers = peers }) v =
    record { has = s.has; right = s.right; ids = s.ids; file = s.file; number = s.number } in
    record { services = m.services; serves = serves; follows = m.follows; put_out = m.put_out }

pub peers_more : (node : Node) (peers : Peers) (work : Work) → ServesMore node work (record node { peers = peers }) work
peers_more node peers work = more_none node (record node { peers = peers }) work work (peers_alone node peers work)
