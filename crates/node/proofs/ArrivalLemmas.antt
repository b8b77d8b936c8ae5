-- What has come to a node, and all that it does with it for its clients.
use Rattle.std.proofs.Common.{◌≡◌, ℕ, List, [], ◌∷◌, ◌++◌, Option, None, Some}
use Rattle.std.proofs.Common.{refl, sym, subst, ap, ◌∙◌}
use Rattle.std.proofs.lemmas.List.{append-nil, append_assoc}
use Rattle.std.specs.List.{AllByRecursion}
use Rattle.cluster_file.specs.File.{FileContents}
use Rattle.open_calls.proofs.ListLemmas.{all_append}
use Rattle.node_strings.specs.declared.arrival.Arrival.{Arrival}
use Rattle.node_strings.specs.declared.arrival.Arrival.TheVariants as arrived
use Rattle.node_strings.specs.Strings.{Strings}
use Rattle.node_effects.specs.declared.notice.Notice.{Notice}
use Rattle.node_effects.specs.declared.output.Output.{Output}
use Rattle.node_effects.specs.declared.work.Work.{Work}
use Rattle.node_clients.specs.Served.{AreServicesDone, HasServed}
use Rattle.node_clients.specs.Services.{Service, all_frames, all_notices}
use Rattle.node_clients.proofs.ServedLemmas.{frames_append, notices_append}
use Rattle.node_clients.proofs.ServedLemmas.{served_then}
use Rattle.indexmap.specs.IndexMap.{index_map_len}
use Rattle.node_clients.specs.declared.counts.Counts.{Counts}
use Rattle.node_clients.specs.declared.desk.Desk.{Desk}
use Rattle.node_clients.specs.declared.next.Next.{Next}
use Rattle.node_clients.specs.declared.next.Next.TheVariants.{Came}
use Rattle.node_keeper.specs.declared.keeper.Keeper.{Keeper}
use Rattle.node.specs.AtOnce.{IsAtOnce, IsFirstDone}
use Rattle.node.specs.BegunCalls.{HasPutOut}
use Rattle.node.specs.FitNodes.{CameInBytes, IsFitNode}
use Rattle.node.specs.GivenIds.{UseIds}
use Rattle.node.specs.Replies.{IsRight}
use Rattle.node.specs.Serving.{FollowsUp, IsComing, ServedSince, ServesClients, ServesArrival}
use Rattle.node.specs.Serving.{ServesMore}
use Rattle.node.specs.declared.node.Node.{Node}
use Rattle.node.specs.declared.peers.Peers.{Peers}
use Rattle.writable.specs.Keepers.{IsLeftFit}
use Rattle.node.proofs.FitComingLemmas.{comes_fit}
use Rattle.node.proofs.GivenIdLemmas.{used_then}
use Rattle.node.proofs.PutOutLemmas.{put_out_later}
use Rattle.node.proofs.ServingLemmas.{all_right, serves_then}

-- the first thing stays the first one where more follow
first_stays : (keeper : Keeper) (peers : Peers) (calls : ℕ) (counts : Counts) (client : ℕ) (next : Next) (more rest : List Service) →
    IsFirstDone keeper peers calls counts client next more → IsFirstDone keeper peers calls counts client next (more ++ rest)
first_stays keeper peers calls counts client next [] rest is = absurd is
first_stays keeper peers calls counts client next (service ∷ more) rest is = is

at_once_stays : (came : Option Arrival) (keeper : Keeper) (peers : Peers) (desk : Desk) (more rest : List Service) →
    IsAtOnce came keeper peers desk more → IsAtOnce came keeper peers desk (more ++ rest)
at_once_stays None keeper peers desk more rest is = tt
at_once_stays (Some (arrived.Command client frame)) keeper peers desk more rest is =
    λ free. first_stays keeper peers (index_map_len desk.calls) desk.counts client (Came frame) more rest (is free)
at_once_stays (Some (arrived.Left client)) keeper peers desk more rest is = tt
at_once_stays (Some (arrived.Message sender frame)) keeper peers desk more rest is = tt
at_once_stays (Some (arrived.Tick heard)) keeper peers desk more rest is = tt

-- something comes, and some things follow up
pub arrival_then : (came : Option Arrival) (a b c : Node) (u v w : Work) (service : Service) → b.keeper ≡ a.keeper →
    IsComing a.desk came (service ∷ []) → ServesClients a u (service ∷ []) b v → (more : ServesMore b v c w) →
    IsAtOnce came a.keeper a.peers a.desk more.services →
    (CameInBytes came → IsFitNode a → IsLeftFit u c.keeper w) → ServesArrival came a u c w
arrival_then came a b c u v w service same comes first more at_once leaves = record {
  coming = service ∷ [];
  more = more.services;
  comes = comes;
  follows = more.follows;
  at_once = at_once;
  serves = serves_then a b c u v w (service ∷ []) more.services first more.serves;
  put_out = subst (λ (k : Keeper). AllByRecursion (HasPutOut k w.outputs.items) more.services) same more.put_out;
  fit = comes_fit came a c u w (service ∷ []) more.services comes more.follows
      (serves_then a b c u v w (service ∷ []) more.services first more.serves) leaves;
}

-- something comes, and nothing follows up
pub arrival_alone : (came : Option Arrival) (a b : Node) (u v : Work) (services : List Service) →
    IsComing a.desk came services → IsAtOnce came a.keeper a.peers a.desk [] → ServesClients a u services b v →
    (CameInBytes came → IsFitNode a → IsLeftFit u b.keeper v) → ServesArrival came a u b v
arrival_alone came a b u v services comes at_once serves leaves = record {
  coming = services;
  more = [];
  comes = comes;
  follows = tt;
  at_once = at_once;
  serves = subst (λ ss. ServesClients a u ss b v) (sym (append-nil services)) serves;
  put_out = tt;
  fit = comes_fit came a b u v services [] comes tt
      (subst (λ ss. ServesClients a u ss b v) (sym (append-nil services)) serves) leaves;
}

-- nothing comes for clients, and some things follow up
pub arrival_more : (came : Option Arrival) (a b : Node) (u v : Work) → IsComing a.desk came [] →
    (more : ServesMore a u b v) → IsAtOnce came a.keeper a.peers a.desk more.services →
    (CameInBytes came → IsFitNode a → IsLeftFit u b.keeper v) → ServesArrival came a u b v
arrival_more came a b u v comes more at_once leaves = record {
  coming = [];
  more = more.services;
  comes = comes;
  follows = more.follows;
  at_once = at_once;
  serves = more.serves;
  put_out = more.put_out;
  fit = comes_fit came a b u v [] more.services comes more.follows more.serves leaves;
}

-- All that was done with a frame

pub since_first : (came : Option Arrival) (a b : Node) (u v : Work) → u.to_clients.items ≡ [] → u.notices.items ≡ [] →
    b.keeper.digest ≡ a.keeper.digest → ServesArrival came a u b v →
    ServedSince came a b v.to_clients.items v.notices.items v.outputs.items
since_first came a b u v told seen digest s = record {
  coming = s.coming;
  more = s.more;
  comes = s.comes;
  follows = s.follows;
  at_once = s.at_once;
  served = s.serves.has.served;
  right = s.serves.right;
  ids = s.serves.ids;
  answers = s.serves.has.told ∙ ap (λ xs. xs ++ all_frames (s.coming ++ s.more)) told;
  notices = s.serves.has.notices ∙ ap (λ xs. xs ++ all_notices (s.coming ++ s.more)) seen;
  put_out = s.put_out;
  file = s.serves.file;
  digest = digest;
  number = s.serves.number;
}

-- some things follow up, where what there is to do may have been taken in between
pub since_then : (came : Option Arrival) (a b c : Node) (answers : List Strings) (notices : List Notice)
    (outputs more : List Output) (v w : Work) → v.to_clients.items ≡ answers → v.notices.items ≡ notices →
    w.outputs.items ≡ outputs ++ more → c.keeper.digest ≡ b.keeper.digest → ServedSince came a b answers notices outputs →
    ServesMore b v c w → ServedSince came a c w.to_clients.items w.notices.items w.outputs.items
since_then came a b c answers notices outputs more v w told seen are digest s m =
    let before = s.coming ++ s.more in
    let all : (s.coming ++ s.more) ++ m.services ≡ s.coming ++ (s.more ++ m.services) =
    append_assoc s.coming s.more m.services in
    let has = subst (λ (f : FileContents). HasServed f.ticks f.fixed.delta b.desk v m.services c.desk w) s.file m.serves.has in
    record {
      coming = s.coming;
      more = s.more ++ m.services;
      comes = s.comes;
      follows = all_append FollowsUp s.more m.services s.follows m.follows;
      at_once = at_once_stays came a.keeper a.peers a.desk s.more m.services s.at_once;
      served = subst (λ ss. AreServicesDone a.keeper.file.ticks a.keeper.file.fixed.delta a.desk ss c.desk) all
          (served_then a.keeper.file.ticks a.keeper.file.fixed.delta a.desk b.desk c.desk before m.services s.served has.served);
      right = subst (λ ss. AllByRecursion (IsRight a.keeper.ids.node a.keeper.file) ss) all
          (all_append (IsRight a.keeper.ids.node a.keeper.file) before m.services s.right
          (all_right a.keeper.ids.node b.keeper.ids.node a.keeper.file b.keeper.file m.services s.number s.file m.serves.right));
      ids = subst (λ ss. UseIds a.keeper.ids ss c.keeper.ids) all
          (used_then a.keeper.ids b.keeper.ids c.keeper.ids before m.services s.ids m.serves.ids);
      answers = m.serves.has.told ∙ ap (λ xs. xs ++ all_frames m.services) (told ∙ s.answers)
          ∙ sym (frames_append before m.services) ∙ ap all_frames all;
      notices = m.serves.has.notices ∙ ap (λ xs. xs ++ all_notices m.services) (seen ∙ s.notices)
          ∙ sym (notices_append before m.services) ∙ ap all_notices all;
      put_out = all_append (HasPutOut a.keeper w.outputs.items) s.more m.services
          (put_out_later a.keeper a.keeper refl refl refl outputs more w.outputs.items are s.more s.put_out)
          (put_out_later a.keeper b.keeper s.number s.file s.digest w.outputs.items [] w.outputs.items
          (sym (append-nil w.outputs.items)) m.services m.put_out);
      file = m.serves.file ∙ s.file;
      digest = digest ∙ s.digest;
      number = m.serves.number ∙ s.number;
    }
