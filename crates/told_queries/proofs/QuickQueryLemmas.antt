-- Members with unset pointers serve the requests of a call's first reading, and the call takes each reply at once; with those
-- of a quorum it begins to query the position.
use Rattle.std.proofs.Common.{◌≡◌, ℕ, suc, ◌+◌, ◌<◌, nat_eq, List, [], ◌∷◌, ◌++◌, length, map, Some}
use Rattle.std.proofs.Common.{refl, sym, ap, ◌∙◌, subst, arith}
use Rattle.std.specs.List.{AllByRecursion, IsDistinct}
use Rattle.std.proofs.lemmas.List.{append_assoc, length_push, map_push}
use Rattle.std.proofs.lemmas.Map.Keys.{IsDistinct-head, IsDistinct-tail}
use Rattle.layout.specs.Layout.{Layout, quorum_of}
use Rattle.bank.specs.declared.kind.Kind.TheVariants.{Next}
use Rattle.bank.specs.declared.request.Request.TheVariants as request
use Rattle.mail.specs.declared.message.Message.{Message}
use Rattle.mail.specs.declared.phase.Taken.{Taken}
use Rattle.mail.specs.Phase.{members_of}
use Rattle.record.specs.Fragments.{Code}
use Rattle.open_calls.specs.OpenCalls.{NodeCall, open_call, with_open}
use Rattle.open_calls.proofs.ListLemmas.{all_weaker}
use Rattle.open_calls.proofs.TakenRepliesLemmas.{AreNew, still_new, unset_reply}
use Rattle.network.specs.Worlds.{World, known_layout}
use Rattle.network.specs.Events.{Event}
use Rattle.network.specs.Premises.{WasSent}
use Rattle.network.proofs.StepLemmas.{get_end}
use Rattle.starts.proofs.FinalPointerLemmas.{get_more}
use Rattle.starts.proofs.LeadingLemmas.{found_changed, with_twice}
use Rattle.starts.proofs.ServedReplyLemmas.{request_of}
use Rattle.told_queries.specs.Laws.{IsFirstReading}
use Rattle.told_queries.proofs.BesideLemmas.{querying}
use Rattle.told_queries.proofs.LastTakesLemmas.{Does, does_first, does_to}
use Rattle.told_queries.proofs.QuickReplayLemmas.{ReplaysWaits, replays_first, replays_none, same_changed, same_sent, same_ticked}
use Rattle.told_queries.proofs.QuickServeLemmas.{gathered, may_query, queries, query_requests, serves_unset, takes_unset}
use Rattle.told_queries.proofs.QuickServeLemmas.{unset_message, world_gathered, world_querying, world_served}
use Rattle.told_queries.proofs.UnsetPointerLemmas.{HasUnset}

-- The events

-- each of these members serves the call's request, and the call takes the reply; then it begins to query
abbrev pub quick_events : NodeCall → (members : List ℕ) → List Event
quick_events call [] = Event.Advance call.id ∷ []
quick_events call (member ∷ members) =
    Event.Serve (request_of call request.Next member) ∷ Event.Take (unset_message call member) ∷ quick_events call members

-- the messages that are sent by that
abbrev pub quick_sent : NodeCall → Layout → (members : List ℕ) → List Message
quick_sent call layout members = map (unset_message call) members ++ query_requests call layout

-- the world after that
abbrev pub quick_world : World → NodeCall → Layout → (members : List ℕ) → World
quick_world world call layout members = record world {
  calls = with_open (querying call layout) world.calls;
  sent = world.sent ++ quick_sent call layout members;
  now = world.now + length (quick_events call members);
}

-- the member's pointer is unset, and the call's request to it was sent
pub record MayTell (world : World) (call : NodeCall) (member : ℕ) : Type 0 where
  pub unset : HasUnset world call.phase.position member
  pub asked : WasSent world (request_of call request.Next member)

-- the call reads first, and its phase is one of a position with this layout
pub record IsFirstOf (call : NodeCall) (layout : Layout) : Type 0 where
  pub first : IsFirstReading call
  pub own : call.phase.call ≡ call.id
  pub quorum : call.phase.quorum ≡ quorum_of layout

-- the call took replies of the members `before`, and lacks those of the members `rest`, which complete the quorum
pub record IsGathering (world : World) (call : NodeCall) (layout : Layout) (before rest : List ℕ) : Type 0 where
  pub found : open_call world.calls call.id ≡ Some (gathered call before)
  pub enough : length before + length rest ≡ call.phase.quorum
  pub distinct : IsDistinct nat_eq (members_of (map unset_reply rest))
  pub others : AreNew (map unset_reply before) (map unset_reply rest)
  pub each : AllByRecursion (MayTell world call) rest
  pub known : known_layout world call.node call.phase.position ≡ layout

-- the events may happen, and are a run that is the same but for the call beside as many waiting events
pub record IsQuick (fragment : Code) (world : World) (call : NodeCall) (layout : Layout) (members : List ℕ) : Type 0 where
  pub does : Does fragment (quick_events call members) world (quick_world world call layout members)
  pub replays : ReplaysWaits fragment call.id (quick_events call members) world

one_event : (n : ℕ) → suc n ≡ n + 1
one_event n = omega arith

two_events : (n m : ℕ) → suc (suc n) + m ≡ n + suc (suc m)
two_events n m = omega arith

room : (have rest quorum : ℕ) → have + suc rest ≡ quorum → have < quorum
room have rest quorum is = omega (arith, is)

moved : (have rest quorum : ℕ) → have + suc rest ≡ quorum → (have + 1) + rest ≡ quorum
moved have rest quorum is = omega (arith, is)

all_there : (have quorum : ℕ) → have + 0 ≡ quorum → have ≡ quorum
all_there have quorum is = omega (arith, is)

module _ (fragment : Code) (call : NodeCall) (layout : Layout) (is : IsFirstOf call layout) where
  -- with a quorum, the call begins to query
  quick_last : (before : List ℕ) (world : World) → IsGathering world call layout before [] →
      IsQuick fragment world call layout []
  quick_last before world gathering =
      let quorum = all_there (length before) call.phase.quorum gathering.enough in
      let next = queries fragment world call layout before gathering.found is.first quorum gathering.known in
      let there = world_querying fragment world call layout before gathering.found is.first quorum in record {
        does = does_first fragment (Event.Advance call.id) [] world there (quick_world world call layout [])
            (may_query fragment world call layout before gathering.found is.first quorum)
            (record { network = tt; log = tt; ids = tt }) next (record { may = tt; result = counted });
        replays = replays_first fragment call.id (Event.Advance call.id) [] world there next
            (λ other same. same_changed call.id _ _ (querying call layout) refl
            (same_sent call.id other world (query_requests call layout) same))
            (replays_none fragment call.id there);
      }
    where
      counted : world_querying fragment world call layout before gathering.found is.first
          (all_there (length before) call.phase.quorum gathering.enough) ≡ quick_world world call layout []
      counted = ap (λ n. let w : World = record world {
        calls = with_open (querying call layout) world.calls;
        sent = world.sent ++ query_requests call layout;
        now = n;
      } in w) (one_event world.now)

  -- one member serves first, and the call takes its reply
  quick_first : (member : ℕ) (members : List ℕ) →
      ((before : List ℕ) (world : World) → IsGathering world call layout before members → IsQuick fragment world call layout members) →
      (before : List ℕ) (world : World) → IsGathering world call layout before (member ∷ members) →
      IsQuick fragment world call layout (member ∷ members)
  quick_first member members others before world gathering =
      let few = room (length before) (length members) call.phase.quorum gathering.enough in
      let serve = serves_unset fragment world call member gathering.each.0.unset in
      let take = takes_unset fragment served call before member gathering.found is.own few gathering.others.0 in
      let rest = others (before ++ member ∷ []) next there in record {
        does = does_first fragment (Event.Serve (request_of call request.Next member))
            (Event.Take (unset_message call member) ∷ quick_events call members) world served
            (quick_world world call layout (member ∷ members)) (request.Next, refl)
            (record { network = gathering.each.0.asked; log = tt; ids = tt }) serve
            (does_first fragment (Event.Take (unset_message call member)) (quick_events call members) served next
            (quick_world world call layout (member ∷ members)) (Next, (unset_reply member).reply, refl)
            (record { network = (length world.sent, get_end world.sent (unset_message call member)); log = tt; ids = tt }) take
            (does_to fragment (quick_events call members) next (quick_world next call layout members)
            (quick_world world call layout (member ∷ members)) same rest.does));
        replays = replays_first fragment call.id (Event.Serve (request_of call request.Next member))
            (Event.Take (unset_message call member) ∷ quick_events call members) world served serve
            (λ other alike. same_sent call.id other world (unset_message call member ∷ []) alike)
            (replays_first fragment call.id (Event.Take (unset_message call member)) (quick_events call members) served next take
            (λ other alike. same_changed call.id _ _ (gathered call (before ++ member ∷ [])) refl
            (same_ticked call.id other served alike))
            rest.replays);
      }
    where
      served : World
      served = world_served world call member

      next : World
      next = world_gathered served call (before ++ member ∷ [])

      there : IsGathering next call layout (before ++ member ∷ []) members
      there = record {
        found = found_changed world.calls (gathered call before) (gathered call (before ++ member ∷ [])) gathering.found;
        enough = ap (λ n. n + length members) (length_push before member)
            ∙ moved (length before) (length members) call.phase.quorum gathering.enough;
        distinct = IsDistinct-tail nat_eq member (members_of (map unset_reply members)) gathering.distinct;
        others = subst (λ (ts : List Taken). AreNew ts (map unset_reply members)) (sym (map_push unset_reply before member))
            (still_new (map unset_reply before) (unset_reply member) (map unset_reply members) gathering.others.1
            (IsDistinct-head nat_eq member (members_of (map unset_reply members)) gathering.distinct));
        each = all_weaker (MayTell world call) (MayTell next call) (λ m may. record {
          unset = may.unset;
          asked = (
            may.asked.0,
            get_more world.sent (unset_message call member ∷ []) may.asked.0 (request_of call request.Next m) may.asked.1,
          );
        }) members gathering.each.1;
        known = gathering.known;
      }

      same : quick_world next call layout members ≡ quick_world world call layout (member ∷ members)
      same =
          ap (λ calls. let w : World = record world {
            calls = calls;
            sent = (world.sent ++ unset_message call member ∷ []) ++ quick_sent call layout members;
            now = suc (suc world.now) + length (quick_events call members);
          } in w) (with_twice (gathered call (before ++ member ∷ [])) (querying call layout) world.calls refl)
          ∙ ap (λ sent. let w : World = record world {
            calls = with_open (querying call layout) world.calls;
            sent = sent;
            now = suc (suc world.now) + length (quick_events call members);
          } in w) (append_assoc world.sent (unset_message call member ∷ []) (quick_sent call layout members))
          ∙ ap (λ n. let w : World = record world {
            calls = with_open (querying call layout) world.calls;
            sent = world.sent ++ quick_sent call layout (member ∷ members);
            now = n;
          } in w) (two_events world.now (length (quick_events call members)))

  pub quick_rest : (rest before : List ℕ) (world : World) → IsGathering world call layout before rest →
      IsQuick fragment world call layout rest
  quick_rest [] before world gathering = quick_last before world gathering
  quick_rest (member ∷ members) before world gathering =
      quick_first member members (quick_rest members) before world gathering
