-- A query that follows at once: as a call has begun its first reading, a quorum of members with unset pointers may serve
-- its requests, and the call take their replies and begin to query, by as many events as may wait there.
use Rattle.std.proofs.Common.{◌≡◌, ◌⊎◌, inl, inr, ℕ, ◌+◌, ◌*◌, ◌<◌, nat_eq, List, [], ◌∷◌, length, map, Some, get_or, slice_get}
use Rattle.std.proofs.Common.{refl, sym, ap, ◌∙◌, subst, arith}
use Rattle.std.specs.List.{AllByRecursion, IsDistinct}
use Rattle.layout.specs.Layout.{IsLawful, Layout, quorum_of}
use Rattle.bank.specs.declared.request.Request.TheVariants as request
use Rattle.mail.specs.Phase.{Phase}
use Rattle.record.specs.Fragments.{Code}
use Rattle.record.specs.Records.{no_layout}
use Rattle.record.specs.Sending.{request_to}
use Rattle.open_calls.specs.OpenCalls.{NodeCall, open_call}
use Rattle.open_calls.proofs.OpenCallLemmas.{found}
use Rattle.open_calls.proofs.TakenRepliesLemmas.{fewer_taken, none_before, unset_members, unset_reply}
use Rattle.network.specs.Worlds.{World, known_layout}
use Rattle.network.specs.Events.{Event, IsOpen, world_after}
use Rattle.network.specs.Laws.{IsReached}
use Rattle.network.specs.Premises.{WasSent}
use Rattle.network.proofs.OneFileLemmas.{layouts_known}
use Rattle.starts.specs.Reading.{HasSent}
use Rattle.starts.proofs.AdvancedCallLemmas.{found_after}
use Rattle.starts.proofs.FinalPointerLemmas.{get_more}
use Rattle.starts.proofs.ServedReplyLemmas.{request_of, request_sent}
use Rattle.starts.proofs.TrueReplyLemmas.{IsOfPhase, IsTrueCall}
use Rattle.starts.proofs.TrueWorldLemmas.{reached_true}
use Rattle.told_queries.specs.Courses.{AreWaits, as_begun}
use Rattle.told_queries.specs.Laws.{IsFirstReading}
use Rattle.told_queries.proofs.BesideLemmas.{IsBeside, querying}
use Rattle.told_queries.proofs.QuickQueryLemmas.{IsFirstOf, IsQuick, MayTell, quick_events, quick_rest, quick_sent, quick_world}
use Rattle.told_queries.proofs.QuickReplayLemmas.{waited_all}
use Rattle.told_queries.proofs.QuickServeLemmas.{query_requests, unset_message}
use Rattle.told_queries.proofs.UnsetPointerLemmas.{HasUnset}

-- In a world that is reached, the phase of a call is one of its position's layout

-- a lawful layout has a member
pub some_member : (layout : Layout) → IsLawful layout → 0 < length layout.members
some_member layout lawful = let a = lawful.some in let b = lawful.enough in omega arith

module _ (fragment : Code) (world : World) (reached : IsReached fragment world) (call : NodeCall) (layout : Layout)
    (first : IsFirstReading call) (open_there : IsOpen world call.id (as_begun call)) (sent : HasSent world (as_begun call))
    (known : known_layout world call.node call.phase.position ≡ layout) (lawful : IsLawful layout) where
  is_true : IsTrueCall world (as_begun call)
  is_true = (found (IsTrueCall world) world.calls call.id (as_begun call) (reached_true fragment world reached).calls open_there).0

  was : WasSent world (request_of (as_begun call) request.Next 0)
  was = request_sent world (as_begun call) request.Next 0 sent
      (subst (λ (l : Layout). 0 < length l.members) (sym known) (some_member layout lawful))
      (λ piece. ap (λ k. request_to k piece) first.kind)

  -- all nodes know the same layout
  known_to_all : known_layout world 0 call.phase.position ≡ layout
  known_to_all = ap (λ ls. get_or ls call.phase.position no_layout)
      (layouts_known world (reached_true fragment world reached).one call.node) ∙ known

  pub is_first_of : IsFirstOf call layout
  is_first_of = record {
    first = first;
    own = is_true.own;
    quorum = quorum (is_true.sent (request_of (as_begun call) request.Next 0) was refl);
  }
    where
      quorum : (call.phase.number < call.phase.number)
          ⊎ IsOfPhase world (as_begun call).phase (request_of (as_begun call) request.Next 0) →
          call.phase.quorum ≡ quorum_of layout
      quorum (inl less) = absurd (omega (arith, less))
      quorum (inr is) = is.quorum ∙ ap quorum_of known_to_all

-- As the call has begun

from_none : (rest quorum : ℕ) → rest ≡ quorum → 0 + rest ≡ quorum
from_none rest quorum is = omega (arith, is)

-- how many events these are
pub count_quick : (call : NodeCall) (members : List ℕ) → length (quick_events call members) ≡ 2 * length members + 1
count_quick call [] = refl
count_quick call (member ∷ members) = let e = count_quick call members in omega (arith, e)

module _ (fragment : Code) (world : World) (call : NodeCall) (layout : Layout) (is : IsFirstOf call layout)
    (known : known_layout world call.node call.phase.position ≡ layout) where
  -- the requests of the query were sent
  pub asked_quickly : (members : List ℕ) → HasSent (quick_world world call layout members) (querying call layout)
  asked_quickly members place message at =
      let here : slice_get (query_requests call layout) place ≡ Some message =
      ap (λ (l : Layout). slice_get (query_requests call l) place) (sym known) ∙ at in
      let more = found_after (map (unset_message call) members) (query_requests call layout) place message here in
      found_after world.sent (quick_sent call layout members) more.0 message more.1

  pub query_sent : (members : List ℕ) (member : ℕ) → member < length layout.members →
      WasSent (quick_world world call layout members) (request_of (querying call layout) request.Query member)
  query_sent members member within =
      request_sent (quick_world world call layout members) (querying call layout) request.Query member (asked_quickly members)
      (subst (λ (l : Layout). member < length l.members) (sym known) within) (λ piece. refl)

  may_tell : HasSent world (as_begun call) → (members : List ℕ) → AllByRecursion (λ m. m < length layout.members) members →
      AllByRecursion (HasUnset world call.phase.position) members → AllByRecursion (MayTell world call) members
  may_tell sent [] within unset = tt
  may_tell sent (m ∷ members) within unset = (
    record {
      unset = unset.0;
      asked = request_sent world (as_begun call) request.Next m sent
          (subst (λ (l : Layout). m < length l.members) (sym known) within.0) (λ piece. ap (λ k. request_to k piece) is.first.kind);
    },
    may_tell sent members within.1 unset.1,
  )

  -- in the world in which the call has begun its phase, members of a quorum whose pointers are unset may tell it so at once
  pub quick_part : open_call world.calls call.id ≡ Some (as_begun call) → HasSent world (as_begun call) → (members : List ℕ) →
      0 < quorum_of layout → length members ≡ quorum_of layout → IsDistinct nat_eq members →
      AllByRecursion (λ m. m < length layout.members) members → AllByRecursion (HasUnset world call.phase.position) members →
      IsQuick fragment world call layout members
  quick_part found sent members some quorum distinct within unset = quick_rest fragment call layout is members [] world (record {
    found = found ∙ ap (λ (p : Phase). let c : NodeCall = record call { phase = p } in Some c)
        (sym (fewer_taken call.phase [] (subst (λ n. 0 < n) (sym is.quorum) some)));
    enough = from_none (length members) call.phase.quorum (quorum ∙ sym is.quorum);
    distinct = subst (IsDistinct nat_eq) (sym (unset_members members)) distinct;
    others = none_before (map unset_reply members);
    each = may_tell sent members within unset;
    known = known;
  })

  -- the world after that is beside the one after as many waiting events
  pub quick_beside : (members : List ℕ) (waits : List Event) → AreWaits world waits →
      length waits ≡ length (quick_events call members) →
      IsBeside (querying call layout) (world_after fragment waits world) (quick_world world call layout members)
  quick_beside members waits are same =
      subst (λ w. IsBeside (querying call layout) w (quick_world world call layout members))
      (sym (waited_all fragment world waits are)) (record {
        files = refl;
        later = refl;
        banks = refl;
        history = refl;
        now = ap (λ n. world.now + n) (sym same);
        calls = refl;
        sent = λ message was. (was.0, get_more world.sent (quick_sent call layout members) was.0 message was.1);
      })
