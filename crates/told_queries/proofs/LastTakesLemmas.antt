-- Events that lead to a world one after another, and a call that takes messages; at last, the replies to its query.
use Rattle.std.proofs.Common.{◌≡◌, ℕ, suc, ◌+◌, ◌<◌, List, [], ◌∷◌, length, map, Some, nat_eq, refl, sym, ap, ◌∙◌, subst, arith}
use Rattle.std.specs.List.{AllByRecursion, IsDistinct}
use Rattle.std.proofs.lemmas.List.{length-map}
use Rattle.layout.specs.Layout.{Layout, quorum_of}
use Rattle.bank.specs.declared.kind.Kind.{Kind}
use Rattle.bank.specs.declared.kind.Kind.TheVariants.{Query}
use Rattle.bank.specs.declared.reply.Reply.{Reply}
use Rattle.mail.specs.declared.message.Body.TheVariants as body
use Rattle.mail.specs.declared.message.Message.{Message}
use Rattle.mail.specs.Phase.{Phase}
use Rattle.record.specs.Fragments.{Code}
use Rattle.record.specs.Steps.{new_phase}
use Rattle.open_calls.specs.OpenCalls.{NodeCall, open_call, taking_open, with_open}
use Rattle.open_calls.specs.Queries.{ToldTag, queried, query_stage, taken_tag, telling_members}
use Rattle.open_calls.proofs.ListLemmas.{all_weaker}
use Rattle.open_calls.proofs.TakenRepliesLemmas.{reply_message, tag_members, tags_now, takes_quorum, taking}
use Rattle.network.specs.Worlds.{World}
use Rattle.network.specs.Events.{Event, MayHappen, happens, on_open, world_after}
use Rattle.network.specs.Premises.{IsPremised, MayHappenInTurn, WasSent}
use Rattle.starts.proofs.LeadingLemmas.{found_changed, with_twice}
use Rattle.told_queries.proofs.BesideLemmas.{querying}

-- Events one after another

-- the events may happen one after another, and lead to this world
pub record Does (fragment : Code) (events : List Event) (world new : World) : Type 0 where
  pub may : MayHappenInTurn fragment events world
  pub result : world_after fragment events world ≡ new

pub does_first : (fragment : Code) (event : Event) (events : List Event) (world next new : World) →
    MayHappen fragment world event → IsPremised world event → happens fragment world event ≡ next →
    Does fragment events next new → Does fragment (event ∷ events) world new
does_first fragment event events world next new may premised is rest = record {
  may = (may, premised, subst (MayHappenInTurn fragment events) (sym is) rest.may);
  result = ap (world_after fragment events) is ∙ rest.result;
}

pub does_to : (fragment : Code) (events : List Event) (world new other : World) → new ≡ other → Does fragment events world new →
    Does fragment events world other
does_to fragment events world new other same does = record { may = does.may; result = does.result ∙ same }

-- A call takes messages

-- the message is a reply to this call that was sent
pub record IsReplyTo (world : World) (id : ℕ) (message : Message) : Type 0 where
  pub own : message.call ≡ id
  pub kind : Kind
  pub made : Reply
  pub replies : message.body ≡ body.Reply kind made
  pub was : WasSent world message

-- the events by which messages are taken
abbrev pub take_events : List Message → List Event
take_events messages = map (λ message. Event.Take message) messages

-- the call after it takes these messages
abbrev pub taking_all : NodeCall → List Message → NodeCall
taking_all call messages = record call { phase = taking call.phase messages }

-- the world after this many events, where one call is changed
abbrev pub world_taken : World → NodeCall → (events : ℕ) → World
world_taken world call events =
    record world { calls = with_open call world.calls; now = world.now + events }

one_more : (n : ℕ) → suc n ≡ n + 1
one_more n = omega arith

more_after : (n m : ℕ) → suc n + m ≡ n + suc m
more_after n m = omega arith

-- the world after the call takes one message
pub takes : (fragment : Code) (world : World) (call : NodeCall) (message : Message) → open_call world.calls call.id ≡ Some call →
    message.call ≡ call.id →
    happens fragment world (Event.Take message)
    ≡ record world { calls = with_open (taking_open message call) world.calls; now = suc world.now }
takes fragment world call message found own =
    ap (λ o. on_open (record world { now = suc world.now }) o
    (λ c. record world { calls = with_open (taking_open message c) world.calls; now = suc world.now }))
    (ap (open_call world.calls) own ∙ found)

pub takes_all : (fragment : Code) (first : Message) (messages : List Message) (world : World) (call : NodeCall) →
    open_call world.calls call.id ≡ Some call → AllByRecursion (IsReplyTo world call.id) (first ∷ messages) →
    Does fragment (take_events (first ∷ messages)) world
    (world_taken world (taking_all call (first ∷ messages)) (length (first ∷ messages)))
takes_all fragment first [] world call found replies =
    does_first fragment (Event.Take first) [] world
    (record world { calls = with_open (taking_open first call) world.calls; now = suc world.now })
    (world_taken world (taking_all call (first ∷ [])) 1) (replies.0.kind, replies.0.made, replies.0.replies)
    (record { network = replies.0.was; log = tt; ids = tt }) (takes fragment world call first found replies.0.own)
    (record {
      may = tt;
      result = ap (λ n. let w : World = record world { calls = with_open (taking_open first call) world.calls; now = n } in w)
          (one_more world.now);
    })
takes_all fragment first (second ∷ messages) world call found replies =
    does_first fragment (Event.Take first) (take_events (second ∷ messages)) world next
    (world_taken world (taking_all call (first ∷ second ∷ messages)) (length (first ∷ second ∷ messages)))
    (replies.0.kind, replies.0.made, replies.0.replies) (record { network = replies.0.was; log = tt; ids = tt })
    (takes fragment world call first found replies.0.own)
    (does_to fragment (take_events (second ∷ messages)) next
    (world_taken next (taking_all (taking_open first call) (second ∷ messages)) (length (second ∷ messages)))
    (world_taken world (taking_all call (first ∷ second ∷ messages)) (length (first ∷ second ∷ messages))) same
    (takes_all fragment second messages next (taking_open first call)
    (found_changed world.calls call (taking_open first call) found)
    (all_weaker (IsReplyTo world call.id) (IsReplyTo next call.id) (λ message is. record {
      own = is.own;
      kind = is.kind;
      made = is.made;
      replies = is.replies;
      was = is.was;
    }) (second ∷ messages) replies.1)))
  where
    next : World
    next = record world { calls = with_open (taking_open first call) world.calls; now = suc world.now }

    same : world_taken next (taking_all (taking_open first call) (second ∷ messages)) (length (second ∷ messages))
        ≡ world_taken world (taking_all call (first ∷ second ∷ messages)) (length (first ∷ second ∷ messages))
    same =
        ap (λ calls. let w : World = record world { calls = calls; now = suc world.now + length (second ∷ messages) } in w)
        (with_twice (taking_open first call) (taking_all call (first ∷ second ∷ messages)) world.calls refl)
        ∙ ap (λ n. let w : World = record world {
          calls = with_open (taking_all call (first ∷ second ∷ messages)) world.calls;
          now = n;
        } in w) (more_after world.now (length (second ∷ messages)))

-- The query

-- the member's reply to the query
abbrev pub query_reply : NodeCall → ToldTag → Message
query_reply call told = reply_message call.id (suc call.phase.number) Query call.phase.position (taken_tag told)

-- the replies that tell these tags
abbrev pub query_replies : NodeCall → List ToldTag → List Message
query_replies call told = map (query_reply call) told

-- the events by which the call takes them
abbrev pub last_takes : NodeCall → List ToldTag → List Event
last_takes call told = take_events (query_replies call told)

map_twice : (call : NodeCall) (told : List ToldTag) →
    map (reply_message call.id (suc call.phase.number) Query call.phase.position) (map taken_tag told) ≡ query_replies call told
map_twice call [] = refl
map_twice call (one ∷ told) = ap (λ ms. query_reply call one ∷ ms) (map_twice call told)

-- with the replies of a quorum, the call has queried
queried_by : (call : NodeCall) (layout : Layout) (told : List ToldTag) → 0 < quorum_of layout →
    length told ≡ quorum_of layout → IsDistinct nat_eq (telling_members told) →
    taking_all (querying call layout) (query_replies call told) ≡ queried call layout told
queried_by call layout told some quorum distinct =
    ap (λ (p : Phase). let c : NodeCall = record call { stage = query_stage call.phase.position; phase = p } in c)
    (ap (taking (new_phase call.id (suc call.phase.number) Query call.phase.position layout 0)) (sym (map_twice call told))
    ∙ takes_quorum (new_phase call.id (suc call.phase.number) Query call.phase.position layout 0) Query call.phase.position
    (map taken_tag told) refl refl some (length-map told taken_tag ∙ quorum)
    (subst (IsDistinct nat_eq) (sym (tag_members told)) distinct) (tags_now told))

-- the replies of a quorum to the query of a call were sent: the call takes them, and so has queried
pub takes_tags : (fragment : Code) (world : World) (call : NodeCall) (layout : Layout) (told : List ToldTag) →
    open_call world.calls call.id ≡ Some (querying call layout) → 0 < quorum_of layout → length told ≡ quorum_of layout →
    IsDistinct nat_eq (telling_members told) → AllByRecursion (λ one. WasSent world (query_reply call one)) told →
    Does fragment (last_takes call told) world (world_taken world (queried call layout told) (length told))
takes_tags fragment world call layout [] found some quorum distinct sent = absurd (omega (arith, some, quorum))
takes_tags fragment world call layout (one ∷ told) found some quorum distinct sent =
    does_to fragment (last_takes call (one ∷ told)) world
    (world_taken world (taking_all (querying call layout) (query_replies call (one ∷ told))) (length (query_replies call (one ∷ told))))
    (world_taken world (queried call layout (one ∷ told)) (length (one ∷ told)))
    (ap (λ n. world_taken world (taking_all (querying call layout) (query_replies call (one ∷ told))) n)
    (length-map (one ∷ told) (query_reply call))
    ∙ ap (λ c. world_taken world c (length (one ∷ told))) (queried_by call layout (one ∷ told) some quorum distinct))
    (takes_all fragment (query_reply call one) (query_replies call told) world (querying call layout) found
    (replies (one ∷ told) sent))
  where
    replies : (all : List ToldTag) → AllByRecursion (λ one. WasSent world (query_reply call one)) all →
        AllByRecursion (IsReplyTo world call.id) (query_replies call all)
    replies [] each = tt
    replies (tag ∷ tags) each = (
      record { own = refl; kind = Query; made = (taken_tag tag).reply; replies = refl; was = each.0 },
      replies tags each.1,
    )

-- the same in a world that differs from another one in this call and in messages
pub takes_tags_there : (fragment : Code) (world : World) (sent : List Message) (call : NodeCall) (layout : Layout)
    (told : List ToldTag) → open_call world.calls call.id ≡ Some call → 0 < quorum_of layout →
    length told ≡ quorum_of layout → IsDistinct nat_eq (telling_members told) →
    AllByRecursion (λ one. WasSent (record world { sent = sent }) (query_reply call one)) told →
    Does fragment (last_takes call told) (record world { calls = with_open (querying call layout) world.calls; sent = sent })
    (record world {
      calls = with_open (queried call layout told) world.calls;
      sent = sent;
      now = world.now + length told;
    })
takes_tags_there fragment world sent call layout told found some quorum distinct were =
    does_to fragment (last_takes call told) there (world_taken there (queried call layout told) (length told))
    (record world { calls = with_open (queried call layout told) world.calls; sent = sent; now = world.now + length told })
    (ap (λ calls. let w : World = record world { calls = calls; sent = sent; now = world.now + length told } in w)
    (with_twice (querying call layout) (queried call layout told) world.calls refl))
    (takes_tags fragment there call layout told (found_changed world.calls call (querying call layout) found) some quorum distinct
    (all_weaker (λ one. WasSent (record world { sent = sent }) (query_reply call one)) (λ one. WasSent there (query_reply call one))
    (λ one was. was) told were))
  where
    there : World
    there = record world { calls = with_open (querying call layout) world.calls; sent = sent }
