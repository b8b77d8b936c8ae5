-- What a node carries out again from a log leaves all objects its own.
use Rattle.std.proofs.Common.{inl, inr, ℕ, Bool, true, false, cond, List, [], ◌∷◌, ◌++◌, Option, None, Some, is_some, sym, subst}
use Rattle.std.specs.List.{AllByRecursion}
use Rattle.bank.specs.declared.kind.Kind.{Kind}
use Rattle.call.specs.Call.{OpenCall as Machine, reached}
use Rattle.call.specs.declared.next.Next.{Next}
use Rattle.call.specs.declared.next.Next.TheVariants as next
use Rattle.deeds.specs.Kept.{KeptNode}
use Rattle.open_calls.proofs.ListLemmas.{all_append}
use Rattle.encoder.specs.Fragment.{fragment}
use Rattle.letter.specs.declared.letter.Letter.{Letter}
use Rattle.local_object.specs.declared.progress.Ended.{Ended}
use Rattle.local_object.specs.Doing.{can_close, close_events, is_askable, is_sent_back, is_served, is_taken, serve_events, stray_events}
use Rattle.local_object.specs.Events.{LocalEvent, all_done}
use Rattle.local_object.specs.Going.{next_if}
use Rattle.layout.specs.Layout.{Layout}
use Rattle.local_object.specs.Local.{LocalObject, Place, with_heard}
use Rattle.local_object.proofs.HeardPlaceLemmas.{layout_stays}
use Rattle.object_letters.proofs.HeardPositionLemmas.{heard_rebuildable}
use Rattle.local_object.specs.Querying.{query_by, query_events, stands_for_query}
use Rattle.local_object.specs.Replies.{IsReplyOutcome, after_taking, taking_events}
use Rattle.local_object.specs.Taking.{AreSettling, begin_anew_events, begin_events, call_events, can_begin}
use Rattle.local_object.specs.Taking.{can_begin_anew, going_events, grow_events, grows_by, is_read_begin, lead_events, machine_of}
use Rattle.local_object.specs.Taking.{repeats, restart_events, step_events}
use Rattle.open_calls.specs.OpenCalls.{NodeCall, open_call}
use Rattle.object_letters.specs.Rebuildable.{HasLawfulLayouts, IsFit}
use Rattle.recoveries.specs.Records.{IsKeptUnder, IsNamedHearing, LogRecord, RecoversOne}
use Rattle.recoveries.specs.RewrittenLaws.{HasLawfulLetter, RecoveringKeepsOwn}
use Rattle.recoveries.specs.RewritingNodes.{HasOwnObjects}
use Rattle.recoveries.proofs.OwnObjectLemmas.{done_own, put_own, same_own, starts_own}

serve_fit : (local : LocalObject) (letter : Letter) → HasLawfulLayouts letter → AllByRecursion IsFit (serve_events local letter)
serve_fit local letter lawful = go (is_served local letter) (is_askable letter)
  where
    stray : (told back : Bool) →
        AllByRecursion IsFit (cond told (LocalEvent.Hear letter ∷ []) [] ++ cond back (LocalEvent.Redirect letter ∷ []) [])
    stray true true = (lawful, (lawful, tt))
    stray true false = (lawful, tt)
    stray false true = (lawful, tt)
    stray false false = tt

    go : (served asks : Bool) →
        AllByRecursion IsFit (cond served (LocalEvent.Serve letter ∷ []) (cond asks (stray_events local letter) []))
    go true asks = (lawful, tt)
    go false true = stray (is_some letter.start) (is_sent_back local letter)
    go false false = tt

close_fit : (local : LocalObject) (position : ℕ) → AllByRecursion IsFit (close_events local position)
close_fit local position = go (can_close local position)
  where
    go : (b : Bool) → AllByRecursion IsFit (cond b (LocalEvent.Close position ∷ []) [])
    go true = (tt, tt)
    go false = tt

-- the events by which a call goes on have no letter
begin_fit : (b : Bool) (id : ℕ) → AllByRecursion IsFit (cond b (LocalEvent.Advance id ∷ []) [])
begin_fit true id = (tt, tt)
begin_fit false id = tt

phase_fit : (places : List Place) (call : Machine) (asked : Kind) (q : ℕ) → AllByRecursion IsFit (begin_events places call asked q)
phase_fit places call asked q = begin_fit (can_begin places call asked q) call.id

anew_fit : (b : Bool) (id : ℕ) → AllByRecursion IsFit (cond b (LocalEvent.BeginAnew id ∷ []) [])
anew_fit true id = (tt, tt)
anew_fit false id = tt

restart_fit : (local : LocalObject) (call : Machine) (asked : Kind) (q : ℕ) →
    AllByRecursion IsFit (restart_events local call asked q)
restart_fit local call asked q = go (is_read_begin (reached call))
  where
    go : (r : Bool) → AllByRecursion IsFit (cond r (begin_anew_events local call) (begin_events local.places call asked q))
    go true = anew_fit (can_begin_anew local call) call.id
    go false = phase_fit local.places call asked q

step_fit : (local : LocalObject) (call : Machine) (then : Next) → AllByRecursion IsFit (step_events local call then)
step_fit local call next.Wait = tt
step_fit local call next.Settle = tt
step_fit local call (next.Restart asked position) = restart_fit local call asked position
step_fit local call (next.Begin asked position) = phase_fit local.places call asked position
step_fit local call next.Answer = (tt, tt)

call_fit : (again : Bool) (local : LocalObject) (call : Option NodeCall) → AllByRecursion IsFit (call_events again local call)
call_fit again local None = tt
call_fit again local (Some call) = step_fit local (machine_of call) (next_if again (machine_of call))

grow_fit : (local : LocalObject) (id : ℕ) → AllByRecursion IsFit (grow_events local id)
grow_fit local id = go (grows_by local (open_call local.calls id))
  where
    go : (b : Bool) → AllByRecursion IsFit (cond b (LocalEvent.Grow id ∷ []) [])
    go true = (tt, tt)
    go false = tt

-- the events by which the start grows, and the call goes on
going_fit : (again : Bool) (local : LocalObject) (id : ℕ) → AllByRecursion IsFit (going_events again local id)
going_fit again local id =
    let grown = (all_done fragment local (grow_events local id)).local in
    all_append IsFit (grow_events local id) (lead_events again grown id) (grow_fit local id)
    (call_fit again grown (open_call grown.calls id))

-- the event by which a first reading stands for its query has no letter either
query_fit : (local : LocalObject) (call : Option NodeCall) → AllByRecursion IsFit (query_by local call)
query_fit local None = tt
query_fit local (Some call) = go (stands_for_query local call)
  where
    go : (b : Bool) → AllByRecursion IsFit (cond b (LocalEvent.Query call.id ∷ []) [])
    go true = (tt, tt)
    go false = tt

settling_fit : (local : LocalObject) (id : ℕ) (events : List LocalEvent) → AreSettling local id events → AllByRecursion IsFit events
settling_fit local id events (inl none) = subst (λ (es : List LocalEvent). AllByRecursion IsFit es) (sym none.0) tt
settling_fit local id events (inr some) = subst (λ (es : List LocalEvent). AllByRecursion IsFit es) (sym some.2) (tt, tt)

take_own : (old new : KeptNode) (name : List ℕ) (letter : Letter) (local : LocalObject) (sent : List Letter)
    (ended : List Ended) → HasLawfulLayouts letter → IsKeptUnder old name local new → HasOwnObjects old → (b : Bool) →
    IsReplyOutcome b (old.objects name) letter local sent ended → HasOwnObjects new
take_own old new name letter local sent ended lawful put own false taken =
    done_own old new name local [] sent tt taken.done put own
take_own old new name letter local sent ended lawful put own true (inl early) =
    done_own old new name local
    (LocalEvent.Take letter ∷ LocalEvent.EndEarly letter.message.call early.returned ∷ []) sent (lawful, (tt, tt))
    early.done.done put own
take_own old new name letter local sent ended lawful put own true (inr taken) =
    let before = old.objects name in
    let id = letter.message.call in
    let took = after_taking before letter in
    let asked = query_events took id in
    let first = taking_events before letter ++ taken.settling in
    let again = repeats before letter in
    let leads = going_events again (all_done fragment before first).local id in
    done_own old new name local (taking_events before letter ++ taken.settling ++ leads) sent (
      lawful,
      all_append IsFit (asked ++ taken.settling) leads
          (all_append IsFit asked taken.settling (query_fit took (open_call took.calls id))
          (settling_fit (all_done fragment before (taking_events before letter)).local id taken.settling taken.settles))
          (going_fit again (all_done fragment before first).local id),
    )
    taken.leads.done put own

-- a position that the node hears of
hear_own : (old new : KeptNode) (name : List ℕ) (position : ℕ) (layout : Layout) → IsNamedHearing old name position layout new →
    HasOwnObjects old → HasOwnObjects new
hear_own old new name position layout heard own =
    let local = old.objects name in
    let is = own name in
    put_own old new name (with_heard local position layout) heard.put (record {
      node = is.node;
      limit = is.limit;
      first = layout_stays local position layout 0 (old.file.first name) is.first;
      rebuildable = heard_rebuildable local position layout heard.lawful is.rebuildable;
    }) own

-- any record
one_own : (old new : KeptNode) (it : LogRecord) → HasLawfulLetter it → RecoversOne it old new → HasOwnObjects old → HasOwnObjects new
one_own old new LogRecord.Starts lawful started own = (starts_own old new own).1 started
one_own old new (LogRecord.Serves name letter) lawful done own =
    done_own old new name done.local (serve_events (old.objects name) letter) done.sent
    (serve_fit (old.objects name) letter lawful) done.done done.put own
one_own old new (LogRecord.Takes name letter) lawful done own =
    take_own old new name letter done.local done.sent done.ended lawful done.put own (is_taken (old.objects name) letter) done.taken
one_own old new (LogRecord.Moves name id layout) lawful done own =
    done_own old new name done.local (LocalEvent.BeginMove id layout ∷ []) done.sent (tt, tt) done.done done.put own
one_own old new (LogRecord.Closes name position) lawful done own =
    done_own old new name done.local (close_events (old.objects name) position) done.sent
    (close_fit (old.objects name) position) done.done done.put own
one_own old new (LogRecord.Hears name position layout) lawful heard own = hear_own old new name position layout heard own

pub recovered_own : RecoveringKeepsOwn
recovered_own old new [] lawful same own = same_own old new own same.file same.node same.objects
recovered_own old new (it ∷ records) lawful recovers own =
    recovered_own recovers.0 new records lawful.1 recovers.2 (one_own old recovers.0 it lawful.0 recovers.1 own)
