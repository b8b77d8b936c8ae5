-- Replies that are taken: events that begin no call and serve no request.
use Rattle.std.proofs.Common.{◌≡◌, inl, inr, ℕ, Bool, true, false, cond, List, [], ◌∷◌, ◌++◌}
use Rattle.std.proofs.Common.{Option, None, Some, refl, sym, subst}
use Rattle.std.specs.List.{AllByRecursion}
use Rattle.bank.specs.declared.kind.Kind.{Kind}
use Rattle.encoder.specs.Fragment.{fragment}
use Rattle.call.specs.Call.{OpenCall as Machine, reached}
use Rattle.call.specs.declared.next.Next.{Next}
use Rattle.call.specs.declared.next.Next.TheVariants as next
use Rattle.open_calls.specs.OpenCalls.{NodeCall, open_call}
use Rattle.letter.specs.declared.letter.Letter.{Letter}
use Rattle.local_object.specs.declared.progress.Ended.{Ended}
use Rattle.local_object.specs.Doing.{IsOutcome}
use Rattle.local_object.specs.Ended.{all_told}
use Rattle.local_object.specs.Events.{LocalEvent, all_done}
use Rattle.local_object.specs.Going.{next_if}
use Rattle.local_object.specs.Local.{LocalObject, Place}
use Rattle.local_object.specs.Querying.{query_by, query_events, stands_for_query}
use Rattle.local_object.specs.Replies.{IsReplyOutcome, after_taking, taking_events}
use Rattle.local_object.specs.Taking.{AreSettling, IsOutcomeWithAnswers, begin_anew_events, begin_events}
use Rattle.local_object.specs.Taking.{call_events, can_begin, can_begin_anew, going_events, grow_events, grows_by, is_read_begin}
use Rattle.local_object.specs.Taking.{lead_events, machine_of, repeats, restart_events, step_events}
use Rattle.deeds.specs.May.{IsEventLetterKnown}
use Rattle.deeds.specs.Named.{NamedLetter as Named}
use Rattle.open_calls.proofs.ListLemmas.{all_append, all_weaker}
use Rattle.deeds.proofs.MethodLemmas.{BeginsNone, if_all}
use Rattle.node_keeper.proofs.RequestLemmas.{ServesNone}

-- the event begins no call, takes no letter but one of these, and serves no request
abbrev IsQuiet : List Named → (name : List ℕ) → LocalEvent → Type 0
IsQuiet got name event = IsEventLetterKnown got name event × BeginsNone event × ServesNone event

module _ (got : List Named) (name : List ℕ) where
  begin_quiet : (places : List Place) (call : Machine) (phase : Kind) (position : ℕ) →
      AllByRecursion (IsQuiet got name) (begin_events places call phase position)
  begin_quiet places call phase position =
      if_all (IsQuiet got name) (LocalEvent.Advance call.id) (can_begin places call phase position) (tt, refl, tt)

  restart_quiet : (local : LocalObject) (call : Machine) (phase : Kind) (position : ℕ) →
      AllByRecursion (IsQuiet got name) (restart_events local call phase position)
  restart_quiet local call phase position = go (is_read_begin (reached call))
    where
      go : (b : Bool) → AllByRecursion (IsQuiet got name)
          (cond b (begin_anew_events local call) (begin_events local.places call phase position))
      go true = if_all (IsQuiet got name) (LocalEvent.BeginAnew call.id) (can_begin_anew local call) (tt, refl, tt)
      go false = begin_quiet local.places call phase position

  step_quiet : (local : LocalObject) (call : Machine) (step : Next) →
      AllByRecursion (IsQuiet got name) (step_events local call step)
  step_quiet local call next.Wait = tt
  step_quiet local call next.Settle = tt
  step_quiet local call (next.Restart phase position) = restart_quiet local call phase position
  step_quiet local call (next.Begin phase position) = begin_quiet local.places call phase position
  step_quiet local call next.Answer = ((tt, refl, tt), tt)

  call_quiet : (again : Bool) (local : LocalObject) (call : Option NodeCall) →
      AllByRecursion (IsQuiet got name) (call_events again local call)
  call_quiet again local None = tt
  call_quiet again local (Some call) = step_quiet local (machine_of call) (next_if again (machine_of call))

  grow_quiet : (local : LocalObject) (id : ℕ) → AllByRecursion (IsQuiet got name) (grow_events local id)
  grow_quiet local id =
      if_all (IsQuiet got name) (LocalEvent.Grow id) (grows_by local (open_call local.calls id)) (tt, refl, tt)

  going_quiet : (again : Bool) (local : LocalObject) (id : ℕ) →
      AllByRecursion (IsQuiet got name) (going_events again local id)
  going_quiet again local id =
      let grown = (all_done fragment local (grow_events local id)).local in
      all_append (IsQuiet got name) (grow_events local id) (lead_events again grown id) (grow_quiet local id)
      (call_quiet again grown (open_call grown.calls id))

  query_quiet : (local : LocalObject) (id : ℕ) → AllByRecursion (IsQuiet got name) (query_events local id)
  query_quiet local id = go (open_call local.calls id)
    where
      go : (call : Option NodeCall) → AllByRecursion (IsQuiet got name) (query_by local call)
      go None = tt
      go (Some call) = if_all (IsQuiet got name) (LocalEvent.Query call.id) (stands_for_query local call) (tt, refl, tt)

  settle_quiet : (local : LocalObject) (id : ℕ) (events : List LocalEvent) → AreSettling local id events →
      AllByRecursion (IsQuiet got name) events
  settle_quiet local id events (inl none) = subst (λ es. AllByRecursion (IsQuiet got name) es) (sym none.0) tt
  settle_quiet local id events (inr one) =
      subst (λ es. AllByRecursion (IsQuiet got name) es) (sym one.2) ((tt, refl, tt), tt)

-- what was done, as its events, with what each of them needs
pub record IsQuietOutcome (got : List Named) (name : List ℕ) (old local : LocalObject) (letters : List Letter)
    (ended : List Ended) : Type 0 where
  pub events : List LocalEvent
  pub done : IsOutcome old events local letters
  pub told : ended ≡ all_told fragment old events
  pub fed : AllByRecursion (IsEventLetterKnown got name) events
  pub none : AllByRecursion BeginsNone events
  pub asks : AllByRecursion ServesNone events

by_quietly : (got : List Named) (name : List ℕ) (old local : LocalObject) (letters : List Letter) (ended : List Ended)
    (events : List LocalEvent) → IsOutcomeWithAnswers old events local letters ended → AllByRecursion (IsQuiet got name) events →
    IsQuietOutcome got name old local letters ended
by_quietly got name old local letters ended events by quiet = record {
  events = events;
  done = by.done;
  told = by.told;
  fed = all_weaker (IsQuiet got name) (IsEventLetterKnown got name) (λ event is. is.0) events quiet;
  none = all_weaker (IsQuiet got name) BeginsNone (λ event is. is.1) events quiet;
  asks = all_weaker (IsQuiet got name) ServesNone (λ event is. is.2) events quiet;
}

pub taken_quietly : (name : List ℕ) (letter : Letter) (taken : Bool) (old local : LocalObject) (letters : List Letter)
    (ended : List Ended) → IsReplyOutcome taken old letter local letters ended →
    IsQuietOutcome (record { name = name; letter = letter } ∷ []) name old local letters ended
taken_quietly name letter false old local letters ended by =
    by_quietly (record { name = name; letter = letter } ∷ []) name old local letters ended [] by tt
taken_quietly name letter true old local letters ended (inl early) =
    let got : List Named = record { name = name; letter = letter } ∷ [] in
    by_quietly got name old local letters ended
    (LocalEvent.Take letter ∷ LocalEvent.EndEarly letter.message.call early.returned ∷ []) early.done
    (((0, refl), refl, tt), ((tt, refl, tt), tt))
taken_quietly name letter true old local letters ended (inr goes) =
    let got : List Named = record { name = name; letter = letter } ∷ [] in
    let id = letter.message.call in
    let taking = taking_events old letter in
    let first = taking ++ goes.settling in
    let again = repeats old letter in
    let settled = (all_done fragment old first).local in
    let last = going_events again settled id in
    by_quietly got name old local letters ended (first ++ last) goes.leads
    (all_append (IsQuiet got name) first last
    (all_append (IsQuiet got name) taking goes.settling (((0, refl), refl, tt), query_quiet got name (after_taking old letter) id)
    (settle_quiet got name (all_done fragment old taking).local id goes.settling goes.settles))
    (going_quiet got name again settled id))
