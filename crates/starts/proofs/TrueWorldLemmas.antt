-- In each world that is reached, what messages and open calls tell of final pointers is true.
use Rattle.std.proofs.Common.{◌≡◌, ℕ, List, [], ◌∷◌, ◌++◌, length, map, get_or, None, not, ◌&&◌, eqb}
use Rattle.std.proofs.Common.{slice_get, refl, sym, ap, ◌∙◌, subst, Some}
use Rattle.std.proofs.lemmas.List.{map-append}
use Rattle.std.specs.List.{AllByRecursion}
use Rattle.layout.specs.Layout.{IsLawful, Layout}
use Rattle.bank.specs.Bank.{empty_piece}
use Rattle.bank.specs.declared.kind.Kind.{Kind}
use Rattle.bank.specs.declared.kind.Kind.TheVariants.{Next, Spread}
use Rattle.bank.specs.declared.status.Status.TheVariants.{Pending}
use Rattle.record.specs.declared.call.CallKind.{CallKind}
use Rattle.record.specs.declared.call.CallKind.TheVariants.{Read, Write, Move}
use Rattle.record.specs.declared.call.Entry.{Entry}
use Rattle.record.specs.declared.stage.Stage.{Stage}
use Rattle.record.specs.Fragments.{Code}
use Rattle.record.specs.Journals.{entry_value, operation_of}
use Rattle.record.specs.Legal.{first_stage, is_move}
use Rattle.record.specs.PhaseOrder.{begun_at}
use Rattle.record.specs.Records.{no_layout}
use Rattle.record.specs.Sending.{requests}
use Rattle.record.specs.Steps.{new_phase}
use Rattle.soundness.proofs.ListLemmas.{all_get, all_push, all_weaker, get_push}
use Rattle.open_calls.specs.OpenCalls.{NodeCall, due_phase, taking_open, with_open, without_call}
use Rattle.open_calls.proofs.OpenCallLemmas.{all_filter, all_with}
use Rattle.network.specs.Worlds.{ClusterFile, World, known_layout, known_layouts, new_banks, opened_world}
use Rattle.network.specs.Events.{Event, MayHappen, advanced_world, answered_world, begun_world, happens, served_world, world_after}
use Rattle.network.specs.Laws.{IsReached}
use Rattle.network.specs.Premises.{IsOneFile, IsPremised, IsUnused, MayHappenInTurn}
use Rattle.starts.proofs.BankRowLemmas.{member_count, new_count}
use Rattle.starts.proofs.BegunPhaseLemmas.{begun_true, messages_true, other_true}
use Rattle.starts.proofs.FinalPointerLemmas.{Keeps, kept, kept_same, ticked}
use Rattle.starts.proofs.TrueCallLemmas.{advance_true, answering_true, calls_changed, found_true, if_open, old_calls, quiet, settled_true}
use Rattle.starts.proofs.TrueCallLemmas.{with_calls}
use Rattle.starts.proofs.TrueReplyLemmas.{Grows, IsKnown, IsTrueCall, IsTruthful, calls_still}
use Rattle.starts.proofs.TrueServeLemmas.{serving_true}
use Rattle.starts.proofs.TrueTakeLemmas.{taking_true}

-- A call begins

module _ (world base : World) (keeps : Keeps world base) (sent : base.sent ≡ world.sent) (history : base.history ≡ world.history)
    (open_calls : base.calls ≡ world.calls) (one : IsOneFile base.files) (lawful : AllByRecursion IsLawful (known_layouts base 0))
    (banks : map length base.banks ≡ map member_count (known_layouts base 0)) (is : IsTruthful world) (node id : ℕ)
    (kind : CallKind) (stage : Stage) (first : Kind) (position : ℕ) (unused : IsUnused world id) where
  abbrev new : World
  new = begun_world base node id kind stage first position

  abbrev layout : Layout
  layout = known_layout base node position

  none_before : IsKnown world.history id → ⊥
  none_before was = all_get (λ (e : Entry). e.call ≡ id → ⊥) world.history was.0 was.1 unused was.2 was.3

  entry_at : (entries : List Entry) (entry : Entry) → slice_get (entries ++ entry ∷ []) (length entries) ≡ Some entry
  entry_at [] entry = refl
  entry_at (e ∷ entries) entry = entry_at entries entry

  abbrev entry : Entry
  entry = record {
    call = id;
    kind = operation_of kind;
    called = base.now;
    answered = None;
    value = entry_value kind None None;
  }

  known : IsKnown new.history id
  known = (length base.history, entry, entry_at base.history entry, refl)

  grown : Grows world new
  grown = record {
    keeps = record { files = keeps.files; layouts = keeps.layouts; final = keeps.final };
    known = λ other was. (was.0, was.1, get_push base.history entry was.1 was.0 (ap (λ l. slice_get l was.0) history ∙ was.2), was.3);
  }

  same : known_layout new 0 position ≡ layout
  same = ap (λ (file : ClusterFile). get_or (file.first ∷ base.later) position no_layout) (sym (one node))

  messages : new.sent ≡ world.sent ++ requests id 1 first position layout.members 0 empty_piece
  messages = ap (λ l. l ++ requests id 1 first position layout.members 0 empty_piece) sent

  abbrev begun : NodeCall
  begun = record {
    node = node;
    id = id;
    kind = kind;
    settled = None;
    stage = stage;
    phase = new_phase id 1 first position layout 0;
  }

  pub beginning_true : IsTruthful new
  beginning_true = record {
    one = one;
    lawful = lawful;
    banks = banks;
    messages = messages_true world new grown id 1 first position layout empty_piece same messages known is.messages;
    calls = all_push (IsTrueCall new) base.calls begun
        (subst (AllByRecursion (IsTrueCall new)) (sym open_calls)
        (all_weaker (IsTrueCall world) (IsTrueCall new) (λ call there.
        other_true world new grown id 1 first position layout empty_piece same messages known call
        (λ it. none_before (subst (IsKnown world.history) it there.known)) there) world.calls is.calls))
        (begun_true world new grown id 1 first position layout empty_piece same messages known begun refl refl
        (λ message was own. absurd (none_before (subst (IsKnown world.history) own (is.messages message was).known))));
  }

-- All events

-- a call that is changed, and is true in the world of before
changed_true : (world : World) (new : NodeCall) → IsTruthful world → IsTrueCall world new →
    IsTruthful (with_calls world (with_open new world.calls))
changed_true world new is there =
    let later = with_calls world (with_open new world.calls) in
    let grows : Grows world later = record { keeps = kept_same world later refl refl refl; known = λ i known. known } in
    calls_changed world (with_open new world.calls) is
    (λ all. all_with (IsTrueCall later) (IsTrueCall later) new world.calls all
    (calls_still world later grows refl (new ∷ []) (there, tt)).0 (λ other apart it. it))

begins_true : (world : World) → IsTruthful world → (node id : ℕ) (kind : CallKind) → IsUnused world id →
    IsTruthful (begun_world (ticked world) node id kind (begun_at (first_stage kind 0) 0) Next 0)
begins_true world is node id kind unused =
    beginning_true world (ticked world) (kept_same world (ticked world) refl refl refl) refl refl refl is.one is.lawful is.banks is node
    id kind (begun_at (first_stage kind 0) 0) Next 0 unused

pub event_true : (fragment : Code) (world : World) (event : Event) → MayHappen fragment world event → IsPremised world event →
    IsTruthful world → IsTruthful (happens fragment world event)
event_true fragment world (Event.BeginRead node id) may premised is = begins_true world is node id Read premised.ids
event_true fragment world (Event.BeginWrite node id value) may premised is = begins_true world is node id (Write value) premised.ids
event_true fragment world (Event.BeginMove node id layout) may premised is =
    let last = length world.later in
    let base : World = record (ticked world) {
      later = world.later ++ layout ∷ [];
      banks = world.banks ++ new_banks world.files layout.members 0 ∷ [];
    } in
    let keeps = kept fragment world (Event.BeginMove node id layout) may premised in
    beginning_true world base (record { files = refl; layouts = keeps.layouts; final = keeps.final }) refl refl refl is.one
    (all_push IsLawful (known_layouts world 0) layout is.lawful may.0)
    (map-append length world.banks (new_banks world.files layout.members 0 ∷ [])
    ∙ ap (λ l. l ++ length (new_banks world.files layout.members 0) ∷ []) is.banks
    ∙ ap (λ n. map member_count (known_layouts world 0) ++ n ∷ []) (new_count world.files layout.members 0)
    ∙ sym (map-append member_count (known_layouts world 0) (layout ∷ []))) is node id Move (first_stage Move last) (Spread Pending) last
    premised.ids
event_true fragment world (Event.Advance id) may premised is =
    if_open world id (λ call. advanced_world fragment (ticked world) call (due_phase call)) is
    (λ call e. advance_true fragment world id call is e (due_phase call))
event_true fragment world (Event.Serve message) may premised is =
    subst (λ b. IsTruthful (served_world (ticked world) message b)) (sym may.1)
    (serving_true world is message premised.network may.0 may.1)
event_true fragment world (Event.Take message) may premised is =
    if_open world message.call (λ call. with_calls world (with_open (taking_open message call) world.calls)) is
    (λ call e.
    let here = found_true world is message.call call e in
    changed_true world (taking_open message call) is
    (taking_true world call here.0 message premised.network (sym here.1) (is.messages message premised.network)))
event_true fragment world (Event.Settle id value) may premised is =
    if_open world id (λ call. with_calls world (with_open (record call { settled = Some value }) world.calls)) is
    (λ call e. changed_true world (record call { settled = Some value }) is
    (settled_true world call value (found_true world is id call e).0))
event_true fragment world (Event.Answer id) may premised is =
    if_open world id (λ call. answered_world (ticked world) call) is (λ call e. answering_true world call is)
event_true fragment world (Event.GiveUp id) may premised is =
    calls_changed world (without_call id world.calls) is
    (λ all. all_filter (IsTrueCall (with_calls world (without_call id world.calls))) (λ c. not (eqb c.id id)) world.calls all)
event_true fragment world (Event.Restart node banks calls) may premised is =
    let new = happens fragment world (Event.Restart node banks calls) in
    let old = old_calls world new refl refl premised.log.0 (λ i known. known) refl is.calls in
    quiet world new refl refl premised.log.0 (λ i known. known) refl is
    (subst (AllByRecursion (IsTrueCall new)) (sym premised.log.1)
    (all_filter (IsTrueCall new) (λ c. not (eqb c.node node && not (is_move c.kind))) world.calls old))

pub opened_true : (files : ℕ → ClusterFile) → IsOneFile files → IsLawful (files 0).first → IsTruthful (opened_world files)
opened_true files one lawful = record {
  one = one;
  lawful = (lawful, tt);
  banks = ap (λ n. n ∷ []) (new_count files (files 0).first.members 0);
  messages = λ message was. absurd (let none : slice_get [] was.0 ≡ Some message = was.1 in cc);
  calls = tt;
}

run_true : (fragment : Code) (events : List Event) (world : World) → MayHappenInTurn fragment events world → IsTruthful world →
    IsTruthful (world_after fragment events world)
run_true fragment [] world may is = is
run_true fragment (event ∷ events) world may is =
    run_true fragment events (happens fragment world event) may.2 (event_true fragment world event may.0 may.1 is)

pub reached_true : (fragment : Code) (world : World) → IsReached fragment world → IsTruthful world
reached_true fragment world reached =
    subst IsTruthful reached.result
    (run_true fragment reached.events (opened_world reached.files) reached.may (opened_true reached.files reached.one reached.lawful))
