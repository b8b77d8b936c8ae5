-- An answer that was given early may be told, in the sense of the record.
use Rattle.std.proofs.Common.{◌≡◌, ℕ, ◌<◌, ◌≤◌, ◌⊎◌, false, List, [], length, Some, slice_get}
use Rattle.std.proofs.Common.{sym, subst, ap, ◌∙◌, inl, inr, arith}
use Rattle.std.proofs.lemmas.Bool.{cases_lt}
use Rattle.std.proofs.lemmas.Option.{same_Some}
use Rattle.tag.specs.declared.tag.Tag.{Tag}
use Rattle.bank.specs.declared.kind.Kind.{Kind}
use Rattle.bank.specs.declared.kind.Kind.TheVariants.{Fetch, Finalize}
use Rattle.mail.specs.Phase.{Phase}
use Rattle.record.specs.declared.stage.Stage.{Stage}
use Rattle.record.specs.declared.stage.Stage.TheVariants.{ReadNext}
use Rattle.record.specs.Fragments.{Code, HasPieces, IsSettled, IsValue}
use Rattle.record.specs.Journals.{stage_tag}
use Rattle.record.specs.Legal.{is_move}
use Rattle.record.specs.PhaseOrder.{due}
use Rattle.record.specs.Records.{Call}
use Rattle.record.proofs.Phases.PastFetchLemmas.{IsLateWith, fetch_due}
use Rattle.soundness.proofs.Values.ReadValueLemmas.{settled_tag}
use Rattle.open_calls.specs.OpenCalls.{NodeCall}
use Rattle.open_calls.proofs.OpenCallLemmas.{found}
use Rattle.network.specs.Worlds.{ClusterFile, World, opened_world, parts_of}
use Rattle.network.specs.Events.{Event, world_after}
use Rattle.network.specs.Following.{IsOpenIn, last_step_after}
use Rattle.network.specs.Premises.{MayHappenInTurn}
use Rattle.network.proofs.OneFileLemmas.{layouts_known}
use Rattle.early_ends.specs.Held.{IsHeld}
use Rattle.early_ends.specs.Told.{HasPhase, IsGreatestTold, IsHeldCall, IsTold, IsToldRead, ReturnsTold, Told}
use Rattle.early_ends.proofs.MadePhaseLemmas.{phase_facts}
use Rattle.early_ends.proofs.WriteTagLemmas.{late_tag}
use Rattle.told_replies.specs.Tellings.{Run}
use Rattle.told_replies.specs.EarlyAnswers.{EarlyAnswer, EndsAtOnce, EndsHeld, Finalizes, HasValue, IsEarly}
use Rattle.told_replies.proofs.CarriedCallLemmas.{IsCarried, get_middle}
use Rattle.told_replies.proofs.FetchedPieceLemmas.{at_or_after, fetched_pieces, has_pieces}
use Rattle.told_replies.proofs.ShownMemberLemmas.{carried, told_greatest, told_held, told_pieces}
use Rattle.told_replies.proofs.TracedRunLemmas.{IsRecorded, Remembers}

-- Stages

finalize_late : (stage : Stage) (tag : Tag) (position : ℕ) → due stage ≡ Some (Finalize tag, position) → IsLateWith tag stage
finalize_late stage tag position e = grind arith

asks_next : (kind : Kind) (position finalized place : ℕ) → due (ReadNext position finalized) ≡ Some (kind, place) → place ≡ position
asks_next kind position finalized place e = grind arith

-- Answers

module _ (fragment : Code) (files : ℕ → ClusterFile) (events : List Event)
    (may : MayHappenInTurn fragment events (opened_world files)) (traced : IsRecorded fragment files events)
    (answer : EarlyAnswer) (early : IsEarly fragment (record { files = files; events = events }) answer) where
  abbrev world : World
  world = world_after fragment early.before (opened_world files)

  abbrev run : Run
  run = record { files = files; events = early.before }

  abbrev call : NodeCall
  call = early.call

  pub there : Remembers fragment world traced.last
  there = traced.each early.before early.after early.until

  pub carries : IsOpenIn there.object call × (call.id ≡ answer.id)
  carries = found (IsOpenIn there.object) world.calls answer.id call there.follows.calls early.carried

  pub is : IsOpenIn there.object call
  is = carries.0

  abbrev pub place : IsCarried traced.last call is.last
  place = carried fragment files events may traced early.before early.after early.until there call is

  -- the answer as the record has it
  abbrev pub told_answer : Told
  told_answer = record { index = place.index; step = last_step_after answer.now; value = answer.value }

  pub told_call : (recorded : Call) × (slice_get traced.last.calls told_answer.index ≡ Some recorded) × (recorded.id ≡ answer.id)
  told_call = (place.call, place.at, sym place.same_id ∙ carries.1)

  made : is_move place.call.kind ≡ false → HasPhase traced.last place.index place.call call.stage place.phase
  made reads = record {
    at = place.at;
    earlier = place.earlier;
    later = place.later;
    phases = place.phases;
    due_at = place.stage reads;
  }

  is_due : is_move place.call.kind ≡ false → due call.stage ≡ Some (call.phase.kind, call.phase.position)
  is_due reads =
      (phase_facts traced.last traced.sound.legal place.index place.call call.stage place.phase (made reads)).is_due
      ∙ ap (λ (k : Kind). Some (k, place.phase.position)) (sym place.kind)
      ∙ ap (λ (p : ℕ). Some (call.phase.kind, p)) (sym place.position)

  in_steps : last_step_after world.now ≡ last_step_after answer.now
  in_steps = ap last_step_after (sym early.now)

  held_until : (tag : Tag) → IsHeld traced.last call.phase.position tag place.phase.start (last_step_after world.now) →
      IsHeld traced.last call.phase.position tag place.phase.start (last_step_after answer.now)
  held_until tag held = subst (IsHeld traced.last call.phase.position tag place.phase.start) in_steps held

  -- What reads return

  at_current : slice_get is.call.phases (length is.earlier) ≡ Some is.last
  at_current = ap (λ ps. slice_get ps (length is.earlier)) is.phases ∙ get_middle is.earlier is.last []

  current_kind : call.phase.kind ≡ is.last.kind
  current_kind = ap (λ (p : Phase). p.kind) is.phase

  -- what the current fetch took
  returns_fetched : (tag : Tag) → call.phase.kind ≡ Fetch tag → (value : List ℕ) → answer.value ≡ Some value →
      HasPieces fragment (parts_of world call.node) call.phase value → IsValue value → ReturnsTold fragment traced.last told_answer tag
  returns_fetched tag kind value returned pieces is_value = record {
    position = is.last.position;
    value = value;
    returned = returned;
    is_value = is_value;
    pieces = fetched_pieces fragment world traced.last _ traced.sound there is.index (length is.earlier) is.call is.last is.at at_current
        tag (sym current_kind ∙ kind) value
        (has_pieces fragment world call.node there.object is.last value
        (there.follows.layouts ∙ layouts_known world there.follows.one call.node)
        (subst (λ p. HasPieces fragment (parts_of world call.node) p value) is.phase pieces));
  }

  -- what it settled before
  returns_settled : (tag : Tag) → Finalizes call.phase.kind tag → is_move place.call.kind ≡ false → (value : List ℕ) →
      answer.value ≡ Some value → call.settled ≡ Some value → ReturnsTold fragment traced.last told_answer tag
  returns_settled tag puts reads value returned settled = record {
    position = was.phase.position;
    value = value;
    returned = returned;
    is_value = there.sound.values.settled is.index is.call value is.at settled_there;
    pieces = fetched_pieces fragment world traced.last _ traced.sound there is.index was.place is.call was.phase is.at was.within tag
        (was.fetch.1 ∙ ap (λ t. Fetch t) (same_tag puts)) value was.pieces;
  }
    where
      settled_there : is.call.settled ≡ Some value
      settled_there = sym is.settled ∙ settled

      was : IsSettled fragment there.object is.call value
      was = there.sound.settled.settled is.index is.call value is.at settled_there

      same_tag : Finalizes call.phase.kind tag → was.fetch.0 ≡ tag
      same_tag (inl finalizes) =
          same_Some was.fetch.0 tag (sym (settled_tag fragment there.object there.sound.legal is.index is.call is.at value was)
          ∙ late_tag there.object is.index is.call call.stage is.last
          (record { at = is.at; earlier = is.earlier; later = []; phases = is.phases; due_at = is.stage }) tag
          (finalize_late call.stage tag call.phase.position
          (is_due reads ∙ ap (λ (k : Kind). Some (k, call.phase.position)) finalizes)))
      same_tag (inr fetches) = go (cases_lt was.place (length is.earlier))
        where
          go : (was.place < length is.earlier) ⊎ (length is.earlier ≤ was.place) → was.fetch.0 ≡ tag
          go (inl before) = absurd (was.latest (length is.earlier) is.last at_current before (tag, sym current_kind ∙ fetches))
          go (inr after) =
              let here = at_or_after is.earlier is.last was.place was.phase after
              (ap (λ ps. slice_get ps was.place) (sym is.phases) ∙ was.within) in
              let kinds : Fetch was.fetch.0 ≡ Fetch tag =
              sym was.fetch.1 ∙ ap (λ (p : Phase). p.kind) here ∙ sym current_kind ∙ fetches in
              cc

  -- A call that fetches or finalizes its tag

  tag_there : (tag : Tag) → Finalizes call.phase.kind tag → is_move place.call.kind ≡ false → stage_tag call.stage ≡ Some tag
  tag_there tag (inl finalizes) reads =
      (finalize_late call.stage tag call.phase.position
      (is_due reads ∙ ap (λ (k : Kind). Some (k, call.phase.position)) finalizes)).1
  tag_there tag (inr fetches) reads =
      fetch_due call.stage tag call.phase.position (is_due reads ∙ ap (λ (k : Kind). Some (k, call.phase.position)) fetches)

  held_call : (ends : EndsHeld fragment run call answer.value) → IsHeldCall fragment traced.last told_answer place.call ends.tag
  held_call ends = record {
    stage = call.stage;
    phase = place.phase;
    made = made reads;
    last = call.phase.position;
    has_last = ends.last;
    tagged = tag_there ends.tag ends.puts reads;
    held = held_until ends.tag
        (told_held fragment files events may traced early.before early.after early.until there call is ends.tag ends.held);
    returns = λ read. let has = ends.returns (place.same_kind ∙ read) in returns has.0 has.1 has.2;
  }
    where
      reads : is_move place.call.kind ≡ false
      reads = ap is_move (sym place.same_kind) ∙ ends.client

      fetches : Finalizes call.phase.kind ends.tag → (other : Tag) → call.phase.kind ≡ Fetch other → call.phase.kind ≡ Fetch ends.tag
      fetches (inl finalizes) other fetch = absurd (let clash : Finalize ends.tag ≡ Fetch other = sym finalizes ∙ fetch in cc)
      fetches (inr is_fetch) other fetch = is_fetch

      returns : (value : List ℕ) → answer.value ≡ Some value → HasValue fragment world call value →
          ReturnsTold fragment traced.last told_answer ends.tag
      returns value returned (inl settled) = returns_settled ends.tag ends.puts reads value returned settled
      returns value returned (inr has) =
          returns_fetched ends.tag (fetches ends.puts has.0.0 has.0.1) value returned has.1 has.2

  -- A read in its first phase

  told_read : (ends : EndsAtOnce fragment run call answer.value) → IsToldRead fragment traced.last told_answer place.call ends.tag
  told_read ends = record {
    position = ends.position;
    phase = place.phase;
    made = subst (λ stage. HasPhase traced.last place.index place.call stage place.phase) ends.stage (made reads);
    reads = sym place.same_kind ∙ ends.reads;
    greatest = subst (λ p. IsGreatestTold traced.last p ends.tag place.phase.start) there_is
        (told_greatest fragment files events may traced early.before early.after early.until there call is ends.tag ends.greatest);
    held = subst (λ p. IsHeld traced.last p ends.tag place.phase.start (last_step_after answer.now)) there_is
        (held_until ends.tag
        (told_held fragment files events may traced early.before early.after early.until there call is ends.tag ends.held));
    returns = record {
      position = call.phase.position;
      value = ends.value;
      returned = ends.is_returned;
      is_value = ends.pieces.is_value;
      pieces = told_pieces fragment files events may traced early.before early.after early.until there call is ends.tag ends.value
          ends.pieces;
    };
  }
    where
      reads : is_move place.call.kind ≡ false
      reads = ap is_move (sym place.same_kind ∙ ends.reads)

      there_is : call.phase.position ≡ ends.position
      there_is =
          asks_next call.phase.kind ends.position ends.position call.phase.position
          (ap due (sym ends.stage) ∙ is_due reads)

  -- so the answer may be told
  pub told_early : (may : IsTold fragment traced.last told_answer) × (may.call.id ≡ answer.id) × (may.call.kind ≡ call.kind)
  told_early = go early.ends
    where
      go : EndsHeld fragment run call answer.value ⊎ EndsAtOnce fragment run call answer.value →
          (may : IsTold fragment traced.last told_answer) × (may.call.id ≡ answer.id) × (may.call.kind ≡ call.kind)
      go (inl ends) = (
        record { call = place.call; tag = ends.tag; held = inl (held_call ends) },
        sym place.same_id ∙ carries.1,
        sym place.same_kind,
      )
      go (inr ends) = (
        record { call = place.call; tag = ends.tag; held = inr (told_read ends) },
        sym place.same_id ∙ carries.1,
        sym place.same_kind,
      )
