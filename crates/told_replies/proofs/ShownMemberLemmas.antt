-- What members told a call, as the last record of the run has it.
use Rattle.std.proofs.Common.{◌≡◌, ℕ, ◌+◌, ◌<◌, ◌≤◌, ◌⊎◌, Bool, true, false, List, [], ◌∷◌, ◌++◌, length, Some, get_or, slice_get}
use Rattle.std.proofs.Common.{refl, sym, subst, subst₂, ap, ◌∙◌, inl, inr, arith}
use Rattle.std.proofs.lemmas.Option.{same_Some}
use Rattle.tag.specs.declared.tag.Tag.{Tag}
use Rattle.tag.specs.Tag.{tag_lt}
use Rattle.layout.specs.Layout.{Layout, quorum_of}
use Rattle.piece.specs.declared.piece.Piece.{Piece}
use Rattle.bank.specs.Knowledge.{HasFinalized, pointer_at}
use Rattle.bank.specs.declared.kind.Kind.{Kind}
use Rattle.mail.specs.Phase.{Phase}
use Rattle.mail.specs.declared.message.Message.{Message}
use Rattle.record.specs.Fragments.{Code, IsCoded, IsFragment}
use Rattle.record.specs.Knowledge.{IsTruePhase}
use Rattle.record.specs.Records.{Call, Object, bank_at, layout_at, no_layout}
use Rattle.record.proofs.TagOrderLemmas.{at_most_trans, not_below_at_most, tag_lt-false, tag_lt-true}
use Rattle.soundness.proofs.ListLemmas.{all_get, all_map}
use Rattle.open_calls.specs.OpenCalls.{NodeCall}
use Rattle.network.specs.Worlds.{ClusterFile, World, known_layout, opened_world}
use Rattle.network.specs.Events.{Event, happens, world_after}
use Rattle.network.specs.Following.{IsOpenIn, last_step_after}
use Rattle.network.specs.Premises.{MayHappenInTurn}
use Rattle.network.proofs.OneFileLemmas.{layouts_known}
use Rattle.early_ends.specs.Held.{HasHeld, IsHeld}
use Rattle.early_ends.specs.Told.{HasNoGreater, HasToldPiece, HasToldPieces, IsGreatestTold}
use Rattle.letter.specs.declared.telling.Telling.{Telling}
use Rattle.told_replies.specs.Tellings.{HasTold, Run}
use Rattle.told_replies.specs.EarlyAnswers.{Finalizes, IsToldGreatest, IsToldHeld, IsToldValue, TellsHeld, TellsNoGreater, TellsPiece}
use Rattle.told_replies.proofs.CarriedCallLemmas.{IsCarried, carried_there, get_middle}
use Rattle.told_replies.proofs.GrownPhaseLemmas.{append_twice}
use Rattle.told_replies.proofs.ServedMessageLemmas.{IsServedFor, served_for}
use Rattle.told_replies.proofs.TracedRunLemmas.{IsRecorded, Remembers, after_append, after_one, may_at, now_rises, steps_of}

-- at some step between, the member told this; the record still says so of this step
pub record IsShown (fragment : Code) (last : Object) (kind : Kind) (start until position member : ℕ) (telling : Telling) : Type 0 where
  pub step : ℕ
  pub from : start ≤ step
  pub by : step ≤ until
  pub below : member < length (layout_at last position).members
  pub status : pointer_at (bank_at last position member) step ≡ telling.status
  pub greatest : HasFinalized (bank_at last position member) telling.greatest step
  pub none : (other : Tag) → HasFinalized (bank_at last position member) other step → tag_lt telling.greatest other ≡ false
  pub puts : (tag : Tag) → Finalizes kind tag → HasFinalized (bank_at last position member) tag step
  pub coded : (piece : Piece) → telling.piece ≡ Some piece → IsCoded fragment last position member telling.greatest (Some piece)

-- the tests of tags
not_greater : (a b c : Tag) → tag_lt a b ≡ false → tag_lt b c ≡ false → tag_lt a c ≡ false
not_greater a b c first second = go (tag_lt a c) refl
  where
    go : (found : Bool) → tag_lt a c ≡ found → found ≡ false
    go true e =
        absurd (not_below_at_most a c (tag_lt-true a c e) (at_most_trans c b a (tag_lt-false b c second) (tag_lt-false a b first)))
    go false e = refl

module _ (fragment : Code) (files : ℕ → ClusterFile) (events : List Event)
    (may : MayHappenInTurn fragment events (opened_world files)) (traced : IsRecorded fragment files events)
    (before after : List Event) (split : events ≡ before ++ after)
    (there : Remembers fragment (world_after fragment before (opened_world files)) traced.last) (call : NodeCall)
    (is : IsOpenIn there.object call) where
  abbrev pub start : World
  start = opened_world files

  abbrev pub world : World
  world = world_after fragment before start

  abbrev pub run : Run
  run = record { files = files; events = before }

  abbrev pub until : ℕ
  until = last_step_after world.now

  pub carried : IsCarried traced.last call is.last
  carried = carried_there fragment world traced.last there call is

  abbrev pub Shown : (member : ℕ) → Telling → Type 0
  Shown member telling =
      IsShown fragment traced.last call.phase.kind carried.phase.start until call.phase.position member telling

  module _ (member : ℕ) (telling : Telling) (has : HasTold fragment run call member telling) where
    abbrev request : Message
    request = has.request

    abbrev served_event : Event
    served_event = Event.Serve has.request

    abbrev world_then : World
    world_then = happens fragment (world_after fragment has.told.before start) served_event

    all_events : events ≡ has.told.before ++ served_event ∷ (has.told.after ++ after)
    all_events =
        split ∙ ap (λ l. l ++ after) has.told.served ∙ append_twice has.told.before (served_event ∷ has.told.after) after

    there_then : Remembers fragment world_then traced.last
    there_then =
        subst (λ w. Remembers fragment w traced.last) (after_one fragment has.told.before served_event start)
        (traced.each (has.told.before ++ served_event ∷ []) (has.told.after ++ after)
        (all_events ∙ sym (append_twice has.told.before (served_event ∷ []) (has.told.after ++ after))))

    served : IsServedFor fragment traced.last request.call request.phase request.position request.member (last_step_after world_then.now)
        telling
    served =
        subst (IsServedFor fragment traced.last request.call request.phase request.position request.member (last_step_after world_then.now))
        has.told.tells
        (served_for fragment (world_after fragment has.told.before start) request traced.last _ traced.sound
        (may_at fragment has.told.before served_event (has.told.after ++ after) start
        (subst (λ l. MayHappenInTurn fragment l start) all_events may)).0 there_then)

    one_index : served.index ≡ carried.index
    one_index =
        traced.sound.legal.ids served.index carried.index served.call carried.call served.at carried.at
        (sym served.same_call ∙ has.same_call ∙ carried.same_id)

    one_call : served.call ≡ carried.call
    one_call = same_Some served.call carried.call (sym served.at ∙ ap (slice_get traced.last.calls) one_index ∙ carried.at)

    one_place : served.place ≡ length carried.earlier
    one_place = let a = served.same_phase in let b = has.same_phase in let c = carried.number in omega arith

    one_phase : served.phase ≡ carried.phase
    one_phase =
        same_Some served.phase carried.phase
        (sym served.within ∙ ap (λ (c : Call). slice_get c.phases served.place) one_call
        ∙ ap (slice_get carried.call.phases) one_place ∙ ap (λ phases. slice_get phases (length carried.earlier)) carried.phases
        ∙ get_middle carried.earlier carried.phase carried.later)

    one_position : request.position ≡ call.phase.position
    one_position = served.same_position ∙ ap (λ (p : Phase). p.position) one_phase ∙ sym carried.position

    in_time : last_step_after world_then.now ≤ until
    in_time =
        let rises = now_rises fragment has.told.after world_then in
        let same : world ≡ world_after fragment has.told.after world_then =
        ap (λ l. world_after fragment l start) has.told.served
        ∙ after_append fragment has.told.before (served_event ∷ has.told.after) start in
        let now = ap (λ (w : World). w.now) same in
        let a = steps_of world_then.now in
        let b = steps_of world.now in omega arith

    pub shown : Shown member telling
    shown =
        subst₂ (λ position i. IsShown fragment traced.last call.phase.kind carried.phase.start until position i telling) one_position
        has.same_member (record {
          step = last_step_after world_then.now;
          from = (let a = served.started in let b = ap (λ (p : Phase). p.start) one_phase in omega arith);
          by = in_time;
          below = served.below;
          status = served.status;
          greatest = served.greatest;
          none = served.none;
          puts = λ tag puts.
              served.puts tag (subst (λ k. Finalizes k tag) (carried.kind ∙ sym (ap (λ (p : Phase). p.kind) one_phase)) puts);
          coded = served.coded;
        })

  -- The position

  placed_then : call.phase.position < length there.object.layouts
  placed_then =
      let truth = all_get (IsTruePhase there.object) is.call.phases (length is.earlier) is.last
      (there.sound.legal.calls is.index is.call is.at).phases
      (ap (λ ps. slice_get ps (length is.earlier)) is.phases ∙ get_middle is.earlier is.last []) in
      let placed = truth.placed in
      let same : call.phase.position ≡ is.last.position = ap (λ (p : Phase). p.position) is.phase in omega arith

  pub placed : call.phase.position < length traced.last.layouts
  placed = let a = placed_then in let b = there.kept.positions in omega arith

  pub layout_is : known_layout world call.node call.phase.position ≡ layout_at traced.last call.phase.position
  layout_is =
      ap (λ layouts. get_or layouts call.phase.position no_layout)
      (sym (layouts_known world there.follows.one call.node) ∙ sym there.follows.layouts)
      ∙ sym (there.kept.layouts call.phase.position placed_then)

  -- What the members told together

  -- a member told something of which this is so
  abbrev Tells : (Says : (member : ℕ) → Telling → Type 0) → (member : ℕ) → Type 0
  Tells Says member = (telling : Telling) × HasTold fragment run call member telling × Says member telling

  is_below : (Says : (member : ℕ) → Telling → Type 0) (i : ℕ) → Tells Says i →
      i < length (layout_at traced.last call.phase.position).members
  is_below Says i tells = (shown i tells.0 tells.1).below

  has_finalized : (tag : Tag) (i : ℕ) (telling : Telling) (s : Shown i telling) →
      (telling.greatest ≡ tag) ⊎ Finalizes call.phase.kind tag →
      HasFinalized (bank_at traced.last call.phase.position i) tag s.step
  has_finalized tag i telling s (inl same) =
      subst (λ t. HasFinalized (bank_at traced.last call.phase.position i) t s.step) same s.greatest
  has_finalized tag i telling s (inr puts) = s.puts tag puts

  has_held : (tag : Tag) (i : ℕ) → Tells (TellsHeld call.phase.kind tag) i →
      HasHeld (bank_at traced.last call.phase.position i) tag carried.phase.start until
  has_held tag i tells = let s = shown i tells.0 tells.1 in record {
    step = s.step;
    from = s.from;
    by = s.by;
    finalized = has_finalized tag i tells.0 s tells.2.1;
    unset = s.status ∙ tells.2.0;
  }

  has_no_greater : (tag : Tag) (i : ℕ) → Tells (TellsNoGreater tag) i →
      HasNoGreater (bank_at traced.last call.phase.position i) tag carried.phase.start
  has_no_greater tag i tells = let s = shown i tells.0 tells.1 in record {
    step = s.step;
    from = s.from;
    none = λ other has. not_greater tag tells.0.greatest other tells.2 (s.none other has);
  }

  has_piece : (tag : Tag) (value : List ℕ) (i : ℕ) →
      Tells (TellsPiece fragment (known_layout world call.node call.phase.position) tag value) i →
      HasToldPiece fragment traced.last call.phase.position tag value i
  has_piece tag value i tells = let s = shown i tells.0 tells.1 in let piece = tells.2.1 in record {
    within = s.below;
    piece = piece.0;
    coded = subst (λ t. IsCoded fragment traced.last call.phase.position i t (Some piece.0)) tells.2.0 (s.coded piece.0 piece.1);
    fits = subst (λ l. IsFragment fragment l i value piece.0) layout_is piece.2;
  }

  pub told_held : (tag : Tag) → IsToldHeld fragment run call tag →
      IsHeld traced.last call.phase.position tag carried.phase.start until
  told_held tag told = record {
    members = told.members;
    distinct = told.told.distinct;
    within = all_map (is_below (TellsHeld call.phase.kind tag)) told.members told.told.each;
    enough = subst (λ (l : Layout). length l.members < l.k + length told.members) layout_is told.enough;
    each = all_map (has_held tag) told.members told.told.each;
  }

  pub told_greatest : (tag : Tag) → IsToldGreatest fragment run call tag →
      IsGreatestTold traced.last call.phase.position tag carried.phase.start
  told_greatest tag told = record {
    members = told.members;
    quorum = record {
      distinct = told.told.distinct;
      within = all_map (is_below (TellsNoGreater tag)) told.members told.told.each;
      enough = subst (λ l. quorum_of l ≤ length told.members) layout_is told.enough;
    };
    each = all_map (has_no_greater tag) told.members told.told.each;
  }

  pub told_pieces : (tag : Tag) (value : List ℕ) → IsToldValue fragment run call tag value →
      HasToldPieces fragment traced.last call.phase.position tag value
  told_pieces tag value told = record {
    placed = placed;
    members = told.members;
    distinct = told.told.distinct;
    enough = subst (λ (l : Layout). l.k ≤ length told.members) layout_is told.enough;
    pieces = all_map (has_piece tag value) told.members told.told.each;
  }
