-- What was told, and answered early to other calls, in one of two runs side by side, was so in the other.
use Rattle.std.proofs.Common.{◌≡◌, ◌⊎◌, ℕ, ◌<◌, ◌≤◌, ◌+◌, List, [], ◌∷◌, length, Option, get_or, inl, inr, sym, subst, ap, ◌∙◌}
use Rattle.tag.specs.declared.tag.Tag.{Tag}
use Rattle.layout.specs.Layout.{Layout, quorum_of}
use Rattle.bank.specs.Bank.{Bank}
use Rattle.mail.specs.Phase.{Phase}
use Rattle.mail.specs.declared.message.Message.{Message}
use Rattle.record.specs.Fragments.{Code, HasPiece, HasPieces, IsFragment}
use Rattle.record.specs.Records.{no_bank, no_layout}
use Rattle.open_calls.specs.OpenCalls.{NodeCall}
use Rattle.open_calls.proofs.ListLemmas.{all_weaker}
use Rattle.letter.specs.Tellings.{telling_of}
use Rattle.letter.specs.declared.telling.Telling.{Telling}
use Rattle.network.specs.Worlds.{ClusterFile, World, known_layout, known_layouts, opened_world, parts_of}
use Rattle.network.specs.Events.{Event, world_after}
use Rattle.told_replies.specs.EarlyAnswers.{EarlyAnswer, EndsAtOnce, EndsHeld, HasValue, IsEarly, IsToldGreatest, IsToldHeld}
use Rattle.told_replies.specs.EarlyAnswers.{IsToldValue, TellsHeld, TellsNoGreater, TellsPiece, asked_layout}
use Rattle.told_replies.specs.Tellings.{HasTold, HaveTold, Run, WasTold}
use Rattle.told_queries.proofs.ReplayLemmas.{IsSameBut, Replays, replays_end, replays_serve, replays_until}

-- Worlds that are the same but for one call

pub known_same : (id : ℕ) (world new : World) → IsSameBut id world new → (node : ℕ) →
    known_layouts new node ≡ known_layouts world node
known_same id world new same node =
    ap (λ (files : ℕ → ClusterFile). (files node).first ∷ new.later) same.files
    ∙ ap (λ later. (world.files node).first ∷ later) same.later

pub layout_same : (id : ℕ) (world new : World) → IsSameBut id world new → (node position : ℕ) →
    known_layout new node position ≡ known_layout world node position
layout_same id world new same node position =
    ap (λ layouts. get_or layouts position no_layout) (known_same id world new same node)

-- a piece fits the layouts that a node knows, whatever messages there are
module _ (fragment : Code) (world new : World) (node : ℕ) (phase : Phase) (value : List ℕ)
    (same : known_layout new node phase.position ≡ known_layout world node phase.position) where
  piece_same : (member : ℕ) → HasPiece fragment (parts_of world node) phase value member →
      HasPiece fragment (parts_of new node) phase value member
  piece_same member has = record {
    place = has.place;
    reply = has.reply;
    within = has.within;
    same_member = has.same_member;
    piece = has.piece;
    same_piece = has.same_piece;
    is_fragment = subst (λ layout. IsFragment fragment layout member value has.piece) (sym same) has.is_fragment;
  }

  pieces_same : HasPieces fragment (parts_of world node) phase value → HasPieces fragment (parts_of new node) phase value
  pieces_same has = record {
    members = has.members;
    distinct = has.distinct;
    enough = subst (λ (layout : Layout). layout.k ≤ length has.members) (sym same) has.enough;
    pieces = all_weaker (HasPiece fragment (parts_of world node) phase value) (HasPiece fragment (parts_of new node) phase value)
        piece_same has.members has.pieces;
  }

-- Two runs side by side

module _ (fragment : Code) (id : ℕ) (files : ℕ → ClusterFile) (events others : List Event)
    (replays : Replays fragment id events (opened_world files) others (opened_world files)) where
  abbrev run : Run
  run = record { files = files; events = events }

  abbrev other : Run
  other = record { files = files; events = others }

  abbrev world : World
  world = world_after fragment events (opened_world files)

  abbrev new : World
  new = world_after fragment others (opened_world files)

  pub told_kept : (request : Message) (telling : Telling) → WasTold fragment run request telling →
      WasTold fragment other request telling
  told_kept request telling told =
      let there = replays_serve fragment id told.before request told.after (opened_world files) others (opened_world files)
      (subst (λ l. Replays fragment id l (opened_world files) others (opened_world files)) told.served replays) in
      record {
        before = there.start;
        after = there.rest;
        served = there.split;
        tells = ap (λ (banks : List (List Bank)). telling_of
            (get_or (get_or banks request.position []) request.member no_bank)) there.next.banks ∙ told.tells;
      }

  has_told_kept : (call : NodeCall) (member : ℕ) (telling : Telling) → HasTold fragment run call member telling →
      HasTold fragment other call member telling
  has_told_kept call member telling has = record {
    request = has.request;
    told = told_kept has.request telling has.told;
    same_call = has.same_call;
    same_phase = has.same_phase;
    same_member = has.same_member;
  }

  have_told_kept : (call : NodeCall) (Says : ℕ → Telling → Type 0) (members : List ℕ) →
      HaveTold fragment run call Says members → HaveTold fragment other call Says members
  have_told_kept call Says members have = record {
    distinct = have.distinct;
    each = all_weaker (λ member. (telling : Telling) × HasTold fragment run call member telling × Says member telling)
        (λ member. (telling : Telling) × HasTold fragment other call member telling × Says member telling)
        (λ member it. (it.0, has_told_kept call member it.0 it.1, it.2)) members have.each;
  }

  -- the layout whose members the call asks
  asked_same : (call : NodeCall) → asked_layout new call ≡ asked_layout world call
  asked_same call =
      layout_same id world new (replays_end fragment id events (opened_world files) others (opened_world files) replays) call.node
      call.phase.position

  module _ (call : NodeCall) where
    held_kept : (tag : Tag) → IsToldHeld fragment run call tag → IsToldHeld fragment other call tag
    held_kept tag held = record {
      members = held.members;
      told = have_told_kept call (TellsHeld call.phase.kind tag) held.members held.told;
      enough = subst (λ (layout : Layout). length layout.members < layout.k + length held.members) (sym (asked_same call)) held.enough;
    }

    greatest_kept : (tag : Tag) → IsToldGreatest fragment run call tag → IsToldGreatest fragment other call tag
    greatest_kept tag greatest = record {
      members = greatest.members;
      told = have_told_kept call (TellsNoGreater tag) greatest.members greatest.told;
      enough = subst (λ layout. quorum_of layout ≤ length greatest.members) (sym (asked_same call)) greatest.enough;
    }

    value_kept : (tag : Tag) (value : List ℕ) → IsToldValue fragment run call tag value → IsToldValue fragment other call tag value
    value_kept tag value told = record {
      members = told.members;
      told = subst (λ layout. HaveTold fragment other call (TellsPiece fragment layout tag value) told.members)
          (sym (asked_same call))
          (have_told_kept call (TellsPiece fragment (asked_layout world call) tag value) told.members told.told);
      enough = subst (λ (layout : Layout). layout.k ≤ length told.members) (sym (asked_same call)) told.enough;
      is_value = told.is_value;
    }

    has_value_kept : (value : List ℕ) → HasValue fragment world call value → HasValue fragment new call value
    has_value_kept value (inl settled) = inl settled
    has_value_kept value (inr fetched) =
        inr (fetched.0, pieces_same fragment world new call.node call.phase value (asked_same call) fetched.1, fetched.2)

    ends_held_kept : (returned : Option (List ℕ)) → EndsHeld fragment run call returned → EndsHeld fragment other call returned
    ends_held_kept returned ends = record {
      client = ends.client;
      last = ends.last;
      tag = ends.tag;
      puts = ends.puts;
      held = held_kept ends.tag ends.held;
      returns = λ reads. let it = ends.returns reads in (it.0, it.1, has_value_kept it.0 it.2);
    }

    at_once_kept : (returned : Option (List ℕ)) → EndsAtOnce fragment run call returned → EndsAtOnce fragment other call returned
    at_once_kept returned ends = record {
      reads = ends.reads;
      position = ends.position;
      stage = ends.stage;
      tag = ends.tag;
      greatest = greatest_kept ends.tag ends.greatest;
      held = held_kept ends.tag ends.held;
      value = ends.value;
      is_returned = ends.is_returned;
      pieces = value_kept ends.tag ends.value ends.pieces;
    }

    pub ends_kept : (returned : Option (List ℕ)) → EndsHeld fragment run call returned ⊎ EndsAtOnce fragment run call returned →
        EndsHeld fragment other call returned ⊎ EndsAtOnce fragment other call returned
    ends_kept returned (inl held) = inl (ends_held_kept returned held)
    ends_kept returned (inr once) = inr (at_once_kept returned once)

-- an early answer to another call
pub early_kept : (fragment : Code) (id : ℕ) (files : ℕ → ClusterFile) (events others : List Event) →
    Replays fragment id events (opened_world files) others (opened_world files) → (answer : EarlyAnswer) →
    (answer.id ≡ id → ⊥) → IsEarly fragment (record { files = files; events = events }) answer →
    IsEarly fragment (record { files = files; events = others }) answer
early_kept fragment id files events others replays answer apart early =
    let opened = opened_world files in
    let there = replays_until fragment id early.before early.after opened others opened
    (subst (λ l. Replays fragment id l opened others opened) early.until replays) in
    let same = replays_end fragment id early.before opened there.start opened there.replays in
    record {
      before = there.start;
      after = there.rest;
      until = there.split;
      now = early.now ∙ sym same.now;
      call = early.call;
      carried = same.others answer.id apart ∙ early.carried;
      ends = ends_kept fragment id files early.before there.start there.replays early.call answer.value early.ends;
    }
