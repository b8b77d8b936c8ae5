-- Events of other calls in a world, and the same events in the world where the call that asks is another one.
use Rattle.std.proofs.Common.{◌≡◌, inl, inr, ℕ, false, eqb, List, ◌++◌, ◌⊎◌}
use Rattle.std.proofs.Common.{Option, Some, None, slice_get, refl, sym, ap, ◌∙◌, subst}
use Rattle.bank.specs.declared.kind.Kind.{Kind}
use Rattle.mail.specs.declared.message.Body.{Body}
use Rattle.mail.specs.declared.message.Body.TheVariants as body
use Rattle.mail.specs.declared.message.Message.{Message}
use Rattle.record.specs.declared.call.CallKind.{CallKind}
use Rattle.record.specs.declared.stage.Stage.{Stage}
use Rattle.record.specs.Fragments.{Code, HasPiece}
use Rattle.open_calls.specs.OpenCalls.{NodeCall, open_call, with_open}
use Rattle.open_calls.proofs.ListLemmas.{all_weaker}
use Rattle.network.specs.Worlds.{World, parts_of}
use Rattle.network.specs.Events.{Event, IsFetched, IsOpen, advanced_world, answered_world, begun_world, happens, on_open}
use Rattle.network.specs.Events.{served_world}
use Rattle.network.specs.Premises.{WasSent}
use Rattle.starts.proofs.AdvancedCallLemmas.{found_after}
use Rattle.starts.proofs.BegunPhaseLemmas.{split_list}
use Rattle.starts.proofs.FinalPointerLemmas.{get_more, ticked}
use Rattle.told_queries.proofs.BesideLemmas.{IsBeside}
use Rattle.told_queries.proofs.RunLemmas.{closed_other, open_other}
use Rattle.told_queries.proofs.WithOpenLemmas.{with_push, with_swap, with_without}

-- The other world

-- the message is one of these
abbrev pub IsAmong : List Message → Message → Type 0
IsAmong sent message = (place : ℕ) × (slice_get sent place ≡ Some message)

-- the world in which the call that asks is this one, and these messages were sent
abbrev pub alongside : NodeCall → World → List Message → World
alongside asking world sent = record world { calls = with_open asking world.calls; sent = sent }

-- a world beside another is such a world
pub beside_is : (asking : NodeCall) (world other : World) → IsBeside asking world other → other ≡ alongside asking world other.sent
beside_is asking world other is =
    ap (λ x. let w : World = record other { files = x } in w) is.files
    ∙ ap (λ x. let w : World = record other { files = world.files; later = x } in w) is.later
    ∙ ap (λ x. let w : World = record other { files = world.files; later = world.later; banks = x } in w) is.banks
    ∙ ap (λ x. let w : World = record world { calls = x; sent = other.sent; history = other.history; now = other.now } in w) is.calls
    ∙ ap (λ x. let w : World = record (alongside asking world other.sent) { history = x; now = other.now } in w) is.history
    ∙ ap (λ x. let w : World = record (alongside asking world other.sent) { now = x } in w) is.now

-- the same messages more
pub sent_more : (sent others more : List Message) → ((message : Message) → IsAmong sent message → IsAmong others message) →
    (message : Message) → IsAmong (sent ++ more) message → IsAmong (others ++ more) message
sent_more sent others more keeps message was = go (split_list sent more was.0 message was.1)
  where
    go : IsAmong sent message ⊎ IsAmong more message → IsAmong (others ++ more) message
    go (inl before) = let there = keeps message before in (there.0, get_more others more there.0 message there.1)
    go (inr new) = found_after others more new.0 message new.1

module _ (fragment : Code) (asking : NodeCall) (world : World) (sent : List Message)
    (keeps : (message : Message) → WasSent world message → IsAmong sent message) where
  -- the other world
  abbrev pub along : World
  along = alongside asking world sent

  pub ticked_beside : IsBeside asking (ticked world) (ticked along)
  ticked_beside = record {
    files = refl;
    later = refl;
    banks = refl;
    history = refl;
    now = refl;
    calls = refl;
    sent = keeps;
  }

  -- a call that is changed
  pub with_beside : (new : NodeCall) → eqb asking.id new.id ≡ false → eqb new.id asking.id ≡ false →
      IsBeside asking (record (ticked world) { calls = with_open new world.calls })
      (record (ticked along) { calls = with_open new along.calls })
  with_beside new apart other = record {
    files = refl;
    later = refl;
    banks = refl;
    history = refl;
    now = refl;
    calls = with_swap asking new world.calls apart other;
    sent = keeps;
  }

  -- another call is open as before
  pub other_open : (id : ℕ) (call : NodeCall) → (id ≡ asking.id → ⊥) → IsOpen world id call → IsOpen along id call
  other_open id call apart open_there = open_other asking world.calls id apart ∙ open_there

  -- a change of another call, if it is open
  pub change_beside : (id : ℕ) (change : NodeCall → World) (there : NodeCall → World) → (id ≡ asking.id → ⊥) →
      ((call : NodeCall) → IsOpen world id call → IsBeside asking (change call) (there call)) →
      IsBeside asking (on_open (ticked world) (open_call world.calls id) change)
      (on_open (ticked along) (open_call along.calls id) there)
  change_beside id change there apart each = go (open_call world.calls id) refl
    where
      go : (o : Option NodeCall) → open_call world.calls id ≡ o →
          IsBeside asking (on_open (ticked world) o change) (on_open (ticked along) (open_call along.calls id) there)
      go None e =
          subst (λ o. IsBeside asking (ticked world) (on_open (ticked along) o there)) (sym (closed_other asking world.calls id e))
          ticked_beside
      go (Some call) e =
          subst (λ o. IsBeside asking (change call) (on_open (ticked along) o there)) (sym (other_open id call apart e)) (each call e)

  -- a call that goes on
  pub advance_beside : (call : NodeCall) → eqb asking.id call.id ≡ false → eqb call.id asking.id ≡ false → (o : Option (Kind × ℕ)) →
      IsBeside asking (advanced_world fragment (ticked world) call o) (advanced_world fragment (ticked along) call o)
  advance_beside call apart other None = ticked_beside
  advance_beside call apart other (Some next) = record {
    files = refl;
    later = refl;
    banks = refl;
    history = refl;
    now = refl;
    calls = with_swap asking _ world.calls apart other;
    sent = sent_more world.sent sent _ keeps;
  }

  pub serve_beside : (message : Message) (b : Body) →
      IsBeside asking (served_world (ticked world) message b) (served_world (ticked along) message b)
  serve_beside message (body.Reply kind made) = ticked_beside
  serve_beside message (body.Request asked) = record {
    files = refl;
    later = refl;
    banks = refl;
    history = refl;
    now = refl;
    calls = refl;
    sent = sent_more world.sent sent _ keeps;
  }

  pub answer_beside : (call : NodeCall) → eqb asking.id call.id ≡ false →
      IsBeside asking (answered_world (ticked world) call) (answered_world (ticked along) call)
  answer_beside call apart = record {
    files = refl;
    later = refl;
    banks = refl;
    history = refl;
    now = refl;
    calls = with_without asking call.id world.calls apart;
    sent = keeps;
  }

  pub give_up_beside : (id : ℕ) → eqb asking.id id ≡ false →
      IsBeside asking (happens fragment world (Event.GiveUp id)) (happens fragment along (Event.GiveUp id))
  give_up_beside id apart = record {
    files = refl;
    later = refl;
    banks = refl;
    history = refl;
    now = refl;
    calls = with_without asking id world.calls apart;
    sent = keeps;
  }

  -- a call that begins
  pub begin_beside : (node id : ℕ) (kind : CallKind) (stage : Stage) (first : Kind) (position : ℕ) → eqb id asking.id ≡ false →
      IsBeside asking (begun_world world node id kind stage first position) (begun_world along node id kind stage first position)
  begin_beside node id kind stage first position apart = record {
    files = refl;
    later = refl;
    banks = refl;
    history = refl;
    now = refl;
    calls = sym (with_push asking _ world.calls apart);
    sent = sent_more world.sent sent _ keeps;
  }

  -- a value that may be settled
  pub fetched_still : (call : NodeCall) (value : List ℕ) → IsFetched fragment world call value → IsFetched fragment along call value
  fetched_still call value is = record {
    complete = is.complete;
    fetch = is.fetch;
    unsettled = is.unsettled;
    enough = is.enough;
    pieces = record {
      members = is.pieces.members;
      distinct = is.pieces.distinct;
      enough = is.pieces.enough;
      pieces = all_weaker (HasPiece fragment (parts_of world call.node) call.phase value)
          (HasPiece fragment (parts_of along call.node) call.phase value)
          (λ member has. record {
            place = has.place;
            reply = has.reply;
            within = has.within;
            same_member = has.same_member;
            piece = has.piece;
            same_piece = has.same_piece;
            is_fragment = has.is_fragment;
          }) is.pieces.members is.pieces.pieces;
    };
    is_value = is.is_value;
  }
