-- Events that change open calls leave a world true.
use Rattle.std.proofs.Common.{◌≡◌, inl, inr, ℕ, suc, ◌<◌, Bool, true, false, cond, eqb, eq-eqb, List, ◌∷◌, length, map, get_or}
use Rattle.std.proofs.Common.{Option, Some, None, option_map, slice_get, not, refl, sym, ap, ◌∙◌, subst, arith}
use Rattle.std.proofs.lemmas.Option.{slice_get-map}
use Rattle.std.specs.List.{AllByRecursion}
use Rattle.layout.specs.Layout.{IsLawful, Layout}
use Rattle.piece.specs.declared.piece.Piece.{Piece}
use Rattle.bank.specs.declared.kind.Kind.{Kind}
use Rattle.mail.specs.declared.message.Message.{Message}
use Rattle.record.specs.declared.call.Entry.{Entry}
use Rattle.record.specs.Fragments.{Code}
use Rattle.record.specs.Journals.{entry_value}
use Rattle.record.specs.PhaseOrder.{begun_at}
use Rattle.record.specs.Records.{no_layout}
use Rattle.record.specs.Steps.{new_phase}
use Rattle.open_calls.specs.OpenCalls.{NodeCall, open_call, stage_reached}
use Rattle.open_calls.proofs.OpenCallLemmas.{all_filter, all_with, found}
use Rattle.network.specs.Worlds.{ClusterFile, World, known_layout, known_layouts}
use Rattle.network.specs.Events.{advanced_world, answered_entry, answered_world, call_pieces, on_open}
use Rattle.network.specs.Premises.{IsOneFile, WasSent}
use Rattle.starts.proofs.BankRowLemmas.{member_count}
use Rattle.starts.proofs.BegunPhaseLemmas.{begun_true, messages_true, other_true}
use Rattle.starts.proofs.FinalPointerLemmas.{kept_same, ticked}
use Rattle.starts.proofs.TrueReplyLemmas.{Grows, IsKnown, IsSoFar, IsTrueCall, IsTruthful, calls_still, message_still}

-- Events without a new message

module _ (world new : World) (files : new.files ≡ world.files) (later : new.later ≡ world.later) (banks : new.banks ≡ world.banks)
    (known : (id : ℕ) → IsKnown world.history id → IsKnown new.history id) (sent : new.sent ≡ world.sent) where
  grows : Grows world new
  grows = record { keeps = kept_same world new files later banks; known = known }

  -- all calls of the old world are true in the new one
  pub old_calls : AllByRecursion (IsTrueCall world) world.calls → AllByRecursion (IsTrueCall new) world.calls
  old_calls all = calls_still world new grows sent world.calls all

  same_layouts : known_layouts world 0 ≡ known_layouts new 0
  same_layouts = ap (λ (f : ℕ → ClusterFile). (f 0).first ∷ world.later) (sym files) ∙ ap (λ l. (new.files 0).first ∷ l) (sym later)

  pub quiet : IsTruthful world → AllByRecursion (IsTrueCall new) new.calls → IsTruthful new
  quiet is calls = record {
    one = subst IsOneFile (sym files) is.one;
    lawful = subst (AllByRecursion IsLawful) same_layouts is.lawful;
    banks = ap (λ b. map length b) banks ∙ is.banks ∙ ap (λ l. map member_count l) same_layouts;
    messages = λ message was.
        message_still world new grows message (is.messages message (was.0, ap (λ l. slice_get l was.0) (sym sent) ∙ was.1));
    calls = calls;
  }

pub ticked_true : (world : World) → IsTruthful world → IsTruthful (ticked world)
ticked_true world is = quiet world (ticked world) refl refl refl (λ id known. known) refl is
    (old_calls world (ticked world) refl refl refl (λ id known. known) refl is.calls)

-- the world with other calls
abbrev pub with_calls : World → List NodeCall → World
with_calls world calls = record world { calls = calls; now = suc world.now }

pub calls_changed : (world : World) (calls : List NodeCall) → IsTruthful world →
    (AllByRecursion (IsTrueCall (with_calls world calls)) world.calls → AllByRecursion (IsTrueCall (with_calls world calls)) calls) →
    IsTruthful (with_calls world calls)
calls_changed world calls is change =
    let new = with_calls world calls in
    quiet world new refl refl refl (λ id known. known) refl is
    (change (old_calls world new refl refl refl (λ id known. known) refl is.calls))

-- a call of the world is true, and is the one that was looked for
pub found_true : (world : World) → IsTruthful world → (id : ℕ) (call : NodeCall) → open_call world.calls id ≡ Some call →
    IsTrueCall world call × (call.id ≡ id)
found_true world is id call e = found (IsTrueCall world) world.calls id call is.calls e

-- a change of a call, where a node carries it out
pub if_open : (world : World) (id : ℕ) (change : NodeCall → World) → IsTruthful world →
    ((call : NodeCall) → open_call world.calls id ≡ Some call → IsTruthful (change call)) →
    IsTruthful (on_open (ticked world) (open_call world.calls id) change)
if_open world id change is each = go (open_call world.calls id) refl
  where
    go : (o : Option NodeCall) → open_call world.calls id ≡ o → IsTruthful (on_open (ticked world) o change)
    go None e = ticked_true world is
    go (Some call) e = each call e

pub settled_true : (world : World) (call : NodeCall) (value : List ℕ) → IsTrueCall world call →
    IsTrueCall world (record call { settled = Some value })
settled_true world call value is = record { known = is.known; own = is.own; sent = is.sent; replies = is.replies }

same_call : (call : NodeCall) (now : ℕ) (entry : Entry) (b : Bool) →
    (cond b (record entry { answered = Some now; value = entry_value call.kind (Some now) call.settled }) entry).call ≡ entry.call
same_call call now entry true = refl
same_call call now entry false = refl

-- an entry that is answered is of the same call
answered_known : (call : NodeCall) (now : ℕ) (history : List Entry) (id : ℕ) → IsKnown history id →
    IsKnown (map (answered_entry call now) history) id
answered_known call now history id was = (
  was.0,
  answered_entry call now was.1,
  slice_get-map (answered_entry call now) history was.0 ∙ ap (option_map (answered_entry call now)) was.2,
  same_call call now was.1 (eqb was.1.call call.id) ∙ was.3,
)

pub answering_true : (world : World) (call : NodeCall) → IsTruthful world → IsTruthful (answered_world (ticked world) call)
answering_true world call is =
    let new = answered_world (ticked world) call in
    let known : (id : ℕ) → IsKnown world.history id → IsKnown new.history id = answered_known call (suc world.now) world.history in
    quiet world new refl refl refl known refl is
    (all_filter (IsTrueCall new) (λ c. not (eqb c.id call.id)) world.calls (old_calls world new refl refl refl known refl is.calls))

-- A call begins its next phase

pub advance_true : (fragment : Code) (world : World) (id : ℕ) (call : NodeCall) → IsTruthful world → open_call world.calls id ≡ Some call →
    (o : Option (Kind × ℕ)) → IsTruthful (advanced_world fragment (ticked world) call o)
advance_true fragment world id call is e None = ticked_true world is
advance_true fragment world id call is e (Some next) = record {
  one = is.one;
  lawful = is.lawful;
  banks = is.banks;
  messages = messages_true world new grown call.id number next.0 next.1 layout piece same refl here.known is.messages;
  calls = all_with (IsTrueCall world) (IsTrueCall new) begun world.calls is.calls
      (begun_true world new grown call.id number next.0 next.1 layout piece same refl here.known begun refl refl before)
      (λ other apart there. other_true world new grown call.id number next.0 next.1 layout piece same refl here.known other
      (λ it. absurd (let wrong : false ≡ true = sym apart ∙ eq-eqb other.id call.id it in cc)) there);
}
  where
    number : ℕ
    number = suc call.phase.number

    layout : Layout
    layout = known_layout world call.node next.1

    piece : ℕ → Piece
    piece = call_pieces fragment (ticked world) call next.1

    begun : NodeCall
    begun = record call {
      stage = begun_at (stage_reached call) next.1;
      phase = new_phase call.id number next.0 next.1 layout 0;
    }

    new : World
    new = advanced_world fragment (ticked world) call (Some next)

    here : IsTrueCall world call
    here = (found_true world is id call e).0

    grown : Grows world new
    grown = record { keeps = kept_same world new refl refl refl; known = λ i known. known }

    same : known_layout new 0 next.1 ≡ layout
    same = ap (λ (file : ClusterFile). get_or (file.first ∷ world.later) next.1 no_layout) (sym (is.one call.node))

    before : (message : Message) → WasSent world message → message.call ≡ call.id → message.phase < suc call.phase.number
    before message was own = go (here.sent message was own)
      where
        go : IsSoFar world call.phase message → message.phase < suc call.phase.number
        go (inl less) = omega (arith, less)
        go (inr of) = let h = of.number in omega arith
