-- In each world that is reached, each member of a position before a start was asked to raise its pointer to final.
use Rattle.std.proofs.Common.{◌≡◌, ◌⊎◌, inl, inr, ℕ, zero, suc, ◌<◌, List, [], ◌∷◌, length, get_or, Option, Some, None}
use Rattle.std.proofs.Common.{slice_get, refl, sym, ap, ◌∙◌, subst, arith}
use Rattle.std.proofs.lemmas.Option.{get_or_from_slice_get, same_Some}
use Rattle.std.specs.List.{AllByRecursion}
use Rattle.layout.specs.Layout.{IsLawful, Layout}
use Rattle.bank.specs.Bank.{empty_piece}
use Rattle.bank.specs.Serve.{reply_to, served_bank}
use Rattle.bank.specs.declared.kind.Kind.{Kind}
use Rattle.bank.specs.declared.kind.Kind.TheVariants.{Next, Spread}
use Rattle.bank.specs.declared.request.Request.{Request}
use Rattle.bank.specs.declared.request.Request.TheVariants as request
use Rattle.bank.specs.declared.status.Status.TheVariants as status
use Rattle.mail.specs.Message.{answered}
use Rattle.mail.specs.declared.message.Body.TheVariants as body
use Rattle.mail.specs.declared.message.Message.{Message}
use Rattle.record.specs.Fragments.{Code}
use Rattle.record.specs.Records.{no_layout}
use Rattle.soundness.proofs.ListLemmas.{all_get}
use Rattle.open_calls.specs.OpenCalls.{NodeCall, due_phase, open_call, taking_open, with_open}
use Rattle.network.specs.Worlds.{ClusterFile, World, known_layout, known_layouts, member_bank, new_banks, opened_world}
use Rattle.network.specs.Events.{Event, MayHappen, advanced_world, answered_world, call_pieces, handled_world, happens, on_open}
use Rattle.network.specs.Events.{served_world, world_after}
use Rattle.network.specs.Laws.{IsReached}
use Rattle.network.specs.Premises.{IsOneFile, IsPremised, MayHappenInTurn, WasSent}
use Rattle.starts.specs.Laws.{MembersWereAsked}
use Rattle.starts.specs.Starts.{HasFinal}
use Rattle.starts.proofs.AskedMemberLemmas.{Adds, AreAsked, AsksToRaise, HasAsked, IsRaisedAt, adding_asked, adds_phase, adds_same}
use Rattle.starts.proofs.BegunPhaseLemmas.{split_list}
use Rattle.starts.proofs.FinalPointerLemmas.{IsFinal, get_more, kept, ticked}
use Rattle.starts.proofs.FinalPositionLemmas.{lawful_quorum}
use Rattle.starts.proofs.RaisedBankLemmas.{final_of_more, final_of_set_in, no_new_final, served_from}
use Rattle.starts.proofs.TrueReplyLemmas.{IsTruthful}
use Rattle.starts.proofs.TrueWorldLemmas.{event_true, opened_true, reached_true}

-- The events

-- what changes only an open call and messages
adds_open : (world base : World) (o : Option NodeCall) (change : NodeCall → World) → Adds world base →
    ((call : NodeCall) → Adds world (change call)) → Adds world (on_open base o change)
adds_open world base None change none some = none
adds_open world base (Some call) change none some = some call

-- a position has one layout for all nodes
one_layout : (files : ℕ → ClusterFile) (later : List Layout) → IsOneFile files → (node position : ℕ) →
    get_or ((files 0).first ∷ later) position no_layout ≡ get_or ((files node).first ∷ later) position no_layout
one_layout files later one node position =
    ap (λ (file : ClusterFile). get_or (file.first ∷ later) position no_layout) (sym (one node))

adds_advanced : (fragment : Code) (world : World) → IsOneFile world.files → (call : NodeCall) (o : Option (Kind × ℕ)) →
    Adds world (advanced_world fragment (ticked world) call o)
adds_advanced fragment world one call None = adds_same world (ticked world) refl refl
adds_advanced fragment world one call (Some next) =
    adds_phase world (advanced_world fragment (ticked world) call (Some next)) call.id (suc call.phase.number) next.0 next.1
    (known_layout world call.node next.1) (call_pieces fragment (ticked world) call next.1)
    (one_layout world.files world.later one call.node next.1) refl (λ other member final. final)

module _ (world : World) (message : Message) (was : WasSent world message) (asked : Request)
    (shape : message.body ≡ body.Request asked) where
  abbrev served : World
  served = handled_world (ticked world) message asked

  abbrev reply : Message
  reply = answered message (reply_to (member_bank world message.position message.member) asked 0)

  adds_handled : Adds world served
  adds_handled = record {
    stays = λ other sent. (sent.0, get_more world.sent (reply ∷ []) sent.0 other sent.1);
    news = λ other sent asks. new other asks (split_list world.sent (reply ∷ []) sent.0 other sent.1);
    final = λ position member final. raised position member
        (final_of_set_in world.banks message.position message.member position member
        (served_bank (member_bank world message.position message.member) asked 0) final);
  }
    where
      -- the reply is no request
      only : (other : Message) → AsksToRaise other → (place : ℕ) → slice_get (reply ∷ []) place ≡ Some other → ⊥
      only other asks zero at = let it = ap (λ (m : Message). m.body) (same_Some reply other at) ∙ asks in cc
      only other asks (suc place) at = cc

      new : (other : Message) → AsksToRaise other →
          ((place : ℕ) × (slice_get world.sent place ≡ Some other)) ⊎ ((place : ℕ) × (slice_get (reply ∷ []) place ≡ Some other)) →
          WasSent world other ⊎ AreAsked served other.position
      new other asks (inl before) = inl before
      new other asks (inr last) = absurd (only other asks last.0 last.1)

      by_request : (position member : ℕ) → message.position ≡ position → message.member ≡ member →
          IsFinal (member_bank world message.position message.member) ⊎ (asked ≡ request.Spread status.Final) →
          HasFinal world position member ⊎ IsRaisedAt world position
      by_request position member there same (inl before) = inl (rw (← there, ← same) before)
      by_request position member there same (inr spread) = inr (message, was, shape ∙ ap body.Request spread, there)

      raised : (position member : ℕ) →
          HasFinal world position member
          ⊎ ((message.position ≡ position) × (message.member ≡ member)
          × IsFinal (served_bank (member_bank world message.position message.member) asked 0)) →
          HasFinal world position member ⊎ IsRaisedAt world position
      raised position member (inl before) = inl before
      raised position member (inr here) = by_request position member here.0 here.1
          (served_from (member_bank world message.position message.member) asked 0 here.2)

adds : (fragment : Code) (world : World) (event : Event) → MayHappen fragment world event → IsPremised world event →
    IsOneFile world.files → Adds world (happens fragment world event)
adds fragment world (Event.BeginRead node id) may premised one =
    adds_phase world (happens fragment world (Event.BeginRead node id)) id 1 Next 0 (known_layout world node 0) empty_piece
    (one_layout world.files world.later one node 0) refl (λ other member final. final)
adds fragment world (Event.BeginWrite node id value) may premised one =
    adds_phase world (happens fragment world (Event.BeginWrite node id value)) id 1 Next 0 (known_layout world node 0) empty_piece
    (one_layout world.files world.later one node 0) refl (λ other member final. final)
adds fragment world (Event.BeginMove node id layout) may premised one =
    let last = length world.later in
    let new = happens fragment world (Event.BeginMove node id layout) in
    adds_phase world new id 1 (Spread status.Pending) last (known_layout new node last) empty_piece
    (one_layout world.files new.later one node last) refl
    (final_of_more world.banks (new_banks world.files layout.members 0) (no_new_final world.files layout.members 0))
adds fragment world (Event.Advance id) may premised one =
    adds_open world (ticked world) (open_call world.calls id) (λ call. advanced_world fragment (ticked world) call (due_phase call))
    (adds_same world (ticked world) refl refl) (λ call. adds_advanced fragment world one call (due_phase call))
adds fragment world (Event.Serve message) may premised one =
    subst (λ b. Adds world (served_world (ticked world) message b)) (sym may.1)
    (adds_handled world message premised.network may.0 may.1)
adds fragment world (Event.Take message) may premised one =
    adds_open world (ticked world) (open_call world.calls message.call)
    (λ call. record (ticked world) { calls = with_open (taking_open message call) world.calls })
    (adds_same world (ticked world) refl refl)
    (λ call. adds_same world (record (ticked world) { calls = with_open (taking_open message call) world.calls }) refl refl)
adds fragment world (Event.Settle id value) may premised one =
    adds_open world (ticked world) (open_call world.calls id)
    (λ call. record (ticked world) { calls = with_open (record call { settled = Some value }) world.calls })
    (adds_same world (ticked world) refl refl)
    (λ call. adds_same world (record (ticked world) { calls = with_open (record call { settled = Some value }) world.calls }) refl refl)
adds fragment world (Event.Answer id) may premised one =
    adds_open world (ticked world) (open_call world.calls id) (λ call. answered_world (ticked world) call)
    (adds_same world (ticked world) refl refl) (λ call. adds_same world (answered_world (ticked world) call) refl refl)
adds fragment world (Event.GiveUp id) may premised one = adds_same world (happens fragment world (Event.GiveUp id)) refl refl
adds fragment world (Event.Restart node banks calls) may premised one =
    adds_same world (happens fragment world (Event.Restart node banks calls)) refl premised.log.0

-- Worlds that are reached

opened_asked : (files : ℕ → ClusterFile) → HasAsked (opened_world files)
opened_asked files = record {
  requests = λ message was asks. absurd (let none : slice_get [] was.0 ≡ Some message = was.1 in cc);
  final = none_final;
}
  where
    none_final : (position member : ℕ) → HasFinal (opened_world files) position member → AreAsked (opened_world files) position
    none_final zero member final = absurd (no_new_final files (files 0).first.members 0 member final)
    none_final (suc position) member final = absurd (cc)

run_asked : (fragment : Code) (events : List Event) (world : World) → MayHappenInTurn fragment events world → IsTruthful world →
    HasAsked world → HasAsked (world_after fragment events world)
run_asked fragment [] world may truth has = has
run_asked fragment (event ∷ events) world may truth has =
    let new = happens fragment world event in
    run_asked fragment events new may.2 (event_true fragment world event may.0 may.1 truth)
    (adding_asked world new truth (kept fragment world event may.0 may.1) (adds fragment world event may.0 may.1 truth.one) has)

reached_asked : (fragment : Code) (world : World) → IsReached fragment world → HasAsked world
reached_asked fragment world reached =
    subst HasAsked reached.result
    (run_asked fragment reached.events (opened_world reached.files) reached.may
    (opened_true reached.files reached.one reached.lawful) (opened_asked reached.files))

-- what holds of each of a list that is not empty holds of one
some_of : (P : ℕ → Type 0) (xs : List ℕ) → 0 < length xs → AllByRecursion P xs → (x : ℕ) × P x
some_of P [] some all = absurd (omega (arith, some))
some_of P (x ∷ xs) some all = (x, all.0)

pub start_asked : MembersWereAsked
start_asked fragment world start position member layout reached starts before at within =
    let is = starts position before in
    let truth = reached_true fragment world reached in
    let enough = is.quorum.enough in
    let lawful = lawful_quorum is.layout (all_get IsLawful (known_layouts world 0) position is.layout truth.lawful is.at) in
    let one = some_of (HasFinal world position) is.members (omega (arith, enough, lawful)) is.final in
    (reached_asked fragment world reached).final position one.0 one.1 member
    (subst (λ (l : Layout). member < length l.members)
    (sym (get_or_from_slice_get (known_layouts world 0) position layout no_layout at)) within)
