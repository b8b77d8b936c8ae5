-- Each phase that is due is due at a position that is there.
use Rattle.std.proofs.Common.{◌≡◌, ℕ, zero, suc, ◌<◌, ◌≤◌, ◌⊎◌, Bool, true, false, cond, List, [], ◌∷◌}
use Rattle.std.proofs.Common.{length, take, Some, refl, sym, subst, ap, ◌∙◌, inl, inr, arith, slice_get}
use Rattle.std.proofs.lemmas.Option.{same_Some}
use Rattle.std.specs.List.{AllByRecursion}
use Rattle.bank.specs.declared.status.Status.{Status}
use Rattle.bank.specs.Bank.{Bank}
use Rattle.bank.specs.declared.kind.Kind.{Kind}
use Rattle.mail.specs.declared.phase.Taken.{Taken}
use Rattle.mail.specs.Phase.{Phase}
use Rattle.record.specs.declared.call.CallKind.{CallKind}
use Rattle.record.specs.Records.{Call, Object, base_of}
use Rattle.record.specs.declared.call.CallKind.TheVariants.{Move}
use Rattle.bank.specs.Knowledge.{pointer_at}
use Rattle.record.specs.Knowledge.{IsTruePhase}
use Rattle.record.specs.PhaseOrder.{begun_at, shown_status, greatest_status, later_status}
use Rattle.record.specs.Legal.{is_move, moves_in, first_stage, source_of, stage_of, due_of, IsLegal}
use Rattle.soundness.specs.Sound.{HasNext, HasShape}
use Rattle.soundness.proofs.Quorums.ReplyTruthLemmas.{true_next}
use Rattle.soundness.proofs.BaseLemmas.{before_base}
use Rattle.soundness.proofs.ListLemmas.{all_map}
use Rattle.soundness.proofs.Sound.StagePositionLemmas.{Placed, KindPlaced, DuePlaced, due_placed, placed_begun, kind_placed, PhaseFinds}
use Rattle.soundness.proofs.Sound.StagePositionLemmas.{placed_end}
use Rattle.soundness.proofs.Sound.StagePositionLemmas.{placed_at}
use Rattle.soundness.proofs.StatusOrderLemmas.{rank}

-- what a bank's pointer shows
pointer_names : (count position : ℕ) (bank : Bank) (step : ℕ) → HasNext count position bank → 1 ≤ rank (pointer_at bank step) →
    suc position < count
pointer_names count position bank step next some = grind arith

status_some : (s u : Status) → 1 ≤ rank (later_status s u) → (1 ≤ rank u) ⊎ (1 ≤ rank s)
status_some s u h = grind (arith, rank)

some_shown : (P : Taken → Type 0) (replies : List Taken) → 1 ≤ rank (greatest_status replies) → AllByRecursion P replies →
    (reply : Taken) × P reply × (1 ≤ rank (shown_status reply.reply.answer))
some_shown P [] h all = absurd (omega arith)
some_shown P (reply ∷ replies) h all =
    go (status_some (shown_status reply.reply.answer) (greatest_status replies) h) (λ k. some_shown P replies k all.1)
  where
    go : (1 ≤ rank (greatest_status replies)) ⊎ (1 ≤ rank (shown_status reply.reply.answer)) →
        (1 ≤ rank (greatest_status replies) → (r : Taken) × P r × (1 ≤ rank (shown_status r.reply.answer))) →
        (r : Taken) × P r × (1 ≤ rank (shown_status r.reply.answer))
    go (inl k) rest = rest k
    go (inr k) rest = (reply, all.0, k)

phase_finds : (object : Object) → HasShape object → (phase : Phase) → IsTruePhase object phase →
    PhaseFinds (length object.layouts) phase
phase_finds object shape phase truth = grind (arith, pointer_names, rank, some_shown, true_next)

pub move_counted : (calls : List Call) (index : ℕ) (call : Call) → slice_get calls index ≡ Some call → call.kind ≡ Move →
    suc (moves_in (take index calls)) ≤ moves_in calls
move_counted [] index call at k = absurd (cc)
move_counted (first ∷ calls) zero call at k =
    let kind_is : first.kind ≡ Move = ap (λ (c : Call). c.kind) (same_Some first call at) ∙ k in
    subst (λ kind. 1 ≤ cond (is_move kind) (suc (moves_in calls)) (moves_in calls)) (sym kind_is) (omega arith)
move_counted (first ∷ calls) (suc index) call at k =
    let rest = move_counted calls index call at k in
    go (is_move first.kind) rest
  where
    go : (b : Bool) → suc (moves_in (take index calls)) ≤ moves_in calls →
        suc (cond b (suc (moves_in (take index calls))) (moves_in (take index calls))) ≤ cond b (suc (moves_in calls)) (moves_in calls)
    go true h = omega arith
    go false h = h

first_placed : (object : Object) → HasShape object → (index : ℕ) (call : Call) → slice_get object.calls index ≡ Some call →
    (kind : CallKind) → call.kind ≡ kind → Placed (length object.layouts) (first_stage kind (source_of object index))
first_placed object shape index call at Move k = let n = shape.positions in let m = move_counted object.calls index call at k in omega arith
first_placed object shape index call at _ k = let n = shape.positions in omega arith

pub call_placed : (object : Object) → IsLegal object → HasShape object → (index : ℕ) (call : Call) →
    slice_get object.calls index ≡ Some call → Placed (length object.layouts) (stage_of object index call)
call_placed object legal shape index call at =
    let c = legal.calls index call at in
    placed_end (length object.layouts) call.kind call.id call.phases (first_stage call.kind (source_of object index)) c.course
    (all_map (λ phase truth. phase_finds object shape phase truth) _ c.phases) (first_placed object shape index call at call.kind refl)

-- the base is there
pub base_there : (object : Object) → IsLegal object → HasShape object → base_of object < length object.layouts
base_there object legal shape = go (base_of object) refl
  where
    go : (n : ℕ) → base_of object ≡ n → n < length object.layouts
    go zero e = let n = shape.positions in omega arith
    go (suc last) e =
        let at = before_base object.banks last (omega arith) in
        let cause = (legal.banks last 0).retired at.0 at.1 in
        let moved = cause.1 in
        let counted = move_counted object.calls moved.index moved.call moved.at moved.kind in
        let source : moves_in (take moved.index object.calls) ≡ last = moved.source in
        let n = shape.positions in omega arith

-- a due position is there
pub due_there : (object : Object) → IsLegal object → HasShape object → (index : ℕ) (call : Call) →
    slice_get object.calls index ≡ Some call → (kind : Kind) (position : ℕ) →
    due_of object index call ≡ Some (kind, position) → position < length object.layouts
due_there object legal shape index call at kind position e =
    kind_placed (length object.layouts) kind position
    (subst (λ next. DuePlaced (length object.layouts) next) e (due_placed (length object.layouts)
    (begun_at (stage_of object index call) (base_of object))
    (placed_begun (length object.layouts) (stage_of object index call) (base_of object) (base_there object legal shape)
    (call_placed object legal shape index call at))))

-- what a phase spreads names a position that is there
pub spread_there : (object : Object) → IsLegal object → HasShape object → (index : ℕ) (call : Call) →
    slice_get object.calls index ≡ Some call → (place : ℕ) (phase : Phase) → slice_get call.phases place ≡ Some phase →
    KindPlaced (length object.layouts) phase.kind phase.position
spread_there object legal shape index call at place phase within =
    let c = legal.calls index call at in
    placed_at (length object.layouts) call.kind call.id call.phases (first_stage call.kind (source_of object index)) c.course
    (all_map (λ phase truth. phase_finds object shape phase truth) _ c.phases)
    (first_placed object shape index call at call.kind refl) place phase within
