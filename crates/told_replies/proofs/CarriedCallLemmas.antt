-- A call that a node carried out in a world on the way, as the last record of the run has it.
use Rattle.std.proofs.Common.{◌≡◌, ℕ, suc, ◌+◌, false, List, [], ◌∷◌, ◌++◌, length, Some, slice_get}
use Rattle.std.proofs.Common.{refl, sym, subst, ap, ◌∙◌, arith}
use Rattle.mail.specs.Phase.{Phase}
use Rattle.record.specs.declared.call.CallKind.{CallKind}
use Rattle.record.specs.declared.call.CallKind.TheVariants.{Read, Write, Move}
use Rattle.record.specs.Fragments.{Code}
use Rattle.record.specs.Legal.{first_stage, is_move, source_of}
use Rattle.record.specs.PhaseOrder.{begun_at, stage_after}
use Rattle.record.specs.Records.{Call, Object}
use Rattle.soundness.proofs.Sound.TakenReplyLemmas.{numbered_at}
use Rattle.open_calls.specs.OpenCalls.{NodeCall}
use Rattle.network.specs.Following.{IsOpenIn}
use Rattle.network.specs.Worlds.{World}
use Rattle.told_replies.proofs.GrownPhaseLemmas.{IsLaterLast, IsLaterOf, PhasesGrow, last_later}
use Rattle.told_replies.proofs.KeptPastLemmas.{IsStillAt}
use Rattle.told_replies.proofs.TracedRunLemmas.{Remembers}

-- the call is there in the last record; the phase that was its current one began at this step, and others may follow it
pub record IsCarried (last : Object) (carried : NodeCall) (original : Phase) : Type 0 where
  pub index : ℕ
  pub call : Call
  pub at : slice_get last.calls index ≡ Some call
  pub same_id : carried.id ≡ call.id
  pub same_kind : carried.kind ≡ call.kind
  pub earlier : List Phase
  pub phase : Phase
  pub later : List Phase
  pub phases : call.phases ≡ earlier ++ phase ∷ later
  pub is_later : IsLaterOf original phase
  pub number : carried.phase.number ≡ suc (length earlier)
  pub kind : carried.phase.kind ≡ phase.kind
  pub position : carried.phase.position ≡ phase.position
  pub stage : is_move call.kind ≡ false → carried.stage
      ≡ begun_at (stage_after call.kind call.id (first_stage call.kind (source_of last index)) earlier) phase.position

pub get_middle : {A : Type 0} (xs : List A) (x : A) (ys : List A) → slice_get (xs ++ x ∷ ys) (length xs) ≡ Some x
get_middle [] x ys = refl
get_middle (y ∷ xs) x ys = get_middle xs x ys

-- a read or a write begins at the same stage, whatever the number of moves before it
first_same : (kind : CallKind) (a b : ℕ) → is_move kind ≡ false → first_stage kind a ≡ first_stage kind b
first_same Read a b reads = refl
first_same (Write value) a b reads = refl
first_same Move a b reads = absurd (cc)

pub carried_there : (fragment : Code) (world : World) (last : Object) (there : Remembers fragment world last) (carried : NodeCall) →
    (is : IsOpenIn there.object carried) → IsCarried last carried is.last
carried_there fragment world last there carried is = record {
  index = is.index;
  call = call;
  at = still.at;
  same_id = is.id ∙ sym still.same_id;
  same_kind = is.kind ∙ sym still.same_kind;
  earlier = is.earlier;
  phase = later.phase;
  later = later.later;
  phases = later.phases;
  is_later = later.is_later;
  number = ap (λ (p : Phase). p.number) is.phase ∙ numbered;
  kind = ap (λ (p : Phase). p.kind) is.phase ∙ sym later.is_later.same_kind;
  position = ap (λ (p : Phase). p.position) is.phase ∙ sym later.is_later.same_position;
  stage = λ reads.
      is.stage
      ∙ ap (λ k. begun_at (stage_after k is.call.id (first_stage k (source_of there.object is.index)) is.earlier) is.last.position)
      (sym still.same_kind)
      ∙ ap (λ id. begun_at (stage_after call.kind id (first_stage call.kind (source_of there.object is.index)) is.earlier)
      is.last.position) (sym still.same_id)
      ∙ ap (λ stage. begun_at (stage_after call.kind call.id stage is.earlier) is.last.position)
      (first_same call.kind (source_of there.object is.index) (source_of last is.index) reads)
      ∙ ap (begun_at (stage_after call.kind call.id (first_stage call.kind (source_of last is.index)) is.earlier))
      (sym later.is_later.same_position);
}
  where
    still : IsStillAt last.calls is.index is.call
    still = there.kept.calls is.index is.call is.at

    call : Call
    call = still.other

    later : IsLaterLast is.earlier is.last call.phases
    later = last_later is.earlier is.last call.phases (subst (λ ps. PhasesGrow ps call.phases) is.phases still.grown)

    numbered : is.last.number ≡ suc (length is.earlier)
    numbered =
        let n = numbered_at is.call.id 1 is.call.phases (length is.earlier) is.last
        (there.sound.legal.calls is.index is.call is.at).numbered
        (ap (λ ps. slice_get ps (length is.earlier)) is.phases ∙ get_middle is.earlier is.last []) in
        let e = n.1 in omega arith
