-- A call with the stage that is kept beside its phases.
use Rattle.std.specs.Prelude.{◌≡◌, ℕ, suc, ◌<◌, is_some, if◌then◌else◌, List, [], ◌∷◌, ◌++◌, length, map, Option, Some}
use Rattle.std.specs.Prelude.{None, IfSome}
use Rattle.layout.specs.Layout.{Layout}
use Rattle.piece.specs.declared.piece.Piece.{Piece}
use Rattle.bank.specs.declared.kind.Kind.{Kind}
use Rattle.mail.specs.declared.message.Message.{Message}
use Rattle.mail.specs.declared.phase.Took.{Took}
use Rattle.mail.specs.declared.phase.Took.TheVariants as took
use Rattle.mail.specs.Phase.{Phase, after_take, took_by, members_of}
use Rattle.record.specs.declared.call.CallKind.{CallKind}
use Rattle.record.specs.declared.stage.Stage.{Stage}
use Rattle.record.specs.declared.stage.Want.{Want}
use Rattle.record.specs.declared.stage.Want.TheVariants as want
use Rattle.record.specs.Records.{Call, Object}
use Rattle.record.specs.PhaseOrder.{begun_at, due, stage_past}
use Rattle.record.specs.Steps.{taking_call, new_phase}
use Rattle.record.specs.Sending.{missing, requests}
use Rattle.record.specs.Wants.{current_phase, want_after}
use Rattle.call.specs.Call.{OpenCall, reached}

-- a call of the record, with the stage that its phases lead to
pub record Tracked : Type 0 where
  pub call : Call
  pub stage : Stage

-- a call made up of these parts: its steps, its finished phases, the call with its current phase, and its stage
abbrev pub tracked_of : (called : ℕ) → (answered : Option ℕ) → (finished : List Phase) → OpenCall → Stage → Tracked
tracked_of called answered finished call stage = record {
  call = record {
    id = call.id;
    kind = call.kind;
    called = called;
    answered = answered;
    settled = call.settled;
    phases = finished ++ call.phase ∷ [];
  };
  stage = stage;
}

-- the invariant of `TrackedCall`: the current phase is numbered after the finished ones, and leads to the stage
pub record IsTracked (finished : List Phase) (call : OpenCall) (stage : Stage) : Type 0 where
  pub numbered : call.phase.number ≡ suc (length finished)
  pub staged : stage ≡ reached call

-- the calls, without their stages
abbrev pub calls_of : List Tracked → List Call
calls_of calls = map (λ t. t.call) calls

-- what a call wants, computed from the stage that is kept beside it
abbrev pub tracked_want : Object → Tracked → Want
tracked_want object t =
    if is_some t.call.answered then want.Done else want_after object (due t.stage) t.call.settled
    (current_phase t.call.phases)

-- the call of this number with one more phase; if a first reading is to begin, it begins at the phase's position
abbrev pub with_begun : Tracked → (number : ℕ) → Kind → (position : ℕ) → Layout → (now : ℕ) → Tracked
with_begun t number kind position layout now = record {
  call = record t.call {
    phases = t.call.phases ++ new_phase number
        (suc (length t.call.phases)) kind position layout now ∷ [];
  };
  stage = begun_at t.stage position;
}

-- the stage after the current phase takes a message: it moves on if that completes the phase
abbrev pub stage_taken : CallKind → Stage → Option Phase → Message → (now : ℕ) → Stage
stage_taken kind stage None message now = stage
stage_taken kind stage (Some phase) message now =
    if is_some phase.end then stage else stage_past kind message.call stage (after_take phase message now)

-- a call and its stage after its current phase takes a message
abbrev pub taken_tracked : Message → (now : ℕ) → Tracked → Tracked
taken_tracked message now t = record {
  call = taking_call message now t.call;
  stage = stage_taken t.call.kind t.stage (current_phase t.call.phases) message now;
}

-- the outcome of taking a message, where this is the call's current phase, if it has one
abbrev pub took_current : Message → Option Phase → Took
took_current message None = took.Stale
took_current message (Some phase) = took_by phase message

-- the outcome of taking a message, where this is the call that it names, if there is one
abbrev pub took_call : Message → Option Call → Took
took_call message None = took.Stale
took_call message (Some call) = took_current message (current_phase call.phases)

-- the requests of a phase that are resent, where the position has these members and these messages wait
abbrev pub asked_again : (number : ℕ) → Phase → (members : List ℕ) → List Message → (ℕ → Piece) → List Message
asked_again number phase members mail piece =
    missing mail (members_of phase.replies) (requests number phase.number phase.kind phase.position members 0 piece)

-- the positions of the current phase and of the phase that is due are below `count`
pub record HasPositionsBelow (count : ℕ) (t : Tracked) : Type 0 where
  pub current : (phase : Phase) → current_phase t.call.phases ≡ Some phase → phase.position < count
  pub due : IfSome (due t.stage) (λ asked. asked.1 < count)
