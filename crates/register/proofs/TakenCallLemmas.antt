-- What a take makes of a call.
use Rattle.std.proofs.Common.{◌≡◌, ℕ, suc, ◌==◌, Bool, true, false, cond, List, [], ◌∷◌, ◌++◌, length, Option, Some}
use Rattle.std.proofs.Common.{None, is_some, sym, ap, subst, ◌∙◌, refl, arith}
use Rattle.record.proofs.BegunStageLemmas.{begun_twice}
use Rattle.std.proofs.lemmas.Bool.{eqb-true}
use Rattle.std.proofs.lemmas.Bool.Decides.{nat_tests}
use Rattle.mail.specs.declared.message.Message.{Message}
use Rattle.mail.specs.declared.message.Body.{Body}
use Rattle.mail.specs.declared.message.Body.TheVariants as body
use Rattle.mail.specs.declared.phase.Taken.{Taken}
use Rattle.mail.specs.declared.phase.Took.TheVariants as took
use Rattle.mail.specs.Phase.{Phase, is_current, has_taken, makes_quorum, with_reply, after_body, after_take}
use Rattle.mail.specs.Phase.{took_body, took_by, lacks_pieces}
use Rattle.record.specs.declared.call.CallKind.{CallKind}
use Rattle.record.specs.declared.stage.Stage.{Stage}
use Rattle.record.specs.PhaseOrder.{begun_at, passed, stage_past, stage_after}
use Rattle.record.specs.Steps.{taking_phases}
use Rattle.record.specs.Wants.{current_phase}
use Rattle.call.specs.StageLimits.{IsBelowLimit, HasNextTag}
use Rattle.call.specs.Call.{OpenCall, IsCall, reached}
use Rattle.call.specs.Limits.{CanReach}
use Rattle.call.specs.Steps.{taken_call}
use Rattle.register.specs.Tracked.{Tracked, IsTracked, stage_taken, taken_tracked, tracked_of}
use Rattle.register.proofs.FirstReadingLemmas.{take_position}
use Rattle.register.proofs.RecordedPieceLemmas.{both_left}

ended_body : (p : Phase) (m : Message) (now : ℕ) (b : Body) → is_some p.end ≡ true
    → (after_body p m.call m.phase m.member b now ≡ p) × (took_body p m.call m.phase m.member b ≡ took.Stale)
ended_body p m now (body.Request q) ended = (refl, refl)
ended_body p m now (body.Reply k r) ended =
    let stale : is_current p m.call m.phase ≡ false = grind (arith, nat_tests, ended) in (
      ap (λ b. cond b (cond (has_taken p.replies m.member) p (with_reply p m.member r now)) p) stale,
      ap (λ b. cond b (cond (has_taken p.replies m.member) took.Doubled (cond (makes_quorum p) took.Complete took.Recorded)) took.Stale)
          stale,
    )

-- a phase that is complete takes nothing more
pub ended_same : (p : Phase) (m : Message) (now : ℕ) → is_some p.end ≡ true → after_take p m now ≡ p
ended_same p m now ended = (ended_body p m now m.body ended).0

pub ended_stale : (p : Phase) (m : Message) → is_some p.end ≡ true → took_by p m ≡ took.Stale
ended_stale p m ended = (ended_body p m 0 m.body ended).1

-- the last phase is the current one
pub current_push : (ps : List Phase) (p : Phase) → current_phase (ps ++ p ∷ []) ≡ Some p
current_push (x ∷ y ∷ ys) p = current_push (y ∷ ys) p
current_push _ p = refl

-- and takes the message
pub taking_push : (ps : List Phase) (p : Phase) (m : Message) (now : ℕ)
    → taking_phases (ps ++ p ∷ []) m now ≡ ps ++ after_take p m now ∷ []
taking_push (x ∷ y ∷ ys) p m now = ap (λ zs. x ∷ zs) (taking_push (y ∷ ys) p m now)
taking_push _ p m now = refl

pub length_taking : (ps : List Phase) (m : Message) (now : ℕ) → length (taking_phases ps m now) ≡ length ps
length_taking (p ∷ q ∷ ps) m now = ap suc (length_taking (q ∷ ps) m now)
length_taking _ m now = refl

-- the stage that is kept goes with the phases
pub stage_taking : (kind : CallKind) (s : Stage) (ps : List Phase) (m : Message) (now : ℕ)
    → stage_taken kind (stage_after kind m.call s ps) (current_phase ps) m now ≡ stage_after kind m.call s (taking_phases ps m now)
stage_taking kind s [] m now = refl
stage_taking kind s (p ∷ []) m now = step p.end refl
  where
    begun : Stage
    begun = begun_at s p.position

    new : Phase
    new = after_take p m now

    step : (o : Option ℕ) → p.end ≡ o
        → cond (is_some o) (passed kind m.call begun o p.replies (lacks_pieces p))
        (stage_past kind m.call (passed kind m.call begun o p.replies (lacks_pieces p)) new)
        ≡ stage_past kind m.call s new
    step None e = cc (begun_twice s p.position new.position, take_position p m now)
    step (Some end) e = cc (ended_same p m now (ap is_some e))
stage_taking kind s (p ∷ q ∷ ps) m now = stage_taking kind (stage_past kind m.call s p) (q ∷ ps) m now

-- a call whose phases and stage stay as they are
pub taken_same : (t : Tracked) (m : Message) (now : ℕ) → taking_phases t.call.phases m now ≡ t.call.phases
    → stage_taken t.call.kind t.stage (current_phase t.call.phases) m now ≡ t.stage → t ≡ taken_tracked m now t
taken_same t m now phases stage =
    ap (λ ps. tracked t ps t.stage) (sym phases) ∙ ap (λ s. tracked t (taking_phases t.call.phases m now) s) (sym stage)
  where
    tracked : (t : Tracked) → List Phase → Stage → Tracked
    tracked t ps s = record { call = record t.call { phases = ps }; stage = s }

pub stage_ended : (kind : CallKind) (s : Stage) (p : Phase) (m : Message) (now : ℕ) → is_some p.end ≡ true
    → stage_taken kind s (Some p) m now ≡ s
stage_ended kind s p m now ended = ap (λ b. cond b s (stage_past kind m.call s (after_take p m now))) ended

pub stage_open : (kind : CallKind) (s : Stage) (p : Phase) (m : Message) (now : ℕ) → is_some p.end ≡ false
    → stage_taken kind s (Some p) m now ≡ stage_past kind m.call s (after_take p m now)
stage_open kind s p m now open_yet = ap (λ b. cond b s (stage_past kind m.call s (after_take p m now))) open_yet

-- a message that completes a phase names the phase's call
same_call : (p : Phase) (m : Message) (now : ℕ) → is_some p.end ≡ false → is_some (after_take p m now).end ≡ true → m.call ≡ p.call
same_call p m now open_yet ended = of m.body ended
  where
    of : (b : Body) → is_some (after_body p m.call m.phase m.member b now).end ≡ true → m.call ≡ p.call
    of (body.Request q) e = absurd (let clash : false ≡ true = sym open_yet ∙ e in cc)
    of (body.Reply k r) e = go (is_current p m.call m.phase) refl e
      where
        go : (mine : Bool) → is_current p m.call m.phase ≡ mine
            → is_some (cond mine (cond (has_taken p.replies m.member) p (with_reply p m.member r now)) p).end ≡ true → m.call ≡ p.call
        go false is e = absurd (let clash : false ≡ true = sym open_yet ∙ e in cc)
        go true is e = eqb-true m.call p.call (both_left (m.call == p.call) _ is)

-- where no phase ends, it does not matter which call passes it
passed_by : (kind : CallKind) (a b : ℕ) (s : Stage) (end : Option ℕ) (replies : List Taken) (lacks : Bool) → (is_some end ≡ true → a ≡ b)
    → passed kind a s end replies lacks ≡ passed kind b s end replies lacks
passed_by kind a b s None replies lacks same = refl
passed_by kind a b s (Some step) replies lacks same = ap (λ n. passed kind n s (Some step) replies lacks) (same refl)

-- the stage of a call whose phase lacks a quorum is the one at which the phase began
pub reached_yet : (call : OpenCall) → is_some call.phase.end ≡ false → reached call ≡ call.stage
reached_yet call open_yet = go call.phase.end open_yet
  where
    go : (end : Option ℕ) → is_some end ≡ false
        → passed call.kind call.id call.stage end call.phase.replies (lacks_pieces call.phase) ≡ call.stage
    go None is = refl
    go (Some step) is = absurd (cc)

-- a call whose phase lacks a quorum takes a message
module _ {ps : List Phase} {call : OpenCall} {stage : Stage} (tracked : IsTracked ps call stage) (lawful : IsCall call)
    (open_yet : is_some call.phase.end ≡ false) (called : ℕ) (answered : Option ℕ) (m : Message) (now : ℕ) where
  abbrev before : Tracked
  before = tracked_of called answered ps call stage

  began : stage ≡ call.stage
  began = tracked.staged ∙ reached_yet call open_yet

  begun_there : begun_at stage call.phase.position ≡ call.stage
  begun_there = ap (λ s. begun_at s call.phase.position) began ∙ lawful.begun call.phase.position

  pub reach_taken : IsBelowLimit (begun_at stage call.phase.position)
      → HasNextTag call.kind (begun_at stage call.phase.position) (after_take call.phase m now).replies → CanReach (taken_call m now call)
  reach_taken near tags = record {
    room = subst IsBelowLimit begun_there near;
    tags = subst (λ s. HasNextTag call.kind s (after_take call.phase m now).replies) begun_there tags;
  }

  taken_stage : stage_taken call.kind stage (current_phase before.call.phases) m now ≡ reached (taken_call m now call)
  taken_stage =
      let new = after_take call.phase m now in
      let passes = passed_by call.kind m.call call.id call.stage new.end new.replies (lacks_pieces new)
      (λ ended. same_call call.phase m now open_yet ended ∙ lawful.named) in
      let stays = stage_open call.kind stage call.phase m now open_yet in
      cc (current_push ps call.phase, stays, take_position call.phase m now, begun_there, passes)

  pub taken_is : {new : OpenCall} {s : Stage} → new ≡ taken_call m now call → s ≡ reached new
      → tracked_of called answered ps new s ≡ taken_tracked m now before
  taken_is {new = new} {s = s} is reaches = cc (taken_stage, taking_push ps call.phase m now)

-- a call whose phase is complete takes nothing
pub ended_is : (called : ℕ) (answered : Option ℕ) (ps : List Phase) (call : OpenCall) (stage : Stage) (m : Message) (now : ℕ)
    → is_some call.phase.end ≡ true
    → tracked_of called answered ps call stage ≡ taken_tracked m now (tracked_of called answered ps call stage)
ended_is called answered ps call stage m now ended =
    taken_same (tracked_of called answered ps call stage) m now
    (taking_push ps call.phase m now ∙ ap (λ p. ps ++ p ∷ []) (ended_same call.phase m now ended))
    (ap (λ o. stage_taken call.kind stage o m now) (current_push ps call.phase) ∙ stage_ended call.kind stage call.phase m now ended)
