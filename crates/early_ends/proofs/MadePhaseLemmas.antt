-- What is so of a call at the stage at which a phase of it was due.
use Rattle.std.proofs.Common.{◌≡◌, ℕ, ◌≤◌, List, [], ◌∷◌, ◌++◌, Some, sym, subst, arith, le_refl, le_trans, le_of_lt}
use Rattle.std.specs.List.{AllByRecursion}
use Rattle.layout.specs.Layout.{IsLawful}
use Rattle.mail.specs.Phase.{Phase}
use Rattle.record.specs.declared.call.CallKind.{CallKind}
use Rattle.record.specs.declared.stage.Stage.{Stage}
use Rattle.record.specs.Knowledge.{IsTruePhase}
use Rattle.record.specs.Legal.{first_stage, source_of, IsLegal}
use Rattle.record.specs.PhaseOrder.{begun_at, due, stage_past, stage_after, IsCourse, BeginAtBase, IsEndedBefore}
use Rattle.record.specs.Records.{Call, Object, base_at}
use Rattle.soundness.proofs.PhaseStartLemmas.{StartsFrom}
use Rattle.atomicity.proofs.Stages.CallFactLemmas.{Rests, first_at, first_facts, legal_rests, one_phase, starts_from}
use Rattle.atomicity.proofs.Stages.StageFactLemmas.{done_of, Facts}
use Rattle.early_ends.specs.Told.{HasPhase}

-- the facts at this stage, at which the phase was due, and that the phase is true
pub record AtPhase (object : Object) (kind : CallKind) (from number called : ℕ) (stage : Stage) (phase : Phase) : Type 0 where
  pub since : called ≤ phase.start
  pub is_due : due stage ≡ Some (phase.kind, phase.position)
  pub truth : IsTruePhase object phase
  pub facts : Facts object kind from number called phase.start stage

-- a phase that others follow ended, and they start later
ended_before : (first phase : Phase) (rest after : List Phase) → IsEndedBefore first (rest ++ phase ∷ after) →
    (end : ℕ) × (first.end ≡ Some end) × StartsFrom end (rest ++ phase ∷ after)
ended_before first phase [] after ended = (ended.0, ended.1, le_of_lt ended.2)
ended_before first phase (next ∷ later) after ended = (ended.0, ended.1, le_of_lt ended.2)

at_phase_of : (object : Object) (base : ℕ → ℕ) (kind : CallKind) (from number called : ℕ) → AllByRecursion IsLawful object.layouts →
    Rests object base → (earlier after : List Phase) (phase : Phase) (now : ℕ) (stage : Stage) →
    IsCourse kind number stage (earlier ++ phase ∷ after) → BeginAtBase base kind number stage (earlier ++ phase ∷ after) →
    AllByRecursion (IsTruePhase object) (earlier ++ phase ∷ after) → called ≤ now → StartsFrom now (earlier ++ phase ∷ after) →
    Facts object kind from number called now stage →
    AtPhase object kind from number called (begun_at (stage_after kind number stage earlier) phase.position) phase
at_phase_of object base kind from number called lawful rests [] after phase now stage course begins truth since starts facts = record {
  since = le_trans since starts;
  is_due = course.0;
  truth = truth.0;
  facts = first_at object base kind from number called now stage phase after rests begins starts facts;
}
at_phase_of object base kind from number called lawful rests (first ∷ later) after phase now stage course begins truth since starts facts =
    let end = ended_before first phase later after course.1 in
    let before : now ≤ first.start = starts in
    let grew : first.start ≤ end.0 = (done_of object first end.0 lawful truth.0 end.1).later in
    at_phase_of object base kind from number called lawful rests later after phase end.0 (stage_past kind number stage first) course.2
    begins.1 truth.1 (omega arith) end.2
    (one_phase object kind from number called first.start end.0 (begun_at stage first.position) first lawful course.0 truth.0 end.1
    (le_trans since before) (le_refl first.start)
    (first_at object base kind from number called now stage first (later ++ phase ∷ after) rests begins before facts))

-- the facts of a call at the stage of one of its phases
pub phase_facts : (object : Object) → IsLegal object → (index : ℕ) (call : Call) (stage : Stage) (phase : Phase) →
    HasPhase object index call stage phase → AtPhase object call.kind (source_of object index) call.id call.called stage phase
phase_facts object legal index call stage phase made =
    let c = legal.calls index call made.at in
    let from = source_of object index in
    let first = first_stage call.kind from in
    let same = made.phases in
    subst (λ s. AtPhase object call.kind from call.id call.called s phase) (sym made.due_at)
    (at_phase_of object (base_at object) call.kind from call.id call.called legal.layouts (legal_rests object legal) made.earlier made.later
    phase call.called first
    (subst (λ phases. IsCourse call.kind call.id first phases) same c.course)
    (subst (λ phases. BeginAtBase (base_at object) call.kind call.id first phases) same c.from_base)
    (subst (λ phases. AllByRecursion (IsTruePhase object) phases) same c.phases)
    (le_refl call.called)
    (subst (λ phases. StartsFrom call.called phases) same (starts_from call.phases call.called c.begins))
    (first_facts object call.kind from call.id call.called))
