-- What is so of a call at each of its phases, and at its end.
use Rattle.std.proofs.Common.{◌≡◌, ℕ, zero, suc, ◌<◌, ◌≤◌, List, [], ◌∷◌, Option, Some}
use Rattle.std.proofs.Common.{None, refl, sym, subst, ◌∙◌, inl, inr, arith, le_refl, le_trans, le_of_lt, slice_get}
use Rattle.std.proofs.lemmas.Option.{same_Some}
use Rattle.std.specs.List.{AllByRecursion}
use Rattle.layout.specs.Layout.{IsLawful}
use Rattle.mail.specs.Phase.{Phase, lacks_pieces}
use Rattle.record.specs.declared.call.CallKind.{CallKind}
use Rattle.record.specs.Records.{Call, Object, retired_at, base_at}
use Rattle.record.specs.Knowledge.{IsTruePhase}
use Rattle.record.specs.declared.stage.Stage.{Stage}
use Rattle.record.specs.declared.stage.Stage.TheVariants.{ReadBegin}
use Rattle.record.specs.PhaseOrder.{begun_at, due, passed, stage_past, stage_after, IsCourse, BeginAtBase, EndsBefore}
use Rattle.record.specs.Legal.{first_stage, source_of, stage_of, BeginsAt, IsLegal}
use Rattle.atomicity.proofs.Stages.PhaseFactLemmas.{facts_after}
use Rattle.atomicity.proofs.Stages.StageFactLemmas.{done_of, Facts, facts_later, IsBased, IsLeft}
use Rattle.soundness.proofs.BaseLemmas.{below_base, came_at}
use Rattle.record.proofs.BegunStageLemmas.{begun_has}
use Rattle.soundness.proofs.PhaseStartLemmas.{StartsFrom}

-- the facts at the stage where a phase was due
pub record AtPhase (object : Object) (kind : CallKind) (from number called : ℕ) (phase : Phase) : Type 0 where
  pub stage : Stage
  pub now : ℕ
  pub since : called ≤ now
  pub before : now ≤ phase.start
  pub is_due : due stage ≡ Some (phase.kind, phase.position)
  pub facts : Facts object kind from number called now stage

-- the positions before this one were left by the step
abbrev pub LeftBefore : Object → (position step : ℕ) → Type 0
LeftBefore object position step = (j : ℕ) → j < position → IsLeft object j step

-- at each step, the positions before the base of that step were left by the step
abbrev pub Rests : Object → (ℕ → ℕ) → Type 0
Rests object base = (step : ℕ) → LeftBefore object (base step) step

-- a stage once its phase begins
pub begun_facts : (object : Object) (kind : CallKind) (from number called now : ℕ) (stage : Stage) (position start : ℕ) →
    now ≤ start → (stage ≡ ReadBegin → LeftBefore object position start) → Facts object kind from number called now stage →
    Facts object kind from number called start (begun_at stage position)
begun_facts object kind from number called now stage position start before left facts =
    begun_has (Facts object kind from number called start) stage position (λ first. (
      λ j below. inr (left first j below),
      le_refl position,
      based position (left first),
      subst (λ s. Facts object kind from number called start s) first later,
    )) later
  where
    later : Facts object kind from number called start stage
    later = facts_later object kind from number called now start stage before facts

    based : (p : ℕ) → LeftBefore object p start → IsBased object p start
    based zero left = inl refl
    based (suc before) left = inr (before, refl, inr (left before (le_refl (suc before))))

-- a phase that begins a first reading begins it where the positions before were left
begun_left : (object : Object) (base : ℕ → ℕ) → Rests object base → (stage : Stage) (phase : Phase) →
    (stage ≡ ReadBegin → phase.position ≡ base phase.start) → stage ≡ ReadBegin → LeftBefore object phase.position phase.start
begun_left object base rests stage phase at first = grind arith

-- one complete phase
pub one_phase : (object : Object) (kind : CallKind) (from number called now end : ℕ) (stage : Stage) (phase : Phase) →
    AllByRecursion IsLawful object.layouts → due stage ≡ Some (phase.kind, phase.position) → IsTruePhase object phase →
    phase.end ≡ Some end → called ≤ now → now ≤ phase.start → Facts object kind from number called now stage →
    Facts object kind from number called end (passed kind number stage phase.end phase.replies (lacks_pieces phase))
one_phase object kind from number called now end stage phase lawful is_due truth e since before facts =
    subst (λ o. Facts object kind from number called end (passed kind number stage o phase.replies (lacks_pieces phase))) (sym e)
    (facts_after object kind from number called now stage phase.kind phase.position phase.start end phase.replies
    (lacks_pieces phase) is_due
    (done_of object phase end lawful truth e) since before facts)

-- the facts at the stage of the first phase
pub first_at : (object : Object) (base : ℕ → ℕ) (kind : CallKind) (from number called now : ℕ) (stage : Stage) (phase : Phase)
    (phases : List Phase) → Rests object base → BeginAtBase base kind number stage (phase ∷ phases) → now ≤ phase.start →
    Facts object kind from number called now stage →
    Facts object kind from number called phase.start (begun_at stage phase.position)
first_at object base kind from number called now stage phase phases rests begins before facts =
    begun_facts object kind from number called now stage phase.position phase.start before
    (begun_left object base rests stage phase begins.0) facts

at_phase : (object : Object) (base : ℕ → ℕ) (kind : CallKind) (from number called : ℕ) → AllByRecursion IsLawful object.layouts →
    Rests object base → (phases : List Phase) (now : ℕ) (stage : Stage) →
    IsCourse kind number stage phases → BeginAtBase base kind number stage phases →
    AllByRecursion (IsTruePhase object) phases → called ≤ now → StartsFrom now phases →
    Facts object kind from number called now stage →
    (place : ℕ) (phase : Phase) → slice_get phases place ≡ Some phase → AtPhase object kind from number called phase
at_phase object base kind from number called lawful rests [] now stage course begins truth since starts facts place phase e = absurd (cc)
at_phase object base kind from number called lawful rests (first ∷ phases) now stage course begins truth since starts facts zero phase e =
    let before : now ≤ first.start = starts in
    subst (λ p. AtPhase object kind from number called p) (same_Some first phase e)
    (record {
      stage = begun_at stage first.position;
      now = first.start;
      since = le_trans since before;
      before = le_refl first.start;
      is_due = course.0;
      facts = first_at object base kind from number called now stage first phases rests begins before facts;
    })
at_phase object base kind from number called lawful rests (first ∷ []) now stage course begins truth since starts facts
    (suc place) phase e = absurd (cc)
at_phase object base kind from number called lawful rests (first ∷ next ∷ later) now stage course begins truth since starts facts
    (suc place) phase e =
    let end = course.1.0 in
    let ended = course.1.1 in
    let grew : first.start ≤ end = (done_of object first end lawful truth.0 ended).later in
    let before : now ≤ first.start = starts in
    at_phase object base kind from number called lawful rests (next ∷ later) end
    (stage_past kind number stage first) course.2 begins.1 truth.1
    (omega arith) (le_of_lt course.1.2)
    (one_phase object kind from number called first.start end (begun_at stage first.position) first lawful course.0 truth.0 ended
    (le_trans since before) (le_refl first.start)
    (first_at object base kind from number called now stage first (next ∷ later) rests begins before facts)) place phase e

-- the facts at the stage that the call has come to
pub record AtEnd (object : Object) (kind : CallKind) (from number called : ℕ) (stage : Stage) (phases : List Phase) : Type 0 where
  pub now : ℕ
  pub since : called ≤ now
  pub until : (step : ℕ) → EndsBefore phases step → now ≤ step
  pub facts : Facts object kind from number called now stage

last_facts : (object : Object) (kind : CallKind) (from number called now : ℕ) (stage : Stage) (phase : Phase) →
    AllByRecursion IsLawful object.layouts → due stage ≡ Some (phase.kind, phase.position) → IsTruePhase object phase →
    called ≤ now → now ≤ phase.start → Facts object kind from number called now stage → (o : Option ℕ) → phase.end ≡ o →
    AtEnd object kind from number called (passed kind number stage phase.end phase.replies (lacks_pieces phase)) (phase ∷ [])
last_facts object kind from number called now stage phase lawful is_due truth since before facts None e = record {
  now = now;
  since = since;
  until = λ step ends. absurd (let both : None ≡ Some ends.0 = sym e ∙ ends.1 in cc);
  facts =
      subst (λ o. Facts object kind from number called now (passed kind number stage o phase.replies (lacks_pieces phase))) (sym e) facts;
}
last_facts object kind from number called now stage phase lawful is_due truth since before facts (Some end) e = record {
  now = end;
  since = let grew = (done_of object phase end lawful truth e).later in omega arith;
  until = λ step ends. let same : end ≡ ends.0 = same_Some end ends.0 (sym e ∙ ends.1) in let less = ends.2 in omega arith;
  facts = one_phase object kind from number called now end stage phase lawful is_due truth e since before facts;
}

at_end : (object : Object) (base : ℕ → ℕ) (kind : CallKind) (from number called : ℕ) → AllByRecursion IsLawful object.layouts →
    Rests object base → (phases : List Phase) (now : ℕ) (stage : Stage) →
    IsCourse kind number stage phases → BeginAtBase base kind number stage phases →
    AllByRecursion (IsTruePhase object) phases → called ≤ now → StartsFrom now phases →
    Facts object kind from number called now stage →
    AtEnd object kind from number called (stage_after kind number stage phases) phases
at_end object base kind from number called lawful rests [] now stage course begins truth since starts facts =
    record { now = now; since = since; until = λ step ends. absurd ends; facts = facts }
at_end object base kind from number called lawful rests (first ∷ []) now stage course begins truth since starts facts =
    last_facts object kind from number called first.start (begun_at stage first.position) first lawful course.0 truth.0
    (le_trans since starts) (le_refl first.start)
    (first_at object base kind from number called now stage first [] rests begins starts facts) first.end refl
at_end object base kind from number called lawful rests (first ∷ next ∷ later) now stage course begins truth since starts facts =
    let end = course.1.0 in
    let ended = course.1.1 in
    let grew : first.start ≤ end = (done_of object first end lawful truth.0 ended).later in
    let before : now ≤ first.start = starts in
    let rest = at_end object base kind from number called lawful rests (next ∷ later) end
    (stage_past kind number stage first) course.2 begins.1 truth.1
    (omega arith) (le_of_lt course.1.2)
    (one_phase object kind from number called first.start end (begun_at stage first.position) first lawful course.0 truth.0 ended
    (le_trans since before) (le_refl first.start)
    (first_at object base kind from number called now stage first (next ∷ later) rests begins before facts)) in
    record { now = rest.now; since = rest.since; until = rest.until; facts = rest.facts }

pub first_facts : (object : Object) (kind : CallKind) (from number called : ℕ) →
    Facts object kind from number called called (first_stage kind from)
first_facts object kind from number called = grind arith

pub starts_from : (phases : List Phase) (called : ℕ) → BeginsAt phases called → StartsFrom called phases
starts_from phases called begins = grind arith

-- of a legal record: the positions before the base of a step were left by then
pub legal_rests : (object : Object) → IsLegal object → Rests object (base_at object)
legal_rests object legal step j below =
    let came = came_at (retired_at object j) step (below_base object.banks step j below) in
    let cause = (legal.banks j 0).retired came.0 came.1 in
    record {
      answered = cause.0;
      moved = cause.1;
      by = let a = cause.2 in let b = came.2 in omega arith;
    }

-- the facts of a call at each phase and at its end
pub call_at_phase : (object : Object) → IsLegal object → (index : ℕ) (call : Call) →
    slice_get object.calls index ≡ Some call → (place : ℕ) (phase : Phase) → slice_get call.phases place ≡ Some phase →
    AtPhase object call.kind (source_of object index) call.id call.called phase
call_at_phase object legal index call at place phase within =
    let c = legal.calls index call at in
    at_phase object (base_at object) call.kind (source_of object index) call.id call.called legal.layouts
    (legal_rests object legal) call.phases call.called
    (first_stage call.kind (source_of object index))
    c.course c.from_base c.phases (le_refl call.called) (starts_from call.phases call.called c.begins)
    (first_facts object call.kind (source_of object index) call.id call.called) place phase within

pub call_at_end : (object : Object) → IsLegal object → (index : ℕ) (call : Call) → slice_get object.calls index ≡ Some call →
    AtEnd object call.kind (source_of object index) call.id call.called (stage_of object index call) call.phases
call_at_end object legal index call at = grind (arith, at_end, first_facts, le_refl, legal_rests, starts_from)
