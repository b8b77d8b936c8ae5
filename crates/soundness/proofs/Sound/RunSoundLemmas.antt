-- Every step that may be made keeps a record sound; so every run from an opened object is sound, and atomic.
use Rattle.std.proofs.Common.{◌≡◌, ℕ, suc, ◌+◌, ◌<◌, List, [], ◌∷◌, length, Option, refl, subst, ap, arith}
use Rattle.layout.specs.Layout.{Layout, IsLawful}
use Rattle.record.specs.Records.{Object}
use Rattle.record.specs.declared.call.CallKind.{CallKind}
use Rattle.record.specs.declared.call.CallKind.TheVariants.{Read, Write, Move}
use Rattle.record.specs.Fragments.{Code, IsCode, IsValue}
use Rattle.soundness.specs.Sound.{IsSound}
use Rattle.record.specs.Preconditions.{MayStep, MayRun}
use Rattle.record.specs.Steps.{Step, stepped, run, opened_object}
use Rattle.soundness.proofs.Sound.MailSoundLemmas.{lost_sound}
use Rattle.soundness.proofs.Sound.OpenedObjectLemmas.{opening_sound}
use Rattle.soundness.proofs.Sound.ReadWriteMoveSoundLemmas.{called_sound, moving_sound}
use Rattle.soundness.proofs.Sound.RetiredBaseSoundLemmas.{retired_sound}
use Rattle.soundness.proofs.Sound.StepSoundLemmas.{advance_sound, again_sound, supply_sound, post_sound, settle_sound}
use Rattle.soundness.proofs.Sound.StepSoundLemmas.{answer_sound, serve_sound, take_sound, repeat_sound}

-- the value of a write, where the call is one
abbrev written_is : CallKind → List ℕ → List ℕ
written_is Read value = value
written_is (Write other) value = other
written_is Move value = value

written_bytes : (written value : List ℕ) → Write written ≡ Write value → IsValue written → IsValue value
written_bytes written value e bytes = subst IsValue (ap (λ kind. written_is kind value) e) bytes

pub step_sound : (fragment : Code) (object : Object) (step now : ℕ) → IsCode fragment → step < now → IsSound fragment object step →
    (made : Step) → MayStep fragment object made → IsSound fragment (stepped fragment made now object) now
step_sound fragment object step now code less sound (Step.CallRead id) may =
    called_sound code sound less id may Read refl (λ moves position. refl) (λ value e. absurd (cc))
step_sound fragment object step now code less sound (Step.CallWrite id value) may =
    called_sound code sound less id may.0 (Write value) refl (λ moves position. refl) (λ other e. written_bytes value other e may.1)
step_sound fragment object step now code less sound (Step.CallMove id layout) may = moving_sound code sound less id may.0 layout may.1 may.2
step_sound fragment object step now code less sound (Step.Advance index) may = advance_sound code.determines sound less index may
step_sound fragment object step now code less sound (Step.Again index) may = again_sound code.determines sound less index may
step_sound fragment object step now code less sound (Step.Supply index) may = supply_sound code.determines sound less index may
step_sound fragment object step now code less sound (Step.Post index) may = post_sound code.determines sound less index may
step_sound fragment object step now code less sound (Step.Settle index value) may = settle_sound sound less index value may
step_sound fragment object step now code less sound (Step.AnswerCall index) may = answer_sound sound less index may
step_sound fragment object step now code less sound (Step.Serve place) may = serve_sound sound less place may
step_sound fragment object step now code less sound (Step.Take place) may = take_sound sound less place may
step_sound fragment object step now code less sound (Step.Lose place) may = lost_sound place sound less
step_sound fragment object step now code less sound (Step.Repeat place) may = repeat_sound sound less place may
step_sound fragment object step now code less sound Step.Retire may = retired_sound sound less may.0 may.1

pub run_sound : (fragment : Code) → IsCode fragment → (steps : List Step) (object : Object) (step : ℕ) →
    IsSound fragment object step → MayRun fragment steps (suc step) object →
    IsSound fragment (run fragment steps (suc step) object) (step + length steps)
run_sound fragment code [] object step sound may = let same : step ≡ step + 0 = omega arith in subst (IsSound fragment object) same sound
run_sound fragment code (made ∷ steps) object step sound may =
    let next = step_sound fragment object step (suc step) code (omega arith) sound made may.0 in
    let rest = run_sound fragment code steps (stepped fragment made (suc step) object) (suc step) next may.1 in
    let same : suc step + length steps ≡ step + suc (length steps) = omega arith in
    subst (IsSound fragment (run fragment steps (suc (suc step)) (stepped fragment made (suc step) object))) same rest

pub opened_run_sound : (fragment : Code) → IsCode fragment → (layout : Layout) (delta : Option ℕ) (start : ℕ) (steps : List Step) →
    IsLawful layout →
    MayRun fragment steps (suc start) (opened_object layout delta start) →
    IsSound fragment (run fragment steps (suc start) (opened_object layout delta start)) (start + length steps)
opened_run_sound fragment code layout delta start steps lawful may =
    run_sound fragment code steps (opened_object layout delta start) start (opening_sound fragment code layout delta start lawful) may
