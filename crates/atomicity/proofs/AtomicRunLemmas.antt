-- A sound record is atomic; so is every run from an opened object.
use Rattle.std.proofs.Common.{ℕ, suc, ◌+◌, List, length, Option}
use Rattle.layout.specs.Layout.{Layout, IsLawful}
use Rattle.record.specs.Records.{Object}
use Rattle.record.specs.Legal.{IsLegal}
use Rattle.record.specs.Journals.{entries}
use Rattle.record.specs.Fragments.{Code, IsCode, Determines, AreValues, AreCoded, AreSettled}
use Rattle.record.specs.Preconditions.{MayRun}
use Rattle.record.specs.Steps.{Step, run, opened_object}
use Rattle.soundness.specs.Sound.{IsSound}
use Rattle.soundness.proofs.Values.ReadValueLemmas.{reads_journaled}
use Rattle.soundness.proofs.Sound.RunSoundLemmas.{opened_run_sound}
use Rattle.atomicity.specs.Atomic.{IsAtomic}
use Rattle.atomicity.proofs.Sequences.ItemSequenceLemmas.{atomic_of_legal}

-- a legal record of coded pieces and settled values is atomic
pub atomic_of_coded : (fragment : Code) (object : Object) → Determines fragment → IsLegal object → AreValues object →
    AreCoded fragment object → AreSettled fragment object → IsAtomic (entries object)
atomic_of_coded fragment object determines legal values coded settled =
    atomic_of_legal object legal (reads_journaled fragment object determines legal values coded settled)

pub sound_atomic : (fragment : Code) → IsCode fragment → (object : Object) (step : ℕ) → IsSound fragment object step →
    IsAtomic (entries object)
sound_atomic fragment code object step sound =
    atomic_of_legal object sound.legal (reads_journaled fragment object code.determines sound.legal sound.values sound.coded sound.settled)

pub run_atomic : (fragment : Code) → IsCode fragment → (layout : Layout) (delta : Option ℕ) (start : ℕ) (steps : List Step) →
    IsLawful layout →
    MayRun fragment steps (suc start) (opened_object layout delta start) →
    IsAtomic (entries (run fragment steps (suc start) (opened_object layout delta start)))
run_atomic fragment code layout delta start steps lawful may =
    sound_atomic fragment code (run fragment steps (suc start) (opened_object layout delta start)) (start + length steps)
    (opened_run_sound fragment code layout delta start steps lawful may)
