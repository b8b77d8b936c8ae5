-- Whether a call of the log failed, and the status that tells of it.
use Rattle.std.proofs.Common.{◌≡◌, ◌⊎◌, inl, inr, refl, sym, ◌∙◌, ℕ, List, Bool, Option, Err, arith}
use Rattle.std.specs.Prelude.{IsTrue}
use Rattle.cluster_file.specs.declared.error.FileError.TheVariants as files
use Rattle.node_store.specs.Serving.{TellsLostLog}
use Rattle.node_store.specs.declared.stop.ServeError.{ServeError}
use Rattle.node_store.specs.declared.stop.ServeError.TheVariants as ends
use Rattle.words.specs.Word.{Word}
use Rattle.casd.specs.Fault.{IsOpenFault, IsReadFault, IsWordsFault, TellsFailedLog, exit_status_of}
use Rattle.casd.specs.Files.{HasReadFile}
use Rattle.casd.specs.Request.{IsFaultOf}
use Rattle.casd.specs.declared.fault.Fault.{Fault}
use Rattle.casd.specs.declared.fault.Fault.TheVariants as faults

-- a call failed, and the status says so
pub told_failed : (old new : Bool) → IsTrue new → TellsFailedLog old new 3
told_failed old new is = (λ three. is, λ failed. inr refl)

-- none failed
pub told_same : (old new : Bool) (status : ℕ) → new ≡ old → (status ≡ 3 → ⊥) → TellsFailedLog old new status
told_same old new status same other = (λ three. absurd (other three), λ failed. inl (sym same ∙ failed))

-- one failed only if one had
pub told_since : (old new : Bool) (status : ℕ) → (IsTrue new → IsTrue old) → (status ≡ 3 → ⊥) → TellsFailedLog old new status
told_since old new status since other = (λ three. absurd (other three), λ failed. inl (since failed))

-- behind a part that succeeded, one has failed only if one had before
pub told_going : (old new : Bool) → TellsFailedLog old new 0 → IsTrue new → IsTrue old
told_going old new told failed = elim (told.1 failed) [
  | inl had ↦ had
  | inr three ↦ absurd (omega (arith, three))
]

-- the last part tells it of the whole
pub told_then : (old mid new : Bool) (status : ℕ) → (IsTrue mid → IsTrue old) → TellsFailedLog mid new status
    → TellsFailedLog old new status
told_then old mid new status since told = (
  told.0,
  λ failed. elim (told.1 failed) [
    | inl had ↦ inl (since had)
    | inr three ↦ inr three
  ],
)

-- the loop stopped early
pub told_ended : (T : Type 0) (old new : Bool) (error : ServeError) → TellsLostLog {T = T} old new (Err error)
    → TellsFailedLog old new (exit_status_of (faults.Ended error))
told_ended T old new (ends.NoFrame fault) told = told_same old new 1 told (λ three. omega (arith, three))
told_ended T old new (ends.NoInput error) told = told_same old new 1 told (λ three. omega (arith, three))
told_ended T old new (ends.LogLost error) told = told_failed old new told
told_ended T old new (ends.OutputLost error) told = told_same old new 1 told (λ three. omega (arith, three))
told_ended T old new (ends.Stopped error) told = told_same old new 1 told (λ three. omega (arith, three))

-- Faults that are none of the log

pub words_other : (fault : Fault) → IsWordsFault fault → exit_status_of fault ≡ 3 → ⊥
words_other faults.NotText is three = omega (arith, three)
words_other faults.NoMemory is three = omega (arith, three)
words_other faults.Usage is three = absurd is
words_other faults.BadNode is three = absurd is
words_other (faults.Unread error) is three = absurd is
words_other (faults.BadFile error) is three = absurd is
words_other (faults.NoNode number) is three = absurd is
words_other (faults.NoNull error) is three = absurd is
words_other faults.NoFolder is three = absurd is
words_other faults.InUse is three = absurd is
words_other (faults.Unlocked error) is three = absurd is
words_other (faults.Unopened error) is three = absurd is
words_other faults.OldForm is three = absurd is
words_other (faults.BadLog error) is three = absurd is
words_other (faults.Stopped error) is three = absurd is
words_other (faults.LogLost error) is three = absurd is
words_other (faults.NotExchanged error) is three = absurd is
words_other (faults.Ended error) is three = absurd is
words_other (faults.OutputLost error) is three = absurd is

pub read_other : (fault : Fault) → IsReadFault fault → exit_status_of fault ≡ 3 → ⊥
read_other faults.NotText is three = absurd is
read_other faults.Usage is three = absurd is
read_other faults.BadNode is three = absurd is
read_other (faults.Unread error) is three = absurd is
read_other (faults.BadFile error) is three = absurd is
read_other (faults.NoNode number) is three = absurd is
read_other (faults.NoNull error) is three = absurd is
read_other faults.NoFolder is three = absurd is
read_other faults.InUse is three = absurd is
read_other (faults.Unlocked error) is three = absurd is
read_other (faults.Unopened error) is three = omega (arith, three)
read_other faults.OldForm is three = omega (arith, three)
read_other (faults.BadLog error) is three = omega (arith, three)
read_other (faults.Stopped error) is three = absurd is
read_other (faults.LogLost error) is three = absurd is
read_other (faults.NotExchanged error) is three = absurd is
read_other (faults.Ended error) is three = absurd is
read_other (faults.OutputLost error) is three = absurd is
read_other faults.NoMemory is three = omega (arith, three)

pub opened_other : (fault : Fault) → IsOpenFault fault → exit_status_of fault ≡ 3 → ⊥
opened_other faults.NotText is three = absurd is
opened_other faults.Usage is three = absurd is
opened_other faults.BadNode is three = absurd is
opened_other (faults.Unread error) is three = absurd is
opened_other (faults.BadFile error) is three = absurd is
opened_other (faults.NoNode number) is three = absurd is
opened_other (faults.NoNull error) is three = absurd is
opened_other faults.NoFolder is three = omega (arith, three)
opened_other faults.InUse is three = omega (arith, three)
opened_other (faults.Unlocked error) is three = omega (arith, three)
opened_other (faults.Unopened error) is three = omega (arith, three)
opened_other faults.OldForm is three = absurd is
opened_other (faults.BadLog error) is three = absurd is
opened_other (faults.Stopped error) is three = absurd is
opened_other (faults.LogLost error) is three = absurd is
opened_other (faults.NotExchanged error) is three = absurd is
opened_other (faults.Ended error) is three = absurd is
opened_other (faults.OutputLost error) is three = absurd is
opened_other faults.NoMemory is three = omega (arith, three)

pub asked_other : (words : List Word) (fault : Fault) → IsFaultOf words fault → exit_status_of fault ≡ 3 → ⊥
asked_other words faults.NotText is three = absurd is
asked_other words faults.Usage is three = omega (arith, three)
asked_other words faults.BadNode is three = omega (arith, three)
asked_other words (faults.Unread error) is three = absurd is
asked_other words (faults.BadFile error) is three = absurd is
asked_other words (faults.NoNode number) is three = absurd is
asked_other words (faults.NoNull error) is three = absurd is
asked_other words faults.NoFolder is three = absurd is
asked_other words faults.InUse is three = absurd is
asked_other words (faults.Unlocked error) is three = absurd is
asked_other words (faults.Unopened error) is three = absurd is
asked_other words faults.OldForm is three = absurd is
asked_other words (faults.BadLog error) is three = absurd is
asked_other words (faults.Stopped error) is three = absurd is
asked_other words (faults.LogLost error) is three = absurd is
asked_other words (faults.NotExchanged error) is three = absurd is
asked_other words (faults.Ended error) is three = absurd is
asked_other words (faults.OutputLost error) is three = absurd is
asked_other words faults.NoMemory is three = absurd is

pub file_other : (given : Option (List ℕ)) (number : ℕ) (fault : Fault) → HasReadFile given number (Err fault)
    → exit_status_of fault ≡ 3 → ⊥
file_other given number faults.NotText is three = absurd is
file_other given number faults.Usage is three = absurd is
file_other given number faults.BadNode is three = absurd is
file_other given number (faults.Unread error) is three = omega (arith, three)
file_other given number (faults.BadFile (files.Fault fault)) is three = omega (arith, three)
file_other given number (faults.BadFile files.NoMemory) is three = omega (arith, three)
file_other given number (faults.NoNode other) is three = omega (arith, three)
file_other given number (faults.NoNull error) is three = absurd is
file_other given number faults.NoFolder is three = absurd is
file_other given number faults.InUse is three = absurd is
file_other given number (faults.Unlocked error) is three = absurd is
file_other given number (faults.Unopened error) is three = absurd is
file_other given number faults.OldForm is three = absurd is
file_other given number (faults.BadLog error) is three = absurd is
file_other given number (faults.Stopped error) is three = absurd is
file_other given number (faults.LogLost error) is three = absurd is
file_other given number (faults.NotExchanged error) is three = absurd is
file_other given number (faults.Ended error) is three = absurd is
file_other given number (faults.OutputLost error) is three = absurd is
file_other given number faults.NoMemory is three = absurd is

-- a text was printed, or not
pub printed_other : (Written : Type 0) (status : ℕ) → ((status ≡ 0) × Written) ⊎ (status ≡ 1) → status ≡ 3 → ⊥
printed_other Written status (inl done) three = let zero_is = done.0 in omega (arith, zero_is, three)
printed_other Written status (inr one) three = omega (arith, one, three)
