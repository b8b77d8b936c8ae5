-- The contracts that docs/trusted.md lists do not depend on this file; other contracts and proofs do.
-- What happens in a run of processes: a start, a stop, and a frame that is handled.
use Rattle.std.specs.Prelude.{◌≡◌, ◌≢◌, ◌<◌, ◌≤◌, ◌⊎◌, ◌+◌, ◌^◌, ◌∷◌, ◌++◌, ℕ, zero, suc, Bool, true, false, Ok}
use Rattle.std.specs.Prelude.{Option, Some, None, length, set, slice_get}
use Rattle.cluster_file.specs.File.{FileContents}
use Rattle.cluster_file.specs.Reading.{file_of}
use Rattle.node_effects.specs.Seen.{all_seen}
use Rattle.node_effects.specs.Work.{entries_in}
use Rattle.node_effects.specs.declared.effects.Effects.{Effects}
use Rattle.node_strings.specs.Arrival.{node_address}
use Rattle.node_strings.specs.Strings.{Strings}
use Rattle.processes.specs.Processes.{SentFrame}
use Rattle.example_runs.specs.Members.{HasGrown, HasHandled, HasStarted, frames_from, seen_by}
use Rattle.example_runs.specs.declared.members.Member.{Member}
use Rattle.example_runs.specs.declared.process_run.ProcessRun.{ProcessRun}

-- one process of the run has changed into this one, and nothing else of it
pub record HasChanged (number : ℕ) (member after : Member) (old new : ProcessRun) : Type 0 where
  pub at : slice_get old.members.items number ≡ Some member
  pub members : new.members.items ≡ set old.members.items number after
  pub text : new.text ≡ old.text

-- the process of this number was started, with the cluster file of the run
pub record IsStartedIn (number : ℕ) (old new : ProcessRun) : Type 0 where
  pub member : Member
  pub after : Member
  pub file : FileContents
  pub read : file_of old.text ≡ Ok file
  pub started : HasStarted file number member after
  pub changed : HasChanged number member after old new
  pub sent : new.sent.items ≡ old.sent.items
  pub seen : new.seen.items ≡ old.seen.items

-- the process of this number was stopped, and its log is as before
pub record IsStoppedIn (number : ℕ) (old new : ProcessRun) : Type 0 where
  pub member : Member
  pub changed : HasChanged number member (record member { node = None }) old new
  pub sent : new.sent.items ≡ old.sent.items
  pub seen : new.seen.items ≡ old.seen.items

-- The process of this number handled a frame. Its log got the entries that its node wanted, and then the frames to
-- nodes and the answers were written.
pub record IsHandledIn (number : ℕ) (frame : Strings) (old new : ProcessRun) : Type 0 where
  pub member : Member
  pub handled : Member
  pub after : Member
  pub effects : Effects
  pub handles : HasHandled frame effects member handled
  pub grown : HasGrown (entries_in effects.outputs.items) handled after
  pub changed : HasChanged number member after old new
  pub sent : new.sent.items ≡ old.sent.items ++ frames_from number effects.outputs.items
  pub seen : all_seen new.seen.items ≡ all_seen old.seen.items ++ seen_by effects

-- a frame that was written to the node of this number comes there, with the address of its sender in place of its own
pub record IsReaddressed (number : ℕ) (sent : SentFrame) (frame : Strings) : Type 0 where
  pub rest : Strings
  pub to : sent.frame ≡ node_address number ∷ rest
  pub from : frame ≡ node_address sent.sender ∷ rest
  pub sender : sent.sender < 2 ^ 8

-- the frame as it comes to the node of this number, or none, if it was written to another one
abbrev pub IsFoundFor : (number : ℕ) → SentFrame → Option Strings → Type 0
IsFoundFor number sent (Some frame) = IsReaddressed number sent frame
IsFoundFor number sent None = (rest : Strings) → sent.frame ≢ node_address number ∷ rest

-- the frame that was written at this place came to the node of this number, which handled it; or it was to another one,
-- and nothing has changed
abbrev pub IsCarriedIn : (place number : ℕ) → (old new : ProcessRun) → (is_to : Bool) → Type 0
IsCarriedIn place number old new false = (sent : SentFrame)
    × (slice_get old.sent.items place ≡ Some sent) × IsFoundFor number sent None × (new ≡ old)
IsCarriedIn place number old new true = (sent : SentFrame) × (frame : Strings)
    × (slice_get old.sent.items place ≡ Some sent) × IsReaddressed number sent frame × IsHandledIn number frame old new

-- the frame that was written at this place is to none of the nodes of the run with a number below this one
abbrev pub IsToNone : (place below : ℕ) → ProcessRun → Type 0
IsToNone place below run = (number : ℕ) → number < below → number < length run.members.items
    → IsCarriedIn place number run run false

-- the frame that was written at this place came to the node of the run to which it is; or it is to none of the nodes 0
-- to 254 of the run, and nothing has changed
abbrev pub IsBroughtIn : (place : ℕ) → (old new : ProcessRun) → Type 0
IsBroughtIn place old new = ((number : ℕ) × IsCarriedIn place number old new true)
    ⊎ (IsToNone place 255 old × (new ≡ old))

-- so many frames, from this place on, came one after another
abbrev pub AreBroughtIn : (count first : ℕ) → (old new : ProcessRun) → Type 0
AreBroughtIn zero first old new = new ≡ old
AreBroughtIn (suc count) first old new =
    (between : ProcessRun) × AreBroughtIn count first old between × IsBroughtIn (first + count) between new

-- all frames came, from the one place on up to the other, one after another: none is left behind that place, or 10,000
-- came
abbrev pub AreAllBroughtIn : (first then : ℕ) → (old new : ProcessRun) → Type 0
AreAllBroughtIn first then old new = (count : ℕ) × (then ≡ first + count) × AreBroughtIn count first old new
    × ((length new.sent.items ≤ then) ⊎ (count ≡ 10_000))
