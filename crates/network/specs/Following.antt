-- The contracts that docs/trusted.md lists do not depend on this file; other contracts and proofs do.
-- When a world follows a record, and the steps of the record that an event needs.
use Rattle.std.specs.Prelude.{◌≡◌, ℕ, zero, suc, ◌<◌, ◌≤◌, List, [], ◌∷◌, ◌++◌, map, None, Some, option_map, slice_get}
use Rattle.std.specs.List.{AllByRecursion}
use Rattle.mail.specs.Phase.{Phase}
use Rattle.record.specs.declared.call.CallKind.TheVariants.{Move}
use Rattle.record.specs.declared.call.Entry.{Entry}
use Rattle.record.specs.Fragments.{Code}
use Rattle.record.specs.Journals.{entries}
use Rattle.record.specs.Legal.{first_stage, source_of}
use Rattle.record.specs.PhaseOrder.{begun_at, stage_after}
use Rattle.record.specs.Preconditions.{MayStep}
use Rattle.record.specs.Records.{Call, Object, retired_at}
use Rattle.record.specs.Steps.{Step, stepped}
use Rattle.soundness.specs.Sound.{IsSound}
use Rattle.network.specs.Unstamped.{unstamped_bank, unstamped_message, unstamped_phase}
use Rattle.network.specs.Worlds.{World, known_layouts}
use Rattle.open_calls.specs.OpenCalls.{NodeCall, open_call}
use Rattle.network.specs.Premises.{IsOneFile}

-- the number of the record's last step after this many events: there is room for two steps in each event
abbrev pub last_step_after : (events : ℕ) → ℕ
last_step_after zero = zero
last_step_after (suc events) = suc (suc (last_step_after events))

-- the entry with the numbers of steps in the place of those of events
abbrev pub entry_in_steps : Entry → Entry
entry_in_steps entry =
    record entry { called = last_step_after entry.called; answered = option_map last_step_after entry.answered }

-- the call of the record that a node carries out: the current phase is its last, and it is not answered
pub record IsOpenIn (object : Object) (carried : NodeCall) : Type 0 where
  pub index : ℕ
  pub call : Call
  pub at : slice_get object.calls index ≡ Some call
  pub id : carried.id ≡ call.id
  pub kind : carried.kind ≡ call.kind
  pub settled : carried.settled ≡ call.settled
  pub unanswered : call.answered ≡ None
  pub earlier : List Phase
  pub last : Phase
  pub phases : call.phases ≡ earlier ++ last ∷ []
  pub phase : carried.phase ≡ unstamped_phase last
  pub stage : carried.stage
      ≡ begun_at (stage_after call.kind call.id (first_stage call.kind (source_of object index)) earlier)
      last.position

-- the node that moves objects carries out the call with this id, which is a move
pub record IsOpenMove (world : World) (id : ℕ) : Type 0 where
  pub carried : NodeCall
  pub found : open_call world.calls id ≡ Some carried
  pub kind : carried.kind ≡ Move
  pub node : carried.node ≡ (world.files 0).mover

-- the world, whose nodes have one cluster file, follows the record: but for stamps it has the same layouts, banks,
-- messages and history; each of its open calls is one of the record's, and each move that is not answered is open at
-- the mover; no position is retired
pub record Follows (world : World) (object : Object) : Type 0 where
  pub one : IsOneFile world.files
  pub delta : object.delta ≡ (world.files 0).delta
  pub layouts : object.layouts ≡ known_layouts world 0
  pub banks : map (map unstamped_bank) object.banks ≡ world.banks
  pub sent : map unstamped_message object.mail ≡ world.sent
  pub history : entries object ≡ map entry_in_steps world.history
  pub calls : AllByRecursion (IsOpenIn object) world.calls
  pub moves : (index : ℕ) (call : Call) → slice_get object.calls index ≡ Some call → call.kind ≡ Move →
      call.answered ≡ None → IsOpenMove world call.id
  pub kept : retired_at object 0 ≡ None

-- the record after these steps, each with its number
abbrev pub run_numbered : Code → List (Step × ℕ) → Object → Object
run_numbered fragment [] object = object
run_numbered fragment (step ∷ steps) object = run_numbered fragment steps (stepped fragment step.0 step.1 object)

-- these steps may be made one after another, with rising numbers from `last` to at most `end`
abbrev pub MayRunNumbered : Code → List (Step × ℕ) → (last end : ℕ) → Object → Type 0
MayRunNumbered fragment [] last end object = last ≤ end
MayRunNumbered fragment (step ∷ steps) last end object =
    (last < step.1) × MayStep fragment object step.0
    × MayRunNumbered fragment steps step.1 end (stepped fragment step.0 step.1 object)

-- steps of the record lead to a sound one, which the world follows
pub record LeadsOn (fragment : Code) (object : Object) (last : ℕ) (world : World) : Type 0 where
  pub steps : List (Step × ℕ)
  pub may : MayRunNumbered fragment steps last (last_step_after world.now) object
  pub sound : IsSound fragment (run_numbered fragment steps object) (last_step_after world.now)
  pub follows : Follows world (run_numbered fragment steps object)
