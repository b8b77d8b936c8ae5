-- What the loop of a machine did.
use Rattle.std.specs.Prelude.{◌≡◌, ◌⊎◌, ◌++◌, [], ℕ, List, Bool, true, false, IsTrue, Option, None, Some}
use Rattle.std.specs.Prelude.{Result, Ok, Err, ⊤}
use Rattle.std.specs.List.{flat_map, FoldsTo}
use Rattle.std.specs.Io.KnownBytes.{Consumes}
use Rattle.frames.specs.Frame.{frame_bytes}
use Rattle.frames.specs.Reading.{frame_at}
use Rattle.frames.specs.declared.error.Fault.TheVariants.{UnexpectedEnd}
use Rattle.node_log.specs.Reading.{HadLeft}
use Rattle.node_effects.specs.declared.effects.Effects.{Effects}
use Rattle.node_effects.specs.declared.error.NodeError.{NodeError}
use Rattle.node_effects.specs.declared.error.NodeError.TheVariants.{NoMemory}
use Rattle.node_effects.specs.declared.output.Output.{Output}
use Rattle.node_store.specs.Outputs.{Gathers, WritesAll, WritesFirst, chain_after_all, effects_outputs}
use Rattle.node_store.specs.declared.batch.Batch.{Batch}
use Rattle.node_store.specs.declared.end.LogEnd.{LogEnd}
use Rattle.node_store.specs.declared.stop.ServeError.{ServeError}
use Rattle.node_store.specs.declared.stop.ServeError.TheVariants as stops

-- what happens to a machine: it is told how long its log is, or it handles a frame and says what it wants done
pub data LoopEvent : Type 0 where
  Notes : (bytes : ℕ) → LoopEvent
  Handles : (frame : List (List ℕ)) → Effects → LoopEvent

-- the bytes of the frame that is handled
abbrev pub read_by : LoopEvent → List ℕ
read_by (Notes bytes) = []
read_by (Handles frame effects) = frame_bytes frame

-- what the machine wants done, in its order
abbrev pub outputs_by : LoopEvent → List Output
outputs_by (Notes bytes) = []
outputs_by (Handles frame effects) = effects_outputs effects

-- the same of all these events
abbrev pub all_outputs : List LoopEvent → List Output
all_outputs events = flat_map outputs_by events

-- the bytes begin with the frames of these events, and the bytes after them have the given property
abbrev pub BeginsWithFrames : List LoopEvent → (List ℕ → Type 0) → List ℕ → Type 0
BeginsWithFrames events P bytes = (rest : List ℕ) × (bytes ≡ flat_map read_by events ++ rest) × P rest

-- the input ends here: there is no byte left, or the bytes end within a frame
abbrev pub IsInputEnd : List ℕ → Type 0
IsInputEnd bytes = (bytes ≡ []) ⊎ ((left : List ℕ) × (frame_at bytes ≡ Err (UnexpectedEnd, left)))

-- The frames of these events were read. If the input does not go on, it ends after them.
abbrev pub ReadsFrames : Option (List ℕ) → Option (List ℕ) → List LoopEvent → (goes_on : Bool) → Type 0
ReadsFrames had left events true = Consumes had left (flat_map read_by events)
ReadsFrames had left events false = HadLeft (BeginsWithFrames events IsInputEnd) had

-- Why the loop stops at these bytes: they are no frame, with this fault. If the loop stops for another reason, this
-- says nothing about the bytes.
abbrev pub StopsServing : ServeError → List ℕ → Type 0
StopsServing (stops.NoFrame fault) bytes =
    (fault ≡ UnexpectedEnd → ⊥) × ((left : List ℕ) × (frame_at bytes ≡ Err (fault, left)))
StopsServing (stops.NoInput error) bytes = ⊤
StopsServing (stops.LogLost error) bytes = ⊤
StopsServing (stops.OutputLost error) bytes = ⊤
StopsServing (stops.Stopped error) bytes = ⊤

-- the bytes begin with a frame
abbrev pub BeginsWithFrame : List (List ℕ) → List ℕ → Type 0
BeginsWithFrame frame bytes = (rest : List ℕ) × (bytes ≡ frame_bytes frame ++ rest)

-- what is to be written is lost: an entry or a frame
abbrev pub IsWriteLost : ServeError → Type 0
IsWriteLost (stops.LogLost error) = ⊤
IsWriteLost (stops.OutputLost error) = ⊤
IsWriteLost error = ⊥

-- frames are not read or handled any more: the input is no frame or cannot be read, or the machine cannot go on
abbrev pub IsReadStop : ServeError → Type 0
IsReadStop (stops.NoFrame fault) = ⊤
IsReadStop (stops.NoInput error) = ⊤
IsReadStop (stops.Stopped error) = ⊤
IsReadStop error = ⊥

-- whether a call of the log has failed: one has if the loop stops with LogLost; else, this is as it was before
abbrev pub TellsLostLog : {T : Type 0} → (old new : Bool) → Result T ServeError → Type 0
TellsLostLog old new (Err (stops.LogLost error)) = IsTrue new
TellsLostLog old new result = new ≡ old

-- what was written of these outputs: all of them, or the first ones, for a reason of which nothing more is said
abbrev pub WritesOutputs : (chain : ℕ) → (kept keeps held holds : Option (List ℕ)) → List Output
    → Result (Unit {0}) ServeError → Type 0
WritesOutputs chain kept keeps held holds outputs (Ok done) = WritesAll chain kept keeps held holds outputs
WritesOutputs chain kept keeps held holds outputs (Err error) =
    WritesFirst chain kept keeps held holds outputs × ((bytes : List ℕ) → StopsServing error bytes)

-- `handles old frame effects new` says what a machine does with a frame, and `notes old bytes new` how it is told a
-- length
module _ {M : Type 0} (handles : M → List (List ℕ) → Effects → M → Type 0) (notes : M → ℕ → M → Type 0) where
  -- the machine after an event
  abbrev pub Happens : M → LoopEvent → M → Type 0
  Happens old (Notes bytes) new = notes old bytes new
  Happens old (Handles frame effects) new = handles old frame effects new

  -- the machine handled a frame, and what it wants done waits in the batch
  abbrev pub IsFrameHandled : M → M → List (List ℕ) → Batch → Batch → Type 0
  IsFrameHandled old new frame before after =
      (effects : Effects) × handles old frame effects new × Gathers before after (effects_outputs effects)

  -- the loop stops after the frames of some events, whose effects are lost
  abbrev pub StopsBehind : M → Option (List ℕ) → ServeError → Type 0
  StopsBehind old had error =
      (lost : List LoopEvent) × (between : M) × FoldsTo Happens old lost between
      × HadLeft (BeginsWithFrames lost (StopsServing error)) had

  -- If the loop stops because the machine cannot go on, the machine handled the frames of some events, with which the
  -- input begins, and fails so at the next frame; or memory was refused. `fails machine frame error` says with what a
  -- machine may fail at a frame. If the loop stops for another reason, this says nothing.
  abbrev pub StopsAtFrame : (M → List (List ℕ) → NodeError → Type 0) → M → Option (List ℕ) → ServeError → Type 0
  StopsAtFrame fails old had (stops.Stopped error) = (error ≡ NoMemory)
      ⊎ ((events : List LoopEvent) × (between : M) × FoldsTo Happens old events between × (frame : List (List ℕ))
      × fails between frame error × HadLeft (BeginsWithFrames events (BeginsWithFrame frame)) had)
  StopsAtFrame fails old had error = ⊤

  -- the frames that had arrived were handled one after another, and what the machine wants done waits in the batch;
  -- or the loop stops
  abbrev pub HandlesArrived : M → M → Option (List ℕ) → Option (List ℕ) → Batch → Batch → Result Bool ServeError →
      Type 0
  HandlesArrived old new had left before after (Ok goes_on) =
      (events : List LoopEvent) × FoldsTo Happens old events new × ReadsFrames had left events goes_on
      × Gathers before after (all_outputs events)
  HandlesArrived old new had left before after (Err error) = StopsBehind old had error

  -- The loop stopped early, behind the frames of some events. Of what the machine wants done for them, the first
  -- outputs are done, and the others may be lost. A frame was written only if the log keeps all entries before it.
  abbrev pub StopsEarly : (chain : ℕ) → M → (had : Option (List ℕ)) → (kept keeps : Option (List ℕ))
      → (held holds : Option (List ℕ)) → ServeError → Type 0
  StopsEarly chain old had kept keeps held holds error =
      (events : List LoopEvent) × (between : M) × FoldsTo Happens old events between
      × HadLeft (BeginsWithFrames events (StopsServing error)) had
      × WritesFirst chain kept keeps held holds (all_outputs events)

  -- The machine handled frames of the input, one after another. The log, which ended behind the one chain and then ends
  -- behind the other, keeps all entries that it wanted there, and all frames that it wanted sent were written. Or the
  -- loop stopped early.
  abbrev pub ServesSome : (chain then : ℕ) → M → M → (had left : Option (List ℕ)) → (kept keeps : Option (List ℕ))
      → (held holds : Option (List ℕ)) → Result Bool ServeError → Type 0
  ServesSome chain then old new had left kept keeps held holds (Ok goes_on) =
      (events : List LoopEvent) × FoldsTo Happens old events new × ReadsFrames had left events goes_on
      × WritesAll chain kept keeps held holds (all_outputs events) × (then ≡ chain_after_all chain (all_outputs events))
  ServesSome chain then old new had left kept keeps held holds (Err error) =
      StopsEarly chain old had kept keeps held holds error

  -- the same for all frames of the input, up to its end, if no end of the log is returned; or for the first ones, if
  -- the log has grown up to this end
  abbrev pub ServesUntil : (chain : ℕ) → M → M → (had left : Option (List ℕ)) → (kept keeps : Option (List ℕ))
      → (held holds : Option (List ℕ)) → Result (Option LogEnd) ServeError → Type 0
  ServesUntil chain old new had left kept keeps held holds (Ok None) =
      (then : ℕ) × ServesSome chain then old new had left kept keeps held holds (Ok false)
  ServesUntil chain old new had left kept keeps held holds (Ok (Some end)) =
      ServesSome chain end.chain.state old new had left kept keeps held holds (Ok true)
  ServesUntil chain old new had left kept keeps held holds (Err error) =
      StopsEarly chain old had kept keeps held holds error
