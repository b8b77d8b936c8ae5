-- The frames and answers of a round are written by events of the process.
use Rattle.std.proofs.Common.{◌≡◌, ◌≤◌, ◌+◌, ◌⊎◌, inl, inr, ℕ, suc, List, [], ◌∷◌, ◌++◌, length, Some, slice_get}
use Rattle.std.proofs.Common.{refl, sym, ap, ◌∙◌, arith}
use Rattle.std.proofs.lemmas.Grind.{flat_map-append}
use Rattle.std.specs.Prelude.{⊤}
use Rattle.std.specs.List.{flat_map}
use Rattle.frames.specs.Frame.{frame_bytes}
use Rattle.node_strings.specs.Strings.{Strings}
use Rattle.node_effects.specs.Work.{entries_in, send_all}
use Rattle.node_effects.specs.declared.effects.Effects.{Effects}
use Rattle.node_effects.specs.declared.output.Output.{Output}
use Rattle.node_effects.specs.declared.output.Output.TheVariants as output
use Rattle.node_store.specs.Outputs.{all_sent, effects_outputs, sent_of}
use Rattle.node_store.specs.Serving.{LoopEvent, Handles, Notes}
use Rattle.refinement.proofs.PlaceLemmas.{get_first}
use Rattle.processes.specs.Processes.{WaitingFrame, frames_behind}
use Rattle.processes.proofs.HandledRoundLemmas.{waiting_frames}

-- Frames that wait

-- a frame is one of those that wait, behind at most so many entries
abbrev pub Waits : List WaitingFrame → (most : ℕ) → Strings → Type 0
Waits frames most frame = (place : ℕ) × (waiting : WaitingFrame) × (slice_get frames place ≡ Some waiting)
    × (waiting.frame ≡ frame) × (waiting.behind ≤ most)

-- the frames among these outputs wait, each behind at most the entries before it
abbrev pub HaveFrames : List WaitingFrame → (entries : ℕ) → List Output → Type 0
HaveFrames frames entries [] = ⊤
HaveFrames frames entries (output.Log entry ∷ outputs) = HaveFrames frames (suc entries) outputs
HaveFrames frames entries (output.Send frame ∷ outputs) = Waits frames entries frame × HaveFrames frames entries outputs

-- the same of all these events
abbrev pub HaveAllFrames : List WaitingFrame → (entries : ℕ) → List LoopEvent → Type 0
HaveAllFrames frames entries [] = ⊤
HaveAllFrames frames entries (Notes bytes ∷ events) = HaveAllFrames frames entries events
HaveAllFrames frames entries (Handles frame effects ∷ events) =
    HaveFrames frames entries effects.outputs.items
    × HaveAllFrames frames (entries + length (entries_in effects.outputs.items)) events

pub waits_first : (xs ys : List WaitingFrame) (most : ℕ) (frame : Strings) → Waits xs most frame → Waits (xs ++ ys) most frame
waits_first xs ys most frame waits =
    (waits.0, waits.1, get_first xs ys waits.0 waits.1 waits.2, waits.3, waits.4)

pub waits_second : (xs ys : List WaitingFrame) (most : ℕ) (frame : Strings) → Waits ys most frame → Waits (xs ++ ys) most frame
waits_second [] ys most frame waits = waits
waits_second (x ∷ xs) ys most frame waits =
    let rest = waits_second xs ys most frame waits in (suc rest.0, rest.1, rest.2, rest.3, rest.4)

-- frames that are among more ones
abbrev pub AreAmong : (xs ys : List WaitingFrame) → Type 0
AreAmong xs ys = (most : ℕ) (frame : Strings) → Waits xs most frame → Waits ys most frame

pub frames_among : (xs ys : List WaitingFrame) → AreAmong xs ys → (entries : ℕ) (outputs : List Output) →
    HaveFrames xs entries outputs → HaveFrames ys entries outputs
frames_among xs ys among entries [] have = tt
frames_among xs ys among entries (output.Log entry ∷ outputs) have = frames_among xs ys among (suc entries) outputs have
frames_among xs ys among entries (output.Send frame ∷ outputs) have =
    (among entries frame have.0, frames_among xs ys among entries outputs have.1)

pub all_frames_among : (xs ys : List WaitingFrame) → AreAmong xs ys → (entries : ℕ) (events : List LoopEvent) →
    HaveAllFrames xs entries events → HaveAllFrames ys entries events
all_frames_among xs ys among entries [] have = tt
all_frames_among xs ys among entries (Notes bytes ∷ events) have = all_frames_among xs ys among entries events have
all_frames_among xs ys among entries (Handles frame effects ∷ events) have = (
  frames_among xs ys among entries effects.outputs.items have.0,
  all_frames_among xs ys among (entries + length (entries_in effects.outputs.items)) events have.1,
)

pub own_frames : (entries : ℕ) (outputs : List Output) → HaveFrames (frames_behind entries outputs) entries outputs
own_frames entries [] = tt
own_frames entries (output.Log entry ∷ outputs) = own_frames (suc entries) outputs
own_frames entries (output.Send frame ∷ outputs) =
    let waiting : WaitingFrame = record { behind = entries; frame = frame } in (
      (0, waiting, refl, refl, omega arith),
      frames_among (frames_behind entries outputs) (waiting ∷ frames_behind entries outputs)
          (waits_second (waiting ∷ []) (frames_behind entries outputs)) entries outputs (own_frames entries outputs),
    )

pub all_own_frames : (entries : ℕ) (events : List LoopEvent) → HaveAllFrames (waiting_frames entries events) entries events
all_own_frames entries [] = tt
all_own_frames entries (Notes bytes ∷ events) = all_own_frames entries events
all_own_frames entries (Handles frame effects ∷ events) =
    let behind = frames_behind entries effects.outputs.items in
    let all = entries + length (entries_in effects.outputs.items) in
    let rest = waiting_frames all events in (
      frames_among behind (behind ++ rest) (waits_first behind rest) entries effects.outputs.items
          (own_frames entries effects.outputs.items),
      all_frames_among rest (behind ++ rest) (waits_second behind rest) all events (all_own_frames all events),
    )

-- Bytes

pub bytes_of_answers : (frames : List Strings) → all_sent (send_all frames) ≡ flat_map frame_bytes frames
bytes_of_answers [] = refl
bytes_of_answers (frame ∷ frames) = ap (λ (t : List ℕ). frame_bytes frame ++ t) (bytes_of_answers frames)

pub bytes_of_effects : (effects : Effects) →
    all_sent (effects_outputs effects) ≡ all_sent effects.outputs.items ++ flat_map frame_bytes effects.answers.items
bytes_of_effects effects =
    flat_map-append sent_of effects.outputs.items (send_all effects.answers.items)
    ∙ ap (λ (t : List ℕ). all_sent effects.outputs.items ++ t) (bytes_of_answers effects.answers.items)

-- Two ways to part a list: the one front is part of the other
abbrev pub IsPart : {A : Type 0} → (xs ys first rest : List A) → Type 0
IsPart {A} xs ys first rest =
    ((more : List A) × (first ≡ xs ++ more) × (ys ≡ more ++ rest)) ⊎ ((more : List A) × (xs ≡ first ++ more))

pub parted : {A : Type 0} (xs ys first rest : List A) → xs ++ ys ≡ first ++ rest → IsPart xs ys first rest
parted [] ys first rest same = inl (first, refl, same)
parted (x ∷ xs) ys [] rest same = inr (x ∷ xs, refl)
parted {A} (x ∷ xs) ys (f ∷ first) rest same = go (parted xs ys first rest (cc))
  where
    head : x ≡ f
    head = cc

    go : IsPart xs ys first rest → IsPart (x ∷ xs) ys (f ∷ first) rest
    go (inl is) = inl (is.0, ap (λ (t : List A). f ∷ t) is.1 ∙ ap (λ (h : A). h ∷ (xs ++ is.0)) (sym head), is.2)
    go (inr is) = inr (is.0, ap (λ (t : List A). x ∷ t) is.1 ∙ ap (λ (h : A). h ∷ (first ++ is.0)) head)
