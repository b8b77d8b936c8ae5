-- What the loop read: frames, and what stands behind them.
use Rattle.std.proofs.Common.{◌≡◌, ℕ, Bool, true, false, List, ◌++◌, Option, Some, None, Err, MatchOption}
use Rattle.std.proofs.Common.{sym, ap, subst, ◌∙◌, inl, inr, append_assoc}
use Rattle.std.specs.List.{flat_map}
use Rattle.std.specs.Io.KnownBytes.{Consumes, IsAtEnd}
use Rattle.std.proofs.lemmas.Grind.{flat_map-append}
use Rattle.frames.specs.Frame.{frame_bytes}
use Rattle.frames.specs.Reading.{frame_at, Returns}
use Rattle.frames.proofs.ReadSequenceLemmas.{fails}
use Rattle.frames.specs.declared.error.FrameError.{FrameError}
use Rattle.frames.specs.declared.error.FrameError.TheVariants as errors
use Rattle.frames.specs.declared.error.Fault.{Fault}
use Rattle.frames.specs.declared.error.Fault.TheVariants.{UnexpectedEnd}
use Rattle.node_log.specs.Reading.{HadLeft}
use Rattle.node_store.specs.Serving.{LoopEvent, read_by, BeginsWithFrames, ReadsFrames, StopsServing}
use Rattle.node_store.specs.Serving.{IsInputEnd}
use Rattle.node_store.specs.declared.stop.ServeError.TheVariants as stops
use Rattle.node_store.proofs.GrowthLemmas.{Known, consumes_then}
use Rattle.node_store.proofs.GrowthLemmas.{left_weaker}

-- frames that were read, and what holds of the bytes behind them
pub frames_behind : (P : List ℕ → Type 0) (events more : List LoopEvent) (had left : Known) → Consumes had left (flat_map read_by events)
    → HadLeft (BeginsWithFrames more P) left → HadLeft (BeginsWithFrames (events ++ more) P) had
frames_behind P events more None left took p = tt
frames_behind P events more (Some xs) None took p = absurd took
frames_behind P events more (Some xs) (Some ys) took p = (
  p.0,
  took ∙ ap (λ (t : List ℕ). flat_map read_by events ++ t) p.1
      ∙ sym (append_assoc (flat_map read_by events) (flat_map read_by more) p.0)
      ∙ ap (λ (t : List ℕ). t ++ p.0) (sym (flat_map-append read_by events more)),
  p.2,
)

pub frames_then : (events more : List LoopEvent) (had mid left : Known) (goes_on : Bool) → ReadsFrames had mid events true
    → ReadsFrames mid left more goes_on → ReadsFrames had left (events ++ more) goes_on
frames_then events more had mid left true p q =
    subst (Consumes had left) (sym (flat_map-append read_by events more))
    (consumes_then had mid left (flat_map read_by events) (flat_map read_by more) p q)
frames_then events more had mid left false p q = frames_behind IsInputEnd events more had mid p q

-- what was read stands at the front, whether the input goes on or not
pub frames_stood : (P : List ℕ → Type 0) (events : List LoopEvent) (had left : Known) (goes_on : Bool) → ((bytes : List ℕ) → P bytes)
    → ReadsFrames had left events goes_on → HadLeft (BeginsWithFrames events P) had
frames_stood P events None left true any p = tt
frames_stood P events (Some xs) None true any p = absurd p
frames_stood P events (Some xs) (Some ys) true any p = (ys, p, any ys)
frames_stood P events None left false any p = tt
frames_stood P events (Some xs) left false any p = (p.0, p.1, any p.0)

-- ---- what was read

-- a frame, or none, as a reader gives it
abbrev pub Found : Type 0
Found = Option (List (List ℕ))

pub found_frame : (had left : Known) (found : Found) (frame : List (List ℕ)) → found ≡ Some frame
    → MatchOption found (IsAtEnd had) (λ strings. Consumes had left (frame_bytes strings)) → Consumes had left (frame_bytes frame)
found_frame had left found frame same p =
    subst (λ (o : Found). MatchOption o (IsAtEnd had) (λ strings. Consumes had left (frame_bytes strings))) same p

-- no frame is left
pub none_left : (had left : Known) (found : Found) → found ≡ None
    → MatchOption found (IsAtEnd had) (λ strings. Consumes had left (frame_bytes strings)) → HadLeft IsInputEnd had
none_left had left found none p =
    go had (subst (λ (o : Found). MatchOption o (IsAtEnd had) (λ strings. Consumes had left (frame_bytes strings))) none p)
  where
    go : (had : Known) → IsAtEnd had → HadLeft IsInputEnd had
    go None end = tt
    go (Some bytes) end = inl end

fault_at : (had left : Known) (fault : Fault) → Returns frame_at had left (fails Found (errors.Fault fault))
    → HadLeft (λ bytes. (rest : List ℕ) × (frame_at bytes ≡ Err (fault, rest))) had
fault_at None left fault p = tt
fault_at (Some xs) None fault p = absurd p
fault_at (Some xs) (Some ys) fault p = (ys, p)

fault_from : (had left : Known) (error : FrameError) (fault : Fault) → error ≡ errors.Fault fault
    → Returns frame_at had left (fails Found error) → HadLeft (λ bytes. (rest : List ℕ) × (frame_at bytes ≡ Err (fault, rest))) had
fault_from had left error fault same p =
    fault_at had left fault (subst (λ (e : FrameError). Returns frame_at had left (fails Found e)) same p)

-- the input ends within a frame
pub end_from : (had left : Known) (error : FrameError) (fault : Fault) → error ≡ errors.Fault fault → fault ≡ UnexpectedEnd
    → Returns frame_at had left (fails Found error) → HadLeft IsInputEnd had
end_from had left error fault same early p =
    left_weaker had (λ bytes h. inr h)
    (fault_from had left error UnexpectedEnd (same ∙ ap (λ (f : Fault). errors.Fault f) early) p)

-- what comes in is no frame
pub no_frame_from : (had left : Known) (error : FrameError) (fault : Fault) → error ≡ errors.Fault fault
    → (fault ≡ UnexpectedEnd → ⊥) → Returns frame_at had left (fails Found error)
    → HadLeft (StopsServing (stops.NoFrame fault)) had
no_frame_from had left error fault same late p =
    left_weaker had (λ bytes h. (late, h)) (fault_from had left error fault same p)
