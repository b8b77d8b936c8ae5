-- Why the loop of a machine stops.
use Rattle.std.proofs.Common.{◌≡◌, ◌⊎◌, inl, inr, ℕ, List, [], ◌∷◌, ◌++◌, Option, None, Some, Result, Ok, Err, IfErr}
use Rattle.std.proofs.Common.{refl, sym, subst, Bool, ◌∙◌}
use Rattle.std.specs.List.{flat_map, FoldsTo}
use Rattle.std.specs.Result.{IsErrAnd}
use Rattle.std.specs.Io.KnownBytes.{Consumes}
use Rattle.std.proofs.lemmas.Result.{err_from_is_err_and}
use Rattle.frames.specs.Frame.{frame_bytes}
use Rattle.node_log.specs.Reading.{HadLeft}
use Rattle.node_effects.specs.declared.effects.Effects.{Effects}
use Rattle.node_effects.specs.declared.error.NodeError.{NodeError}
use Rattle.node_effects.specs.declared.error.NodeError.TheVariants.{NoMemory}
use Rattle.node_store.specs.Serving.{BeginsWithFrame, BeginsWithFrames, Happens, IsReadStop, IsWriteLost, LoopEvent, Notes, StopsAtFrame}
use Rattle.node_store.specs.Serving.{TellsLostLog, read_by}
use Rattle.node_store.specs.declared.stop.ServeError.{ServeError}
use Rattle.node_store.specs.declared.stop.ServeError.TheVariants as stops
use Rattle.node_store.proofs.FrameReadingLemmas.{frames_behind}
use Rattle.node_store.proofs.GrowthLemmas.{Known, consumes_none, folds_then}

-- a frame that was read stood at the front
stood_first : (frame : List (List ℕ)) (had left : Known) → Consumes had left (frame_bytes frame) →
    HadLeft (BeginsWithFrames [] (BeginsWithFrame frame)) had
stood_first frame None left took = tt
stood_first frame (Some bytes) None took = absurd took
stood_first frame (Some bytes) (Some rest) took = (bytes, refl, (rest, took))

-- before a part of the loop that stopped, no call of the log failed
told_as : (S T : Type 0) (a b c : Bool) (error : ServeError) → b ≡ a → TellsLostLog {T = S} b c (Err error)
    → TellsLostLog {T = T} a c (Err error)
told_as S T a b c (stops.NoFrame fault) is told = told ∙ is
told_as S T a b c (stops.NoInput error) is told = told ∙ is
told_as S T a b c (stops.LogLost error) is told = told
told_as S T a b c (stops.OutputLost error) is told = told ∙ is
told_as S T a b c (stops.Stopped error) is told = told ∙ is

-- the loop tells of a call of the log as a part of it did, before which none failed
pub told_so : (S : Type 0) {T : Type 0} (a b c : Bool) (result : Result T ServeError) (error : ServeError) →
    IsErrAnd result (λ y. y ≡ error) → b ≡ a → TellsLostLog {T = S} b c (Err error) → TellsLostLog a c result
told_so S {T} a b c result error stops is told =
    let p = err_from_is_err_and result stops in
    subst (λ r. TellsLostLog a c r) (sym p.1)
    (told_as S T a b c p.0 is (subst (λ e. TellsLostLog {T = S} b c (Err e)) (sym p.2) told))

-- where nothing is read or handled any more, no call of the log failed
unread : (T : Type 0) (a : Bool) (error : ServeError) → IsReadStop error → TellsLostLog {T = T} a a (Err error)
unread T a (stops.NoFrame fault) is = refl
unread T a (stops.NoInput error) is = refl
unread T a (stops.LogLost error) is = absurd is
unread T a (stops.OutputLost error) is = absurd is
unread T a (stops.Stopped error) is = refl

pub told_none : {T : Type 0} (a : Bool) (result : Result T ServeError) (error : ServeError) →
    IsErrAnd result (λ y. y ≡ error) → IsReadStop error → TellsLostLog a a result
told_none {T} a result error stops is =
    let p = err_from_is_err_and result stops in
    subst (λ r. TellsLostLog a a r) (sym p.1) (unread T a p.0 (subst IsReadStop (sym p.2) is))

module _ {M : Type 0} (handles : M → List (List ℕ) → Effects → M → Type 0) (notes : M → ℕ → M → Type 0)
    (fails : M → List (List ℕ) → NodeError → Type 0) where
  -- the loop stops as a part of it stopped
  pub stopped_so : {T : Type 0} (old : M) (had : Known) (result : Result T ServeError) (error : ServeError) →
      IsErrAnd result (λ y. y ≡ error) → StopsAtFrame handles notes fails old had error →
      IfErr result (StopsAtFrame handles notes fails old had)
  stopped_so old had result error is why =
      let P = StopsAtFrame handles notes fails old had in
      let q = err_from_is_err_and result is in
      subst (λ r. IfErr r P) (sym q.1) (subst P (sym q.2) why)

  -- what cannot be written stops the loop for another reason
  pub lost_stops : (old : M) (had : Known) (error : ServeError) → IsWriteLost error → StopsAtFrame handles notes fails old had error
  lost_stops old had (stops.NoFrame fault) is = absurd is
  lost_stops old had (stops.NoInput error) is = absurd is
  lost_stops old had (stops.LogLost error) is = tt
  lost_stops old had (stops.OutputLost error) is = tt
  lost_stops old had (stops.Stopped error) is = absurd is

  -- the machine fails at the next frame
  pub stops_here : (old : M) (had left : Known) (frame : List (List ℕ)) (error : NodeError) →
      Consumes had left (frame_bytes frame) → (error ≡ NoMemory) ⊎ fails old frame error →
      StopsAtFrame handles notes fails old had (stops.Stopped error)
  stops_here old had left frame error took (inl is) = inl is
  stops_here old had left frame error took (inr is) = inr ([], old, refl, frame, is, stood_first frame had left took)

  -- the machine fails behind the frames of some events
  pub stops_then : (a b : M) (had mid : Known) (events : List LoopEvent) (error : ServeError) →
      FoldsTo (Happens handles notes) a events b → Consumes had mid (flat_map read_by events) →
      StopsAtFrame handles notes fails b mid error → StopsAtFrame handles notes fails a had error
  stops_then a b had mid events (stops.NoFrame fault) folds took why = tt
  stops_then a b had mid events (stops.NoInput error) folds took why = tt
  stops_then a b had mid events (stops.LogLost error) folds took why = tt
  stops_then a b had mid events (stops.OutputLost error) folds took why = tt
  stops_then a b had mid events (stops.Stopped error) folds took (inl is) = inl is
  stops_then a b had mid events (stops.Stopped error) folds took (inr why) = inr (
    events ++ why.0,
    why.1,
    folds_then (Happens handles notes) a events b why.0 why.1 folds why.2,
    why.3,
    why.4,
    frames_behind (BeginsWithFrame why.3) events why.0 had mid took why.5,
  )

  -- the same behind the length that a round begins with
  pub stops_noted : (a b : M) (bytes : ℕ) (had : Known) (error : ServeError) → notes a bytes b →
      StopsAtFrame handles notes fails b had error → StopsAtFrame handles notes fails a had error
  stops_noted a b bytes had error noted why =
      stops_then a b had had (Notes bytes ∷ []) error (b, noted, refl) (consumes_none had) why
