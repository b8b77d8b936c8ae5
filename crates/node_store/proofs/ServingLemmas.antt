-- A machine that handles one frame after another.
use Rattle.std.proofs.Common.{◌≡◌, ℕ, Bool, true, false, List, [], ◌∷◌, ◌++◌, Result, Ok, Err}
use Rattle.std.proofs.Common.{sym, ap, ◌∙◌, subst, refl, append-nil}
use Rattle.std.specs.Io.KnownBytes.{Consumes}
use Rattle.std.proofs.lemmas.Grind.{flat_map-append}
use Rattle.frames.specs.Frame.{frame_bytes}
use Rattle.node_log.specs.Reading.{HadLeft}
use Rattle.node_effects.specs.declared.effects.Effects.{Effects}
use Rattle.node_effects.specs.declared.output.Output.{Output}
use Rattle.node_store.specs.Outputs.{Gathers, HasGathered, WritesAll, WritesFirst, chain_after_all}
use Rattle.node_store.specs.Serving.{LoopEvent, Notes, Handles, all_outputs, outputs_by, read_by, StopsServing, WritesOutputs}
use Rattle.node_store.specs.Serving.{IsFrameHandled, Happens, StopsBehind, HandlesArrived}
use Rattle.node_store.specs.Serving.{StopsEarly, ServesSome, IsInputEnd}
use Rattle.node_store.specs.declared.batch.Batch.{Batch}
use Rattle.node_store.specs.declared.stop.ServeError.{ServeError}
use Rattle.node_store.proofs.GrowthLemmas.{Known, consumes_none}
use Rattle.node_store.proofs.GrowthLemmas.{folds_then, left_weaker}
use Rattle.node_store.proofs.FrameReadingLemmas.{frames_behind, frames_then, frames_stood}
use Rattle.node_store.proofs.LogBytesLemmas.{chain_all_then}
use Rattle.node_store.proofs.OutputLemmas.{chain_is, first_then, unwritten, written_first, written_none, written_then}
use Rattle.node_store.proofs.WaitingLemmas.{gathers_none, gathers_then}

-- how the loop goes on, or why it stops
abbrev pub going : Bool → Result Bool ServeError
going goes_on = Ok goes_on

abbrev pub stopped : ServeError → Result Bool ServeError
stopped error = Err error

module _ {M : Type 0} (handles : M → List (List ℕ) → Effects → M → Type 0) (notes : M → ℕ → M → Type 0) where
  -- ---- frames that have arrived

  pub arrived_none : (old : M) (had : Known) (batch : Batch) → HandlesArrived handles notes old old had had batch batch (Ok true)
  arrived_none old had batch = ([], refl, consumes_none had, gathers_none batch)

  pub arrived_end : (old : M) (had left : Known) (batch : Batch) → HadLeft IsInputEnd had
      → HandlesArrived handles notes old old had left batch batch (Ok false)
  arrived_end old had left batch end =
      ([], refl, left_weaker had (λ bytes h. (bytes, refl, h)) end, gathers_none batch)

  pub arrived_one : (old new : M) (frame : List (List ℕ)) (had left : Known) (before after : Batch)
      → Consumes had left (frame_bytes frame) → IsFrameHandled handles notes old new frame before after
      → HandlesArrived handles notes old new had left before after (Ok true)
  arrived_one old new frame had left before after took handled =
      let (effects, does, gathered) = handled in
      let event : LoopEvent = Handles frame effects in (
        event ∷ [],
        (new, does, refl),
        subst (Consumes had left) (sym (append-nil (read_by event))) took,
        subst (Gathers before after) (sym (append-nil (outputs_by event))) gathered,
      )

  pub arrived_stop : (old : M) (had : Known) (error : ServeError) → HadLeft (StopsServing error) had
      → StopsBehind handles notes old had error
  arrived_stop old had error why =
      ([], old, refl, left_weaker had (λ bytes h. (bytes, refl, h)) why)

  pub arrived_then : (a b c : M) (had mid left : Known) (one two three : Batch) (r : Result Bool ServeError)
      → HandlesArrived handles notes a b had mid one two (Ok true) → HandlesArrived handles notes b c mid left two three r
      → HandlesArrived handles notes a c had left one three r
  arrived_then a b c had mid left one two three (Ok goes_on) p q = (
    p.0 ++ q.0,
    folds_then (Happens handles notes) a p.0 b q.0 c p.1 q.1,
    frames_then p.0 q.0 had mid left goes_on p.2 q.2,
    subst (Gathers one three) (sym (flat_map-append outputs_by p.0 q.0))
        (gathers_then one two three (all_outputs p.0) (all_outputs q.0) p.3 q.3),
  )
  arrived_then a b c had mid left one two three (Err error) p q = (
    p.0 ++ q.0,
    q.1,
    folds_then (Happens handles notes) a p.0 b q.0 q.1 p.1 q.2,
    frames_behind (StopsServing error) p.0 q.0 had mid p.2 q.3,
  )

  pub arrived_as : (old new : M) (had left : Known) (before after : Batch) (found goes_on : Bool) → found ≡ goes_on
      → HandlesArrived handles notes old new had left before after (Ok found)
      → HandlesArrived handles notes old new had left before after (Ok goes_on)
  arrived_as old new had left before after found goes_on same p =
      subst (λ (b : Bool). HandlesArrived handles notes old new had left before after (Ok b)) same p

  -- ---- what is written then

  -- the loop stopped before all was handled
  pub serves_unhandled : (chain : ℕ) (old : M) (had kept held : Known) (error : ServeError)
      → StopsBehind handles notes old had error → StopsEarly handles notes chain old had kept kept held held error
  serves_unhandled chain old had kept held error p = (p.0, p.1, p.2, p.3, unwritten chain kept held (all_outputs p.0))

  -- not all can be written
  pub serves_unwritten : (chain : ℕ) (old new : M) (had left : Known) (one two : Batch) (kept keeps held holds : Known)
      (goes_on : Bool) (error : ServeError) → HandlesArrived handles notes old new had left one two (Ok goes_on)
      → HasGathered chain one []
      → ((chain : ℕ) (outputs : List Output) → HasGathered chain two outputs
      → WritesOutputs chain kept keeps held holds outputs (Err error))
      → StopsEarly handles notes chain old had kept keeps held holds error
  serves_unwritten chain old new had left one two kept keeps held holds goes_on error p empty wrote =
      let written = wrote chain (all_outputs p.0) (p.3 chain [] empty) in
      (p.0, new, p.1, frames_stood (StopsServing error) p.0 had left goes_on written.1 p.2, written.0)

  -- all was written
  pub serves_arrived : (chain : ℕ) (old new : M) (had left : Known) (one two : Batch) (kept keeps held holds : Known)
      (goes_on : Bool) → HandlesArrived handles notes old new had left one two (Ok goes_on) → HasGathered chain one []
      → ((chain : ℕ) (outputs : List Output) → HasGathered chain two outputs → WritesAll chain kept keeps held holds outputs)
      → ServesSome handles notes chain two.chain.state old new had left kept keeps held holds (Ok goes_on)
  serves_arrived chain old new had left one two kept keeps held holds goes_on p empty wrote =
      let gathered = p.3 chain [] empty in
      (p.0, p.1, p.2, wrote chain (all_outputs p.0) gathered, chain_is chain two (all_outputs p.0) gathered)

  -- ---- one batch after another

  pub serves_none : (chain : ℕ) (old : M) (had kept held : Known)
      → ServesSome handles notes chain chain old old had had kept kept held held (Ok true)
  serves_none chain old had kept held = ([], refl, consumes_none had, written_none chain kept held, refl)

  pub serves_note : (chain : ℕ) (old new : M) (bytes : ℕ) (had kept held : Known) → notes old bytes new
      → ServesSome handles notes chain chain old new had had kept kept held held (Ok true)
  serves_note chain old new bytes had kept held noted =
      (Notes bytes ∷ [], (new, noted, refl), consumes_none had, written_none chain kept held, refl)

  pub serves_then : (c0 c1 c2 : ℕ) (a b c : M) (had mid left : Known) (k0 k1 k2 h0 h1 h2 : Known) (r : Result Bool ServeError)
      → ServesSome handles notes c0 c1 a b had mid k0 k1 h0 h1 (Ok true)
      → ServesSome handles notes c1 c2 b c mid left k1 k2 h1 h2 r
      → ServesSome handles notes c0 c2 a c had left k0 k2 h0 h2 r
  serves_then c0 c1 c2 a b c had mid left k0 k1 k2 h0 h1 h2 (Ok goes_on) p q =
      let xs = all_outputs p.0 in
      let ys = all_outputs q.0 in
      let both = sym (flat_map-append outputs_by p.0 q.0) in (
        p.0 ++ q.0,
        folds_then (Happens handles notes) a p.0 b q.0 c p.1 q.1,
        frames_then p.0 q.0 had mid left goes_on p.2 q.2,
        subst (WritesAll c0 k0 k2 h0 h2) both
            (written_then c0 xs ys k0 k1 k2 h0 h1 h2 p.3 (subst (λ (n : ℕ). WritesAll n k1 k2 h1 h2 ys) p.4 q.3)),
        q.4 ∙ ap (λ (n : ℕ). chain_after_all n ys) p.4 ∙ sym (chain_all_then c0 xs ys)
            ∙ ap (λ (os : List Output). chain_after_all c0 os) both,
      )
  serves_then c0 c1 c2 a b c had mid left k0 k1 k2 h0 h1 h2 (Err error) p q =
      let xs = all_outputs p.0 in
      let ys = all_outputs q.0 in (
        p.0 ++ q.0,
        q.1,
        folds_then (Happens handles notes) a p.0 b q.0 q.1 p.1 q.2,
        frames_behind (StopsServing error) p.0 q.0 had mid p.2 q.3,
        subst (WritesFirst c0 k0 k2 h0 h2) (sym (flat_map-append outputs_by p.0 q.0))
            (first_then c0 xs ys k0 k1 k2 h0 h1 h2 p.3 (subst (λ (n : ℕ). WritesFirst n k1 k2 h1 h2 ys) p.4 q.4)),
      )

  pub serves_as : (c0 c1 : ℕ) (old new : M) (had left kept keeps held holds : Known) (found goes_on : Bool) → found ≡ goes_on
      → ServesSome handles notes c0 c1 old new had left kept keeps held holds (Ok found)
      → ServesSome handles notes c0 c1 old new had left kept keeps held holds (Ok goes_on)
  serves_as c0 c1 old new had left kept keeps held holds found goes_on same p =
      subst (λ (b : Bool). ServesSome handles notes c0 c1 old new had left kept keeps held holds (Ok b)) same p

  -- a batch behind others, for which the machine is told a length first
  pub serves_more : (c0 c1 c2 : ℕ) (a b between c : M) (bytes : ℕ) (had mid left k0 k1 k2 h0 h1 h2 : Known)
      (r : Result Bool ServeError) → ServesSome handles notes c0 c1 a b had mid k0 k1 h0 h1 (Ok true) → notes b bytes between
      → ServesSome handles notes c1 c2 between c mid left k1 k2 h1 h2 r
      → ServesSome handles notes c0 c2 a c had left k0 k2 h0 h2 r
  serves_more c0 c1 c2 a b between c bytes had mid left k0 k1 k2 h0 h1 h2 r p noted q =
      serves_then c0 c1 c2 a b c had mid left k0 k1 k2 h0 h1 h2 r p
      (serves_then c1 c1 c2 b between c mid mid left k1 k1 k2 h1 h1 h2 r (serves_note c1 b between bytes mid k1 h1 noted) q)

  -- the loop stops between two batches
  pub serves_idle : (c0 c1 : ℕ) (old new : M) (had left kept keeps held holds : Known) (error : ServeError)
      → ((bytes : List ℕ) → StopsServing error bytes)
      → ServesSome handles notes c0 c1 old new had left kept keeps held holds (Ok true)
      → StopsEarly handles notes c0 old had kept keeps held holds error
  serves_idle c0 c1 old new had left kept keeps held holds error any p = (
    p.0,
    new,
    p.1,
    frames_stood (StopsServing error) p.0 had left true any p.2,
    written_first c0 kept keeps held holds (all_outputs p.0) p.3,
  )

  -- the same behind a chain that is the same
  pub serves_behind : (c0 c1 c2 : ℕ) (old new : M) (had left kept keeps held holds : Known) (r : Result Bool ServeError)
      → c1 ≡ c2 → ServesSome handles notes c0 c1 old new had left kept keeps held holds r
      → ServesSome handles notes c0 c2 old new had left kept keeps held holds r
  serves_behind c0 c1 c2 old new had left kept keeps held holds r same p =
      subst (λ (n : ℕ). ServesSome handles notes c0 n old new had left kept keeps held holds r) same p
