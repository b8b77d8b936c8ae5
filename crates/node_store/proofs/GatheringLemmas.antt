-- Frames that lie in memory.
use Rattle.std.proofs.Common.{◌≡◌, ◌<◌, ◌≤◌, ℕ, true, List, [], ◌∷◌, ◌++◌, length, Result, Ok, Err, Some}
use Rattle.std.proofs.Common.{sym, ap, subst, arith}
use Rattle.std.specs.Prelude.{IfErr, OnOk}
use Rattle.std.specs.Result.{IsErrAnd}
use Rattle.std.specs.List.{flat_map, FoldsTo}
use Rattle.std.proofs.lemmas.Result.{err_from_is_err_and}
use Rattle.node_effects.specs.declared.effects.Effects.{Effects}
use Rattle.node_effects.specs.declared.error.NodeError.{NodeError}
use Rattle.node_store.specs.Outputs.{HasGathered}
use Rattle.node_store.specs.Serving.{Happens, HandlesArrived, LoopEvent, Notes, StopsAtFrame, StopsBehind}
use Rattle.node_store.specs.Serving.{all_outputs, read_by}
use Rattle.node_store.specs.declared.batch.Batch.{Batch}
use Rattle.node_store.specs.declared.stop.ServeError.{ServeError}
use Rattle.node_store.proofs.ServingLemmas.{arrived_none, arrived_then, going, stopped}
use Rattle.node_store.proofs.StoppingLemmas.{stops_then}

-- fewer bytes are left, so these are not all
pub not_all : {T E : Type 0} (P : Type 0) (old mid new : List ℕ) (r : Result T E) → length mid < length old
    → OnOk r (length new ≤ length mid) → OnOk r (new ≡ old → P)
not_all P old mid new (Ok done) less more =
    λ same. let e : length new ≡ length old = ap length same in absurd (omega arith)
not_all P old mid new (Err error) less more = tt

-- what holds of an error that is passed on
pub err_so : {T : Type 0} (P : ServeError → Type 0) (r : Result T ServeError) (error : ServeError)
    → IsErrAnd r (λ y. y ≡ error) → P error → IfErr r P
err_so P r error is why =
    let q = err_from_is_err_and r is in subst (λ t. IfErr t P) (sym q.1) (subst P (sym q.2) why)

module _ {M : Type 0} (handles : M → List (List ℕ) → Effects → M → Type 0) (notes : M → ℕ → M → Type 0) where
  -- no whole frame stood at the front, and nothing has changed
  pub none_taken : (old new : M) (input read : List ℕ) (before after : Batch) → read ≡ input → new ≡ old → after ≡ before
      → HandlesArrived handles notes old new (Some input) (Some read) before after (Ok true)
  none_taken old new input read before after same kept waits =
      subst (λ (t : List ℕ). HandlesArrived handles notes old new (Some input) (Some t) before after (Ok true)) (sym same)
      (subst (λ (m : M). HandlesArrived handles notes old m (Some input) (Some input) before after (Ok true)) (sym kept)
      (subst (λ (b : Batch). HandlesArrived handles notes old old (Some input) (Some input) before b (Ok true)) (sym waits)
      (arrived_none handles notes old (Some input) before)))

  -- more frames were handled, or the machine stopped at them
  module _ (a b : M) (had mid : List ℕ) (one two : Batch)
      (first : HandlesArrived handles notes a b (Some had) (Some mid) one two (Ok true)) where
    pub more_handled : {T : Type 0} (c : M) (left : List ℕ) (three : Batch) (r : Result T ServeError)
        → OnOk r (HandlesArrived handles notes b c (Some mid) (Some left) two three (Ok true))
        → OnOk r (HandlesArrived handles notes a c (Some had) (Some left) one three (Ok true))
    more_handled c left three (Ok done) then =
        arrived_then handles notes a b c (Some had) (Some mid) (Some left) one two three (going true) first then
    more_handled c left three (Err error) then = tt

    pub more_lost : (error : ServeError) → StopsBehind handles notes b (Some mid) error
        → StopsBehind handles notes a (Some had) error
    more_lost error then =
        arrived_then handles notes a b b (Some had) (Some mid) (Some mid) one two two (stopped error) first then

    pub more_lost_if : {T : Type 0} (r : Result T ServeError) → IfErr r (StopsBehind handles notes b (Some mid))
        → IfErr r (StopsBehind handles notes a (Some had))
    more_lost_if (Ok done) then = tt
    more_lost_if (Err error) then = more_lost error then

    pub more_stopped_if : {T : Type 0} (fails : M → List (List ℕ) → NodeError → Type 0) (r : Result T ServeError)
        → IfErr r (StopsAtFrame handles notes fails b (Some mid))
        → IfErr r (StopsAtFrame handles notes fails a (Some had))
    more_stopped_if fails (Ok done) then = tt
    more_stopped_if fails (Err error) then =
        stops_then handles notes fails a b (Some had) (Some mid) first.0 error first.1 first.2 then

  -- the machine was told a length, and then frames were handled, which is all that waits
  pub gathered : (chain first : ℕ) (old told new : M) (bytes : ℕ) (input rest : List ℕ) (one two : Batch)
      → notes old bytes told → first ≡ chain → HasGathered first one []
      → HandlesArrived handles notes told new (Some input) (Some rest) one two (Ok true)
      → (events : List LoopEvent) × FoldsTo (Happens handles notes) old events new
      × (input ≡ flat_map read_by events ++ rest) × HasGathered chain two (all_outputs events)
  gathered chain first old told new bytes input rest one two noted begins empty (events, folds, reads, waits) = (
    Notes bytes ∷ events,
    (told, noted, folds),
    reads,
    waits chain [] (subst (λ (c : ℕ). HasGathered c one []) begins empty),
  )

  -- the machine was told a length, and then stopped
  pub stops_told : (old told : M) (bytes : ℕ) (input : List ℕ) (error : ServeError) → notes old bytes told
      → StopsBehind handles notes told (Some input) error → StopsBehind handles notes old (Some input) error
  stops_told old told bytes input error noted (lost, between, folds, had) =
      (Notes bytes ∷ lost, between, (told, noted, folds), had)
