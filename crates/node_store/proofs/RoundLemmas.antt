-- The loop of a machine goes in rounds.
use Rattle.std.proofs.Common.{◌≡◌, ℕ, suc, Bool, true, List, Result, Ok, refl, ap, arith}
use Rattle.node_effects.specs.declared.effects.Effects.{Effects}
use Rattle.node_store.specs.Rewriting.{HasGrown, HasLengthened}
use Rattle.node_store.specs.Rounds.{BetweenRounds, ComesToRound, GoesRounds}
use Rattle.node_store.specs.Serving.{ServesSome, StopsEarly, StopsServing}
use Rattle.node_store.specs.declared.stop.ServeError.{ServeError}
use Rattle.node_store.proofs.GrowthLemmas.{Known}
use Rattle.node_store.proofs.ServingLemmas.{serves_behind, serves_idle, serves_none, serves_note, serves_then}

-- the loop, with this between two rounds
abbrev pub between : {M : Type 0} → (length chain : ℕ) → M → (left kept held : Known) → BetweenRounds M
between length chain machine left kept held =
    record { length = length; chain = chain; machine = machine; left = left; kept = kept; held = held }

-- a log has not grown much if it is as long as before
pub not_grown : (n : ℕ) → HasGrown n n → ⊥
not_grown n grown = omega (arith, grown.1)

module _ {M : Type 0} (handles : M → List (List ℕ) → Effects → M → Type 0) (notes : M → ℕ → M → Type 0) where
  pub comes_first : (n c0 c1 : ℕ) (machine : M) (left kept held : Known) → c1 ≡ c0
      → ComesToRound handles notes (between n c0 machine left kept held) (between n c1 machine left kept held)
  comes_first n c0 c1 machine left kept held same =
      (0, ap (λ (c : ℕ). between n c machine left kept held) same, not_grown n)

  -- the machine is told a length, and then frames come
  pub round_noted : (c1 c2 : ℕ) (old told new : M) (bytes : ℕ) (had left kept keeps held holds : Known) (r : Result Bool ServeError)
      → notes old bytes told → ServesSome handles notes c1 c2 told new had left kept keeps held holds r
      → ServesSome handles notes c1 c2 old new had left kept keeps held holds r
  round_noted c1 c2 old told new bytes had left kept keeps held holds r noted p =
      serves_then handles notes c1 c1 c2 old told new had had left kept kept keeps held held holds r
      (serves_note handles notes c1 old told bytes had kept held noted) p

  -- one more round, behind which the chain has another name
  pub gone_on : (first : BetweenRounds M) (n1 n2 c1 c2 c3 : ℕ) (old told new : M) (bytes : ℕ)
      (had left kept keeps held holds : Known) → ComesToRound handles notes first (between n1 c1 old had kept held)
      → notes old bytes told → ServesSome handles notes c1 c2 told new had left kept keeps held holds (Ok true)
      → HasLengthened kept keeps n1 n2 → c2 ≡ c3
      → (count : ℕ) × GoesRounds handles notes first.length count first (between n2 c3 new left keeps holds)
  gone_on first n1 n2 c1 c2 c3 old told new bytes had left kept keeps held holds (count, gone, short) noted p longer same = (
    suc count,
    (
      between n1 c1 old had kept held,
      gone,
      short,
      (
        serves_behind handles notes c1 c2 c3 old new had left kept keeps held holds (Ok true) same
            (round_noted c1 c2 old told new bytes had left kept keeps held holds (Ok true) noted p),
        longer,
      ),
    ),
  )

  -- the same, and then one more is to begin
  pub comes_on : (first : BetweenRounds M) (n1 n2 c1 c2 c3 : ℕ) (old told new : M) (bytes : ℕ)
      (had left kept keeps held holds : Known) → ComesToRound handles notes first (between n1 c1 old had kept held)
      → notes old bytes told → ServesSome handles notes c1 c2 told new had left kept keeps held holds (Ok true)
      → HasLengthened kept keeps n1 n2 → c2 ≡ c3 → (HasGrown first.length n2 → ⊥)
      → ComesToRound handles notes first (between n2 c3 new left keeps holds)
  comes_on first n1 n2 c1 c2 c3 old told new bytes had left kept keeps held holds before noted p longer same short =
      let gone = gone_on first n1 n2 c1 c2 c3 old told new bytes had left kept keeps held holds before noted p longer same in
      (gone.0, gone.1, short)

  -- the loop stops between two rounds
  pub stops_idle : (chain : ℕ) (machine : M) (left kept held : Known) (error : ServeError)
      → ((bytes : List ℕ) → StopsServing error bytes) → StopsEarly handles notes chain machine left kept kept held held error
  stops_idle chain machine left kept held error any =
      serves_idle handles notes chain chain machine machine left left kept kept held held error any
      (serves_none handles notes chain machine left kept held)
