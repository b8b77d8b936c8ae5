-- The contracts that docs/trusted.md lists do not depend on this file; other contracts and proofs do.
-- What a round of the driver does.
use Rattle.std.specs.Prelude.{◌≡◌, ◌≢◌, ℕ, pred, Bool, true, false, List, Some, None}
use Rattle.encoder.specs.Coded.{IsCodable}
use Rattle.piece.specs.declared.piece.Piece.{Piece}
use Rattle.decoder.specs.Pieces.{IsInterpolated}
use Rattle.record.specs.Steps.{Step}
use Rattle.record.specs.declared.stage.Want.TheVariants as want
use Rattle.register.specs.Causes.{supplying_cause}
use Rattle.register.specs.View.{coding_at, fetched_pieces}
use Rattle.cluster.specs.Cluster.{Cluster, if_named}
use Rattle.cluster.specs.Causes.{next, object_cause}
use Rattle.cluster.specs.Preconditions.{MayMake}
use Rattle.cluster.specs.Steps.{with_step}
use Rattle.driver.specs.declared.round.Round.{Round}
use Rattle.driver.specs.declared.round.Round.TheVariants as round
use Rattle.driver.specs.Coding.{settling_cause, GiveBack}
use Rattle.driver.specs.Driver.{wanted, IsDue, IsTurn, IsAnswerTurn}

-- this is the value that the call is to send, with its k and n; it can be encoded, and nothing refuses the supply
pub record IsToEncode (cluster : Cluster) (name : List ℕ) (call k n : ℕ) (value : List ℕ) : Type 0 where
  pub sent : if_named cluster name (λ object. coding_at object call) ≡ Some (value, k, n)
  pub lawful : IsCodable k n value
  pub room : object_cause cluster name (λ object. supplying_cause (next cluster) object call) ≡ None

-- the round hands out the value that the call is to send
abbrev pub HandsOutValue : Cluster → (name : List ℕ) → (call : ℕ) → Round → Type 0
HandsOutValue cluster name call (round.Encode value k n) = IsToEncode cluster name call k n value
HandsOutValue cluster name call _ = ⊥

-- these are the pieces that the call is to decode; some value has them, and nothing refuses the settle
pub record IsToDecode (cluster : Cluster) (name : List ℕ) (call k len : ℕ) (pieces : List Piece) : Type 0 where
  pub wants : wanted cluster name call ≡ Some (want.Settle k len)
  pub taken : if_named cluster name (λ object. Some (fetched_pieces object call)) ≡ Some pieces
  pub give : GiveBack k len pieces
  pub room : object_cause cluster name (λ object. settling_cause (next cluster) object call) ≡ None

-- the call settles the value that its own pieces give, and the record says that this step may be made
pub record SettlesOwn (old : Cluster) (name : List ℕ) (call : ℕ) (new : Cluster) : Type 0 where
  pub k : ℕ
  pub len : ℕ
  pub wants : wanted old name call ≡ Some (want.Settle k len)
  pub pieces : List Piece
  pub taken : if_named old name (λ object. Some (fetched_pieces object call)) ≡ Some pieces
  pub value : List ℕ
  pub given : IsInterpolated k len pieces value
  pub may : MayMake old name (Step.Settle (pred call) value)
  pub made : new ≡ with_step old name (Step.Settle (pred call) value)

module _ {C : Type 0} (chooses : C → ℕ → ℕ → C → Type 0) (name : List ℕ) (call : ℕ) where
  -- a round is a turn, or it changes nothing and hands out a value to encode or pieces to decode
  abbrev pub MakesRound : (again : Bool) → (old : Cluster) → (before : C) → (new : Cluster) → (after : C) → Round
      → Type 0
  MakesRound again old before new after round.Stepped =
      IsTurn chooses name call again old before new after × (wanted old name call ≢ Some want.Answer)
  MakesRound again old before new after (round.Encode value k n) =
      (new ≡ old) × (after ≡ before) × IsDue chooses name call old again before before (Step.Supply (pred call))
      × IsToEncode old name call k n value
  MakesRound again old before new after (round.Decode pieces k len) =
      (new ≡ old) × (after ≡ before) × IsToDecode old name call k len pieces.items
  MakesRound again old before new after (round.Answered receipt) =
      IsAnswerTurn chooses name call again old before new after receipt
  MakesRound again old before new after round.Late = ⊥

  -- the round of a call that wants replies or to advance, or nothing, if the call wants something else
  abbrev pub MakesStep : (old : Cluster) → (before : C) → (new : Cluster) → (after : C) → (is_made : Bool) → Type 0
  MakesStep old before new after true = MakesRound false old before new after round.Stepped
  MakesStep old before new after false =
      (new ≡ old) × (after ≡ before) × (wanted old name call ≢ Some want.Replies)
      × (wanted old name call ≢ Some want.Advance)
