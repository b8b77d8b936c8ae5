-- Turns of two runs that are alike, but for what is about one call.
use Rattle.std.proofs.Common.{◌≡◌, ℕ, List, [], ◌∷◌, length}
use Rattle.mail.specs.declared.message.Message.{Message}
use Rattle.network.specs.Worlds.{World}
use Rattle.network.specs.Events.{Event}
use Rattle.told_queries.specs.Courses.{AreWaits, Turn}

-- the other turn is about the same call, has as many events of each kind, and serves the same request if this one serves
-- one and does nothing else; if it is not about the call with this id, it keeps the same events in reserve, where these
-- change nothing
pub record IsAlike (id : ℕ) (turn other : Turn) : Type 0 where
  pub call : other.call ≡ turn.call
  pub acts : length other.acts ≡ length turn.acts
  pub spare : length other.spare ≡ length turn.spare
  pub serves : (message : Message) → turn.acts ≡ Event.Serve message ∷ [] → other.acts ≡ Event.Serve message ∷ []
  pub served : (message : Message) → other.acts ≡ Event.Serve message ∷ [] → turn.acts ≡ Event.Serve message ∷ []
  pub reserve : (turn.call ≡ id → ⊥) → (world : World) → AreWaits world turn.spare → other.spare ≡ turn.spare

-- so are all turns of two lists
abbrev pub AreAlike : (id : ℕ) → List Turn → List Turn → Type 0
AreAlike id [] [] = Unit {0}
AreAlike id (turn ∷ turns) (other ∷ others) = IsAlike id turn other × AreAlike id turns others
AreAlike id [] (other ∷ others) = ⊥
AreAlike id (turn ∷ turns) [] = ⊥
