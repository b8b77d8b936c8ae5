-- What a node does with a message of another node, before it handles its letters to itself.
use Rattle.std.specs.Prelude.{◌≡◌, ℕ, Bool, true, false, List, Result, Ok, Err}
use Rattle.letter.specs.declared.letter.NamedLetter.{NamedLetter}
use Rattle.node_messages.specs.declared.error.Fault.{Fault}
use Rattle.node_messages.specs.declared.message.NodeMessage.{NodeMessage}
use Rattle.node_effects.specs.declared.output.Output.{Output}
use Rattle.node_effects.specs.declared.work.Work.{Work}
use Rattle.node_keeper.specs.Delivering.{DeliversLetter}
use Rattle.node_keeper.specs.declared.delivered.Delivered.{Delivered}
use Rattle.node_keeper.specs.declared.keeper.Keeper.{Keeper}
use Rattle.node.specs.Frames.{is_admitted}

-- the node did with a letter of the node of number `sender` exactly what `Keeper::deliver` says: it served the letter,
-- took it or dropped it; and these are the outputs before and after
pub record Hears (sender : ℕ) (it : NamedLetter) (old : Keeper) (before : List Output) (new : Keeper)
    (after : List Output) : Type 0 where
  pub first : Work
  pub then : Work
  pub result : Delivered
  pub delivers : DeliversLetter sender it old first new then result
  pub before_are : first.outputs.items ≡ before
  pub after_are : then.outputs.items ≡ after

-- the node keeps what it kept, and puts nothing out
abbrev pub HearsNothing : (old : Keeper) → (before : List Output) → (new : Keeper) → (after : List Output) → Type 0
HearsNothing old before new after = (new ≡ old) × (after ≡ before)

-- the node heard a letter of a message that is admitted, and nothing of one that is not
abbrev pub HearsIf : (admitted : Bool) → (sender : ℕ) → NamedLetter → (old : Keeper) → (before : List Output) →
    (new : Keeper) → (after : List Output) → Type 0
HearsIf true sender it old before new after = Hears sender it old before new after
HearsIf false sender it old before new after = HearsNothing old before new after

-- the node heard the letter of a message, if the message is admitted
abbrev pub HearsMessage : (sender : ℕ) → NodeMessage → (old : Keeper) → (before : List Output) → (new : Keeper) →
    (after : List Output) → Type 0
HearsMessage sender message old before new after =
    HearsIf (is_admitted old sender message) sender message.named old before new after

-- the node heard what was read, if it is a message that is admitted
abbrev pub HearsIfRead : (sender : ℕ) → Result NodeMessage Fault → (old : Keeper) → (before : List Output) →
    (new : Keeper) → (after : List Output) → Type 0
HearsIfRead sender (Ok message) old before new after = HearsMessage sender message old before new after
HearsIfRead sender (Err fault) old before new after = HearsNothing old before new after
