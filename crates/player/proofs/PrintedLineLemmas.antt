-- What a command prints, from what its line's own print says.
use Rattle.std.proofs.Common.{◌≡◌, List, ℕ, Option, Some, None, Result, Ok, Err, ap, subst}
use Rattle.std.specs.Prelude.{option_map}
use Rattle.record.specs.Records.{Object}
use Rattle.register.specs.State.{State}
use Rattle.cluster.specs.Cluster.{if_some}
use Rattle.std.specs.Io.KnownBytes.{Appends}
use Rattle.player.specs.declared.player.Stop.{Stop}
use Rattle.player.specs.declared.player.Stop.TheVariants as stop
use Rattle.player.specs.Play.{Prints}
use Rattle.words.specs.Written.{Written}

-- this text was printed, or lost, where it is one that may be printed
pub prints_as : (old new : Written) (Is : List ℕ → Type 0) (Bad : Type 0) (r : Result Unit Stop) (text : List ℕ) → Is text
    → Prints old new (λ t. t ≡ text) ⊥ r → Prints old new Is Bad r
prints_as old new Is Bad (Ok x) text is printed = (text, is, subst (Appends old new) printed.1 printed.2)
prints_as old new Is Bad (Err stop.Bad) text is printed = absurd printed.0
prints_as old new Is Bad (Err stop.NoMemory) text is printed = (text, is)
prints_as old new Is Bad (Err stop.OutputLost) text is printed = (text, is)

-- what is read of an object, in another form
pub read_as : {X Y : Type 0} (found : Option State) (read : Object → X) (form : X → Y) (x : X) →
    if_some found (λ object. Some (read object)) ≡ Some x → if_some found (λ object. Some (form (read object))) ≡ Some (form x)
read_as None read form x e = ap (option_map form) e
read_as (Some state) read form x e = ap (option_map form) e
