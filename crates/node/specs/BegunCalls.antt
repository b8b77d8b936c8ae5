-- What a node puts out as a call of a client begins.
use Rattle.std.specs.Prelude.{◌≡◌, ⊤, ℕ, Bool, true, false, List, [], ◌++◌, Option, None, Some}
use Rattle.encoder.specs.Fragment.{fragment}
use Rattle.client_commands.specs.Deletion.{name_now}
use Rattle.client_commands.specs.declared.command.Command.{Command}
use Rattle.client_commands.specs.declared.command.Command.TheVariants as ask
use Rattle.client_commands.specs.declared.command.Wanted.{Wanted}
use Rattle.client_commands.specs.declared.command.Wanted.TheVariants as wants
use Rattle.local_object.specs.Events.{done_here}
use Rattle.node_clients.specs.Services.{Service}
use Rattle.node_effects.specs.declared.output.Output.{Output}
use Rattle.node_keeper.specs.Beginning.{Beginning, begun_growth, moving_call, reading_call, writing_call}
use Rattle.node_keeper.specs.Objects.{objects_of}
use Rattle.node_keeper.specs.declared.keeper.Keeper.{Keeper}
use Rattle.node_keeper.specs.declared.objects.Objects.{Objects}

-- whether nothing is wanted of a value that is read; no frame asks so, but the read with which a move ends does
abbrev pub wants_nothing : Wanted → Bool
wants_nothing wants.Nothing = true
wants_nothing wanted = false

-- the call that a command begins, if it begins one; a read of which nothing is wanted asks all nodes
abbrev pub call_of : Command → Option Beginning
call_of (ask.Read wanted name) = Some (reading_call name (wants_nothing wanted))
call_of (ask.Set name value) = Some (writing_call name value)
call_of (ask.Delete deletion) = Some (writing_call (name_now deletion) [])
call_of (ask.Move name layout) = Some (moving_call name layout)
call_of command = None

-- what a node puts out as a call begins with this id, if it keeps these objects then: the entry of the call, if it is a
-- move, and the frames of its first requests to other nodes
abbrev pub call_outputs : Keeper → Objects → Beginning → (id : ℕ) → List Output
call_outputs keeper objects call id =
    (begun_growth call id keeper (done_here fragment (objects_of objects call.name) (call.event id)).sent).outputs

-- among these outputs stand, one after another, those that the node puts out as a call begins with this id, by the
-- objects that it kept at some moment
pub record IsPutOut (keeper : Keeper) (call : Beginning) (id : ℕ) (outputs : List Output) : Type 0 where
  pub objects : Objects
  pub before : List Output
  pub after : List Output
  pub all : outputs ≡ before ++ (call_outputs keeper objects call id ++ after)

-- the same for a call, if there is one
abbrev pub IsPutOutIf : Keeper → Option Beginning → (id : ℕ) → (outputs : List Output) → Type 0
IsPutOutIf keeper None id outputs = ⊤
IsPutOutIf keeper (Some call) id outputs = IsPutOut keeper call id outputs

-- if a service begins the call of a command, all that the node puts out then is among these outputs
abbrev pub HasPutOut : Keeper → (outputs : List Output) → Service → Type 0
HasPutOut keeper outputs (Service.Begins client command id) = IsPutOutIf keeper (call_of command) id outputs
HasPutOut keeper outputs service = ⊤
