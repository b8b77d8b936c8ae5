-- What is left of a client's command when a call of it has ended.
use Rattle.std.proofs.Common.{◌≡◌, ℕ, Option, None, Some, refl, sym, subst, ap, ◌∙◌}
use Rattle.std.proofs.lemmas.Option.{same_Some}
use Rattle.client_commands.specs.Deletion.{Deletion, left_over}
use Rattle.client_commands.specs.declared.command.Command.{Command}
use Rattle.client_commands.specs.declared.command.Command.TheVariants as ask
use Rattle.layout.specs.Layout.{Layout}
use Rattle.node_clients.specs.Calls.{deletes, rest_of}
use Rattle.node_clients.specs.Served.{call_begun}
use Rattle.node_clients.specs.declared.open_call.OpenCall.{OpenCall}
use Rattle.node_clients.specs.declared.rest.Rest.{Rest}
use Rattle.node_clients.specs.declared.rest.Rest.TheVariants as rests

-- what is left of a command when a call of it has ended: of a DEL what is left of it, and of a move the read of its object
abbrev pub IsLeftOf : (delta : Option ℕ) → Command → Rest → Type 0
IsLeftOf delta command (rests.Deletes rest) =
    (deletion : Deletion) × (command ≡ ask.Delete deletion) × (left_over delta deletion ≡ Some rest)
IsLeftOf delta command (rests.Confirms name) = (layout : Layout) × (command ≡ ask.Move name layout)

-- a call of which something is left is one of a DEL, or a move
pub left_of_command : (client : ℕ) (delta : Option ℕ) (command : Command) (call : OpenCall) (rest : Rest) →
    call_begun client command ≡ Some (record call { age = 0 }) → rest_of delta (Some call) ≡ Some rest → IsLeftOf delta command rest
left_of_command client delta command call rest begun left = go command (ap (rest_of delta) begun ∙ left)
  where
    nothing : (c : Command) → rest_of delta (call_begun client c) ≡ None → rest_of delta (call_begun client c) ≡ Some rest →
        IsLeftOf delta c rest
    nothing c none e = absurd (let wrong : None ≡ Some rest = sym none ∙ e in cc)

    of_deletion : (deletion : Deletion) (found : Option Deletion) → left_over delta deletion ≡ found → deletes found ≡ Some rest →
        IsLeftOf delta (ask.Delete deletion) rest
    of_deletion deletion None is e = absurd (cc)
    of_deletion deletion (Some more) is e =
        subst (λ r. IsLeftOf delta (ask.Delete deletion) r) (same_Some (rests.Deletes more) rest e) (deletion, refl, is)

    go : (c : Command) → rest_of delta (call_begun client c) ≡ Some rest → IsLeftOf delta c rest
    go (ask.Delete deletion) e = of_deletion deletion (left_over delta deletion) refl e
    go (ask.Move name layout) e =
        subst (λ r. IsLeftOf delta (ask.Move name layout) r) (same_Some (rests.Confirms name) rest e) (layout, refl)
    go (ask.Read wanted name) e = nothing (ask.Read wanted name) refl e
    go (ask.Set name value) e = nothing (ask.Set name value) refl e
    go (ask.Info sections) e = nothing (ask.Info sections) refl e
    go ask.CountWritten e = nothing ask.CountWritten refl e
    go (ask.ShowLayout name) e = nothing (ask.ShowLayout name) refl e
    go (ask.Scan cursor options) e = nothing (ask.Scan cursor options) refl e
    go (ask.Ping text) e = nothing (ask.Ping text) refl e
    go (ask.Echo text) e = nothing (ask.Echo text) refl e
    go ask.ListCommands e = nothing ask.ListCommands refl e
    go ask.CountCommands e = nothing ask.CountCommands refl e
    go ask.ClientId e = nothing ask.ClientId refl e
    go ask.DescribeClient e = nothing ask.DescribeClient refl e
    go ask.ClientName e = nothing ask.ClientName refl e
    go ask.Hello e = nothing ask.Hello refl e
    go ask.Select e = nothing ask.Select refl e
    go ask.Login e = nothing ask.Login refl e
    go ask.Quit e = nothing ask.Quit refl e
