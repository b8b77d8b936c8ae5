-- The plain answer to a command, where the command is no call.
use Rattle.std.proofs.Common.{◌≡◌, ℕ, List, Ok, refl}
use Rattle.cluster_file.specs.File.{FileContents}
use Rattle.client_commands.specs.declared.answer.Answer.{Answer}
use Rattle.client_commands.specs.declared.command.Command.{Command}
use Rattle.client_commands.specs.declared.command.Command.TheVariants as ask
use Rattle.client_commands.specs.declared.command.Wanted.{Wanted}
use Rattle.client_commands.specs.Deletion.{Deletion}
use Rattle.layout.specs.Layout.{Layout}
use Rattle.node_keeper.specs.declared.keeper.Keeper.{Keeper}
use Rattle.node_clients.specs.declared.counts.Counts.{Counts}
use Rattle.node.specs.AtOnce.{IsPlainHere, IsReplyHere}
use Rattle.node.specs.Replies.{IsPlainReply, IsReplyTo}
use Rattle.node.specs.declared.peers.Peers.{Peers}

-- the plain answer to a command that is no call and no QUIT
pub plain_is_reply : (number : ℕ) (file : FileContents) (client : ℕ) (command : Command) (answer : Answer) →
    ((wanted : Wanted) (name : List ℕ) → command ≡ ask.Read wanted name → ⊥) → ((name value : List ℕ) → command ≡ ask.Set name value → ⊥) →
    ((name : List ℕ) (layout : Layout) → command ≡ ask.Move name layout → ⊥) →
    ((deletion : Deletion) → command ≡ ask.Delete deletion → ⊥) → (command ≡ ask.Quit → ⊥) →
    IsPlainReply client command answer → IsReplyTo number file client (Ok command) answer
plain_is_reply number file client (ask.Read wanted name) answer get set move delete quit is = absurd (get wanted name refl)
plain_is_reply number file client (ask.Set name value) answer get set move delete quit is = absurd (set name value refl)
plain_is_reply number file client (ask.Move name layout) answer get set move delete quit is = absurd (move name layout refl)
plain_is_reply number file client (ask.Delete deletion) answer get set move delete quit is = absurd (delete deletion refl)
plain_is_reply number file client (ask.Info sections) answer get set move delete quit is = is
plain_is_reply number file client ask.CountWritten answer get set move delete quit is = is
plain_is_reply number file client (ask.ShowLayout name) answer get set move delete quit is = is
plain_is_reply number file client (ask.Scan cursor options) answer get set move delete quit is = is
plain_is_reply number file client (ask.Ping text) answer get set move delete quit is = is
plain_is_reply number file client (ask.Echo text) answer get set move delete quit is = is
plain_is_reply number file client ask.ListCommands answer get set move delete quit is = is
plain_is_reply number file client ask.ClientId answer get set move delete quit is = is
plain_is_reply number file client ask.DescribeClient answer get set move delete quit is = is
plain_is_reply number file client ask.CountCommands answer get set move delete quit is = is
plain_is_reply number file client ask.ClientName answer get set move delete quit is = is
plain_is_reply number file client ask.Hello answer get set move delete quit is = is
plain_is_reply number file client ask.Select answer get set move delete quit is = is
plain_is_reply number file client ask.Login answer get set move delete quit is = is
plain_is_reply number file client ask.Quit answer get set move delete quit is = absurd (quit refl)

-- the plain answer to a command that is no call, as what it tells of this node
pub plain_is_here : (keeper : Keeper) (peers : Peers) (calls : ℕ) (counts : Counts) (command : Command) (answer : Answer) →
    ((wanted : Wanted) (name : List ℕ) → command ≡ ask.Read wanted name → ⊥) → ((name value : List ℕ) → command ≡ ask.Set name value → ⊥) →
    ((name : List ℕ) (layout : Layout) → command ≡ ask.Move name layout → ⊥) →
    ((deletion : Deletion) → command ≡ ask.Delete deletion → ⊥) →
    IsPlainHere keeper peers calls counts command answer → IsReplyHere keeper peers calls counts (Ok command) answer
plain_is_here keeper peers calls counts (ask.Read wanted name) answer get set move delete is = absurd (get wanted name refl)
plain_is_here keeper peers calls counts (ask.Set name value) answer get set move delete is = absurd (set name value refl)
plain_is_here keeper peers calls counts (ask.Move name layout) answer get set move delete is = absurd (move name layout refl)
plain_is_here keeper peers calls counts (ask.Delete deletion) answer get set move delete is = absurd (delete deletion refl)
plain_is_here keeper peers calls counts (ask.Info sections) answer get set move delete is = is
plain_is_here keeper peers calls counts ask.CountWritten answer get set move delete is = is
plain_is_here keeper peers calls counts (ask.ShowLayout name) answer get set move delete is = is
plain_is_here keeper peers calls counts (ask.Scan cursor options) answer get set move delete is = is
plain_is_here keeper peers calls counts (ask.Ping text) answer get set move delete is = tt
plain_is_here keeper peers calls counts (ask.Echo text) answer get set move delete is = tt
plain_is_here keeper peers calls counts ask.ListCommands answer get set move delete is = tt
plain_is_here keeper peers calls counts ask.ClientId answer get set move delete is = tt
plain_is_here keeper peers calls counts ask.DescribeClient answer get set move delete is = tt
plain_is_here keeper peers calls counts ask.CountCommands answer get set move delete is = tt
plain_is_here keeper peers calls counts ask.ClientName answer get set move delete is = tt
plain_is_here keeper peers calls counts ask.Hello answer get set move delete is = tt
plain_is_here keeper peers calls counts ask.Select answer get set move delete is = tt
plain_is_here keeper peers calls counts ask.Login answer get set move delete is = tt
plain_is_here keeper peers calls counts ask.Quit answer get set move delete is = tt
