-- What is read from the strings of a client's frame is a fault or a command whose names are short.
use Rattle.std.proofs.Common.{◌≡◌, ◌||◌, ◌<◌, ◌≤◌, ◌^◌, ℕ, Bool, true, false, List, [], ◌∷◌, length, Ok, Err, refl, subst, sym, arith}
use Rattle.std.specs.List.{AllByRecursion, list_any}
use Rattle.std.proofs.lemmas.Bool.{ltb-false}
use Rattle.client_commands.specs.Command.{AreNodes, AskFor}
use Rattle.client_commands.specs.Deleting.{AskToDelete, is_long}
use Rattle.client_commands.specs.Deletion.{Deletion}
use Rattle.client_commands.specs.Reading.{Found, command_at}
use Rattle.client_commands.specs.declared.command.Command.{Command}
use Rattle.client_commands.specs.declared.command.Command.TheVariants as ask
use Rattle.client_commands.proofs.CommandLemmas.{command_ok}
use Rattle.frames.specs.declared.limits.TheConstants.{MOST_STRINGS}
use Rattle.node_strings.specs.Strings.{Strings}
use Rattle.open_calls.proofs.ListLemmas.{all_weaker}
use Rattle.tag.specs.declared.limits.TheConstants.{LONGEST_NAME}
use Rattle.writable.specs.Keepers.{IsShortName}
use Rattle.node.specs.FitCommands.{IsFitCommand, IsFitDeletion, IsFitFound}

none_long : (names : Strings) → list_any is_long names ≡ false → AllByRecursion IsShortName names
none_long [] e = tt
none_long (name ∷ names) e = go (is_long name) refl (none_long names) e
  where
    go : (b : Bool) → is_long name ≡ b → (list_any is_long names ≡ false → AllByRecursion IsShortName names) →
        (b || list_any is_long names) ≡ false → IsShortName name × AllByRecursion IsShortName names
    go true t rest e = absurd (cc)
    go false t rest e = (ltb-false LONGEST_NAME (length name) t, rest e)

deletion_fit : (deletion : Deletion) (words : Strings) → length words ≤ 1024 → AskToDelete deletion words → IsFitDeletion deletion
deletion_fit deletion words few asks = subst IsFitDeletion (sym asks.0) (record {
  names = none_long words asks.2;
  count = omega (arith, few);
})

members_small : (members : List ℕ) → AreNodes members → AllByRecursion (λ member. member < 2 ^ 8) members
members_small members all =
    all_weaker (λ member. member ≤ 255) (λ member. member < 2 ^ 8) (λ member le. omega (arith, le)) members all

delete_fit : (strings : Strings) (deletion : Deletion) → length strings ≤ 1024 → AskFor strings (ask.Delete deletion) →
    IsFitDeletion deletion
delete_fit [] deletion few asks = absurd asks
delete_fit (word ∷ words) deletion few asks = deletion_fit deletion words (omega (arith, few)) asks.1

command_fit : (strings : Strings) (command : Command) → length strings ≤ 1024 → AskFor strings command → IsFitCommand command
command_fit strings (ask.Read wanted name) few asks = asks.1
command_fit strings (ask.Set name value) few asks = asks.1
command_fit strings (ask.Move name layout) few asks =
    (asks.1, record { lawful = asks.2; members = members_small layout.members asks.3 })
command_fit strings (ask.Info sections) few asks = tt
command_fit strings ask.CountWritten few asks = tt
command_fit strings (ask.ShowLayout name) few asks = tt
command_fit strings (ask.Scan cursor options) few asks = tt
command_fit strings (ask.Delete deletion) few asks = delete_fit strings deletion few asks
command_fit strings (ask.Ping text) few asks = tt
command_fit strings (ask.Echo text) few asks = tt
command_fit strings ask.ListCommands few asks = tt
command_fit strings ask.CountCommands few asks = tt
command_fit strings ask.ClientId few asks = tt
command_fit strings ask.DescribeClient few asks = tt
command_fit strings ask.ClientName few asks = tt
command_fit strings ask.Hello few asks = tt
command_fit strings ask.Select few asks = tt
command_fit strings ask.Login few asks = tt
command_fit strings ask.Quit few asks = tt

pub read_fit : (strings : Strings) → length strings ≤ MOST_STRINGS → IsFitFound (command_at strings)
read_fit strings few = go (command_at strings) refl
  where
    most : MOST_STRINGS ≡ 1024
    most = refl

    go : (found : Found) → command_at strings ≡ found → IsFitFound found
    go (Ok command) e = command_fit strings command (omega (arith, few, most)) (command_ok strings command e)
    go (Err fault) e = tt
