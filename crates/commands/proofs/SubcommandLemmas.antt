-- How the form of the command line grows.
use Rattle.std.proofs.Common.{◌≡◌, ap, ap₂, false, ◌∙◌}
use Rattle.std.specs.Prelude.{◌||◌}
use Rattle.clap.specs.Words.{AddsArg, AddsSubcommand, App, Rule, rule_of, with_rule, with_subcommand}
use Rattle.clap.specs.declared.builder.arg.Arg.{Arg}
use Rattle.clap.specs.declared.builder.command.Command.{Command}
use Rattle.commands.specs.CommandLine.{IsForm}

-- one more command
pub IsForm-subcommand : (old sub new : Command) (form inner : App) → IsForm old form → IsForm sub inner → AddsSubcommand old sub new
    → IsForm new (with_subcommand form inner.top)
IsForm-subcommand old sub new form inner is sub_is added = (
  added.shape sub_is.1 ∙ ap₂ with_subcommand is.0 (ap (λ (a : App). a.top) sub_is.0),
  added.globals ∙ ap₂ (λ p q. p || q) is.1 sub_is.1,
)

-- one more word
pub IsForm-rule : (old new : Command) (a : Arg) (form : App) (rule : Rule) → IsForm old form → rule_of a ≡ rule → a.global ≡ false
    → AddsArg old a new → IsForm new (with_rule form rule)
IsForm-rule old new a form rule is rule_is local added = (
  added.shape local ∙ ap₂ with_rule is.0 rule_is,
  added.globals ∙ ap₂ (λ p q. p || q) is.1 local,
)
