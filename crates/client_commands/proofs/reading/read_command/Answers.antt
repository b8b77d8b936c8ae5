use Rattle.std.proofs.Common.{ap, ◌∙◌}
use Rattle.client_commands.specs.Reading.{command_at}
use Rattle.client_commands.proofs.WrittenCommandLemmas.{is_found, is_only}
use Rattle.client_commands.proofs.reading.read_command.Goals as goal

pub returns-clause-found : goal.returns-clause-found
returns-clause-found c =
    is_found c.args.frame c.read_strings.result (c.read_strings.ensures ∙ ap command_at c.into_strings.ensures.strings)

pub returns-clause-only : goal.returns-clause-only
returns-clause-only c =
    is_only c.args.frame c.read_strings.result (c.read_strings.ensures ∙ ap command_at c.into_strings.ensures.strings)

pub returns-clause-exact : goal.returns-clause-exact
returns-clause-exact c = c.read_strings.ensures ∙ ap command_at c.into_strings.ensures.strings
