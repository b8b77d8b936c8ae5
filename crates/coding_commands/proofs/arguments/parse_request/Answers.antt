use Rattle.std.proofs.Common.{rules}
use Rattle.coding_commands.proofs.CommandWordLemmas.{ParsesToCoding-first}
use Rattle.coding_commands.proofs.arguments.parse_request.Goals as goal

pub returns-in-fragments : goal.returns-in-fragments
returns-in-fragments c =
    ParsesToCoding-first c.args.words.now c.in-Some.rest.now c.in-Some.command.now _ c.parse_fragments.result (search rules)
    c.in-fragments.is c.parse_fragments.ensures

pub returns-in-decode : goal.returns-in-decode
returns-in-decode c =
    ParsesToCoding-first c.args.words.now c.in-Some.rest.now c.in-Some.command.now _ c.parse_decode.result (search rules)
    c.in-decode.is c.parse_decode.ensures
