use Rattle.std.proofs.Common.{arith}
use Rattle.coding_commands.proofs.CommandWordLemmas.{ParsesToCoding-three}
use Rattle.coding_commands.proofs.arguments.parse_fragments.Goals as goal

pub returns-in-len3 : goal.returns-in-len3
returns-in-len3 c =
    ParsesToCoding-three c.args.words.now _ c.fragments_request.result (omega arith) (omega arith) c.fragments_request.ensures
