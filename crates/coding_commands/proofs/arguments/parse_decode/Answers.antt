use Rattle.std.proofs.Common.{arith}
use Rattle.coding_commands.proofs.CommandWordLemmas.{ParsesToCoding-two}
use Rattle.coding_commands.proofs.arguments.parse_decode.Goals as goal

pub returns-in-len2-up : goal.returns-in-len2-up
returns-in-len2-up c = ParsesToCoding-two c.args.words.now _ c.decode_request.result (omega arith) c.decode_request.ensures
