use Rattle.std.proofs.Common.{arith}
use Rattle.node_strings.proofs.NumberLemmas.{is_found, is_only}
use Rattle.node_strings.proofs.number.read_number.Goals as goal

pub returns-clause-found : goal.returns-clause-found
returns-clause-found g c =
    is_found c.args.bad c.args.above c.args.most c.args.bytes.now c.read_bytes.result (omega arith) (omega arith) c.read_bytes.ensures.exact

pub returns-clause-only : goal.returns-clause-only
returns-clause-only g c =
    is_only c.args.bad c.args.above c.args.most c.args.bytes.now c.read_bytes.result (omega arith) c.read_bytes.ensures.exact
