use Rattle.std.proofs.Common.{rules}
use Rattle.node_store.proofs.rewriting.is_worth_rewriting.Goals as goal

pub returns-then-length-ge-SPARED_BYTES : goal.returns-then-length-ge-SPARED_BYTES
returns-then-length-ge-SPARED_BYTES c = search rules
