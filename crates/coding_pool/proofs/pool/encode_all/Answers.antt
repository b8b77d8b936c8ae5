use Rattle.std.proofs.Common.{rules}
use Rattle.coding_pool.proofs.pool.encode_all.Goals as goal

pub all_pieces-requires-clause-workers : goal.all_pieces-requires-clause-workers
all_pieces-requires-clause-workers g c = search rules

pub returns-then-workers-gt-MOST_WORKERS-clause-refused : goal.returns-then-workers-gt-MOST_WORKERS-clause-refused
returns-then-workers-gt-MOST_WORKERS-clause-refused g c = search rules

pub returns-then-workers-eq0-clause-coded : goal.returns-then-workers-eq0-clause-coded
returns-then-workers-eq0-clause-coded g c = search rules
