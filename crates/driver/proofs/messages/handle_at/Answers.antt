use Rattle.std.proofs.Common.{rules}
use Rattle.driver.proofs.messages.handle_at.Goals as goal

pub handle_as-requires-clause-request : goal.handle_as-requires-clause-request
handle_as-requires-clause-request c = search rules
