use Rattle.std.proofs.Common.{rules}
use Rattle.driver.proofs.whole_call.finish_begun.Goals as goal

pub returns-in-Err : goal.returns-in-Err
returns-in-Err g c = search rules
