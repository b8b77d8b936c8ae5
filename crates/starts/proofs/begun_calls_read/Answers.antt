use Rattle.starts.proofs.BegunReadingLemmas.{begun_calls_reading}
use Rattle.starts.proofs.begun_calls_read.Goals as goal

pub returns : goal.returns
returns c = begun_calls_reading
