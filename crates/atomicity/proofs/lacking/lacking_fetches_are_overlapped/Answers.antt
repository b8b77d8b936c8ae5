use Rattle.atomicity.proofs.Overlapping.OverlappingWriteLemmas.{lacking_overlapped}
use Rattle.atomicity.proofs.lacking.lacking_fetches_are_overlapped.Goals as goal

pub returns : goal.returns
returns c = λ fragment object last index place end call phase tag sound lacking.
    lacking_overlapped fragment object last sound index place end call phase tag lacking
