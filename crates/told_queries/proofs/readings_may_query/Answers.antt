use Rattle.told_queries.proofs.FinalCourseLemmas.{may_query}
use Rattle.told_queries.proofs.readings_may_query.Goals as goal

pub returns : goal.returns
returns c = may_query
