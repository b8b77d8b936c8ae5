-- The loop has appended the requests for the rows that it has passed.
use Rattle.std.proofs.Common.{append_assoc, append-nil, arith}
use Rattle.std.proofs.lemmas.Map.Iter.{rest_more, rest_all}
use Rattle.object_letters.proofs.LeadingLemmas.{requests_lead}
use Rattle.object_letters.proofs.RequestSizeLemmas.{requests_size, requests_count}
use Rattle.object_letters.proofs.requests.requests_of.Goals as goal

pub loop-tag-init : goal.loop-tag-init
loop-tag-init c = grind arith

pub loop-tag-preserved : goal.loop-tag-preserved
loop-tag-preserved c = grind (arith, append_assoc, rest_more)

pub returns-clause-requests : goal.returns-clause-requests
returns-clause-requests c = grind (arith, append-nil, rest_all)

pub returns-clause-lead : goal.returns-clause-lead
returns-clause-lead c point reached = grind (arith, requests_lead, returns-clause-requests)

pub returns-clause-bytes : goal.returns-clause-bytes
returns-clause-bytes c = grind (arith, requests_size, returns-clause-requests)

pub returns-clause-count : goal.returns-clause-count
returns-clause-count c = grind (arith, requests_count, returns-clause-requests)
