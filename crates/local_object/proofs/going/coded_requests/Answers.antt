use Rattle.std.proofs.Common.{Option, ap, sym, ◌∙◌}
use Rattle.std.proofs.lemmas.Result.{IfOk-weaker}
use Rattle.encoder.specs.Coded.{Coding}
use Rattle.record.specs.Sending.{requests}
use Rattle.call.specs.Pieces.{piece_from}
use Rattle.local_object.proofs.SentLemmas.{requests_same}
use Rattle.local_object.proofs.going.coded_requests.Goals as goal

pub returns-clause-requests : goal.returns-clause-requests
returns-clause-requests c =
    let ask = c.args.ask in
    let members = c.args.layout.now.members in
    let same = ap (λ (o : Option Coding). requests ask.call ask.number ask.kind ask.position members 0 (piece_from o))
    (c.as_ref.ensures.value ∙ c.in_ok-coded.ensures.coded)
    ∙ requests_same ask.call ask.number ask.position ask.kind c.args.layout.now c.args.call.now members 0 in
    IfOk-weaker c.requests.result _ _ (λ _ p. p ∙ same) (c.requests.ensures.requests members (sym c.n.ensures.value))
