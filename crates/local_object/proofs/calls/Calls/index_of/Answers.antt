use Rattle.std.proofs.Common.{List, ap, ◌∙◌, eqb}
use Rattle.std.specs.List.{position}
use Rattle.call.specs.Call.{OpenCall as Machine}
use Rattle.local_object.proofs.CarriedCallLemmas.{at_index}
use Rattle.local_object.proofs.calls.Calls.index_of.Goals as goal

pub returns-clause-index : goal.returns-clause-index
returns-clause-index c =
    at_index c.args.id c.args.self.now c.place_of.result
    (c.place_of.ensures
    ∙ ap (λ (calls : List Machine). position (λ (call : Machine). eqb call.id c.args.id) calls) (c.deref.ensures.value ∙ c.self.view_is))
