use Rattle.driver.proofs.LimitRefusalLemmas.{err_of}
use Rattle.std.proofs.Common.{◌∙◌}
use Rattle.driver.specs.Choices.{is_choice, request_at}
use Rattle.driver.proofs.HandlingRefusalLemmas.{chosen_refused, picked_within}
use Rattle.driver.proofs.NamedObjectLemmas.{read_there}
use Rattle.driver.proofs.messages.handle_chosen.Goals as goal

pub returns-in_err-handle_as-clause-refused : goal.returns-in_err-handle_as-clause-refused
returns-in_err-handle_as-clause-refused g c =
    err_of _ _ _ c.from_residual.ensures.1
    (chosen_refused g.C.Chooser.chooses c.args.name.now c.args.call c.args.cluster.now c.args.chooser.now c.chosen.new.chooser
    c.register_at-register.result.now c.in-Some.place _
    c.register_at-register.ensures c.requires.wanted c.in-Some.ensures c.in_err-handle_as.ensures.cause)

pub is_request_at-is_request-requires : goal.is_request_at-is_request-requires
is_request_at-is_request-requires g c =
    picked_within g.C.Chooser.chooses (is_choice c.args.cluster.now c.args.call c.register_at-register.result.now.object)
    c.register_at-register.result.now.object.mail c.args.chooser.now c.chosen.new.chooser c.in-Some.place c.in-Some.ensures

pub handle_as-requires : goal.handle_as-requires
handle_as-requires g c = record {
  request = read_there c.args.cluster.now c.args.name.now c.register_at-register.result.now (request_at c.in-Some.place)
      c.register_at-register.ensures
      ∙ c.is_request_at-is_request.ensures;
  placed = c.requires.placed;
}
