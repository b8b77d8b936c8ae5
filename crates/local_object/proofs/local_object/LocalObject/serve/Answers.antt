use Rattle.std.proofs.Common.{rules, option_to_list, sym, ◌∙◌}
use Rattle.local_object.proofs.BeginLemmas.{ok_both}
use Rattle.local_object.proofs.ServeLemmas.{serve_done}
use Rattle.local_object.proofs.local_object.LocalObject.serve.Goals as goal

pub learn-requires : goal.learn-requires
learn-requires c = search rules

pub returns-then-is_served-clause-done : goal.returns-then-is_served-clause-done
returns-then-is_served-clause-done c =
    ok_both c.handle.result c.handle.ensures.local c.handle.ensures.sent
    (λ reply is sent. serve_done c.args.self.now c.args.letter c.learn.new.self c.handle.new.self (option_to_list reply)
    (sym c.if-is_served.true ∙ c.is_served.ensures) c.in_ok-learn.ensures.learnt is sent)
