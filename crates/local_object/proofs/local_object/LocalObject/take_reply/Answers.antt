use Rattle.std.proofs.lemmas.Result.{on_ok_weaker}
use Rattle.local_object.proofs.TakeLemmas.{take_by}
use Rattle.local_object.proofs.local_object.LocalObject.take_reply.Goals as goal

pub returns-clause-done : goal.returns-clause-done
returns-clause-done c =
    on_ok_weaker c.take_message.result
    (λ taken. take_by c.args.self.now c.args.letter c.learn.new.self c.take_message.new.self c.requires c.in_ok-learn.ensures.learnt
    taken)
    c.take_message.ensures.taken
