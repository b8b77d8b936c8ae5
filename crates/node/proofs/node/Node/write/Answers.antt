use Rattle.std.proofs.Common.{refl}
use Rattle.std.proofs.lemmas.Result.{on_ok_weaker}
use Rattle.node.proofs.TellLemmas.{acts_and_tells}
use Rattle.client_commands.specs.declared.command.Command.TheVariants as ask
use Rattle.node_keeper.specs.Beginning.{writing_call}
use Rattle.node.specs.declared.node.Node.{Node}
use Rattle.node.proofs.KeeperLemmas.{call_served}
use Rattle.node.proofs.node.Node.write.Goals as goal

pub returns-clause-acts : goal.returns-clause-acts
returns-clause-acts c =
    acts_and_tells c.wait.result c.args.self.now.keeper c.begin_write.new.self c.args.work.now c.begin_write.new.work c.wait.new.work
    c.in_ok-begun.ensures.acts c.wait.ensures.tells

pub returns-clause-serves : goal.returns-clause-serves
returns-clause-serves c =
    let old = c.args.self.now in
    let new : Node = record old { keeper = c.begin_write.new.self; desk = c.wait.new.desk } in
    on_ok_weaker c.wait.result
    (λ awaited next asks. call_served c.args.client next (ask.Set c.args.name c.args.value)
    (writing_call c.args.name c.args.value) old new c.args.work.now
    c.begin_write.new.work c.wait.new.work c.in_ok-begun.begun asks (λ id. refl) (λ local id why e. (local, id, why, e, refl)) tt
    (λ id why next e. (id, next, why, e, refl)) (λ id next e. (next, e)) refl
    c.in_ok-begun.ensures.begins awaited) c.wait.ensures.awaited
