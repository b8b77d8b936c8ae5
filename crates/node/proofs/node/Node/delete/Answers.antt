use Rattle.std.proofs.Common.{[], ◌≡◌, Some, false, refl, subst}
use Rattle.std.proofs.lemmas.Result.{on_ok_weaker}
use Rattle.node.proofs.TellLemmas.{acts_and_tells}
use Rattle.client_commands.specs.Deletion.{name_now}
use Rattle.client_commands.specs.declared.command.Command.TheVariants as ask
use Rattle.client_commands.specs.declared.command.Wanted.TheVariants as wanted
use Rattle.node_clients.specs.declared.open_call.OpenCall.{OpenCall}
use Rattle.node_keeper.specs.Beginning.{BeginsCall, writing_call}
use Rattle.node.specs.Serving.{IsAwaited}
use Rattle.node.specs.declared.node.Node.{Node}
use Rattle.node.proofs.KeeperLemmas.{call_served}
use Rattle.node.proofs.node.Node.delete.Goals as goal

pub returns-clause-acts : goal.returns-clause-acts
returns-clause-acts c =
    acts_and_tells c.wait.result c.args.self.now.keeper c.begin_write.new.self c.args.work.now c.begin_write.new.work c.wait.new.work
    c.in_ok-begun.ensures.acts c.wait.ensures.tells

pub returns-clause-serves : goal.returns-clause-serves
returns-clause-serves c =
    let old = c.args.self.now in
    let new : Node = record old { keeper = c.begin_write.new.self; desk = c.wait.new.desk } in
    let deletion = c.args.deletion in
    let name : c.in_ok-name.name ≡ name_now deletion = c.in_ok-name.ensures in
    let begins = subst (λ n. BeginsCall (writing_call n []) old.keeper c.args.work.now c.begin_write.new.self c.begin_write.new.work
    c.in_ok-begun.begun) name
    (subst (λ v. BeginsCall (writing_call c.in_ok-name.name v) old.keeper c.args.work.now c.begin_write.new.self
    c.begin_write.new.work c.in_ok-begun.begun) c.new.ensures c.in_ok-begun.ensures.begins) in
    on_ok_weaker c.wait.result
    (λ awaited next asks. call_served c.args.client next (ask.Delete deletion) (writing_call (name_now deletion) []) old new
    c.args.work.now c.begin_write.new.work c.wait.new.work c.in_ok-begun.begun asks (λ id. refl)
    (λ local id why e. (local, id, why, e, refl)) tt (λ id why given e. (id, given, why, e, refl)) (λ id given e. (given, e)) refl
    begins
    (subst (λ n.
    let call : OpenCall = record {
      name = n;
      client = Some c.args.client;
      wanted = wanted.Value;
      is_move = false;
      age = 0;
      deletion = Some deletion;
    } in
    IsAwaited old.desk c.begin_write.new.work c.args.client (Some call) c.in_ok-begun.begun c.wait.new.desk c.wait.new.work) name
    awaited))
    c.wait.ensures.awaited
