use Rattle.std.proofs.Common.{ap, subst, sym}
use Rattle.std.specs.List.{count_by}
use Rattle.indexmap.specs.IndexMap.{index_map_len, values}
use Rattle.client_commands.specs.declared.answer.Answer.TheVariants as answers
use Rattle.node.specs.AtOnce.{IsPlainHere}
use Rattle.node.specs.Info.{is_move_open}
use Rattle.node.proofs.node.Node.plain_answer.Goals as goal

pub returns-in-Info-clause-here : goal.returns-in-Info-clause-here
returns-in-Info-clause-here c =
    let desk = c.args.self.now.desk in
    subst (λ command. IsPlainHere c.args.self.now.keeper c.args.self.now.peers (index_map_len desk.calls) desk.counts command
    (answers.Value c.in_ok-info-in-Info.field-0)) (sym c.in-Info.is)
    (index_map_len desk.clients.by_number, count_by is_move_open (values desk.calls), ap answers.Value c.in_ok-info-in-Info.ensures.text)
