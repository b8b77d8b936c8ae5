use Rattle.std.proofs.Common.{◌<◌, ◌^◌, subst, arith}
use Rattle.std.proofs.lemmas.Result.{on_ok_weaker}
use Rattle.node_log.specs.Entry.{IsEntry}
use Rattle.node_strings.specs.Record.{record_strings}
use Rattle.node_strings.specs.declared.record.Record.{Record}
use Rattle.node_keeper.proofs.ReadLemmas.{move_read}
use Rattle.node_keeper.proofs.keeper.Keeper.log_move.Goals as goal

pub returns-clause-read : goal.returns-clause-read
returns-clause-read c =
    let range : c.args.id < 2 ^ 64 = omega arith in
    let entry = subst (λ (it : Record). IsEntry (record_strings it)) c.in_ok-move_record.ensures.made c.in_ok-log_record.ensures.writes in
    on_ok_weaker c.note.result
    (λ noted lawful. move_read c.args.self.now.digest c.args.name.now c.args.id c.args.layout
    (record { message = tt; entry = entry }) range lawful)
    c.note.ensures.grown
