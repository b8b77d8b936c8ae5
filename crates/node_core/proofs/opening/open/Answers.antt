use Rattle.node_keeper.specs.Keeping.{names_of}
use Rattle.processes.specs.Programs.{IsNewAndIdle}
use Rattle.node_core.proofs.OpeningLemmas.{is_new_node, is_opened, is_unopened}
use Rattle.node_core.proofs.opening.open.Goals as goal

pub returns-clause-opened : goal.returns-clause-opened
returns-clause-opened c =
    let file = c.in-Ok.file in
    let is = c.in-Ok.ensures in
    let new : IsNewAndIdle (names_of file) c.args.number c.new.result = record {
      new = is_new_node c.args.text.now c.args.log.now c.args.number file is c.new.result c.new.ensures.kept c.new.ensures.calls;
      idle = c.new.ensures.waits;
    } in
    is_opened c.args.text.now c.args.log.now c.args.number file is c.open_with.result
    (c.open_with.ensures (names_of file) c.args.number new)

pub returns-clause-refused : goal.returns-clause-refused
returns-clause-refused c =
    let file = c.in-Ok.file in
    let is = c.in-Ok.ensures in
    let new : IsNewAndIdle (names_of file) c.args.number c.new.result = record {
      new = is_new_node c.args.text.now c.args.log.now c.args.number file is c.new.result c.new.ensures.kept c.new.ensures.calls;
      idle = c.new.ensures.waits;
    } in
    is_unopened c.args.text.now c.args.log.now c.args.number file is c.open_with.result
    (c.open_with.ensures (names_of file) c.args.number new)
