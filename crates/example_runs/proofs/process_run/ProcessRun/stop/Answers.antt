use Rattle.std.proofs.Common.{◌<◌, length, refl, arith}
use Rattle.std.proofs.lemmas.Option.{slice_get_read}
use Rattle.example_runs.proofs.StepLemmas.{reached_on, stopped_in, stopped_leads}
use Rattle.example_runs.proofs.process_run.ProcessRun.stop.Goals as goal

pub returns-clause-does : goal.returns-clause-does
returns-clause-does c =
    let run = c.args.self.now in
    let within : c.args.number < length run.members.items = omega (arith, c.len.ensures, c.if-place-len.false, run.members.ok.0) in
    let at = slice_get_read run.members.items (length run.members.items) c.args.number c.index_mut-member.result.now refl within
    c.index_mut-member.ensures.value in
    stopped_in c.args.number run c.index_mut-member.result.now at

pub returns-clause-leads : goal.returns-clause-leads
returns-clause-leads c = stopped_leads c.args.number c.args.self.now _ (returns-clause-does c)

pub returns-clause-reached : goal.returns-clause-reached
returns-clause-reached c = reached_on c.args.self.now _ (returns-clause-leads c)
