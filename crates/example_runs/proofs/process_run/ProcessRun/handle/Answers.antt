use Rattle.std.proofs.Common.{◌<◌, length, refl, arith}
use Rattle.std.proofs.lemmas.Option.{slice_get_read}
use Rattle.example_runs.proofs.HandledStepLemmas.{handled_in, handled_leads}
use Rattle.example_runs.proofs.StepLemmas.{on_ok, reached_on}
use Rattle.example_runs.proofs.process_run.ProcessRun.handle.Goals as goal

pub returns-clause-does : goal.returns-clause-does
returns-clause-does c =
    let run = c.args.self.now in
    let within : c.args.number < length run.members.items = omega (arith, c.len.ensures, c.if-place-len.false, run.members.ok.0) in
    let at = slice_get_read run.members.items (length run.members.items) c.args.number c.index_mut-member.result.now refl within
    c.index_mut-member.ensures.value in
    on_ok c.note_seen.result
    (handled_in c.args.number c.args.frame run _ c.index_mut-member.result.now c.handle.new.self c.carry_out.new.member
    c.in_ok-effects.effects at c.in_ok-effects.ensures c.in_ok-carry_out.ensures.grown refl refl c.in_ok-carry_out.ensures.sent)
    c.note_seen.ensures

pub returns-clause-leads : goal.returns-clause-leads
returns-clause-leads c =
    on_ok c.note_seen.result (handled_leads c.args.number c.args.frame c.args.self.now _ c.requires) (returns-clause-does c)

pub returns-clause-reached : goal.returns-clause-reached
returns-clause-reached c = on_ok c.note_seen.result (reached_on c.args.self.now _) (returns-clause-leads c)
