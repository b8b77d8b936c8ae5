use Rattle.std.proofs.Common.{◌<◌, length, refl, subst, arith}
use Rattle.std.proofs.lemmas.Option.{slice_get_read}
use Rattle.example_runs.specs.Steps.{IsFoundFor}
use Rattle.example_runs.proofs.HandledStepLemmas.{from_node}
use Rattle.example_runs.proofs.StepLemmas.{stays_leads}
use Rattle.example_runs.proofs.process_run.ProcessRun.carry.Goals as goal

pub handle-requires : goal.handle-requires
handle-requires c =
    let all = c.args.self.now.sent in
    let sent = c.index-sent.result.now in
    let within : c.args.place < length all.items = omega (arith, c.len.ensures, c.if-place-len.false, all.ok.0) in
    from_node c.args.number c.args.place sent all.items c.in-Some.frame
    (slice_get_read all.items (length all.items) c.args.place sent refl within c.index-sent.ensures)
    (subst (IsFoundFor c.args.number sent) c.in-Some.is c.in_ok-frame.ensures)

pub returns-in-None-clause-leads : goal.returns-in-None-clause-leads
returns-in-None-clause-leads c = stays_leads c.args.self.now

pub returns-in_ok-handle-in-Some-clause-does : goal.returns-in_ok-handle-in-Some-clause-does
returns-in_ok-handle-in-Some-clause-does c =
    let all = c.args.self.now.sent in
    let sent = c.index-sent.result.now in
    let within : c.args.place < length all.items = omega (arith, c.len.ensures, c.if-place-len.false, all.ok.0) in (
      sent,
      c.in-Some.frame,
      slice_get_read all.items (length all.items) c.args.place sent refl within c.index-sent.ensures,
      subst (IsFoundFor c.args.number sent) c.in-Some.is c.in_ok-frame.ensures,
      c.in_ok-handle-in-Some.ensures.does,
    )

pub returns-in-None-clause-does : goal.returns-in-None-clause-does
returns-in-None-clause-does c =
    let all = c.args.self.now.sent in
    let sent = c.index-sent.result.now in
    let within : c.args.place < length all.items = omega (arith, c.len.ensures, c.if-place-len.false, all.ok.0) in (
      sent,
      slice_get_read all.items (length all.items) c.args.place sent refl within c.index-sent.ensures,
      subst (IsFoundFor c.args.number sent) c.in-None.is c.in_ok-frame.ensures,
      refl,
    )
