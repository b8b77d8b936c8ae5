use Rattle.std.proofs.Common.{OnOk, subst}
use Rattle.node_strings.specs.Strings.{Strings}
use Rattle.example_runs.specs.Steps.{IsHandledIn}
use Rattle.example_runs.proofs.process_run.ProcessRun.ask.Goals as goal

pub returns-clause-does : goal.returns-clause-does
returns-clause-does c =
    subst (λ (f : Strings). OnOk c.handle.result (IsHandledIn c.args.number f c.args.self.now c.handle.new.self))
    c.in_ok-frame.ensures.frame c.handle.ensures.does

pub handle-requires : goal.handle-requires
handle-requires c = c.in_ok-frame.ensures.comes c.args.self.now.sent.items c.args.number
