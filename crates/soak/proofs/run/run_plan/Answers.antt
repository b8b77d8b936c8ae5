use Rattle.soak_parts.specs.Setting.{setting}
use Rattle.soak.proofs.MadeCallLemmas.{summed_up, summed_up-receipts}
use Rattle.soak.proofs.run.run_plan.Goals as goal

pub returns-clause-closed : goal.returns-clause-closed
returns-clause-closed g c = summed_up setting c.args.plan _ _ c.of.result c.in_ok-closed.ensures c.of.ensures.summary

pub returns-clause-receipts : goal.returns-clause-receipts
returns-clause-receipts g c =
    summed_up-receipts setting c.args.plan _ _ c.of.result c.in_ok-closed.ensures c.of.ensures.summary
