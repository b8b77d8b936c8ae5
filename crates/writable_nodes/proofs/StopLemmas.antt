-- At a frame of bytes a fit node stops only at a plain answer.
use Rattle.std.proofs.Common.{inl, inr}
use Rattle.node.proofs.FitComingLemmas.{came_in_bytes}
use Rattle.writable_nodes.specs.Laws.{FitNodesStopAtAnswers}
use Rattle.writable_nodes.proofs.FailureLemmas.{arrival_fit, step_fit}

pub stops_at_answers : FitNodesStopAtAnswers
stops_at_answers node frame fit is (inl fails) = inl (arrival_fit node frame fit is fails)
stops_at_answers node frame fit is (inr fails) =
    let stays = fails.fit (came_in_bytes frame is) fit in
    inr (record {
      middle = fails.middle;
      work = fails.work;
      acted = fails.acted;
      served = fails.served;
      long = step_fit fails.middle fails.work.own.items fails.work.due.items stays.fit stays.own fails.fails;
    })
