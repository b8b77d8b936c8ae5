-- The contracts that docs/trusted.md lists do not depend on this file; other contracts and proofs do.
-- How the store of a soak was closed, and what the summary is of.
use Rattle.std.specs.Prelude.{◌≡◌, ℕ, List}
use Rattle.std.specs.List.{AllByRecursion}
use Rattle.cluster.specs.Cluster.{Cluster}
use Rattle.locked_steps.specs.Closing.{Fit, IsAccounted, all_records, receipts_of}
use Rattle.locked_steps.specs.Course.{IsReachable}
use Rattle.locked_steps.specs.Moves.{AdminState}
use Rattle.locked_steps.specs.Seats.{SeatState}
use Rattle.soak.specs.Made.{HasMade, HasMoved}
use Rattle.soak_parts.specs.Summary.{IsSummaryOf}
use Rattle.soak_plan.specs.declared.plan.Plan.{Plan}
use Rattle.soak_parts.specs.declared.summary.Summary.{Summary}

-- a store was opened with `first`; each seat made the calls of the plan, and the administrator its moves and nothing
-- else; the store was closed with a seat for each client; steps had led from `first` to its cluster, whose reads and
-- writes are those that the seats recorded, each once; and the receipts are those of the seats
pub record IsClosed (first : Cluster) (plan : Plan) (cluster : Cluster) (receipts : ℕ) : Type 0 where
  pub seats : List SeatState
  pub admin : AdminState
  pub course : IsReachable first cluster
  pub fit : Fit plan.clients cluster seats
  pub made : AllByRecursion (HasMade first plan.calls) seats
  pub moved : HasMoved first plan.moves admin
  pub accounted : IsAccounted cluster seats
  pub counted : receipts ≡ receipts_of (all_records seats)

-- the summary is of the cluster and of the receipts of a store that was so opened, used and closed
pub record IsOfClosed (first : Cluster) (plan : Plan) (summary : Summary) : Type 0 where
  pub cluster : Cluster
  pub receipts : ℕ
  pub closed : IsClosed first plan cluster receipts
  pub sums_up : IsSummaryOf cluster receipts summary
