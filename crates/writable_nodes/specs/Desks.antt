-- The contracts that docs/trusted.md lists do not depend on this file; other contracts and proofs do.
-- What leaves the names at a desk short.
use Rattle.std.specs.Prelude.{ℕ, List, Option}
use Rattle.std.specs.List.{AllByRecursion}
use Rattle.node.specs.FitDesks.{IsFitDesk, IsFitService}
use Rattle.node_clients.specs.Served.{AreServicesDone}
use Rattle.node_clients.specs.Services.{Service}
use Rattle.node_clients.specs.declared.desk.Desk.{Desk}

-- The law

-- a desk stays so, whatever is done for clients, if the commands that come are so
abbrev pub DesksStayFit : Type 0
DesksStayFit = (ticks : ℕ) (delta : Option ℕ) (old new : Desk) (services : List Service) → IsFitDesk old →
    AllByRecursion IsFitService services → AreServicesDone ticks delta old services new → IsFitDesk new
