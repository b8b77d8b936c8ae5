-- What each world that is reached promises holds of all nodes.
use Rattle.std.proofs.Common.{subst}
use Rattle.record.specs.Fragments.{Code}
use Rattle.atomicity.specs.Atomic.{IsAtomic}
use Rattle.told_replies.specs.Tellings.{world_of}
use Rattle.told_queries.specs.Courses.{run_of}
use Rattle.told_replies.proofs.EarlyHistoryLemmas.{early_atomic}
use Rattle.refinement.specs.Laws.{SystemsAreAtomic, SystemsHaveWorlds}
use Rattle.refinement.specs.Systems.{IsReachedSystem, System}
use Rattle.refinement.proofs.EarlyRunLemmas.{is_reached}
use Rattle.refinement.proofs.SystemLemmas.{from_opened}
use Rattle.refinement.proofs.SystemPremiseLemmas.{HasRun}

-- the course of nodes that are reached
pub reached_with : (fragment : Code) (system : System) → IsReachedSystem fragment system → HasRun fragment system
reached_with fragment system reached =
    subst (HasRun fragment) reached.result
    (from_opened reached.files reached.one fragment reached.events reached.lawful reached.may)

pub have_worlds : SystemsHaveWorlds
have_worlds fragment system reached =
    let has = reached_with fragment system reached in (has.course, has.answers, has.reached, has.is)

pub atomic_systems : SystemsAreAtomic
atomic_systems fragment system code reached =
    let has = reached_with fragment system reached in
    subst IsAtomic has.is.early.same
    (early_atomic fragment (world_of fragment (run_of has.course)) code (is_reached fragment has.course has.reached) has.answers
    has.is.early.early)
