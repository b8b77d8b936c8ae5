-- Replies that the network invented, and a read that misses a write.
use Rattle.std.proofs.Common.{List, [], ◌∷◌, ◌++◌, inl, refl}
use Rattle.network.specs.Worlds.{World}
use Rattle.network.specs.Events.{Event, happens, world_after}
use Rattle.network.specs.Premises.{MayHappenInTurn}
use Rattle.example_tests.specs.RecordExamples.{whole}
use Rattle.example_tests.specs.Scripts.{start}
use Rattle.example_tests.specs.Forgetting.{write_to_two}
use Rattle.example_tests.specs.Inventing.{MayRunInventing, invented_asked, invented_settled, invented_ended, inventing}
use Rattle.example_tests.proofs.EventRunLemmas.{empty_is_value, fetched_once, other_id, ready, ready_settled}
use Rattle.example_tests.proofs.WriteLemmas.{writes}

-- what may happen where the network invents no message may happen where it may
may_inventing : (events : List Event) (world : World) → MayHappenInTurn whole events world → MayRunInventing whole events world
may_inventing [] world may = tt
may_inventing (event ∷ events) world may =
    (may.0, record { log = may.1.log; ids = may.1.ids }, may_inventing events (happens whole world event) may.2)

inventing_append : (first second : List Event) (world : World) → MayRunInventing whole first world →
    MayRunInventing whole second (world_after whole first world) → MayRunInventing whole (first ++ second) world
inventing_append [] second world a b = b
inventing_append (event ∷ first) second world a b =
    (a.0, a.1, inventing_append first second (happens whole world event) a.2 b)

abbrev after_write : World
after_write = world_after whole write_to_two start

abbrev after_query : World
after_query = world_after whole invented_asked after_write

abbrev after_fetch : World
after_fetch = world_after whole invented_settled after_query

reads : MayRunInventing whole invented_asked after_write
reads = (
  tt,
  record { log = tt; ids = other_id },
  (
    (_, _, refl),
    record { log = tt; ids = tt },
    (
      (_, _, refl),
      record { log = tt; ids = tt },
      (
        (_, refl, inl (ready _ refl refl, refl)),
        record { log = tt; ids = tt },
        (
          (_, _, refl),
          record { log = tt; ids = tt },
          ((_, _, refl), record { log = tt; ids = tt }, tt),
        ),
      ),
    ),
  ),
)

settles : MayRunInventing whole invented_settled after_query
settles = (
  (_, refl, inl (ready _ refl refl, refl)),
  record { log = tt; ids = tt },
  (
    (_, _, refl),
    record { log = tt; ids = tt },
    (
      (_, _, refl),
      record { log = tt; ids = tt },
      (
        (_, refl, fetched_once 0 refl (_, refl) refl refl refl refl empty_is_value),
        record { log = tt; ids = tt },
        tt,
      ),
    ),
  ),
)

read_ends : MayRunInventing whole invented_ended after_fetch
read_ends = (
  (_, refl, inl (ready_settled _ refl refl, refl)),
  record { log = tt; ids = tt },
  (
    (_, _, refl),
    record { log = tt; ids = tt },
    (
      (_, _, refl),
      record { log = tt; ids = tt },
      ((_, refl, ready _ refl refl, refl), record { log = tt; ids = tt }, tt),
    ),
  ),
)

pub every_event : MayRunInventing whole inventing start
every_event =
    inventing_append write_to_two (invented_asked ++ (invented_settled ++ invented_ended)) start
    (may_inventing write_to_two start writes)
    (inventing_append invented_asked (invented_settled ++ invented_ended) after_write reads
    (inventing_append invented_settled invented_ended after_query settles read_ends))
