-- A write that takes a reply twice.
use Rattle.std.proofs.Common.{List, [], ◌∷◌, ◌++◌, inl, refl}
use Rattle.bank.specs.declared.reply.Answer.TheVariants.{Done, Pointer}
use Rattle.bank.specs.declared.status.Status.TheVariants.{Unset}
use Rattle.network.specs.Worlds.{World}
use Rattle.network.specs.Events.{Event, world_after}
use Rattle.network.specs.Premises.{MayHappenInTurn}
use Rattle.example_tests.specs.RecordExamples.{whole}
use Rattle.example_tests.specs.Scripts.{served, start, taken, to_keep}
use Rattle.example_tests.specs.NodeExamples.{write_asked, write_finalized, write_ended, until_taken, taken_twice}
use Rattle.example_tests.proofs.EventRunLemmas.{may_append, ready}
use Rattle.example_tests.proofs.PhaseLemmas.{by_two, call_ends, finalize, next}
use Rattle.example_tests.proofs.WriteLemmas.{after_asked, asks}

abbrev first_taken : List Event
first_taken = Event.Advance 7 ∷ served 7 3 0 to_keep 0 ∷ taken 7 3 0 to_keep 0 Done ∷ []

abbrev second_taken : List Event
second_taken = taken 7 3 0 to_keep 0 Done ∷ served 7 3 0 to_keep 1 ∷ taken 7 3 0 to_keep 1 Done ∷ []

abbrev after_first : World
after_first = world_after whole first_taken (after_asked 0)

abbrev after_second : World
after_second = world_after whole second_taken after_first

takes_first : MayHappenInTurn whole first_taken (after_asked 0)
takes_first = (
  (_, refl, inl (ready _ refl refl, refl)),
  record { network = tt; log = tt; ids = tt },
  (
    (_, refl),
    record { network = (10, refl); log = tt; ids = tt },
    ((_, _, refl), record { network = (13, refl); log = tt; ids = tt }, tt),
  ),
)

takes_second : MayHappenInTurn whole second_taken after_first
takes_second = (
  (_, _, refl),
  record { network = (13, refl); log = tt; ids = tt },
  (
    (_, refl),
    record { network = (11, refl); log = tt; ids = tt },
    ((_, _, refl), record { network = (14, refl); log = tt; ids = tt }, tt),
  ),
)

ends : MayHappenInTurn whole (write_finalized ++ write_ended) after_second
ends =
    call_ends 7 4 (by_two finalize 0 1 Done Done ∷ by_two next 0 1 (Pointer Unset) (Pointer Unset) ∷ []) after_second (
      (_, refl, inl (ready _ refl refl, refl)),
      ((15, refl), refl, ((16, refl), refl, tt)),
      ((_, refl, inl (ready _ refl refl, refl)), ((20, refl), refl, ((21, refl), refl, tt)), tt),
    )
    (_, refl, ready _ refl refl, refl)

pub every_event : MayHappenInTurn whole taken_twice start
every_event =
    may_append until_taken (second_taken ++ (write_finalized ++ write_ended)) start
    (may_append (write_asked 0) first_taken start (asks 0) takes_first)
    (may_append second_taken (write_finalized ++ write_ended) after_first takes_second ends)
