-- A write during which a node stops between serving and replying, and a read from that node.
use Rattle.std.proofs.Common.{List, [], ◌∷◌, ◌++◌, None, Some, inl, refl, ap}
use Rattle.bank.specs.declared.reply.Answer.TheVariants.{Done, Greatest, Piece, Pointer}
use Rattle.bank.specs.declared.status.Status.TheVariants.{Unset}
use Rattle.network.specs.Worlds.{World}
use Rattle.network.specs.Events.{Event, happens, world_after}
use Rattle.network.specs.Premises.{MayHappenInTurn}
use Rattle.example_tests.specs.RecordExamples.{whole}
use Rattle.example_tests.specs.Scripts.{both, letter, letter_piece, restarted, served, start, write_tag}
use Rattle.example_tests.specs.NodeExamples.{write_asked, write_kept, write_ended, until_crash, after_crash, crash, read}
use Rattle.example_tests.proofs.KeptRowLemmas.{opened_greatest, opened_lacks, twice_greatest, twice_piece}
use Rattle.example_tests.proofs.EventRunLemmas.{fetched_once, letter_is_value, may_append, other_id, ready, ready_settled}
use Rattle.example_tests.proofs.PhaseLemmas.{by_two, call_ends, finalize, next, phase_runs}
use Rattle.example_tests.proofs.ReadLemmas.{read_runs}
use Rattle.example_tests.proofs.WriteLemmas.{after_asked, after_kept, asks, keeps}

-- Before the crash

abbrev last_part : List Event
last_part = Event.Advance 7 ∷ served 7 4 0 finalize 0 ∷ []

serves_one : MayHappenInTurn whole last_part (after_kept 2)
serves_one = (
  (_, refl, inl (ready _ refl refl, refl)),
  record { network = tt; log = tt; ids = tt },
  ((_, refl), record { network = (15, refl); log = tt; ids = tt }, tt),
)

before : MayHappenInTurn whole until_crash start
before =
    may_append (write_asked 2) (write_kept ++ last_part) start (asks 2)
    (may_append write_kept last_part (after_asked 2) (keeps 2) serves_one)

-- After the crash

abbrev back : World
back = happens whole (world_after whole until_crash start) (restarted 0 (world_after whole until_crash start))

abbrev finalized_again : World
finalized_again = world_after whole (both 7 4 finalize 0 1 Done Done) back

abbrev after_write : World
after_write = world_after whole after_crash back

ends : MayHappenInTurn whole after_crash back
ends =
    may_append (both 7 4 finalize 0 1 Done Done) write_ended back
    (phase_runs back 7 4 (by_two finalize 0 1 Done Done) ((15, refl), refl, ((16, refl), refl, tt)))
    (call_ends 7 5 (by_two next 0 1 (Pointer Unset) (Pointer Unset) ∷ []) finalized_again
    ((_, refl, inl (ready _ refl refl, refl)), ((21, refl), refl, ((22, refl), refl, tt)), tt)
    (_, refl, ready _ refl refl, refl))

reads : MayHappenInTurn whole (read 0) after_write
reads =
    read_runs 0 write_tag (Some (letter_piece 0)) None letter after_write other_id ((26, refl), refl, ((28, refl), refl, tt)) (
      (_, refl, inl (ready _ refl refl, refl)),
      ((31, refl), ap Greatest (twice_greatest 0), ((33, refl), ap Greatest (opened_greatest 2), tt)),
      (
        (_, refl, inl (ready _ refl refl, refl)),
        ((36, refl), ap Piece (twice_piece 0), ((38, refl), ap Piece (opened_lacks 2), tt)),
        tt,
      ),
    )
    (_, refl, fetched_once 0 refl (_, refl) refl refl refl refl letter_is_value)
    ((_, refl, inl (ready_settled _ refl refl, refl)), ((41, refl), refl, ((43, refl), refl, tt)), tt)
    (_, refl, ready _ refl refl, refl)

pub every_event : MayHappenInTurn whole crash start
every_event =
    may_append until_crash (restarted 0 (world_after whole until_crash start) ∷ (after_crash ++ read 0)) start before (
      tt,
      record { network = tt; log = (refl, refl); ids = tt },
      may_append after_crash (read 0) back ends reads,
    )
