-- A write over three nodes, part by part.
use Rattle.std.proofs.Common.{ℕ, [], ◌∷◌, ◌++◌, inl, refl, ap}
use Rattle.tag.specs.Tag.{opening_tag}
use Rattle.bank.specs.declared.reply.Answer.TheVariants.{Done, Greatest, Pointer}
use Rattle.bank.specs.declared.status.Status.TheVariants.{Unset}
use Rattle.network.specs.Worlds.{World}
use Rattle.network.specs.Events.{Event, world_after}
use Rattle.network.specs.Premises.{MayHappenInTurn}
use Rattle.example_tests.specs.RecordExamples.{whole}
use Rattle.example_tests.specs.Scripts.{letter, start, to_keep}
use Rattle.example_tests.specs.NodeExamples.{write_asked, write_kept, write_finalized, write_ended}
use Rattle.example_tests.specs.Forgetting.{write_to_two}
use Rattle.example_tests.proofs.KeptRowLemmas.{opened_greatest}
use Rattle.example_tests.proofs.EventRunLemmas.{letter_is_value, may_append, ready}
use Rattle.example_tests.proofs.PhaseLemmas.{by_two, call_ends, call_runs, finalize, next, query, rounds_run}

abbrev pub after_asked : (node : ℕ) → World
after_asked node = world_after whole (write_asked node) start

abbrev pub after_kept : (node : ℕ) → World
after_kept node = world_after whole write_kept (after_asked node)

pub asks : (node : ℕ) → MayHappenInTurn whole (write_asked node) start
asks node =
    call_runs (Event.BeginWrite node 7 letter) 7 (by_two next 0 1 (Pointer Unset) (Pointer Unset))
    (by_two query 0 1 (Greatest opening_tag) (Greatest opening_tag) ∷ []) start letter_is_value
    (record { network = tt; log = tt; ids = tt }) ((0, refl), refl, ((1, refl), refl, tt)) (
      (_, refl, inl (ready _ refl refl, refl)),
      ((5, refl), ap Greatest (opened_greatest 0), ((6, refl), ap Greatest (opened_greatest 1), tt)),
      tt,
    )

pub keeps : (node : ℕ) → MayHappenInTurn whole write_kept (after_asked node)
keeps node =
    rounds_run 7 3 (by_two to_keep 0 1 Done Done ∷ []) (after_asked node)
    ((_, refl, inl (ready _ refl refl, refl)), ((10, refl), refl, ((11, refl), refl, tt)), tt)

ends : MayHappenInTurn whole (write_finalized ++ write_ended) (after_kept 0)
ends =
    call_ends 7 4 (by_two finalize 0 1 Done Done ∷ by_two next 0 1 (Pointer Unset) (Pointer Unset) ∷ []) (after_kept 0) (
      (_, refl, inl (ready _ refl refl, refl)),
      ((15, refl), refl, ((16, refl), refl, tt)),
      ((_, refl, inl (ready _ refl refl, refl)), ((20, refl), refl, ((21, refl), refl, tt)), tt),
    )
    (_, refl, ready _ refl refl, refl)

-- node 0 writes to the nodes 0 and 1
pub writes : MayHappenInTurn whole write_to_two start
writes =
    may_append (write_asked 0) (write_kept ++ (write_finalized ++ write_ended)) start (asks 0)
    (may_append write_kept (write_finalized ++ write_ended) (after_asked 0) (keeps 0) ends)
