-- Nodes with two cluster files, and a read that misses a write.
use Rattle.std.proofs.Common.{[], ◌∷◌, ◌++◌, Some, inl, refl, ap}
use Rattle.tag.specs.Tag.{opening_tag}
use Rattle.bank.specs.Bank.{empty_piece}
use Rattle.bank.specs.declared.reply.Answer.TheVariants.{Done, Greatest, Piece, Pointer}
use Rattle.bank.specs.declared.status.Status.TheVariants.{Unset}
use Rattle.network.specs.Worlds.{World}
use Rattle.network.specs.Events.{Event, world_after}
use Rattle.network.specs.Premises.{MayHappenInTurn}
use Rattle.example_tests.specs.RecordExamples.{whole}
use Rattle.example_tests.specs.Scripts.{letter, to_keep}
use Rattle.example_tests.specs.Forgetting.{empty_read}
use Rattle.example_tests.specs.TwoFiles.{apart, lone_begun, lone_ended, missed}
use Rattle.example_tests.proofs.KeptRowLemmas.{opened_greatest, opened_piece}
use Rattle.example_tests.proofs.EventRunLemmas.{empty_is_value, fetched_once, letter_is_value, may_append, other_id, ready}
use Rattle.example_tests.proofs.EventRunLemmas.{ready_settled}
use Rattle.example_tests.proofs.PhaseLemmas.{by_one, call_ends, call_runs, finalize, next, query}
use Rattle.example_tests.proofs.ReadLemmas.{read_runs}

abbrev after_begun : World
after_begun = world_after whole lone_begun apart

abbrev written : World
written = world_after whole lone_ended after_begun

begins : MayHappenInTurn whole lone_begun apart
begins =
    call_runs (Event.BeginWrite 3 7 letter) 7 (by_one next 0 (Pointer Unset))
    (by_one query 0 (Greatest opening_tag) ∷ by_one to_keep 0 Done ∷ []) apart letter_is_value
    (record { network = tt; log = tt; ids = tt }) ((0, refl), refl, tt) (
      (_, refl, inl (ready _ refl refl, refl)),
      ((2, refl), ap Greatest (opened_greatest 0), tt),
      ((_, refl, inl (ready _ refl refl, refl)), ((4, refl), refl, tt), tt),
    )

ends : MayHappenInTurn whole lone_ended after_begun
ends =
    call_ends 7 4 (by_one finalize 0 Done ∷ by_one next 0 (Pointer Unset) ∷ []) after_begun (
      (_, refl, inl (ready _ refl refl, refl)),
      ((6, refl), refl, tt),
      ((_, refl, inl (ready _ refl refl, refl)), ((8, refl), refl, tt), tt),
    )
    (_, refl, ready _ refl refl, refl)

reads : MayHappenInTurn whole empty_read written
reads =
    read_runs 1 opening_tag (Some (empty_piece 1)) (Some (empty_piece 2)) [] written other_id ((11, refl), refl, ((12, refl), refl, tt)) (
      (_, refl, inl (ready _ refl refl, refl)),
      ((16, refl), ap Greatest (opened_greatest 1), ((17, refl), ap Greatest (opened_greatest 2), tt)),
      (
        (_, refl, inl (ready _ refl refl, refl)),
        ((21, refl), ap Piece (opened_piece 1), ((22, refl), ap Piece (opened_piece 2), tt)),
        tt,
      ),
    )
    (_, refl, fetched_once 1 refl (_, refl) refl refl refl refl empty_is_value)
    ((_, refl, inl (ready_settled _ refl refl, refl)), ((26, refl), refl, ((27, refl), refl, tt)), tt)
    (_, refl, ready _ refl refl, refl)

pub every_event : MayHappenInTurn whole missed apart
every_event =
    may_append lone_begun (lone_ended ++ empty_read) apart begins
    (may_append lone_ended empty_read after_begun ends reads)
