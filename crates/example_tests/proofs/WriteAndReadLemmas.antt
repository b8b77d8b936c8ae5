-- A write, and a read from the nodes 1 and 2.
use Rattle.std.proofs.Common.{None, Some, inl, refl, ap}
use Rattle.bank.specs.declared.reply.Answer.TheVariants.{Greatest, Piece}
use Rattle.network.specs.Worlds.{World}
use Rattle.network.specs.Events.{world_after}
use Rattle.network.specs.Premises.{MayHappenInTurn}
use Rattle.example_tests.specs.RecordExamples.{whole}
use Rattle.example_tests.specs.Scripts.{letter, letter_piece, start, write_tag}
use Rattle.example_tests.specs.NodeExamples.{read, write_and_read}
use Rattle.example_tests.specs.Forgetting.{write_to_two}
use Rattle.example_tests.proofs.KeptRowLemmas.{final_greatest, final_piece, opened_greatest, opened_lacks}
use Rattle.example_tests.proofs.EventRunLemmas.{fetched_once, letter_is_value, may_append, other_id, ready, ready_settled}
use Rattle.example_tests.proofs.ReadLemmas.{read_runs}
use Rattle.example_tests.proofs.WriteLemmas.{writes}

abbrev after_write : World
after_write = world_after whole write_to_two start

reads : MayHappenInTurn whole (read 1) after_write
reads =
    read_runs 1 write_tag (Some (letter_piece 1)) None letter after_write other_id ((26, refl), refl, ((27, refl), refl, tt)) (
      (_, refl, inl (ready _ refl refl, refl)),
      ((31, refl), ap Greatest (final_greatest 1), ((32, refl), ap Greatest (opened_greatest 2), tt)),
      (
        (_, refl, inl (ready _ refl refl, refl)),
        ((36, refl), ap Piece (final_piece 1), ((37, refl), ap Piece (opened_lacks 2), tt)),
        tt,
      ),
    )
    (_, refl, fetched_once 1 refl (_, refl) refl refl refl refl letter_is_value)
    ((_, refl, inl (ready_settled _ refl refl, refl)), ((41, refl), refl, ((42, refl), refl, tt)), tt)
    (_, refl, ready _ refl refl, refl)

pub every_event : MayHappenInTurn whole write_and_read start
every_event = may_append write_to_two (read 1) start writes reads
