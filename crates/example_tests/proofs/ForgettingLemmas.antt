-- A node that forgets what its bank kept, and a read that misses a write.
use Rattle.std.proofs.Common.{◌≡◌, Bool, true, false, cond, List, [], ◌∷◌, ◌++◌, Some, inl, refl, ap}
use Rattle.tag.specs.Tag.{opening_tag}
use Rattle.bank.specs.Bank.{empty_piece}
use Rattle.bank.specs.declared.reply.Answer.TheVariants.{Greatest, Piece}
use Rattle.network.specs.Worlds.{World}
use Rattle.network.specs.Events.{Event, happens, world_after}
use Rattle.network.specs.Premises.{MayHappenInTurn}
use Rattle.example_tests.specs.RecordExamples.{whole}
use Rattle.example_tests.specs.Scripts.{start}
use Rattle.example_tests.specs.Forgetting.{IsForgotten, MayRunForgetting, empty_read, forgetful, restarted_empty, write_to_two}
use Rattle.example_tests.proofs.KeptRowLemmas.{opened_greatest, opened_piece}
use Rattle.example_tests.proofs.EventRunLemmas.{empty_is_value, fetched_once, other_id, ready, ready_settled}
use Rattle.example_tests.proofs.ReadLemmas.{read_runs}
use Rattle.example_tests.proofs.WriteLemmas.{writes}

-- Events other than a restart need the same premises

-- whether the event is a restart
abbrev is_restart : Event → Bool
is_restart (Event.Restart node banks calls) = true
is_restart _ = false

-- whether no event is a restart
abbrev no_restarts : List Event → Bool
no_restarts [] = true
no_restarts (event ∷ events) = cond (is_restart event) false (no_restarts events)

forgets_nothing : (world : World) (event : Event) → is_restart event ≡ false → IsForgotten world event
forgets_nothing world (Event.Restart node banks calls) other = absurd (cc)
forgets_nothing world _ other = tt

may_forgetting : (events : List Event) (world : World) → no_restarts events ≡ true → MayHappenInTurn whole events world →
    MayRunForgetting whole events world
may_forgetting [] world others may = tt
may_forgetting (event ∷ events) world others may =
    go (is_restart event) refl others (λ rest. may_forgetting events (happens whole world event) rest may.2)
  where
    go : (b : Bool) → is_restart event ≡ b → cond b false (no_restarts events) ≡ true →
        (no_restarts events ≡ true → MayRunForgetting whole events (happens whole world event)) →
        MayRunForgetting whole (event ∷ events) world
    go true e rest later = absurd (cc)
    go false e rest later = (
      may.0,
      record {
        network = may.1.network;
        forgets = forgets_nothing world event e;
        ids = may.1.ids;
      },
      later rest,
    )

forgetting_append : (first second : List Event) (world : World) → MayRunForgetting whole first world →
    MayRunForgetting whole second (world_after whole first world) → MayRunForgetting whole (first ++ second) world
forgetting_append [] second world a b = b
forgetting_append (event ∷ first) second world a b =
    (a.0, a.1, forgetting_append first second (happens whole world event) a.2 b)

-- The run

abbrev pub back : World
back = happens whole (world_after whole write_to_two start) (restarted_empty 1 (world_after whole write_to_two start))

pub reads : MayHappenInTurn whole empty_read back
reads =
    read_runs 1 opening_tag (Some (empty_piece 1)) (Some (empty_piece 2)) [] back other_id ((26, refl), refl, ((27, refl), refl, tt)) (
      (_, refl, inl (ready _ refl refl, refl)),
      ((31, refl), ap Greatest (opened_greatest 1), ((32, refl), ap Greatest (opened_greatest 2), tt)),
      (
        (_, refl, inl (ready _ refl refl, refl)),
        ((36, refl), ap Piece (opened_piece 1), ((37, refl), ap Piece (opened_piece 2), tt)),
        tt,
      ),
    )
    (_, refl, fetched_once 1 refl (_, refl) refl refl refl refl empty_is_value)
    ((_, refl, inl (ready_settled _ refl refl, refl)), ((41, refl), refl, ((42, refl), refl, tt)), tt)
    (_, refl, ready _ refl refl, refl)

pub every_event : MayRunForgetting whole forgetful start
every_event =
    forgetting_append write_to_two (restarted_empty 1 (world_after whole write_to_two start) ∷ empty_read) start
    (may_forgetting write_to_two start refl writes)
    (tt, record { network = tt; forgets = (refl, refl); ids = tt }, may_forgetting empty_read back refl reads)
