-- A read of node 2 from another node and itself, over three nodes.
use Rattle.std.proofs.Common.{ℕ, List, [], ◌∷◌, ◌++◌, Option}
use Rattle.tag.specs.declared.tag.Tag.{Tag}
use Rattle.tag.specs.Tag.{opening_tag}
use Rattle.piece.specs.declared.piece.Piece.{Piece}
use Rattle.bank.specs.declared.reply.Answer.TheVariants as answer
use Rattle.bank.specs.declared.request.Request.TheVariants as request
use Rattle.bank.specs.declared.status.Status.TheVariants.{Unset}
use Rattle.network.specs.Worlds.{World}
use Rattle.network.specs.Events.{Event, MayHappen, happens, world_after}
use Rattle.network.specs.Premises.{IsUnused, MayHappenInTurn}
use Rattle.example_tests.specs.RecordExamples.{whole}
use Rattle.example_tests.proofs.EventRunLemmas.{may_append}
use Rattle.example_tests.proofs.PhaseLemmas.{AreAnswered, Proceed, Round, by_two, call_ends, call_runs, next, phase_events}
use Rattle.example_tests.proofs.PhaseLemmas.{query, rounds}

-- no position follows, the other node knows this tag, and both answer with what they keep of it
module _ (other : ℕ) (tag : Tag) (kept own : Option Piece) (value : List ℕ) where
  abbrev last : Round
  last = by_two next other 2 (answer.Pointer Unset) (answer.Pointer Unset)

  abbrev fetching : List Round
  fetching =
      by_two query other 2 (answer.Greatest tag) (answer.Greatest opening_tag)
      ∷ by_two (λ member. request.Fetch tag) other 2 (answer.Piece kept) (answer.Piece own) ∷ []

  abbrev until_fetched : List Event
  until_fetched = Event.BeginRead 2 3 ∷ (phase_events 3 1 last ++ rounds 3 2 fetching)

  abbrev from_settling : List Event
  from_settling = Event.Settle 3 value ∷ (rounds 3 4 (last ∷ []) ++ Event.Answer 3 ∷ [])

  pub read_runs : (world : World) → IsUnused world 3 →
      AreAnswered 3 1 0 next (happens whole world (Event.BeginRead 2 3)) last.answers →
      Proceed 3 2 fetching (world_after whole (Event.BeginRead 2 3 ∷ phase_events 3 1 last) world) →
      MayHappen whole (world_after whole until_fetched world) (Event.Settle 3 value) →
      Proceed 3 4 (last ∷ []) (happens whole (world_after whole until_fetched world) (Event.Settle 3 value)) →
      MayHappen whole (world_after whole (Event.Settle 3 value ∷ rounds 3 4 (last ∷ []))
      (world_after whole until_fetched world)) (Event.Answer 3) →
      MayHappenInTurn whole (until_fetched ++ from_settling) world
  read_runs world new begun fetched settles ended answers =
      may_append until_fetched from_settling world
      (call_runs (Event.BeginRead 2 3) 3 last fetching world tt (record { network = tt; log = tt; ids = new }) begun fetched) (
        settles,
        record { network = tt; log = tt; ids = tt },
        call_ends 3 4 (last ∷ []) (happens whole (world_after whole until_fetched world) (Event.Settle 3 value)) ended answers,
      )
