-- A call that is in a phase at two worlds of a run was in it at each world between them.
use Rattle.std.proofs.Common.{◌≡◌, ◌⊎◌, inl, inr, ◌<◌, List, [], ◌∷◌, ◌++◌, Option, Some, None}
use Rattle.std.proofs.Common.{refl, sym, ap, ◌∙◌, subst, arith}
use Rattle.std.proofs.lemmas.Option.{same_Some}
use Rattle.bank.specs.declared.kind.Kind.TheVariants.{Fetch, Next}
use Rattle.record.specs.Fragments.{Code, IsFetch}
use Rattle.open_calls.specs.OpenCalls.{NodeCall, open_call}
use Rattle.network.specs.Worlds.{World}
use Rattle.network.specs.Events.{Event, IsOpen, MayHappen, happens, world_after}
use Rattle.network.specs.Premises.{IsPremised, MayHappenInTurn}
use Rattle.starts.proofs.TrueReplyLemmas.{IsKnown}
use Rattle.told_queries.specs.Courses.{as_begun}
use Rattle.told_queries.proofs.BesideLemmas.{IsSoFar}
use Rattle.told_queries.proofs.EarlierCallLemmas.{GoesOn, WasOpen, was_open}
use Rattle.told_queries.proofs.SentPhaseLemmas.{IsOrderly, known_next, known_open, orderly_next}

-- the call is not in that phase any more, and never will be: it is known, and if it is open, it is in a later one
pub record HasPassed (begun : NodeCall) (world : World) : Type 0 where
  pub known : IsKnown world.history begun.id
  pub past : (call : NodeCall) → IsOpen world begun.id call → begun.phase.number < call.phase.number

-- One event

module _ (fragment : Code) (begun : NodeCall) where
  pub passed_next : (world : World) (event : Event) → IsOrderly world → MayHappen fragment world event → IsPremised world event →
      HasPassed begun world → HasPassed begun (happens fragment world event)
  passed_next world event is may premised passed = record {
    known = known_next fragment world event begun.id passed.known;
    past = λ new open_there. further new (was_open fragment world event begun.id new is may premised passed.known open_there);
  }
    where
      further : (new : NodeCall) → WasOpen world begun.id new → begun.phase.number < new.phase.number
      further new was =
          let before = passed.past was.call was.open_there in
          let forward = was.goes.forward in omega arith

  -- a call is not in the phase that it left
  pub not_passed : (world : World) → IsSoFar begun world → HasPassed begun world → ⊥
  not_passed world is passed =
      let before = passed.past is.call is.open_there in
      let same : is.call.phase.number ≡ begun.phase.number = ap (λ (c : NodeCall). c.phase.number) is.same in
      absurd (omega arith)

  -- a call that reads stays in the phase or leaves it
  pub stays_or_passes : begun.phase.kind ≡ Next → (world : World) (event : Event) → IsOrderly world → MayHappen fragment world event →
      IsPremised world event → IsSoFar begun world →
      IsSoFar begun (happens fragment world event) ⊎ HasPassed begun (happens fragment world event)
  stays_or_passes reads world event is may premised so_far = go (open_call new.calls begun.id) refl
    where
      new : World
      new = happens fragment world event

      known : IsKnown world.history begun.id
      known = known_open world begun.id so_far.call is so_far.open_there

      none_fetched : IsFetch so_far.call.phase.kind → ⊥
      none_fetched fetch =
          absurd (let clash : Next ≡ Fetch fetch.0 = sym reads ∙ sym (ap (λ (c : NodeCall). c.phase.kind) so_far.same) ∙ fetch.1 in cc)

      from : (call : NodeCall) → IsOpen new begun.id call → GoesOn so_far.call call → IsSoFar begun new ⊎ HasPassed begun new
      from call open_there goes = pick goes.phase
        where
          pick : (as_begun call ≡ as_begun so_far.call)
              ⊎ ((so_far.call.phase.number < call.phase.number) ⊎ IsFetch so_far.call.phase.kind) →
              IsSoFar begun new ⊎ HasPassed begun new
          pick (inl same) = inl (record { call = call; open_there = open_there; same = same ∙ so_far.same })
          pick (inr (inl later)) = inr (record {
            known = known_next fragment world event begun.id known;
            past = λ other there.
                let same : so_far.call.phase.number ≡ begun.phase.number = ap (λ (c : NodeCall). c.phase.number) so_far.same in
                let past : begun.phase.number < call.phase.number = omega arith in
                subst (λ (c : NodeCall). begun.phase.number < c.phase.number) (same_Some call other (sym open_there ∙ there)) past;
          })
          pick (inr (inr fetch)) = absurd (none_fetched fetch)

      go : (o : Option NodeCall) → open_call new.calls begun.id ≡ o → IsSoFar begun new ⊎ HasPassed begun new
      go None e = inr (record {
        known = known_next fragment world event begun.id known;
        past = λ call there. absurd (let wrong : Some call ≡ None = sym there ∙ e in cc);
      })
      go (Some call) e =
          let was = was_open fragment world event begun.id call is may premised known e in
          from call e (subst (λ c. GoesOn c call) (same_Some was.call so_far.call (sym was.open_there ∙ so_far.open_there)) was.goes)

  -- Several events

  pub passed_later : (events : List Event) (world : World) → IsOrderly world → MayHappenInTurn fragment events world →
      HasPassed begun world → HasPassed begun (world_after fragment events world)
  passed_later [] world is may passed = passed
  passed_later (event ∷ events) world is may passed =
      passed_later events (happens fragment world event) (orderly_next fragment world event may.0 may.1 is) may.2
      (passed_next world event is may.0 may.1 passed)

  -- a call that is still in the phase after these events is in it after the first of them
  pub so_far_next : begun.phase.kind ≡ Next → (event : Event) (events : List Event) (world : World) → IsOrderly world →
      MayHappenInTurn fragment (event ∷ events) world → IsSoFar begun world →
      IsSoFar begun (world_after fragment (event ∷ events) world) → IsSoFar begun (happens fragment world event)
  so_far_next reads event events world is may here there = go (stays_or_passes reads world event is may.0 may.1 here)
    where
      new : World
      new = happens fragment world event

      go : IsSoFar begun new ⊎ HasPassed begun new → IsSoFar begun new
      go (inl next) = next
      go (inr passed) = absurd (not_passed (world_after fragment events new) there
          (passed_later events new (orderly_next fragment world event may.0 may.1 is) may.2 passed))

  -- and after some of them
  pub so_far_until : begun.phase.kind ≡ Next → (first second : List Event) (world : World) → IsOrderly world →
      MayHappenInTurn fragment (first ++ second) world → IsSoFar begun world →
      IsSoFar begun (world_after fragment (first ++ second) world) → IsSoFar begun (world_after fragment first world)
  so_far_until reads [] second world is may here there = here
  so_far_until reads (event ∷ first) second world is may here there =
      so_far_until reads first second (happens fragment world event) (orderly_next fragment world event may.0 may.1 is) may.2
      (so_far_next reads event (first ++ second) world is may here there) there
