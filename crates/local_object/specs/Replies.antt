-- What comes of a reply that a node takes.
use Rattle.std.specs.Prelude.{◌⊎◌, ℕ, Bool, true, false, List, [], ◌∷◌, ◌++◌, Option}
use Rattle.encoder.specs.Fragment.{fragment}
use Rattle.letter.specs.declared.letter.Letter.{Letter}
use Rattle.local_object.specs.declared.progress.Ended.{Ended}
use Rattle.local_object.specs.EarlyEnds.{CanEndEarly}
use Rattle.local_object.specs.Events.{LocalEvent, all_done}
use Rattle.local_object.specs.Local.{LocalObject}
use Rattle.local_object.specs.Querying.{query_events}
use Rattle.local_object.specs.Taking.{AreSettling, IsOutcomeWithAnswers, going_events, repeats}

-- what a node keeps after it took a letter
abbrev pub after_taking : LocalObject → Letter → LocalObject
after_taking old letter = (all_done fragment old (LocalEvent.Take letter ∷ [])).local

-- after a reply was taken, the call ends early
pub record EndsEarly (old : LocalObject) (letter : Letter) (new : LocalObject) (letters : List Letter)
    (ended : List Ended) : Type 0 where
  pub returned : Option (List ℕ)
  pub can : CanEndEarly (after_taking old letter) letter.message.call returned
  pub done : IsOutcomeWithAnswers old
      (LocalEvent.Take letter ∷ LocalEvent.EndEarly letter.message.call returned ∷ []) new letters ended

-- the events by which a letter is taken: the call takes the reply, and if its first reading then stands for its query,
-- it does so
abbrev pub taking_events : LocalObject → Letter → List LocalEvent
taking_events old letter = LocalEvent.Take letter ∷ query_events (after_taking old letter) letter.message.call

-- after a reply was taken, the call cannot end early. If its first reading then stands for its query, it does so. It
-- settles what it fetched, if it can; the start grows by the call, if it can; and then the call goes on; it begins anew
-- only if it had recorded a reply of that member before
pub record GoesOn (old : LocalObject) (letter : Letter) (new : LocalObject) (letters : List Letter)
    (ended : List Ended) : Type 0 where
  pub waits : (returned : Option (List ℕ)) →
      CanEndEarly (after_taking old letter) letter.message.call returned → ⊥
  pub settling : List LocalEvent
  pub settles : AreSettling (all_done fragment old (taking_events old letter)).local letter.message.call settling
  pub leads : IsOutcomeWithAnswers old (taking_events old letter ++ settling
      ++ going_events (repeats old letter) (all_done fragment old (taking_events old letter ++ settling)).local
      letter.message.call)
      new letters ended

-- what comes of a letter that may be a reply to a call that is open here: if it is one, the call takes it, and ends
-- early or goes on
abbrev pub IsReplyOutcome : Bool → LocalObject → Letter → LocalObject → List Letter → List Ended → Type 0
IsReplyOutcome false old letter new letters ended = IsOutcomeWithAnswers old [] new letters ended
IsReplyOutcome true old letter new letters ended =
    EndsEarly old letter new letters ended ⊎ GoesOn old letter new letters ended
