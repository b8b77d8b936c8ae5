-- What a node does with the object of a name.
use Rattle.std.specs.Prelude.{ℕ, List}
use Rattle.letter.specs.declared.letter.Letter.{Letter}
use Rattle.local_object.specs.declared.progress.Ended.{Ended}
use Rattle.local_object.specs.Doing.{IsOutcome, is_taken}
use Rattle.local_object.specs.Events.{LocalEvent}
use Rattle.local_object.specs.Going.{IsSomeOutcome}
use Rattle.local_object.specs.Local.{LocalObject}
use Rattle.local_object.specs.Replies.{IsReplyOutcome}
use Rattle.node_keeper.specs.declared.objects.Objects.{Objects}
use Rattle.node_keeper.specs.Objects.{IsChangedAt, objects_of}

-- these events may happen at the object of the name; after them the node keeps `new` and has sent the letters `sent`,
-- and every other object is as it was
pub record IsOutcomeAt (old : Objects) (name : List ℕ) (events : List LocalEvent) (new : Objects)
    (sent : List Letter) : Type 0 where
  pub local : LocalObject
  pub done : IsOutcome (objects_of old name) events local sent
  pub changed : IsChangedAt old name local new

-- what came of a letter that may be a reply to an open call of the object of the name: exactly the events of
-- `IsReplyOutcome`, after which the node keeps `new`, has sent `letters`, and has answered the calls `ended`; every
-- other object is as it was
pub record IsReplyOutcomeAt (old : Objects) (name : List ℕ) (letter : Letter) (new : Objects) (letters : List Letter)
    (ended : List Ended) : Type 0 where
  pub local : LocalObject
  pub done : IsSomeOutcome (objects_of old name) local letters ended
  pub taken : IsReplyOutcome (is_taken (objects_of old name) letter) (objects_of old name) letter local letters ended
  pub changed : IsChangedAt old name local new
