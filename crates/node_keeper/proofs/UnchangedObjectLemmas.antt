-- What was done at an object stays true where the map then changes and no object does.
use Rattle.std.proofs.Common.{ℕ, List, ◌∙◌}
use Rattle.letter.specs.declared.letter.Letter.{Letter}
use Rattle.local_object.specs.declared.progress.Ended.{Ended}
use Rattle.local_object.specs.Events.{LocalEvent}
use Rattle.local_object.specs.Local.{LocalObject}
use Rattle.node_keeper.specs.Doing.{IsOutcomeAt, IsReplyOutcomeAt}
use Rattle.node_keeper.specs.Objects.{AreSame, IsChangedAt}
use Rattle.node_keeper.specs.declared.objects.Objects.{Objects}

module _ (old mid new : Objects) (name : List ℕ) (same : AreSame mid new) where
  pub changed_same : (local : LocalObject) → IsChangedAt old name local mid → IsChangedAt old name local new
  changed_same local changed = record {
    settings = record {
      number = same.settings.number ∙ changed.settings.number;
      delta = same.settings.delta ∙ changed.settings.delta;
      placement = same.settings.placement ∙ changed.settings.placement;
    };
    objects = λ other. same.objects other ∙ changed.objects other;
  }

  pub done_same : (events : List LocalEvent) (sent : List Letter) → IsOutcomeAt old name events mid sent
      → IsOutcomeAt old name events new sent
  done_same events sent done =
      record { local = done.local; done = done.done; changed = changed_same done.local done.changed }

  pub taken_same : (letter : Letter) (letters : List Letter) (ended : List Ended) → IsReplyOutcomeAt old name letter mid letters ended →
      IsReplyOutcomeAt old name letter new letters ended
  taken_same letter letters ended taken =
      record { local = taken.local; done = taken.done; taken = taken.taken; changed = changed_same taken.local taken.changed }
