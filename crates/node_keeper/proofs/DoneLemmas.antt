-- What is done to the object of a name, as the laws on logs say it.
use Rattle.std.proofs.Common.{◌≡◌, ℕ, List, ap}
use Rattle.deeds.specs.CallId.{CallIds}
use Rattle.letter.specs.declared.letter.Letter.{Letter}
use Rattle.local_object.specs.declared.progress.Ended.{Ended}
use Rattle.layout.specs.Layout.{IsLawful, Layout}
use Rattle.local_object.specs.Events.{LocalEvent}
use Rattle.local_object.specs.Local.{with_heard}
use Rattle.node_keeper.specs.Doing.{IsOutcomeAt, IsReplyOutcomeAt}
use Rattle.node_keeper.specs.Objects.{HaveSameSettings, IsChangedAt, objects_of}
use Rattle.cluster_file.specs.Placement.{placed}
use Rattle.recoveries.specs.Records.{IsNamedHearing, IsNamedOutcome, IsNamedReplyOutcome}
use Rattle.node_keeper.specs.Keeping.{names_of_keeper, kept_of}
use Rattle.node_keeper.specs.declared.keeper.Keeper.{Keeper}

-- what the cluster file says stays
pub file_same : (old new : Keeper) → new.file ≡ old.file → HaveSameSettings old.objects new.objects →
    names_of_keeper new ≡ names_of_keeper old
file_same old new file same = λ i. record {
  delta = same.delta i;
  mover = (file i).fixed.mover;
  first = λ name. placed (same.placement i) name;
}

-- what is done to the object of a name, as the laws on logs say it
pub done_to : (old new : Keeper) (name : List ℕ) (events : List LocalEvent) (letters : List Letter) → new.file ≡ old.file →
    new.ids.node ≡ old.ids.node → new.ids.epoch ≡ old.ids.epoch → IsOutcomeAt old.objects name events new.objects letters →
    IsNamedOutcome (kept_of old) name events (kept_of new)
done_to old new name events letters file node epoch done = record {
  local = done.local;
  sent = letters;
  done = done.done;
  put = record {
    file = file_same old new file done.changed.settings;
    node = node;
    epoch = epoch;
    objects = done.changed.objects;
  };
}

-- what is done to the object of a name, where no id is given
pub done_of : (old new : Keeper) (name : List ℕ) (events : List LocalEvent) (letters : List Letter) → new.file ≡ old.file →
    new.ids ≡ old.ids → IsOutcomeAt old.objects name events new.objects letters → IsNamedOutcome (kept_of old) name events (kept_of new)
done_of old new name events letters file ids done =
    done_to old new name events letters file (ap (λ (i : CallIds). i.node) ids) (ap (λ (i : CallIds). i.epoch) ids) done

abbrev pub taken_by : (old new : Keeper) (name : List ℕ) (letter : Letter) (letters : List Letter) (ended : List Ended) →
    new.file ≡ old.file → new.ids ≡ old.ids → IsReplyOutcomeAt old.objects name letter new.objects letters ended →
    IsNamedReplyOutcome (kept_of old) name letter (kept_of new)
taken_by old new name letter letters ended file ids done = record {
  local = done.local;
  sent = letters;
  ended = ended;
  taken = done.taken;
  put = record {
    file = file_same old new file done.changed.settings;
    node = ap (λ (i : CallIds). i.node) ids;
    epoch = ap (λ (i : CallIds). i.epoch) ids;
    objects = done.changed.objects;
  };
}

-- a position that the object of a name hears of
pub heard_at : (old new : Keeper) (name : List ℕ) (position : ℕ) (layout : Layout) → IsLawful layout → new.file ≡ old.file →
    new.ids ≡ old.ids → IsChangedAt old.objects name (with_heard (objects_of old.objects name) position layout) new.objects →
    IsNamedHearing (kept_of old) name position layout (kept_of new)
heard_at old new name position layout lawful file ids changed = record {
  lawful = lawful;
  put = record {
    file = file_same old new file changed.settings;
    node = ap (λ (i : CallIds). i.node) ids;
    epoch = ap (λ (i : CallIds). i.epoch) ids;
    objects = changed.objects;
  };
}
