-- Which records a log needs of a call that begins.
use Rattle.std.proofs.Common.{◌≡◌, ℕ, List, [], ◌∷◌, None, sym, subst, ap, ◌∙◌}
use Rattle.layout.specs.Layout.{IsLawful, Layout}
use Rattle.letter.specs.declared.letter.Letter.{Letter}
use Rattle.local_object.specs.Events.{LocalEvent}
use Rattle.local_object.specs.Doing.{move_refusal, read_refusal, write_refusal}
use Rattle.local_object.specs.Local.{LocalObject}
use Rattle.deeds.specs.Kept.{FileOfNames, KeptNode}
use Rattle.recoveries.specs.Copies.{IsLogged}
use Rattle.recoveries.specs.Records.{IsNamedOutcome, LogRecord}
use Rattle.recoveries.proofs.LoggedLemmas.{moves_logged, reads_unlogged, writes_unlogged}
use Rattle.node_keeper.specs.Doing.{IsOutcomeAt}
use Rattle.node_keeper.specs.declared.objects.Objects.{Objects}
use Rattle.node_keeper.specs.Objects.{objects_of}
use Rattle.node_keeper.specs.Keeping.{names_of_keeper}
use Rattle.node_keeper.specs.declared.keeper.Keeper.{Keeper}

-- which records a log needs of an event at the object of a name, of which the node keeps this, as it has the number and
-- the cluster file of this one
abbrev pub EventIsLogged : (old : Keeper) (name : List ℕ) → LocalEvent → List LogRecord → Type 0
EventIsLogged old name event records = (from to : KeptNode) → from.file ≡ names_of_keeper old → from.ids.node ≡ old.ids.node →
    from.objects ≡ objects_of old.objects → IsNamedOutcome from name (event ∷ []) to → IsLogged from records to

pub read_logged : (old : Keeper) (name : List ℕ) (id : ℕ) → read_refusal (objects_of old.objects name) id ≡ None →
    EventIsLogged old name (LocalEvent.BeginRead id) []
read_logged old name id free from to file number objects done =
    reads_unlogged from to name id
    (subst (λ (kept : List ℕ → LocalObject). read_refusal (kept name) id ≡ None) (sym objects) free) done

pub write_logged : (old : Keeper) (name : List ℕ) (id : ℕ) (value : List ℕ) →
    write_refusal (objects_of old.objects name) id value ≡ None → EventIsLogged old name (LocalEvent.BeginWrite id value) []
write_logged old name id value free from to file number objects done =
    writes_unlogged from to name id value
    (subst (λ (kept : List ℕ → LocalObject). write_refusal (kept name) id value ≡ None) (sym objects) free) done

-- a move that begins has a lawful layout
pub lawful_of : {old new : Objects} {name : List ℕ} {id : ℕ} {layout : Layout} {letters : List Letter} →
    IsOutcomeAt old name (LocalEvent.BeginMove id layout ∷ []) new letters → IsLawful layout
lawful_of done = done.done.may.0.0

pub move_logged : (old : Keeper) (name : List ℕ) (id : ℕ) (layout : Layout) → old.ids.node ≡ old.file.fixed.mover →
    move_refusal (objects_of old.objects name) id ≡ None →
    EventIsLogged old name (LocalEvent.BeginMove id layout) (LogRecord.Moves name id layout ∷ [])
move_logged old name id layout mover free from to file number objects done =
    moves_logged from to name id layout (number ∙ mover ∙ ap (λ (f : FileOfNames). f.mover) (sym file))
    (subst (λ (kept : List ℕ → LocalObject). move_refusal (kept name) id ≡ None) (sym objects) free) done
