-- What a node does with its objects, and what comes of it.
use Rattle.std.specs.Prelude.{ℕ, List, [], ◌∷◌, ◌++◌, map}
use Rattle.layout.specs.Layout.{Layout}
use Rattle.record.specs.Fragments.{Code}
use Rattle.letter.specs.declared.letter.Letter.{Letter}
use Rattle.local_object.specs.declared.progress.Ended.{Ended}
use Rattle.local_object.specs.Local.{LocalObject}
use Rattle.local_object.specs.Events.{LocalEvent, done_here}
use Rattle.local_object.specs.Ended.{told}
use Rattle.deeds.specs.Named.{NamedLetter, with_names, with_named}

-- a deed: a node does something with the object of a name, or sends letters of that object again
pub data Deed : Type 0 where
  Does : (name : List ℕ) → LocalEvent → Deed
  Resends : (name : List ℕ) → List Letter → Deed

-- what the clients of a node see: a read, a write or a move of the object of a name begins, or a client is told an
-- answer
pub data Notice : Type 0 where
  Reads : (name : List ℕ) → (id : ℕ) → Notice
  Writes : (name : List ℕ) → (id : ℕ) → (value : List ℕ) → Notice
  Moves : (name : List ℕ) → (id : ℕ) → Layout → Notice
  Tells : (name : List ℕ) → Ended → Notice

-- what comes of deeds: the objects that the node keeps, the letters that it sends, and what clients see
pub record Upshot : Type 0 where
  pub objects : (name : List ℕ) → LocalObject
  pub sent : List NamedLetter
  pub notices : List Notice

-- nothing changes, nothing is sent, and clients see nothing
abbrev pub unchanged : (objects : List ℕ → LocalObject) → Upshot
unchanged objects = record { objects = objects; sent = []; notices = [] }

-- what clients see of something that a node does with the object of a name
abbrev pub noticed : (name : List ℕ) → LocalObject → LocalEvent → List Notice
noticed name local (LocalEvent.BeginRead id) = Notice.Reads name id ∷ []
noticed name local (LocalEvent.BeginWrite id value) = Notice.Writes name id value ∷ []
noticed name local (LocalEvent.BeginMove id layout) = Notice.Moves name id layout ∷ []
noticed name local event = map (Notice.Tells name) (told local event)

-- what comes of one deed
abbrev pub after_deed : Code → (objects : List ℕ → LocalObject) → Deed → Upshot
after_deed fragment objects (Deed.Does name event) =
    let done = done_here fragment (objects name) event in record {
      objects = with_named objects name done.local;
      sent = with_names name done.sent;
      notices = noticed name (objects name) event;
    }
after_deed fragment objects (Deed.Resends name letters) = record (unchanged objects) { sent = with_names name letters }

-- what comes of these deeds, one after another
abbrev pub after_deeds : Code → (objects : List ℕ → LocalObject) → List Deed → Upshot
after_deeds fragment objects [] = unchanged objects
after_deeds fragment objects (deed ∷ deeds) =
    let first = after_deed fragment objects deed in
    let rest = after_deeds fragment first.objects deeds in record {
      objects = rest.objects;
      sent = first.sent ++ rest.sent;
      notices = first.notices ++ rest.notices;
    }

-- what clients see of what a node does with the object of a name, one thing after another
abbrev pub all_noticed : Code → (name : List ℕ) → LocalObject → List LocalEvent → List Notice
all_noticed fragment name local [] = []
all_noticed fragment name local (event ∷ events) =
    noticed name local event ++ all_noticed fragment name (done_here fragment local event).local events
