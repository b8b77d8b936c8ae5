-- What comes of the records of a log that is written anew, name by name.
use Rattle.std.proofs.Common.{◌≡◌, ℕ, zero, suc, ◌+◌, ◌==◌, Bool, true, false, cond, List, [], ◌∷◌, ◌++◌, map}
use Rattle.std.proofs.Common.{refl, subst, ap, ◌∙◌, arith}
use Rattle.letter.specs.declared.letter.Letter.{Letter}
use Rattle.local_object.specs.Local.{LocalObject, Place, with_heard}
use Rattle.deeds.specs.Kept.{KeptNode}
use Rattle.deeds.specs.Named.{is_same_name, with_named}
use Rattle.deeds.proofs.NameLemmas.{names_decided, other_named, own_named, same_named, twice_named}
use Rattle.recoveries.specs.Records.{IsKeptUnder, IsSame, LogRecord, Recovers}
use Rattle.recoveries.proofs.LoggedLemmas.{started_epoch, started_number}
use Rattle.recoveries.proofs.NodeCopyLemmas.{same_self}
use Rattle.object_letters.specs.Closing.{after_close, after_closing_all, after_place_closed, is_closed}
use Rattle.object_letters.specs.Hearing.{after_place, after_places}
use Rattle.object_letters.specs.Letters.{after_letter, after_letters, letters_as}
use Rattle.recoveries.specs.RewrittenRecords.{close_records, closes_records, epoch_records, is_among, records_of_name, object_records}
use Rattle.recoveries.specs.RewrittenRecords.{place_records, places_records}
use Rattle.recoveries.specs.RewritingNodes.{AreDistinctNames}

-- records that follow others
pub parted : (first second : List LogRecord) (old new : KeptNode) → Recovers (first ++ second) old new
    → (middle : KeptNode) × Recovers first old middle × Recovers second middle new
parted [] second old new recovers = (old, same_self old, recovers)
parted (r ∷ first) second old new recovers =
    let rest = parted first second recovers.0 new recovers.2 in
    (rest.0, (recovers.0, recovers.1, rest.1), rest.2)

-- Epochs

pub record HasStarted (count : ℕ) (old new : KeptNode) : Type 0 where
  pub file : new.file ≡ old.file
  pub node : new.ids.node ≡ old.ids.node
  pub epoch : new.ids.epoch ≡ old.ids.epoch + count
  pub objects : (name : List ℕ) → new.objects name ≡ old.objects name

pub all_started : (count : ℕ) (old new : KeptNode) → Recovers (epoch_records count) old new → HasStarted count old new
all_started zero old new recovers = record {
  file = recovers.file;
  node = recovers.node;
  epoch = let same = recovers.epoch in omega (arith, same);
  objects = recovers.objects;
}
all_started (suc count) old new recovers =
    let middle = recovers.0 in
    let rest = all_started count middle new recovers.2 in record {
      file = rest.file ∙ recovers.1.file;
      node = rest.node ∙ started_number old middle recovers.1;
      epoch = let more = rest.epoch in let first = started_epoch old middle recovers.1 in omega (arith, more, first);
      objects = λ name. rest.objects name ∙ recovers.1.objects name;
    }

-- What is kept under a name

-- the node keeps the same under the name
same_under : (old new : KeptNode) (name : List ℕ) → IsSame old new → IsKeptUnder old name (old.objects name) new
same_under old new name same = record {
  file = same.file;
  node = same.node;
  epoch = same.epoch;
  objects = λ other. same.objects other ∙ same_named old.objects name other;
}

-- one thing is kept under the name, and then another
then_under : (old middle new : KeptNode) (name : List ℕ) (first last : LocalObject) → IsKeptUnder old name first middle
    → IsKeptUnder middle name last new → IsKeptUnder old name last new
then_under old middle new name first last one rest = record {
  file = rest.file ∙ one.file;
  node = rest.node ∙ one.node;
  epoch = rest.epoch ∙ one.epoch;
  objects = λ other. rest.objects other
      ∙ ap (λ (l : LocalObject). cond (is_same_name name other) last l) (one.objects other)
      ∙ twice_named old.objects name first last other;
}

-- what is now the object of the name
under_now : (old new : KeptNode) (name : List ℕ) (local : LocalObject) → IsKeptUnder old name local new
    → new.objects name ≡ local
under_now old new name local put = put.objects name ∙ own_named old.objects name local

-- what is done to the object after the first change, said of the old object
changed_under : (old middle new : KeptNode) (name : List ℕ) (first : LocalObject) (change : LocalObject → LocalObject)
    → IsKeptUnder old name first middle → IsKeptUnder middle name (change (middle.objects name)) new
    → IsKeptUnder old name (change first) new
changed_under old middle new name first change one rest =
    then_under old middle new name first (change first) one
    (subst (λ (l : LocalObject). IsKeptUnder middle name (change l) new) (under_now old middle name first one) rest)

-- Positions that the object of a name hears of

-- one position, or none if it is position 0
place_heard : (name : List ℕ) (place : Place) (old new : KeptNode) → Recovers (place_records name place) old new
    → IsKeptUnder old name (after_place (old.objects name) place) new
place_heard name place old new recovers = go (place.position == 0) recovers
  where
    go : (b : Bool) → Recovers (cond b [] (LogRecord.Hears name place.position place.layout ∷ [])) old new
        → IsKeptUnder old name (cond b (old.objects name) (with_heard (old.objects name) place.position place.layout)) new
    go true same = same_under old new name same
    go false heard =
        changed_under old heard.0 new name (with_heard (old.objects name) place.position place.layout) (λ local. local)
        heard.1.put (same_under heard.0 new name heard.2)

-- the positions of some places
all_heard_at : (name : List ℕ) (places : List Place) (old new : KeptNode) → Recovers (places_records name places) old new
    → IsKeptUnder old name (after_places (old.objects name) places) new
all_heard_at name [] old new recovers = same_under old new name recovers
all_heard_at name (place ∷ places) old new recovers =
    let parts = parted (place_records name place) (places_records name places) old new recovers in
    changed_under old parts.0 new name (after_place (old.objects name) place) (λ local. after_places local places)
    (place_heard name place old parts.0 parts.1) (all_heard_at name places parts.0 new parts.2)

-- Letters to the object of a name

-- the letters are served one after another
all_served_to : (name : List ℕ) (letters : List Letter) (old new : KeptNode)
    → Recovers (map (LogRecord.Serves name) letters) old new
    → IsKeptUnder old name (after_letters (old.objects name) letters) new
all_served_to name [] old new recovers = same_under old new name recovers
all_served_to name (letter ∷ letters) old new recovers =
    let middle = recovers.0 in
    let one : IsKeptUnder old name (after_letter (old.objects name) letter) middle =
    subst (λ (l : LocalObject). IsKeptUnder old name l middle) recovers.1.done.local recovers.1.put in
    changed_under old middle new name (after_letter (old.objects name) letter) (λ local. after_letters local letters)
    one (all_served_to name letters middle new recovers.2)

-- Banks of the object of a name that are closed

-- the bank of one place, or none
place_closed : (name : List ℕ) (place : Place) (old new : KeptNode) → Recovers (close_records name place) old new
    → IsKeptUnder old name (after_place_closed (old.objects name) place) new
place_closed name place old new recovers = go (is_closed place.bank) recovers
  where
    go : (b : Bool) → Recovers (cond b (LogRecord.Closes name place.position ∷ []) []) old new
        → IsKeptUnder old name (cond b (after_close (old.objects name) place.position) (old.objects name)) new
    go false same = same_under old new name same
    go true closed =
        let middle = closed.0 in
        let one : IsKeptUnder old name (after_close (old.objects name) place.position) middle =
        subst (λ (l : LocalObject). IsKeptUnder old name l middle) closed.1.done.local closed.1.put in
        changed_under old middle new name (after_close (old.objects name) place.position) (λ local. local) one
        (same_under middle new name closed.2)

-- the banks of some places
all_closed_at : (name : List ℕ) (places : List Place) (old new : KeptNode) → Recovers (closes_records name places) old new
    → IsKeptUnder old name (after_closing_all (old.objects name) places) new
all_closed_at name [] old new recovers = same_under old new name recovers
all_closed_at name (place ∷ places) old new recovers =
    let parts = parted (close_records name place) (closes_records name places) old new recovers in
    changed_under old parts.0 new name (after_place_closed (old.objects name) place) (λ local. after_closing_all local places)
    (place_closed name place old parts.0 parts.1) (all_closed_at name places parts.0 new parts.2)

-- All records of the object of a name

-- what a copy of an object is after it hears of its positions, serves the letters to its banks, and closes banks
abbrev pub rebuilt : (node : ℕ) → (local copy : LocalObject) → LocalObject
rebuilt node local copy = after_closing_all (after_letters (after_places copy local.places) (letters_as node local)) local.places

-- the records make the object of the name that
name_rebuilt : (node : ℕ) (name : List ℕ) (local : LocalObject) (old new : KeptNode)
    → Recovers (records_of_name node name local) old new → IsKeptUnder old name (rebuilt node local (old.objects name)) new
name_rebuilt node name local old new recovers =
    let served = map (LogRecord.Serves name) (letters_as node local) in
    let parts = parted (places_records name local.places) (served ++ closes_records name local.places) old new recovers in
    let more = parted served (closes_records name local.places) parts.0 new parts.2 in
    changed_under old parts.0 new name (after_places (old.objects name) local.places)
    (λ copy. after_closing_all (after_letters copy (letters_as node local)) local.places)
    (all_heard_at name local.places old parts.0 parts.1)
    (changed_under parts.0 more.0 new name (after_letters (parts.0.objects name) (letters_as node local))
    (λ copy. after_closing_all copy local.places) (all_served_to name (letters_as node local) parts.0 more.0 more.1)
    (all_closed_at name local.places more.0 new more.2))

-- The records of all names

-- what the new node keeps: of the objects of these names what the records say, and otherwise the same as before
pub record AreRebuilt (node : KeptNode) (names : List (List ℕ)) (old new : KeptNode) : Type 0 where
  pub file : new.file ≡ old.file
  pub number : new.ids.node ≡ old.ids.node
  pub epoch : new.ids.epoch ≡ old.ids.epoch
  pub others : (name : List ℕ) → is_among names name ≡ false → new.objects name ≡ old.objects name
  pub own : (name : List ℕ) → is_among names name ≡ true
      → new.objects name ≡ rebuilt node.ids.node (node.objects name) (old.objects name)

-- the records of all objects are carried out
pub all_rebuilt : (node : KeptNode) (names : List (List ℕ)) → AreDistinctNames names → (old new : KeptNode)
    → Recovers (object_records node names) old new → AreRebuilt node names old new
all_rebuilt node [] distinct old new recovers = record {
  file = recovers.file;
  number = recovers.node;
  epoch = recovers.epoch;
  others = λ name none. recovers.objects name;
  own = λ name there. absurd (cc);
}
all_rebuilt node (first ∷ names) distinct old new recovers =
    let parts = parted (records_of_name node.ids.node first (node.objects first)) (object_records node names) old new recovers in
    let middle = parts.0 in
    let one = name_rebuilt node.ids.node first (node.objects first) old middle parts.1 in
    let rest = all_rebuilt node names distinct.1 middle new parts.2 in record {
      file = rest.file ∙ one.file;
      number = rest.number ∙ one.node;
      epoch = rest.epoch ∙ one.epoch;
      others = λ name none. go_other middle one.objects rest.others name (is_same_name first name) refl none;
      own = λ name there. go_own middle one.objects rest.others rest.own name (is_same_name first name) refl there;
    }
  where
    made : LocalObject
    made = rebuilt node.ids.node (node.objects first) (old.objects first)

    go_other : (middle : KeptNode)
        → ((other : List ℕ) → middle.objects other ≡ with_named old.objects first made other)
        → ((name : List ℕ) → is_among names name ≡ false → new.objects name ≡ middle.objects name)
        → (name : List ℕ) (b : Bool) → is_same_name first name ≡ b → cond b true (is_among names name) ≡ false
        → new.objects name ≡ old.objects name
    go_other middle one rest name true e none = absurd (cc)
    go_other middle one rest name false e none = rest name none ∙ one name ∙ other_named old.objects first made name e

    go_own : (middle : KeptNode)
        → ((other : List ℕ) → middle.objects other ≡ with_named old.objects first made other)
        → ((name : List ℕ) → is_among names name ≡ false → new.objects name ≡ middle.objects name)
        → ((name : List ℕ) → is_among names name ≡ true
        → new.objects name ≡ rebuilt node.ids.node (node.objects name) (middle.objects name))
        → (name : List ℕ) (b : Bool) → is_same_name first name ≡ b → cond b true (is_among names name) ≡ true
        → new.objects name ≡ rebuilt node.ids.node (node.objects name) (old.objects name)
    go_own middle one none own name true e there =
        let same : first ≡ name = (names_decided first name).0 e in
        subst (λ (n : List ℕ). new.objects n ≡ rebuilt node.ids.node (node.objects n) (old.objects n)) same
        (none first distinct.0 ∙ one first ∙ own_named old.objects first made)
    go_own middle one none own name false e there =
        own name there
        ∙ ap (rebuilt node.ids.node (node.objects name)) (one name ∙ other_named old.objects first made name e)
