-- What a client reads after a write was answered, from a history of what clients saw.
use Rattle.std.proofs.Common.{◌≡◌, ◌≢◌, ◌⊎◌, ◌<◌, ℕ, zero, suc, List, [], map, slice_get, IsSome, Some, inl, inr}
use Rattle.std.proofs.Common.{refl, sym, ap, subst, ◌∙◌, arith}
use Rattle.std.proofs.lemmas.Option.{get_or_from_slice_get, same_Some}
use Rattle.record.specs.declared.call.Entry.{Entry}
use Rattle.record.specs.declared.call.Operation.{Operation}
use Rattle.record.specs.declared.call.Operation.TheVariants as operation
use Rattle.atomicity.specs.Atomic.{IsAnsweredBefore, IsSequence, entry_at, no_entry}
use Rattle.local_object.specs.declared.progress.Ended.{Ended}
use Rattle.deeds.specs.Deeds.{Notice}
use Rattle.refinement.specs.SeenHistories.{IsBegunAs, IsHistoryOfSeen, IsToldAt}
use Rattle.processes.specs.Laws.{ClientsSeeAtomicHistories}
use Rattle.example_tests.specs.ReadsOfProcesses.{AnsweredWritesAreRead, IsReadAfterWrite, IsWrittenBetween, OnlyWriteIsRead}
use Rattle.example_tests.specs.ReadsOfProcesses.{ReturnsWritten, write_then_read}
use Rattle.example_tests.proofs.RegisterReadLemmas.{IsAmong, IsReadBehind, among_ordered, placed_among, read_behind}

-- The notice with which a write began

-- the notice with which the call of a write began has its name, its id and its value
pub record BeganWrite (name : List ℕ) (notice : Notice) (entry : Entry) : Type 0 where
  pub value : List ℕ
  pub is : notice ≡ Notice.Writes name entry.call value
  pub wrote : entry.value ≡ Some value

write_of : (name : List ℕ) (notice : Notice) (entry : Entry) → IsBegunAs name notice entry → entry.kind ≡ operation.Write →
    BeganWrite name notice entry
write_of name (Notice.Reads other id) entry begun writes =
    absurd (let kinds : operation.Read ≡ operation.Write = sym begun.2 ∙ writes in cc)
write_of name (Notice.Writes other id value) entry begun writes = record {
  value = value;
  is = ap (λ n. Notice.Writes n id value) begun.0 ∙ ap (λ i. Notice.Writes name i value) (sym begun.1);
  wrote = begun.3;
}
write_of name (Notice.Moves other id layout) entry begun writes =
    absurd (let kinds : operation.Move ≡ operation.Write = sym begun.2 ∙ writes in cc)
write_of name (Notice.Tells other ended) entry begun writes = absurd begun

-- an answer is no begun write
no_write : (name value : List ℕ) (id : ℕ) (ended : Ended) → Notice.Writes name id value ≡ Notice.Tells name ended → ⊥
no_write name value id ended same = cc

less : {a b : ℕ} → (b < a → ⊥) → (a ≡ b → ⊥) → a < b
less {a} {b} not_more not_same = grind arith

module _ (name : List ℕ) (seen : List Notice) (history : List Entry) (of : IsHistoryOfSeen name seen history) (write read : Ended)
    (saw : IsReadAfterWrite name seen write read) where
  abbrev wrote : IsToldAt history of.begins saw.told write
  wrote = of.told saw.told write saw.write_told

  abbrev reads : IsToldAt history of.begins saw.answered read
  reads = of.told saw.answered read saw.read_told

  -- the read was called after the write was answered
  read_later : IsAnsweredBefore wrote.entry reads.entry
  read_later =
      let last =
      of.last reads.index saw.began reads.entry reads.entry (Notice.Reads name read.id) reads.at saw.read_began
      (refl, reads.call, reads.kind ∙ saw.is_read) refl in
      wrote.order reads.index reads.entry reads.at (let after = saw.after in omega arith)

  -- the notice with which a write of the history began
  began_as : (index : ℕ) (entry : Entry) → slice_get history index ≡ Some entry → entry.kind ≡ operation.Write →
      (value : List ℕ) × (slice_get seen (of.begins index) ≡ Some (Notice.Writes name entry.call value)) × (entry.value ≡ Some value)
  began_as index entry at writes =
      let begun = of.begun index entry at in
      let is = write_of name begun.0 entry begun.2 writes in (is.value, begun.1 ∙ ap Some is.is, is.wrote)

  -- the write that was answered
  abbrev own : (value : List ℕ) × (slice_get seen (of.begins wrote.index) ≡ Some (Notice.Writes name wrote.entry.call value))
      × (wrote.entry.value ≡ Some value)
  own = began_as wrote.index wrote.entry wrote.at (wrote.kind ∙ saw.is_write)

  -- two times with different notices are apart
  apart : (one other : ℕ) (value : List ℕ) (id : ℕ) (ended : Ended) → slice_get seen one ≡ Some (Notice.Writes name id value) →
      slice_get seen other ≡ Some (Notice.Tells name ended) → one ≡ other → ⊥
  apart one other value id ended first second same =
      no_write name value id ended
      (same_Some (Notice.Writes name id value) (Notice.Tells name ended) (sym first ∙ ap (slice_get seen) same ∙ second))

  module _ (index : ℕ) (other : Entry) (at : slice_get history index ≡ Some other) (writes : other.kind ≡ operation.Write) where
    abbrev began : (value : List ℕ) × (slice_get seen (of.begins index) ≡ Some (Notice.Writes name other.call value))
        × (other.value ≡ Some value)
    began = began_as index other at writes

    -- a write that does not come after the read began before the read was answered
    earlier : (IsAnsweredBefore reads.entry other → ⊥) → of.begins index < saw.answered
    earlier not_after =
        less (λ more. not_after (reads.order index other at more))
        (apart (of.begins index) saw.answered began.0 other.call read began.1 saw.read_told)

    -- the entry of an answer with the id of this write is this write
    is_it : (time : ℕ) (ended : Ended) (told : slice_get seen time ≡ Some (Notice.Tells name ended)) → ended.id ≡ other.call →
        (of.told time ended told).entry ≡ other
    is_it time ended told same =
        let found = of.told time ended told in
        let places = of.distinct found.index index found.entry other found.at at (found.call ∙ same) in
        same_Some found.entry other (sym found.at ∙ ap (slice_get history) places ∙ at)

    -- a write that does not come before the answered one was not answered before that one began
    later : (IsAnsweredBefore other wrote.entry → ⊥) → (time : ℕ) (ended : Ended) →
        slice_get seen time ≡ Some (Notice.Tells name ended) → ended.id ≡ other.call → of.begins wrote.index < time
    later not_before time ended told same =
        less (λ more. not_before (subst (λ e. IsAnsweredBefore e wrote.entry) (is_it time ended told same)
        ((of.told time ended told).order wrote.index wrote.entry wrote.at more)))
        (apart (of.begins wrote.index) time own.0 wrote.entry.call ended own.1 told)

  -- a write whose value the read returns, that was not answered before the other began
  between : (entries : List Entry) (index : ℕ) (behind : IsReadBehind wrote.entry reads.entry entries) →
      slice_get history index ≡ Some behind.from.write →
      IsWrittenBetween name seen read.value (of.begins wrote.index) saw.answered
  between entries index behind at =
      let other = behind.from.write in
      let wrote_it = began index other at behind.from.kind in record {
        id = other.call;
        written = wrote_it.0;
        time = of.begins index;
        began = wrote_it.1;
        same = sym reads.value ∙ behind.from.same ∙ wrote_it.2;
        before = earlier index other at behind.from.kind behind.from.not_after;
        not_before = later index other at behind.from.kind behind.not_before;
      }

  module _ (order : List ℕ) (sequence : IsSequence history order) where
    abbrev ordered : List Entry
    ordered = map (λ number. entry_at history number) order

    -- an answered call of the history stands in the order
    stands : (index : ℕ) (entry : Entry) → slice_get history index ≡ Some entry → entry.kind ≢ operation.Move →
        IsSome entry.answered → IsAmong entry ordered
    stands index entry at no_move answered =
        subst (λ e. IsAmong e ordered) (is) (among_ordered history order (suc index)
        (sequence.complete (suc index) (subst (λ (e : Entry). e.kind ≢ operation.Move) (sym is) no_move)
        (subst (λ (e : Entry). IsSome e.answered) (sym is) answered)))
      where
        is : entry_at history (suc index) ≡ entry
        is = get_or_from_slice_get history index entry no_entry at

    returned : (reads.entry.value ≡ wrote.entry.value) ⊎ IsReadBehind wrote.entry reads.entry ordered
    returned =
        read_behind wrote.entry reads.entry [] ordered (wrote.kind ∙ saw.is_write) (reads.kind ∙ saw.is_read) read_later
        sequence.one_register sequence.in_order
        (stands wrote.index wrote.entry wrote.at (no_move wrote.entry.kind operation.Write (wrote.kind ∙ saw.is_write) (λ same. cc))
        wrote.answered)
        (stands reads.index reads.entry reads.at (no_move reads.entry.kind operation.Read (reads.kind ∙ saw.is_read) (λ same. cc))
        reads.answered)
      where
        no_move : (kind other : Operation) → kind ≡ other → (other ≡ operation.Move → ⊥) → kind ≢ operation.Move
        no_move kind other is not same = not (sym is ∙ same)

    pub returns_written : ReturnsWritten name seen write read saw.told saw.answered
    returns_written = record {
      value = own.0;
      wrote = sym wrote.value ∙ own.2;
      time = of.begins wrote.index;
      began = own.1 ∙ ap (λ id. Some (Notice.Writes name id own.0)) wrote.call;
      before = wrote.before;
      returns = go returned;
    }
      where
        go : (reads.entry.value ≡ wrote.entry.value) ⊎ IsReadBehind wrote.entry reads.entry ordered →
            (read.value ≡ Some own.0) ⊎ IsWrittenBetween name seen read.value (of.begins wrote.index) saw.answered
        go (inl same) = inl (sym reads.value ∙ same ∙ own.2)
        go (inr behind) =
            let place = placed_among history order behind.from.write behind.from.kind behind.from.among in
            inr (between ordered place.0 behind place.1)

pub answered_are_read : ClientsSeeAtomicHistories → AnsweredWritesAreRead
answered_are_read law processes name write read reached saw =
    let has = law processes reached name in
    returns_written name processes.seen has.0 has.1 write read saw has.2.0 has.2.1

-- The example

-- a write that began among these notices has this value
only_write : (name value : List ℕ) (write read : Ended) (time id : ℕ) (other : List ℕ) →
    slice_get (write_then_read name value write read) time ≡ Some (Notice.Writes name id other) → other ≡ value
only_write name value write read zero id other began = cc
only_write name value write read (suc zero) id other began = absurd cc
only_write name value write read (suc (suc zero)) id other began = absurd cc
only_write name value write read (suc (suc (suc zero))) id other began = absurd cc
only_write name value write read (suc (suc (suc (suc time)))) id other began = absurd cc

pub only_is_read : ClientsSeeAtomicHistories → OnlyWriteIsRead
only_is_read law processes name value write read reached seen is_write is_read =
    go written.returns
  where
    there : (time : ℕ) (notice : Notice) → slice_get (write_then_read name value write read) time ≡ Some notice →
        slice_get processes.seen time ≡ Some notice
    there time notice at = ap (λ (s : List Notice). slice_get s time) seen ∙ at

    saw : IsReadAfterWrite name processes.seen write read
    saw = record {
      is_write = is_write;
      is_read = is_read;
      told = 1;
      began = 2;
      answered = 3;
      write_told = there 1 (Notice.Tells name write) refl;
      read_began = there 2 (Notice.Reads name read.id) refl;
      read_told = there 3 (Notice.Tells name read) refl;
      after = omega arith;
    }

    written : ReturnsWritten name processes.seen write read saw.told saw.answered
    written = answered_are_read law processes name write read reached saw

    only : (time id : ℕ) (other : List ℕ) → slice_get processes.seen time ≡ Some (Notice.Writes name id other) → other ≡ value
    only time id other at =
        only_write name value write read time id other (ap (λ (s : List Notice). slice_get s time) (sym seen) ∙ at)

    go : (read.value ≡ Some written.value) ⊎ IsWrittenBetween name processes.seen read.value written.time saw.answered →
        read.value ≡ Some value
    go (inl same) = same ∙ ap Some (only written.time write.id written.value written.began)
    go (inr other) = other.same ∙ ap Some (only other.time other.id other.written other.began)
