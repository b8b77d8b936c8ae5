-- Calls of an object as a history shows them, with their tags: the tags order the entries as one register.
use Rattle.std.proofs.Common.{◌≡◌, ◌≢◌, ℕ, ◌≤◌, ◌⊎◌, false, List, [], Option, Some, None}
use Rattle.std.proofs.Common.{refl, sym, subst, ap, ◌∙◌, inl, inr, arith, slice_get}
use Rattle.std.proofs.lemmas.Option.{same_Some}
use Rattle.tag.specs.declared.tag.Tag.{Tag}
use Rattle.tag.specs.Tag.{opening_tag, IsBelow}
use Rattle.record.specs.declared.call.CallKind.{CallKind}
use Rattle.record.specs.declared.call.CallKind.TheVariants.{Read, Write}
use Rattle.record.specs.declared.call.Entry.{Entry}
use Rattle.record.specs.declared.call.Operation.TheVariants as operation
use Rattle.record.specs.Journals.{entries, entry_of, entry_value, operation_of, tag_of, IsJournaled, IsWritten, ReadsJournaled}
use Rattle.record.specs.Legal.{is_move, source_of, stage_of, IsLegal}
use Rattle.record.specs.Records.{Call, Object}
use Rattle.record.proofs.TagOrderLemmas.{IsAtMost}
use Rattle.soundness.proofs.Values.WrittenTagLemmas.{written_above, written_id}
use Rattle.atomicity.specs.Atomic.{IsAnsweredBefore}
use Rattle.atomicity.proofs.Sequences.AnsweredTagLemmas.{answered_facts, tag_facts, tag_order}
use Rattle.atomicity.proofs.Sequences.EntryItemLemmas.{AreTagged, HasWritten}
use Rattle.atomicity.proofs.Sequences.ItemEntryLemmas.{entry_call, entry_there, stays}
use Rattle.atomicity.proofs.Stages.CallFactLemmas.{call_at_end}
use Rattle.atomicity.proofs.Stages.StageFactLemmas.{HasTag, Put, Reached, put_later, reached_later}

-- by the step, after its call, the call had put the tag at a position that it had reached
pub record HasEnded (object : Object) (called step : ℕ) (tag : Tag) : Type 0 where
  pub since : called ≤ step
  pub last : ℕ
  pub reached : Reached object last step
  pub put : Put object step last tag

-- a call that the record answered has ended by then
answered_ended : (object : Object) → IsLegal object → (index : ℕ) (call : Call) → slice_get object.calls index ≡ Some call →
    is_move call.kind ≡ false → (step : ℕ) → call.answered ≡ Some step →
    (tag : Tag) × (tag_of object index call ≡ Some tag) × HasEnded object call.called step tag
answered_ended object legal index call at reads step e =
    let fin = answered_facts object legal index call at reads step e in
    let end = fin.3 in (
      end.tag,
      end.tagged,
      record {
        since = (let a = fin.1 in let b = fin.2 in omega arith);
        last = end.last;
        reached = reached_later object end.last fin.0 step fin.1 end.reached;
        put = put_later object fin.0 step end.last end.tag fin.1 end.put;
      },
    )

-- what is so of a call that the history shows with this entry and tag
pub record IsSeen (object : Object) (index : ℕ) (call : Call) (entry : Entry) (tag : Option Tag) : Type 0 where
  pub at : slice_get object.calls index ≡ Some call
  pub kind : entry.kind ≡ operation_of call.kind
  pub called : entry.called ≡ call.called
  pub tagged : (t : Tag) → tag ≡ Some t → is_move call.kind ≡ false → HasTag object call.kind call.id call.called t
  pub ended : (step : ℕ) → entry.answered ≡ Some step → is_move call.kind ≡ false →
      (t : Tag) × (tag ≡ Some t) × HasEnded object call.called step t
  pub wrote : (value : List ℕ) → call.kind ≡ Write value → (entry.value ≡ Some value) × (tag_of object index call ≡ tag)
  pub returned : (step : ℕ) (t : Tag) → call.kind ≡ Read → entry.answered ≡ Some step → tag ≡ Some t →
      (value : List ℕ) × (entry.value ≡ Some value) × IsJournaled object t value

-- the history shows each call, and nothing else
pub record AreSeen (object : Object) (entries : List Entry) (tags : ℕ → Option Tag) : Type 0 where
  pub each : (index : ℕ) (entry : Entry) → slice_get entries index ≡ Some entry →
      (call : Call) × IsSeen object index call entry (tags index)
  pub there : (index : ℕ) (call : Call) → slice_get object.calls index ≡ Some call →
      (entry : Entry) × (slice_get entries index ≡ Some entry)

read_value : (kind : CallKind) (answered : Option ℕ) (settled : Option (List ℕ)) (step : ℕ) (value : List ℕ) → kind ≡ Read →
    answered ≡ Some step → settled ≡ Some value → entry_value kind answered settled ≡ Some value
read_value kind answered settled step value k a v = rw (k, a, v) refl

-- a call as the record shows it
pub recorded_seen : (object : Object) → IsLegal object → ReadsJournaled object → (index : ℕ) (call : Call) →
    slice_get object.calls index ≡ Some call → IsSeen object index call (entry_of call.id call) (tag_of object index call)
recorded_seen object legal journaled index call at = record {
  at = at;
  kind = refl;
  called = refl;
  tagged = λ t e stands.
      let end = call_at_end object legal index call at in
      tag_facts object call.kind (source_of object index) call.id call.called end.now (stage_of object index call) t e stands end.facts;
  ended = λ step e stands. answered_ended object legal index call at stands step e;
  wrote = λ value k. (ap (λ kind. entry_value kind call.answered call.settled) k, refl);
  returned = λ step t k e tag.
      let j = journaled index call step at k e in (
        j.0,
        read_value call.kind call.answered call.settled step j.0 k e j.2,
        subst (λ u. IsJournaled object u j.0) (same_Some j.1 t (sym j.3 ∙ tag)) j.4,
      );
}

writes : (kind : CallKind) → operation_of kind ≡ operation.Write → (value : List ℕ) × (kind ≡ Write value)
writes kind e = grind arith

reads : (kind : CallKind) → operation_of kind ≡ operation.Read → kind ≡ Read
reads kind e = grind arith

module _ (object : Object) (legal : IsLegal object) (entries : List Entry) (tags : ℕ → Option Tag)
    (seen : AreSeen object entries tags) where
  -- an entry of a write with its tag is that of a written tag
  pub entry_written : (index : ℕ) (entry : Entry) (tag : Tag) → slice_get entries index ≡ Some entry →
      entry.kind ≡ operation.Write → tags index ≡ Some tag →
      (value : List ℕ) × (w : IsWritten object tag value) × (w.index ≡ index) × (entry.value ≡ Some value)
  entry_written index entry tag at kind tagged =
      let s = seen.each index entry at in
      let w = writes s.0.kind (sym s.1.kind ∙ kind) in
      let wrote = s.1.wrote w.0 w.1 in (
        w.0,
        record { index = index; call = s.0; at = s.1.at; kind = w.1; tagged = wrote.1 ∙ tagged },
        refl,
        wrote.0,
      )

  respects : (i j : ℕ) (a b : Entry) (s u : Tag) → slice_get entries i ≡ Some a → slice_get entries j ≡ Some b →
      a.kind ≢ operation.Move → b.kind ≢ operation.Move → tags i ≡ Some s → tags j ≡ Some u → IsAnsweredBefore a b →
      IsAtMost s u × (b.kind ≡ operation.Write → IsBelow s u)
  respects i j a b s u at there other stands tagged_a tagged_b before =
      let x = seen.each i a at in
      let y = seen.each j b there in
      let end = x.1.ended before.0 before.1 (stays x.0.kind (subst (λ k. k ≢ operation.Move) x.1.kind other)) in
      let put = subst (λ t. Put object before.0 end.2.last t) (same_Some end.0 s (sym end.1 ∙ tagged_a)) end.2.put in
      let order = tag_order object legal y.0.id y.0.called before.0 end.2.last s u y.0.kind end.2.reached put
      (let c = y.1.called in let d = before.2 in omega arith)
      (y.1.tagged u tagged_b (stays y.0.kind (subst (λ k. k ≢ operation.Move) y.1.kind stands))) in
      (order.0, λ kind. let w = writes y.0.kind (sym y.1.kind ∙ kind) in order.1 w.0 w.1)

  journaled : (tag : Tag) (value : List ℕ) → IsJournaled object tag value →
      ((tag ≡ opening_tag) × (value ≡ [])) ⊎ HasWritten entries tags tag value
  journaled tag value (inl empty) = inl empty
  journaled tag value (inr w) =
      let entry = seen.there w.index w.call w.at in
      let s = seen.each w.index entry.0 entry.1 in
      let one : w.call ≡ s.0 = same_Some w.call s.0 (sym w.at ∙ s.1.at) in
      let kind = ap (λ (c : Call). c.kind) (sym one) ∙ w.kind in
      let wrote = s.1.wrote value kind in
      inr (record {
        index = w.index;
        entry = entry.0;
        at = entry.1;
        kind = s.1.kind ∙ ap operation_of kind;
        writes = wrote.0;
        tagged = sym wrote.1 ∙ ap (λ c. tag_of object w.index c) (sym one) ∙ w.tagged;
      })

  -- the tags order the entries as one register
  pub seen_tagged : AreTagged entries tags
  seen_tagged = record {
    in_turn = λ i j a b at there less.
        let s = seen.each i a at in
        let t = seen.each j b there in
        let order = legal.in_turn i j s.0 t.0 s.1.at t.1.at less in
        let c = s.1.called in
        let d = t.1.called in
        omega arith;
    answers = λ i a now at other e.
        let s = seen.each i a at in
        let end = s.1.ended now e (stays s.0.kind (subst (λ k. k ≢ operation.Move) s.1.kind other)) in
        (let c = s.1.called in let d = end.2.since in omega arith, end.0, end.1);
    respects = respects;
    writes = λ i a at kind.
        let s = seen.each i a at in
        let w = writes s.0.kind (sym s.1.kind ∙ kind) in
        (w.0, (s.1.wrote w.0 w.1).0);
    above = λ i a tag at kind tagged.
        let w = entry_written i a tag at kind tagged in
        inl (written_above object legal tag w.0 w.1);
    apart = λ i j a b s u at there kind_a kind_b tagged_a tagged_b same.
        let v = entry_written i a s at kind_a tagged_a in
        let w = entry_written j b u there kind_b tagged_b in
        let ids = sym (written_id object legal s v.0 v.1) ∙ same ∙ written_id object legal u w.0 w.1 in
        sym v.2 ∙ legal.ids v.1.index w.1.index v.1.call w.1.call v.1.at w.1.at ids ∙ w.2;
    reads = λ i a now tag at kind e tagged.
        let s = seen.each i a at in
        let r = s.1.returned now tag (reads s.0.kind (sym s.1.kind ∙ kind)) e tagged in
        (r.0, r.1, journaled tag r.0 r.2);
  }

-- the tag of a call at this index, if there is a call
abbrev pub recorded_tag : Object → ℕ → Option Call → Option Tag
recorded_tag object index None = None
recorded_tag object index (Some call) = tag_of object index call

-- the tags of the calls
abbrev pub recorded_tags : Object → ℕ → Option Tag
recorded_tags object index = recorded_tag object index (slice_get object.calls index)

-- the entries of a record show its calls
pub record_seen : (object : Object) → IsLegal object → ReadsJournaled object → AreSeen object (entries object) (recorded_tags object)
record_seen object legal journaled = record {
  each = λ index entry e.
      let call = entry_call object index entry e in (
        call.0,
        subst (λ y. IsSeen object index call.0 y (recorded_tags object index)) call.2
            (subst (λ o. IsSeen object index call.0 (entry_of call.0.id call.0) (recorded_tag object index o)) (sym call.1)
            (recorded_seen object legal journaled index call.0 call.1)),
      );
  there = λ index call at. (entry_of call.id call, entry_there object index call at);
}
