-- A call whose first reading stands for the query that it is to make next.
use Rattle.std.proofs.Common.{◌≡◌, ℕ, ◌+◌, ◌^◌, ◌≤◌, ◌&&◌, Bool, true, false, cond, not, IsSome, leb, ltb, eqb-true, List, [], ◌∷◌, set}
use Rattle.std.proofs.Common.{slice_get, Option, None, Some, refl, sym, subst, ap, ◌∙◌}
use Rattle.std.specs.List.{count_by}
use Rattle.std.proofs.lemmas.Bool.{leb-true, not-true}
use Rattle.bank.specs.declared.kind.Kind.{Kind}
use Rattle.bank.specs.declared.kind.Kind.TheVariants as kind
use Rattle.bank.specs.declared.status.Status.{Status}
use Rattle.bank.specs.declared.status.Status.TheVariants as status
use Rattle.encoder.specs.Fragment.{fragment}
use Rattle.layout.specs.Layout.{Layout, quorum_of}
use Rattle.mail.specs.declared.phase.Taken.{Taken}
use Rattle.mail.specs.Phase.{lacks_pieces}
use Rattle.record.specs.declared.call.CallKind.{CallKind}
use Rattle.record.specs.declared.stage.Stage.{Stage}
use Rattle.record.specs.declared.stage.Stage.TheVariants.{ReadNext}
use Rattle.record.specs.Legal.{is_move}
use Rattle.record.specs.PhaseOrder.{after_next, due, greatest_status, passed}
use Rattle.call.specs.Call.{OpenCall as Machine, reached}
use Rattle.call.specs.declared.next.Next.{Next as Step}
use Rattle.call.specs.declared.next.Next.TheVariants as next
use Rattle.open_calls.specs.OpenCalls.{NodeCall, open_call, with_open}
use Rattle.open_calls.specs.Queries.{queried, query_stage}
use Rattle.local_object.specs.Codes.{at_node, carried}
use Rattle.local_object.specs.declared.report.Report.{Report}
use Rattle.local_object.specs.Distinct.{DifferInMembers, HaveDistinctIds, HaveOtherIds, IsCallAt}
use Rattle.local_object.specs.Early.{is_first_counting}
use Rattle.local_object.specs.Events.{LocalEvent, done_here, queried_here}
use Rattle.local_object.specs.Going.{next_here}
use Rattle.local_object.specs.Local.{LocalObject, Place, heard_place, layout_here, layout_in}
use Rattle.local_object.specs.May.{MayHappenHere}
use Rattle.local_object.specs.Outcomes.{Outcome, on_open_call}
use Rattle.local_object.specs.Queried.{querying}
use Rattle.local_object.specs.Querying.{begins_query, is_query, is_told_by_quorum, is_to_query, query_by, query_events}
use Rattle.local_object.specs.Querying.{stands_for_query}
use Rattle.local_object.specs.ReadingOn.{is_next, is_reading_at}
use Rattle.local_object.specs.Reports.{tags_told, tells_unset}
use Rattle.local_object.specs.Taking.{IsOutcomeWithAnswers}
use Rattle.local_object.proofs.CarriedCallLemmas.{open_none, with_set}
use Rattle.local_object.proofs.DoneLemmas.{by_none, by_one}
use Rattle.local_object.proofs.HeedingLemmas.{queried_is, querying_id}
use Rattle.local_object.proofs.NewObjectLemmas.{both}
use Rattle.local_object.proofs.NextLemmas.{begin_of}
use Rattle.local_object.proofs.OpenLemmas.{named_is, object, open_is}
use Rattle.local_object.proofs.ReadingTestLemmas.{next_asked, reads_there}

-- The tests

query_asked : (k : Kind) → is_query k ≡ true → k ≡ kind.Query
query_asked kind.Next e = absurd (cc)
query_asked (kind.Spread status) e = absurd (cc)
query_asked kind.Query e = refl
query_asked (kind.PreWrite tag) e = absurd (cc)
query_asked (kind.Finalize tag) e = absurd (cc)
query_asked (kind.Fetch tag) e = absurd (cc)

begins : (n : Step) → begins_query n ≡ true → (position : ℕ) × (n ≡ next.Begin kind.Query position)
begins next.Wait e = absurd (cc)
begins next.Settle e = absurd (cc)
begins (next.Restart asked position) e = absurd (cc)
begins (next.Begin asked position) e = (position, ap (λ k. next.Begin k position) (query_asked asked e))
begins next.Answer e = absurd (cc)

-- whether a phase that is due, if there is one, is a query
abbrev asks_query : Option (Kind × ℕ) → Bool
asks_query None = false
asks_query (Some asked) = is_query asked.0

-- a first reading that found only unset pointers leads to a query
leads_after : (s : Status) (p : ℕ) → asks_query (due (after_next s p p)) ≡ true → after_next s p p ≡ query_stage p
leads_after status.Unset p e = refl
leads_after status.Pending p e = absurd (cc)
leads_after status.Final p e = absurd (cc)

leads : (k : CallKind) (number p : ℕ) (end : Option ℕ) (replies : List Taken) (lacks : Bool) → IsSome end →
    asks_query (due (passed k number (ReadNext p p) end replies lacks)) ≡ true →
    passed k number (ReadNext p p) end replies lacks ≡ query_stage p
leads k number p None replies lacks ended e = absurd (cc)
leads k number p (Some end) replies lacks ended e = leads_after (greatest_status replies) p e

-- what is so of a call that is to query
pub record IsToQuery (call : Machine) : Type 0 where
  pub client : is_move call.kind ≡ false
  pub stage : call.stage ≡ ReadNext call.phase.position call.phase.position
  pub kind : call.phase.kind ≡ kind.Next
  pub reaches : reached call ≡ query_stage call.phase.position

counting : (s : Stage) (p finalized : ℕ) → s ≡ ReadNext p finalized → is_first_counting s ≡ true → s ≡ ReadNext p p
counting s p finalized is e =
    let same = eqb-true p finalized (sym (ap is_first_counting is) ∙ e) in is ∙ ap (ReadNext p) (sym same)

pub to_query : (call : Machine) → is_to_query call ≡ true → IsToQuery call
to_query call e =
    let p = call.phase.position in
    let four = begins_query (next_here call) in
    let three = is_next call.phase.kind in
    let two = is_reading_at call.stage p in
    let one = is_first_counting call.stage in
    let a = both (not (is_move call.kind)) (one && (two && (three && four))) e in
    let b = both one (two && (three && four)) a.1 in
    let c = both two (three && four) b.1 in
    let d = both three four c.1 in
    let there = reads_there call.stage p c.0 in
    let stage = counting call.stage p there.0 there.1 b.0 in
    let begun = begins (next_here call) d.1 in
    let complete = begin_of call kind.Query begun.0 begun.1 in
    let at : reached call ≡ passed call.kind call.id (ReadNext p p) call.phase.end call.phase.replies (lacks_pieces call.phase) =
    ap (λ (s : Stage). passed call.kind call.id s call.phase.end call.phase.replies (lacks_pieces call.phase)) stage in record {
      client = not-true (is_move call.kind) a.0;
      stage = stage;
      kind = next_asked call.phase.kind d.0;
      reaches = at ∙ leads call.kind call.id p call.phase.end call.phase.replies (lacks_pieces call.phase) complete.complete
          (ap (λ (s : Stage). asks_query (due s)) (sym at) ∙ ap asks_query complete.due);
    }

-- The events

module _ (node : ℕ) (delta : Option ℕ) (start : ℕ) (reports : List Report) (places : List Place) where
  abbrev here : List Machine → LocalObject
  here calls = object node delta start reports places calls

  pub query_none : (calls : List Machine) (id : ℕ) → HaveOtherIds id calls →
      IsOutcomeWithAnswers (here calls) (query_events (here calls) id) (here calls) [] []
  query_none calls id others =
      subst (λ events. IsOutcomeWithAnswers (here calls) events (here calls) [] [])
      (sym (ap (query_by (here calls)) (open_none node calls id others))) (by_none (here calls) (here calls) [] [] refl refl refl)

  module _ {calls : List Machine} {id index : ℕ} (distinct : HaveDistinctIds calls) (at : IsCallAt calls id index) (call : Machine)
      (there : slice_get calls index ≡ Some call) where
    opened : open_call (carried node calls) id ≡ Some (at_node node call)
    opened = open_is node delta start reports places distinct at call there

    named : call.id ≡ id
    named = named_is node delta start reports places distinct at call there

    query_is : (b : Bool) → stands_for_query (here calls) (at_node node call) ≡ b →
        query_events (here calls) id ≡ cond b (LocalEvent.Query call.id ∷ []) []
    query_is b e = ap (query_by (here calls)) opened ∙ ap (λ c. cond c (LocalEvent.Query call.id ∷ []) []) e

    pub not_querying : stands_for_query (here calls) (at_node node call) ≡ false →
        IsOutcomeWithAnswers (here calls) (query_events (here calls) id) (here calls) [] []
    not_querying e =
        subst (λ events. IsOutcomeWithAnswers (here calls) events (here calls) [] []) (sym (query_is false e))
        (by_none (here calls) (here calls) [] [] refl refl refl)

    abbrev numbered : Bool
    numbered = ltb (call.phase.number + 1) (2 ^ 32)

    abbrev stands : Option Layout → Bool
    stands layout = is_to_query call && (numbered && is_told_by_quorum layout call.id call.phase.number reports)

    stands_at : (o : Option Layout) → layout_in (heard_place places call.phase.position) ≡ o →
        stands_for_query (here calls) (at_node node call) ≡ stands o
    stands_at o known = ap stands known

    and_false : (a : Bool) → (a && false) ≡ false
    and_false true = refl
    and_false false = refl

    pub not_heard : layout_in (heard_place places call.phase.position) ≡ None →
        IsOutcomeWithAnswers (here calls) (query_events (here calls) id) (here calls) [] []
    not_heard none =
        not_querying (stands_at None none ∙ ap (λ b. is_to_query call && b) (and_false numbered) ∙ and_false (is_to_query call))

    module _ (layout : Layout) (known : layout_in (heard_place places call.phase.position) ≡ Some layout) where
      abbrev count : ℕ
      count = count_by (tells_unset call.id call.phase.number) reports

      pub not_told : (is_to_query call && (numbered && leb (quorum_of layout) count)) ≡ false →
          IsOutcomeWithAnswers (here calls) (query_events (here calls) id) (here calls) [] []
      not_told e = not_querying (stands_at (Some layout) known ∙ e)

      module _ (test : (is_to_query call && (numbered && leb (quorum_of layout) count)) ≡ true) (some : 1 ≤ quorum_of layout)
          (differ : DifferInMembers reports) (new : List Machine) (is : new ≡ set calls index (querying call layout reports)) where
        parts : (is_to_query call ≡ true) × (leb (quorum_of layout) count ≡ true)
        parts =
            let outer = both (is_to_query call) (numbered && leb (quorum_of layout) count) test in
            (outer.0, (both numbered (leb (quorum_of layout) count) outer.1).1)

        asks : IsToQuery call
        asks = to_query call parts.0

        quorum : quorum_of layout ≤ count
        quorum = leb-true (quorum_of layout) count parts.1

        may : MayHappenHere fragment (here calls) (LocalEvent.Query id)
        may = (
          at_node node call,
          opened,
          record { client = asks.client; stage = asks.stage; kind = asks.kind; layout = layout; known = known; quorum = quorum },
        )

        outcome : done_here fragment (here calls) (LocalEvent.Query id) ≡ queried_here (here calls) (at_node node call) (Some layout)
        outcome =
            ap (λ o. on_open_call (here calls) o
            (λ one. queried_here (here calls) one (layout_here (here calls) one.phase.position))) opened
            ∙ ap (queried_here (here calls) (at_node node call)) known

        abbrev after : NodeCall
        after = queried (at_node node call) layout (tags_told layout call.id call.phase.number reports)

        made : carried node new ≡ with_open after (carried node calls)
        made =
            ap (carried node) is
            ∙ sym (with_set node calls index call (querying call layout reports) distinct.distinct there
            (querying_id node call layout reports))
            ∙ ap (λ (c : NodeCall). with_open c (carried node calls))
            (queried_is node call layout reports some quorum differ asks.reaches)

        done : IsOutcomeWithAnswers (here calls) (LocalEvent.Query id ∷ []) (here new) [] []
        done = by_one (here calls) (LocalEvent.Query id) (here new) [] [] may
            (ap (λ (cs : List NodeCall). record (here calls) { calls = cs }) made ∙ sym (ap (λ (o : Outcome). o.local) outcome))
            (sym (ap (λ (o : Outcome). o.sent) outcome)) refl

        pub queries_by : IsOutcomeWithAnswers (here calls) (query_events (here calls) id) (here new) [] []
        queries_by =
            subst (λ events. IsOutcomeWithAnswers (here calls) events (here new) [] [])
            (ap (λ n. LocalEvent.Query n ∷ []) (sym named) ∙ sym (query_is true (stands_at (Some layout) known ∙ test))) done
