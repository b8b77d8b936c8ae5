-- Calls that read the sequence of layouts at the start: one that begins anew, and one that reads on.
use Rattle.std.proofs.Common.{◌≡◌, ℕ, ◌+◌, ◌*◌, ◌-◌, ◌^◌, ◌&&◌, Bool, true, false, cond, not, ltb, is_some, IsSome}
use Rattle.std.proofs.Common.{List, [], ◌∷◌, length, slice_get, Option, Some, None, refl, sym, subst, ap, ◌∙◌}
use Rattle.std.proofs.lemmas.Bool.{ltb-true}
use Rattle.bank.specs.declared.kind.Kind.{Kind}
use Rattle.encoder.specs.Fragment.{fragment}
use Rattle.record.specs.Legal.{is_move}
use Rattle.call.specs.declared.next.Next.TheVariants as next
use Rattle.call.specs.Call.{OpenCall as Machine, reached}
use Rattle.open_calls.specs.OpenCalls.{NodeCall, open_call}
use Rattle.letter.specs.declared.letter.Letter.{Letter}
use Rattle.local_object.specs.declared.report.Report.{Report}
use Rattle.local_object.specs.Anew.{IsBegunAnew, IsBegunAnewIf, IsReadAt, IsReadAtIf, IsReadLater, reading_machine}
use Rattle.local_object.specs.Codes.{at_node, carried}
use Rattle.local_object.specs.Distinct.{HaveDistinctIds, HaveOtherIds, IsCallAt, KnowsStart}
use Rattle.local_object.specs.Doing.{IsOutcome}
use Rattle.local_object.specs.Events.{LocalEvent, done_here}
use Rattle.local_object.specs.Going.{next_here, next_if}
use Rattle.local_object.specs.Local.{LocalObject, Place, heard_place, layout_in}
use Rattle.local_object.specs.May.{MayHappenHere}
use Rattle.local_object.specs.Outcomes.{Outcome, on_open_call}
use Rattle.local_object.specs.ReadingOn.{is_reading, read_on_events, reads_on}
use Rattle.local_object.specs.Starting.{IsReadingHere, anew_number, first_number, number_at, reads_at, reads_here}
use Rattle.local_object.specs.Taking.{IsOutcomeWithAnswers, begin_anew_events, begin_events, is_read_begin, lead_events}
use Rattle.local_object.proofs.CarriedCallLemmas.{open_none, with_set}
use Rattle.local_object.proofs.DoneLemmas.{by_none, by_one}
use Rattle.local_object.proofs.NextLemmas.{again_restart, fetching_of, lacking_of, none_of, restart_of}
use Rattle.local_object.proofs.OpenLemmas.{lead_is, named_is, object, open_is, restarted_by}
use Rattle.local_object.proofs.ReadingTestLemmas.{begins_at, next_asked, quorum_there, reading_parts, reads_there, waits}

-- a call that begins anew has settled nothing
pub restart_unsettled : (again : Bool) (call : Machine) (kind : Kind) (position : ℕ) → next_if again call ≡ next.Restart kind position
    → call.settled ≡ None
restart_unsettled again call kind position step =
    (fetching_of call true (restart_of call kind position (again_restart again (next_here call) kind position step)).1).1

module _ (node : ℕ) (delta : Option ℕ) (start : ℕ) (reports : List Report) (places : List Place) {calls : List Machine} {id index : ℕ}
    (distinct : HaveDistinctIds calls) (at : IsCallAt calls id index) (call : Machine) (there : slice_get calls index ≡ Some call)
    (knows : KnowsStart places start) where
  abbrev local : LocalObject
  local = object node delta start reports places calls

  abbrev carries : open_call (carried node calls) id ≡ Some (at_node node call)
  carries = open_is node delta start reports places distinct at call there

  abbrev names : call.id ≡ id
  names = named_is node delta start reports places distinct at call there

  start_known : IsSome (layout_in (heard_place places start))
  start_known = knows.known

  -- the call reads at the start, in a phase with this number
  read_is : (number : ℕ) (new : List Machine) (letters : List Letter) → IsReadAt places calls call index number start new letters
      → (object node delta start reports places new ≡ (reads_here local (at_node node call) number).local)
      × (letters ≡ (reads_here local (at_node node call) number).sent)
  read_is number new letters reads =
      let outcome : reads_here local (at_node node call) number ≡ reads_at local (at_node node call) number start (Some reads.layout) =
      ap (reads_at local (at_node node call) number start) reads.known in (
        ap (object node delta start reports places) reads.calls
            ∙ ap (λ (cs : List NodeCall). record local { calls = cs })
            (sym (with_set node calls index call (reading_machine call number start reads.layout) distinct.distinct there refl))
            ∙ sym (ap (λ (t : Outcome). t.local) outcome),
        reads.sent ∙ sym (ap (λ (t : Outcome). t.sent) outcome),
      )

  module _ (new : List Machine) (letters : List Letter) where
    abbrev after : LocalObject
    after = object node delta start reports places new

    -- the call begins anew

    anew_outcome : done_here fragment local (LocalEvent.BeginAnew id)
        ≡ reads_here local (at_node node call) (call.phase.number + first_number start)
    anew_outcome = ap (λ o. on_open_call local o (λ (c : NodeCall). reads_here local c (anew_number c start))) carries

    anew_done : MayHappenHere fragment local (LocalEvent.BeginAnew id)
        → IsReadAt places calls call index (call.phase.number + first_number start) start new letters
        → IsOutcomeWithAnswers local (LocalEvent.BeginAnew id ∷ []) after letters []
    anew_done may reads =
        let is = read_is (call.phase.number + first_number start) new letters reads in
        by_one local (LocalEvent.BeginAnew id) after letters [] may
        (is.0 ∙ sym (ap (λ (t : Outcome). t.local) anew_outcome))
        (is.1 ∙ sym (ap (λ (t : Outcome). t.sent) anew_outcome)) refl

    anew_if : (can : Bool) → MayHappenHere fragment local (LocalEvent.BeginAnew id)
        → IsReadAtIf can places calls call index (call.phase.number + first_number start) start new letters
        → IsOutcomeWithAnswers local (cond can (LocalEvent.BeginAnew call.id ∷ []) []) after letters []
    anew_if true may reads =
        subst (λ n. IsOutcomeWithAnswers local (LocalEvent.BeginAnew n ∷ []) after letters []) (sym names) (anew_done may reads)
    anew_if false may same = by_none local after letters [] (ap (object node delta start reports places) same.0) same.1 refl

    abbrev can_anew : Bool
    can_anew = not (is_move call.kind) && ltb (call.phase.number + first_number start) (2 ^ 32)

    anew_is : begin_anew_events local call ≡ cond can_anew (LocalEvent.BeginAnew call.id ∷ []) []
    anew_is =
        ap (λ b. cond (not (is_move call.kind) && (b && ltb (call.phase.number + first_number start) (2 ^ 32)))
        (LocalEvent.BeginAnew call.id ∷ []) []) start_known

    anew_by : (again : Bool) (kind : Kind) (position : ℕ) → next_if again call ≡ next.Restart kind position
        → is_read_begin (reached call) ≡ true
        → IsReadAtIf can_anew places calls call index (call.phase.number + first_number start) start new letters
        → IsOutcomeWithAnswers local (lead_events again local id) after letters []
    anew_by again kind position step anew reads =
        let both = restart_of call kind position (again_restart again (next_here call) kind position step) in
        subst (λ events. IsOutcomeWithAnswers local events after letters [])
        (sym (lead_is node delta start reports places distinct at call there again (next.Restart kind position) step
        ∙ ap (λ b. cond b (begin_anew_events local call) (begin_events places call kind position)) anew
        ∙ anew_is))
        (anew_if can_anew
        (at_node node call, carries, lacking_of node call both.1, begins_at (reached call) anew, start_known) reads)

    pub begun_anew_by : (again : Bool) (kind : Kind) (position : ℕ) → next_if again call ≡ next.Restart kind position
        → IsBegunAnew places calls call index start kind position new letters
        → IsOutcomeWithAnswers local (lead_events again local id) after letters []
    begun_anew_by again kind position step begun = go (is_read_begin (reached call)) refl begun
      where
        go : (reads : Bool) → is_read_begin (reached call) ≡ reads
            → IsBegunAnewIf reads places calls call index start kind position new letters
            → IsOutcomeWithAnswers local (lead_events again local id) after letters []
        go true e begun = anew_by again kind position step e begun
        go false e begun =
            restarted_by node delta start reports places distinct at call there kind position new letters again step e begun

    -- the call reads on

    on_outcome : done_here fragment local (LocalEvent.ReadOn id)
        ≡ reads_here local (at_node node call) (call.phase.number + 2 * (start - call.phase.position))
    on_outcome = ap (λ o. on_open_call local o (λ (c : NodeCall). reads_here local c (number_at c start))) carries

    on_done : MayHappenHere fragment local (LocalEvent.ReadOn id)
        → IsReadAt places calls call index (call.phase.number + 2 * (start - call.phase.position)) start new letters
        → IsOutcomeWithAnswers local (LocalEvent.ReadOn id ∷ []) after letters []
    on_done may reads =
        let is = read_is (call.phase.number + 2 * (start - call.phase.position)) new letters reads in
        by_one local (LocalEvent.ReadOn id) after letters [] may
        (is.0 ∙ sym (ap (λ (t : Outcome). t.local) on_outcome))
        (is.1 ∙ sym (ap (λ (t : Outcome). t.sent) on_outcome)) refl

    on_if : (can : Bool) → MayHappenHere fragment local (LocalEvent.ReadOn id)
        → IsReadAtIf can places calls call index (call.phase.number + 2 * (start - call.phase.position)) start new letters
        → IsOutcomeWithAnswers local (cond can (LocalEvent.ReadOn id ∷ []) []) after letters []
    on_if true may reads = on_done may reads
    on_if false may same = by_none local after letters [] (ap (object node delta start reports places) same.0) same.1 refl

    pub reads_on_by : is_reading places call ≡ true → call.phase.call ≡ call.id
        → is_some call.phase.end ≡ not (ltb (length call.phase.replies) call.phase.quorum)
        → ltb call.phase.position start ≡ true
        → IsReadLater places calls call index (2 * (start - call.phase.position)) start new letters
        → IsOutcome local (read_on_events local id) after letters
    reads_on_by reading named waiting before reads =
        let parts = reading_parts places call reading in
        let staged = reads_there call.stage call.phase.position parts.stage in
        let known = quorum_there (layout_in (heard_place places call.phase.position)) call.phase.quorum parts.quorum in
        let few = waits (is_some call.phase.end) (ltb (length call.phase.replies) call.phase.quorum) waiting parts.ended in
        let here : IsReadingHere local (at_node node call) = record {
          finalized = staged.0;
          stage = staged.1;
          kind = next_asked call.phase.kind parts.kind;
          own = named;
          layout = known.0;
          known = known.1;
          quorum = known.2;
          few = ltb-true (length call.phase.replies) call.phase.quorum few;
          unended = none_of call.phase.end parts.ended;
        } in
        let room = ltb (call.phase.number + 2 * (start - call.phase.position)) (2 ^ 32) in
        let is : read_on_events local id ≡ cond room (LocalEvent.ReadOn id ∷ []) [] =
        ap (λ o. cond (reads_on local o) (LocalEvent.ReadOn id ∷ []) []) carries
        ∙ ap (λ b. cond (b && (ltb call.phase.position start && room)) (LocalEvent.ReadOn id ∷ []) []) reading
        ∙ ap (λ b. cond (b && room) (LocalEvent.ReadOn id ∷ []) []) before in
        subst (λ events. IsOutcome local events after letters) (sym is)
        (on_if room
        (at_node node call, carries, here, ltb-true call.phase.position start before, start_known) reads).done

-- the call reads nowhere before the start
module _ (node : ℕ) (delta : Option ℕ) (start : ℕ) (reports : List Report) (places : List Place) where
  pub nothing_read : (calls : List Machine) (id : ℕ) (old : LocalObject) → object node delta start reports places calls ≡ old
      → reads_on (object node delta start reports places calls) (open_call (carried node calls) id) ≡ false
      → (letters : List Letter) → letters ≡ [] → IsOutcome old (read_on_events old id) old letters
  nothing_read calls id old view not_read letters none =
      subst (λ (l : LocalObject). IsOutcome l (read_on_events l id) l letters) view
      (subst (λ b. IsOutcome (object node delta start reports places calls) (cond b (LocalEvent.ReadOn id ∷ []) [])
      (object node delta start reports places calls) letters) (sym not_read)
      (record { may = tt; local = refl; letters = none }))

  pub reads_none : (calls : List Machine) (id : ℕ) → HaveOtherIds id calls
      → reads_on (object node delta start reports places calls) (open_call (carried node calls) id) ≡ false
  reads_none calls id others = ap (reads_on (object node delta start reports places calls)) (open_none node calls id others)

  module _ {calls : List Machine} {id index : ℕ} (distinct : HaveDistinctIds calls) (at : IsCallAt calls id index) (call : Machine)
      (there : slice_get calls index ≡ Some call) where
    reads_if : reads_on (object node delta start reports places calls) (open_call (carried node calls) id)
        ≡ (is_reading places call && (ltb call.phase.position start
        && ltb (call.phase.number + 2 * (start - call.phase.position)) (2 ^ 32)))
    reads_if = ap (reads_on (object node delta start reports places calls)) (open_is node delta start reports places distinct at call there)

    pub not_reading : is_reading places call ≡ false
        → reads_on (object node delta start reports places calls) (open_call (carried node calls) id) ≡ false
    not_reading e =
        reads_if
        ∙ ap (λ b. b && (ltb call.phase.position start && ltb (call.phase.number + 2 * (start - call.phase.position)) (2 ^ 32))) e

    pub not_before : is_reading places call ≡ true → ltb call.phase.position start ≡ false
        → reads_on (object node delta start reports places calls) (open_call (carried node calls) id) ≡ false
    not_before reading e =
        reads_if
        ∙ ap (λ b. b && (ltb call.phase.position start && ltb (call.phase.number + 2 * (start - call.phase.position)) (2 ^ 32)))
        reading
        ∙ ap (λ b. b && ltb (call.phase.number + 2 * (start - call.phase.position)) (2 ^ 32)) e
