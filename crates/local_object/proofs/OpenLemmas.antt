-- The calls of an object, as they are found, changed and removed by its events.
use Rattle.std.proofs.Common.{◌≡◌, ℕ, ◌⊎◌, Bool, true, false, cond, IsSome, List, [], ◌∷◌}
use Rattle.std.proofs.Common.{set, slice_get, Option, Some, None, inl, inr, refl, sym, subst, ap, ◌∙◌}
use Rattle.std.specs.List.{remove}
use Rattle.bank.specs.declared.kind.Kind.{Kind}
use Rattle.encoder.specs.Fragment.{fragment}
use Rattle.layout.specs.Layout.{Layout}
use Rattle.mail.specs.declared.message.Message.{Message}
use Rattle.record.specs.PhaseOrder.{due}
use Rattle.call.specs.declared.next.Next.TheVariants as next
use Rattle.call.specs.Call.{OpenCall as Machine, reached}
use Rattle.call.specs.Steps.{entered, phase_next, taken_call}
use Rattle.open_calls.specs.OpenCalls.{NodeCall, open_call, due_phase, with_open, without_call}
use Rattle.letter.specs.declared.letter.Letter.{Letter}
use Rattle.letter.specs.declared.telling.Telling.{Telling}
use Rattle.local_object.specs.declared.report.Report.{Report}
use Rattle.local_object.specs.declared.progress.Ended.{Ended}
use Rattle.local_object.specs.Codes.{at_node, carried}
use Rattle.local_object.specs.Coding.{is_sendable}
use Rattle.local_object.specs.Distinct.{HaveOtherIds, HaveDistinctIds, IsCallAt}
use Rattle.local_object.specs.Ended.{told_if, told_of}
use Rattle.local_object.specs.Events.{LocalEvent, advanced_at, advanced_here, done_here, ended_here, taking_here}
use Rattle.local_object.specs.Outcomes.{Outcome, on_open_call, silent}
use Rattle.local_object.specs.Going.{IsAdvancedIf, IsAdvanced, next_here, next_if, settled_here, taken_here}
use Rattle.local_object.specs.Taking.{IsOutcomeWithAnswers, begin_anew_events, begin_events, call_events, can_begin}
use Rattle.local_object.specs.Taking.{is_read_begin, lead_events, step_events}
use Rattle.call.specs.declared.next.Next.{Next as Step}
use Rattle.local_object.specs.Local.{LocalObject, Place, layout_in, heard_place}
use Rattle.local_object.specs.May.{MayHappenHere}
use Rattle.local_object.specs.Reports.{reports_after, told_to, without_reports}
use Rattle.local_object.specs.Resent.{letters_again, letters_again_at, letters_again_of}
use Rattle.local_object.specs.Sent.{missing_letters}
use Rattle.local_object.proofs.BeginLemmas.{open_found}
use Rattle.local_object.proofs.CarriedCallLemmas.{open_none, same_call, with_set, without_at}
use Rattle.local_object.proofs.DoneLemmas.{by_none, by_one}
use Rattle.local_object.proofs.NextLemmas.{again_answer, again_begin, again_restart}
use Rattle.local_object.proofs.NextLemmas.{answer_of, begin_of, due_begun, lacking_of, ready_of, restart_of}

pub silent_sent : (local : LocalObject) (o : Option NodeCall) (f : NodeCall → LocalObject)
    → (on_open_call local o (λ call. silent (f call))).sent ≡ []
silent_sent local None f = refl
silent_sent local (Some call) f = refl

abbrev position_or : ℕ → Option (Kind × ℕ) → ℕ
position_or other None = other
position_or other (Some asked) = asked.1

module _ (node : ℕ) (delta : Option ℕ) (start : ℕ) (reports : List Report) (places : List Place) where
  abbrev pub object : List Machine → LocalObject
  object calls = record { node = node; delta = delta; start = start; places = places; reports = reports; calls = carried node calls }

  module _ {calls : List Machine} {id index : ℕ} (distinct : HaveDistinctIds calls) (at : IsCallAt calls id index) where
    pub found : (f : NodeCall → Outcome) → on_open_call (object calls) (open_call (carried node calls) id) f ≡ f (at_node node at.call)
    found f = ap (λ o. on_open_call (object calls) o f) (open_found node calls id index distinct at)

    changed_is : (new : Machine) → new.id ≡ at.call.id
        → object (set calls index new) ≡ record (object calls) { calls = with_open (at_node node new) (carried node calls) }
    changed_is new same =
        ap (λ (cs : List NodeCall). record (object calls) { calls = cs })
        (sym (with_set node calls index at.call new distinct.distinct at.there same))

    pub taken_is : (message : Message) (told : Option Telling) → id ≡ message.call
        → record (object (set calls index (taken_call message 0 at.call))) {
          reports = reports_after at.call.phase.number message (told_to at.call.kind told) reports;
        } ≡ (taken_here (object calls) message told).local
    taken_is message told named =
        ap (λ (l : LocalObject). record l { reports = reports_after at.call.phase.number message (told_to at.call.kind told) reports })
        (changed_is (taken_call message 0 at.call) refl)
        ∙ sym (ap (λ (t : Outcome). t.local) (found (λ call. silent (taking_here (object calls) call message told))))
        ∙ ap (λ n. (on_open_call (object calls) (open_call (carried node calls) n)
        (λ call. silent (taking_here (object calls) call message told))).local) named

    pub settled_is : (value : List ℕ)
        → object (set calls index (record at.call { settled = Some value })) ≡ (settled_here (object calls) id value).local
    settled_is value =
        changed_is (record at.call { settled = Some value }) refl
        ∙ sym (ap (λ (t : Outcome). t.local)
        (found (λ call. silent (record (object calls) { calls = with_open (record call { settled = Some value }) (carried node calls) }))))

    -- the call, as it was read
    module _ (call : Machine) (there : slice_get calls index ≡ Some call) where
      read_is : at.call ≡ call
      read_is = same_call at.call call (sym at.there ∙ there)

      is_at : IsCallAt calls id index
      is_at = record { call = call; there = there; named = ap (λ (m : Machine). m.id) (sym read_is) ∙ at.named }

      pub open_is : open_call (carried node calls) id ≡ Some (at_node node call)
      unfolding is_at
      open_is = open_found node calls id index distinct is_at

      pub named_is : call.id ≡ id
      named_is = ap (λ (m : Machine). m.id) (sym read_is) ∙ at.named

      -- the events by which the call goes on
      pub lead_is : (again : Bool) (step : Step) → next_if again call ≡ step
          → lead_events again (object calls) id ≡ step_events (object calls) call step
      lead_is again step e = ap (call_events again (object calls)) open_is ∙ ap (step_events (object calls) call) e

      pub lead_waits : (again : Bool) → (next_if again call ≡ next.Wait) ⊎ (next_if again call ≡ next.Settle)
          → lead_events again (object calls) id ≡ []
      lead_waits again (inl e) = lead_is again next.Wait e
      lead_waits again (inr e) = lead_is again next.Settle e

      -- the letters that the call sends again
      again_is : letters_again fragment (object calls) id
          ≡ letters_again_at fragment (object calls) (at_node node call) (layout_in (heard_place places call.phase.position))
      again_is = ap (letters_again_of fragment (object calls)) open_is

      pub unknown_again : layout_in (heard_place places call.phase.position) ≡ None → letters_again fragment (object calls) id ≡ []
      unknown_again none = again_is ∙ ap (letters_again_at fragment (object calls) (at_node node call)) none

      module _ (layout : Layout) (known : layout_in (heard_place places call.phase.position) ≡ Some layout) where
        sent_if : (sendable : Bool) → is_sendable call.phase.kind call ≡ sendable
            → letters_again fragment (object calls) id ≡ cond sendable (missing_letters places start call layout) []
        sent_if sendable is =
            again_is
            ∙ ap (letters_again_at fragment (object calls) (at_node node call)) known
            ∙ ap (λ (b : Bool). cond b (missing_letters places start call layout) []) is

        pub unsendable_again : is_sendable call.phase.kind call ≡ false → letters_again fragment (object calls) id ≡ []
        unsendable_again is = sent_if false is

        pub sent_again : is_sendable call.phase.kind call ≡ true
            → letters_again fragment (object calls) id ≡ missing_letters places start call layout
        sent_again is = sent_if true is

      -- the call ends, and what it was told is dropped
      pub ended_is : (new : List Machine) (kept : List Report) → new ≡ remove calls index → kept ≡ without_reports id reports
          → record (object new) { reports = kept } ≡ ended_here (object calls) id
      ended_is new kept rest kept_is =
          ap (λ (rs : List Report). record (object new) { reports = rs }) kept_is
          ∙ ap (λ (cs : List NodeCall). record (object calls) { calls = cs; reports = without_reports id reports })
          (ap (carried node) rest ∙ sym (without_at node calls index call distinct.distinct there)
          ∙ ap (λ n. without_call n (carried node calls)) named_is)

      pub answered_by : (again : Bool) (new : List Machine) (kept : List Report) (letters : List Letter) (ended : List Ended)
          → next_if again call ≡ next.Answer → new ≡ remove calls index → kept ≡ without_reports id reports → letters ≡ []
          → ended ≡ told_of (at_node node call) ∷ []
          → IsOutcomeWithAnswers (object calls) (lead_events again (object calls) id) (record (object new) { reports = kept }) letters
          ended
      answered_by again new kept letters ended step rest kept_is none tells =
          let is = answer_of call (again_answer again (next_here call) step) in
          let after = record (object new) { reports = kept } in
          subst (λ events. IsOutcomeWithAnswers (object calls) events after letters ended)
          (ap (λ n. LocalEvent.Answer n ∷ []) (sym named_is) ∙ sym (lead_is again next.Answer step))
          (by_one (object calls) (LocalEvent.Answer id) after letters ended
          (at_node node call, open_is, ready_of node call None is, due_begun (reached call) ∙ is.due)
          (ended_is new kept rest kept_is)
          none (tells ∙ sym (ap told_if open_is)))

      module _ (kind : Kind) (position : ℕ) (asked : due (reached call) ≡ Some (kind, position)) where
        next_is : due_phase (at_node node call) ≡ Some (kind, position)
        next_is = due_begun (reached call) ∙ asked

        begun : (new : List Machine) (letters : List Letter) → IsAdvanced places start calls call index kind position new letters
            → MayHappenHere fragment (object calls) (LocalEvent.Advance id)
            → IsOutcomeWithAnswers (object calls) (LocalEvent.Advance call.id ∷ []) (object new) letters []
        begun new letters adv may =
            let outcome : done_here fragment (object calls) (LocalEvent.Advance id)
            ≡ advanced_at fragment (object calls) (at_node node call) (kind, position) (Some adv.layout) =
            ap (λ o. on_open_call (object calls) o (λ call. advanced_here fragment (object calls) call (due_phase call))) open_is
            ∙ ap (λ n. advanced_here fragment (object calls) (at_node node call) n) next_is
            ∙ ap (λ o. advanced_at fragment (object calls) (at_node node call) (kind, position) o) adv.known in
            subst (λ n. IsOutcomeWithAnswers (object calls) (LocalEvent.Advance n ∷ []) (object new) letters []) (sym named_is)
            (by_one (object calls) (LocalEvent.Advance id) (object new) letters [] may
            (ap object adv.calls
            ∙ ap (λ (cs : List NodeCall). record (object calls) { calls = cs })
            (sym (with_set node calls index call (entered call (phase_next call kind position adv.layout 0)) distinct.distinct there refl))
            ∙ sym (ap (λ (t : Outcome). t.local) outcome))
            (adv.sent ∙ sym (ap (λ (t : Outcome). t.sent) outcome)) refl)

        known_next : (layout : Layout) → layout_in (heard_place places position) ≡ Some layout → (k : Kind) (p : ℕ)
            → due_phase (at_node node call) ≡ Some (k, p) → IsSome (layout_in (heard_place places p))
        known_next layout known k p e =
            let same : position ≡ p = ap (position_or position) (sym next_is ∙ e) in
            subst (λ n. IsSome (layout_in (heard_place places n))) same (subst IsSome (sym known) refl)

      module _ (kind : Kind) (position : ℕ) (new : List Machine) (letters : List Letter) where
        begun_if : (can : Bool) → IsAdvancedIf can places start calls call index kind position new letters
            → ((adv : IsAdvanced places start calls call index kind position new letters)
            → IsOutcomeWithAnswers (object calls) (LocalEvent.Advance call.id ∷ []) (object new) letters [])
            → IsOutcomeWithAnswers (object calls) (cond can (LocalEvent.Advance call.id ∷ []) []) (object new) letters []
        begun_if true adv advanced = advanced adv
        begun_if false same advanced = by_none (object calls) (object new) letters [] (ap object same.0) same.1 refl

        pub restarted_by : (again : Bool) → next_if again call ≡ next.Restart kind position → is_read_begin (reached call) ≡ false
            → IsAdvancedIf (can_begin places call kind position) places start calls call index kind position new letters
            → IsOutcomeWithAnswers (object calls) (lead_events again (object calls) id) (object new) letters []
        restarted_by again step other advances =
            let both = restart_of call kind position (again_restart again (next_here call) kind position step) in
            subst (λ events. IsOutcomeWithAnswers (object calls) events (object new) letters [])
            (sym (lead_is again (next.Restart kind position) step
            ∙ ap (λ b. cond b (begin_anew_events (object calls) call) (begin_events places call kind position)) other))
            (begun_if (can_begin places call kind position) advances
            (λ adv. begun kind position both.0.due new letters adv (
              at_node node call,
              open_is,
              inr (lacking_of node call both.1),
              known_next kind position both.0.due adv.layout adv.known,
            )))

        pub advanced_by : (again : Bool) → next_if again call ≡ next.Begin kind position
            → IsAdvancedIf (can_begin places call kind position) places start calls call index kind position new letters
            → IsOutcomeWithAnswers (object calls) (lead_events again (object calls) id) (object new) letters []
        advanced_by again step advances =
            let is = begin_of call kind position (again_begin again (next_here call) kind position step) in
            subst (λ events. IsOutcomeWithAnswers (object calls) events (object new) letters [])
            (sym (lead_is again (next.Begin kind position) step))
            (begun_if (can_begin places call kind position) advances
            (λ adv. begun kind position is.due new letters adv (
              at_node node call,
              open_is,
              inl (ready_of node call (Some (kind, position)) is, subst IsSome (sym (next_is kind position is.due)) refl),
              known_next kind position is.due adv.layout adv.known,
            )))

  pub lead_none : (again : Bool) (calls : List Machine) (id : ℕ) → HaveOtherIds id calls → lead_events again (object calls) id ≡ []
  lead_none again calls id others = ap (call_events again (object calls)) (open_none node calls id others)

  pub taken_none : (calls : List Machine) (message : Message) (told : Option Telling) → HaveOtherIds message.call calls
      → object calls ≡ (taken_here (object calls) message told).local
  taken_none calls message told others =
      sym (ap (λ o. (on_open_call (object calls) o (λ call. silent (taking_here (object calls) call message told))).local)
      (open_none node calls message.call others))

  pub settled_none : (calls : List Machine) (id : ℕ) (value : List ℕ) → HaveOtherIds id calls
      → object calls ≡ (settled_here (object calls) id value).local
  settled_none calls id value others =
      sym (ap (λ o. (on_open_call (object calls) o
      (λ call. silent (record (object calls) { calls = with_open (record call { settled = Some value }) (carried node calls) }))).local)
      (open_none node calls id others))
