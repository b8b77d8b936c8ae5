use Rattle.std.proofs.Common.{◌≡◌, ◌⊎◌, List, ◌∷◌, [], None, refl, ap, sym, subst, ◌∙◌}
use Rattle.std.specs.Option.{option_to_list}
use Rattle.call.specs.declared.next.Next.TheVariants as next
use Rattle.call.specs.Call.{OpenCall as Machine}
use Rattle.letter.specs.declared.letter.Letter.{Letter}
use Rattle.local_object.specs.declared.progress.Ended.{Ended}
use Rattle.local_object.specs.Codes.{at_node}
use Rattle.local_object.specs.Ended.{told_of}
use Rattle.local_object.specs.Taking.{IsOutcomeWithAnswers, lead_events}
use Rattle.local_object.proofs.CarriedCallLemmas.{same_call}
use Rattle.local_object.proofs.DoneLemmas.{by_from, by_none}
use Rattle.local_object.proofs.ReadingLemmas.{begun_anew_by, restart_unsettled}
use Rattle.local_object.proofs.OpenLemmas.{advanced_by, answered_by, lead_none, lead_waits, object}
use Rattle.local_object.proofs.local_object.LocalObject.lead.Goals as goal

pub returns-in_ok-ended-in-Answer-clause-done : goal.returns-in_ok-ended-in-Answer-clause-done
returns-in_ok-ended-in-Answer-clause-done c =
    let o = c.self.inside in
    let call = c.at.result.now in
    let removed = same_call c.remove-call.result call (sym c.remove-call.ensures.call ∙ c.at.ensures) in
    by_from (λ l. lead_events c.args.again l c.args.id) c.self.view_is
    (answered_by o.node o.delta o.start o.reports o.places c.in-Some.ensures.distinct c.in-Some.ensures.index call c.at.ensures c.args.again
    c.remove-call.new.self c.forget.new.self
    c.answered.result.letters.items (option_to_list c.answered.result.ended) (sym c.next_if.ensures.next ∙ c.in-Answer.is)
    c.remove-call.ensures.rest c.forget.ensures c.answered.ensures.letters
    (ap option_to_list c.answered.ensures.ended
    ∙ ap (λ ended. ended ∷ []) (c.in_ok-ended-in-Answer.ensures.told ∙ ap (λ (m : Machine). told_of (at_node o.node m)) removed)))

pub returns-in_ok-letters-in-Restart-clause-done : goal.returns-in_ok-letters-in-Restart-clause-done
returns-in_ok-letters-in-Restart-clause-done c =
    let o = c.self.inside in
    let call = c.at.result.now in
    let new = object o.node o.delta o.start o.reports o.places c.begin_anew.new.calls in
    subst (λ (ended : List Ended). IsOutcomeWithAnswers c.args.self.now (lead_events c.args.again c.args.self.now c.args.id) new
    c.sent.result.letters.items ended)
    (sym (ap option_to_list c.sent.ensures.ended))
    (subst (λ (letters : List Letter). IsOutcomeWithAnswers c.args.self.now (lead_events c.args.again c.args.self.now c.args.id) new
    letters []) (sym c.sent.ensures.letters)
    (by_from (λ l. lead_events c.args.again l c.args.id) c.self.view_is
    (begun_anew_by o.node o.delta o.start o.reports o.places c.in-Some.ensures.distinct c.in-Some.ensures.index call c.at.ensures
    c.self.invariant c.begin_anew.new.calls c.in_ok-letters-in-Restart.letters.items c.args.again c.in-Restart.kind c.in-Restart.position
    (sym c.next_if.ensures.next ∙ c.in-Restart.is)
    (c.in_ok-letters-in-Restart.ensures.begun call c.at.ensures))))

pub returns-in_ok-letters-in-Begin-clause-done : goal.returns-in_ok-letters-in-Begin-clause-done
returns-in_ok-letters-in-Begin-clause-done c =
    let o = c.self.inside in
    let call = c.at.result.now in
    let kind = c.in-Begin.kind in
    let position = c.in-Begin.position in
    let new = object o.node o.delta o.start o.reports o.places c.advance.new.calls in
    subst (λ (ended : List Ended). IsOutcomeWithAnswers c.args.self.now (lead_events c.args.again c.args.self.now c.args.id) new
    c.sent-in-Begin.result.letters.items ended)
    (sym (ap option_to_list c.sent-in-Begin.ensures.ended))
    (subst (λ (letters : List Letter). IsOutcomeWithAnswers c.args.self.now (lead_events c.args.again c.args.self.now c.args.id) new
    letters []) (sym c.sent-in-Begin.ensures.letters)
    (by_from (λ l. lead_events c.args.again l c.args.id) c.self.view_is
    (advanced_by o.node o.delta o.start o.reports o.places c.in-Some.ensures.distinct c.in-Some.ensures.index call c.at.ensures kind
    position c.advance.new.calls c.in_ok-letters-in-Begin.letters.items c.args.again (sym c.next_if.ensures.next ∙ c.in-Begin.is)
    (c.in_ok-letters-in-Begin.ensures.advanced call c.at.ensures))))

pub begin_anew-requires-clause-unsettled : goal.begin_anew-requires-clause-unsettled
begin_anew-requires-clause-unsettled c = λ call at.
    subst (λ (m : Machine). m.settled ≡ None) (same_call c.at.result.now call (sym c.at.ensures ∙ at))
    (restart_unsettled c.args.again c.at.result.now c.in-Restart.kind c.in-Restart.position (sym c.next_if.ensures.next ∙ c.in-Restart.is))

pub returns-in_default-clause-done : goal.returns-in_default-clause-done
returns-in_default-clause-done c =
    let o = c.self.inside in
    let old = c.args.self.now in
    let letters = c.none.result.letters.items in
    let told = option_to_list c.none.result.ended in
    subst (λ events. IsOutcomeWithAnswers old events old letters told)
    (sym (ap (λ l. lead_events c.args.again l c.args.id) (sym c.self.view_is)
    ∙ lead_none o.node o.delta o.start o.reports o.places c.args.again o.calls c.args.id c.in_default.ensures.index))
    (by_none old old letters told refl c.none.ensures.letters (ap option_to_list c.none.ensures.ended))

pub returns-in-Wait-clause-done : goal.returns-in-Wait-clause-done
returns-in-Wait-clause-done c =
    let o = c.self.inside in
    let old = c.args.self.now in
    let letters = c.none-in-Wait.result.letters.items in
    let told = option_to_list c.none-in-Wait.result.ended in
    let step = subst (λ s. (s ≡ next.Wait) ⊎ (s ≡ next.Settle)) c.next_if.ensures.next c.in-Wait.is in
    subst (λ events. IsOutcomeWithAnswers old events old letters told)
    (sym (ap (λ l. lead_events c.args.again l c.args.id) (sym c.self.view_is)
    ∙ lead_waits o.node o.delta o.start o.reports o.places c.in-Some.ensures.distinct c.in-Some.ensures.index c.at.result.now
    c.at.ensures c.args.again step))
    (by_none old old letters told refl c.none-in-Wait.ensures.letters (ap option_to_list c.none-in-Wait.ensures.ended))
