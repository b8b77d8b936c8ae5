use Rattle.std.proofs.Common.{◌∷◌, [], List, ℕ, Option, refl, sym, ap, subst, ◌∙◌}
use Rattle.std.specs.Option.{option_to_list}
use Rattle.std.proofs.lemmas.Result.{IfOk-weaker}
use Rattle.local_object.specs.EarlyEnds.{CanEndEarly, EndedIf}
use Rattle.local_object.specs.Events.{LocalEvent}
use Rattle.local_object.specs.Local.{LocalObject}
use Rattle.local_object.specs.Taking.{IsOutcomeWithAnswers}
use Rattle.local_object.proofs.DoneLemmas.{done_by}
use Rattle.local_object.proofs.TakeLemmas.{all_by, both_done, ends_early, goes_on, taken_none}
use Rattle.local_object.proofs.local_object.LocalObject.take.Goals as goal

pub returns-in-Some-clause-done : goal.returns-in-Some-clause-done
returns-in-Some-clause-done c =
    let id = c.args.letter.message.call in
    let early = subst (EndedIf c.take_reply.new.self id c.end_early.new.self) c.in-Some.is c.in_ok-ended.ensures.done in
    done_by (both_done {letter = c.args.letter} c.in_ok-take_reply.ensures.done early c.answered.result.letters.items
    (option_to_list c.answered.result.ended) c.answered.ensures.letters (ap option_to_list c.answered.ensures.ended))

pub returns-in-Some-clause-taken : goal.returns-in-Some-clause-taken
returns-in-Some-clause-taken c =
    let id = c.args.letter.message.call in
    let early = subst (EndedIf c.take_reply.new.self id c.end_early.new.self) c.in-Some.is c.in_ok-ended.ensures.done in
    ends_early {letter = c.args.letter} c.in_ok-take_reply.ensures.done early c.answered.result.letters.items
    (option_to_list c.answered.result.ended) c.answered.ensures.letters (ap option_to_list c.answered.ensures.ended)
    (sym c.is_taken.ensures ∙ c.if-not-is_taken.false)

pub returns-clause-done : goal.returns-clause-done
returns-clause-done c =
    let id = c.args.letter.message.call in
    let stays = subst (EndedIf c.take_reply.new.self id c.end_early.new.self) c.in_default.is c.in_ok-ended.ensures.done in
    let first = subst (λ (l : LocalObject). IsOutcomeWithAnswers c.args.self.now (LocalEvent.Take c.args.letter ∷ []) l [] [])
    (sym stays.0) c.in_ok-take_reply.ensures.done in
    IfOk-weaker c.lead.result _ _
    (λ progress led. done_by (all_by {letter = c.args.letter} c.repeats-again.result first c.in_ok-query.ensures.done
    c.in_ok-settle.ensures.done c.grow.ensures led))
    c.lead.ensures.done

pub returns-clause-taken : goal.returns-clause-taken
returns-clause-taken c =
    let id = c.args.letter.message.call in
    let stays = subst (EndedIf c.take_reply.new.self id c.end_early.new.self) c.in_default.is c.in_ok-ended.ensures.done in
    let first = subst (λ (l : LocalObject). IsOutcomeWithAnswers c.args.self.now (LocalEvent.Take c.args.letter ∷ []) l [] [])
    (sym stays.0) c.in_ok-take_reply.ensures.done in
    let waits = subst (λ (l : LocalObject). (returned : Option (List ℕ)) → CanEndEarly l id returned → ⊥) (sym stays.0) stays.1 in
    IfOk-weaker c.lead.result _ _
    (λ progress led. goes_on {letter = c.args.letter} c.repeats-again.result first c.in_ok-query.ensures.done
    c.in_ok-settle.ensures.done c.grow.ensures led (sym c.is_taken.ensures ∙ c.if-not-is_taken.false) c.repeats-again.ensures waits)
    c.lead.ensures.done

pub returns-then-not-is_taken-clause-taken : goal.returns-then-not-is_taken-clause-taken
returns-then-not-is_taken-clause-taken c =
    taken_none c.args.self.now c.args.letter c.args.self.now c.none.result.letters.items (option_to_list c.none.result.ended)
    (sym c.if-not-is_taken.true ∙ c.is_taken.ensures) refl c.none.ensures.letters (ap option_to_list c.none.ensures.ended)
