use Rattle.std.proofs.Common.{is_some, refl, sym, ◌∙◌}
use Rattle.local_object.proofs.StrayLemmas.{askable_next, dropped, sent_back, unasked}
use Rattle.local_object.proofs.local_object.LocalObject.answer_stray.Goals as goal

pub returns-then-not-is_askable-clause-done : goal.returns-then-not-is_askable-clause-done
returns-then-not-is_askable-clause-done c =
    unasked c.args.self.now c.args.letter c.requires (sym c.is_askable.ensures ∙ c.if-not-is_askable.true) c.args.self.now refl

pub hear_told-requires : goal.hear_told-requires
hear_told-requires c = askable_next c.args.letter (sym c.is_askable.ensures ∙ c.if-not-is_askable.false)

pub returns-then-not-is_sent_back-clause-done : goal.returns-then-not-is_sent_back-clause-done
returns-then-not-is_sent_back-clause-done c =
    dropped c.args.self.now c.args.letter c.requires (sym c.is_askable.ensures ∙ c.if-not-is_askable.false)
    (is_some c.args.letter.start) refl (sym c.is_sent_back-is_sent_back.ensures ∙ c.if-not-is_sent_back.true) c.hear_told.new.self
    c.in_ok-hear_told.ensures.heard

pub returns-clause-done : goal.returns-clause-done
returns-clause-done c =
    sent_back c.args.self.now c.args.letter c.requires (sym c.is_askable.ensures ∙ c.if-not-is_askable.false)
    (is_some c.args.letter.start) refl (sym c.is_sent_back-is_sent_back.ensures ∙ c.if-not-is_sent_back.false) c.hear_told.new.self
    c.in_ok-hear_told.ensures.heard _ c.in_ok-redirected.ensures.sent
