use Rattle.std.proofs.Common.{◌≡◌, filter, not, rules, ap, ◌∙◌}
use Rattle.std.proofs.lemmas.Fn.{filter_same}
use Rattle.mail.specs.Phase.{Phase, has_taken}
use Rattle.letter.specs.declared.letter.Letter.{Letter}
use Rattle.local_object.specs.Sent.{unanswered}
use Rattle.local_object.proofs.missing.keep_unanswered.Goals as goal

pub returns : goal.returns
returns c =
    let letters = c.args.letters.now.items in
    let replies = c.phase-phase.result.now.replies in
    let kept : c.retain.new.self.items ≡ filter (λ (l : Letter). not (has_taken replies l.message.member)) letters =
    filter_same _ _ _ (λ x b f' k. search rules) _ _ c.retain.ensures.filtered in
    kept ∙ ap (λ (p : Phase). unanswered p.replies letters) c.phase-phase.ensures.value
