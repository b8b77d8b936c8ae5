use Rattle.std.proofs.Common.{ℕ, Option, false, List, [], ◌∷◌, ◌++◌, ap, sym, subst, ◌∙◌}
use Rattle.layout.specs.Layout.{IsLawful}
use Rattle.mail.specs.declared.message.Message.{Message}
use Rattle.record.specs.Steps.{opened_banks}
use Rattle.register.specs.Position.{Position}
use Rattle.register.specs.Tracked.{Tracked}
use Rattle.register.specs.State.{Contents}
use Rattle.register.specs.Kept.{IsKept}
use Rattle.register.proofs.OpenedObjectLemmas.{opened_keeps}
use Rattle.register.proofs.register.Register.new.Goals as goal

abbrev contents : Option ℕ → List Position → List Message → List Tracked → ℕ → Contents
contents delta positions mail calls now = record {
  delta = delta;
  positions = positions;
  mail = mail;
  calls = calls;
  base = 0;
  is_moving = false;
  stored = 0;
  last = now;
}

pub invariant_of-result : goal.invariant_of-result
invariant_of-result c =
    let kept = opened_keeps c.args.layout c.args.delta c.args.now
    (subst (λ (p : Position). IsLawful p.layout) c.in_ok-position.ensures.opened c.in_ok-position.ensures.lawful) in
    let positions = c.in_ok-push.ensures.items ∙ ap (λ ps. ps ++ c.in_ok-position.position ∷ []) c.new-positions.ensures.items
    ∙ ap (λ (p : Position). p ∷ []) c.in_ok-position.ensures.opened in
    let ps : List Position = record { layout = c.args.layout; banks = opened_banks c.args.layout.members 0 c.args.delta c.args.now } ∷ [] in
    subst (λ (ps : List Position). IsKept (contents c.args.delta ps c.new-2.result c.new-3.result.items c.args.now)) (sym positions)
    (subst (λ (ms : List Message). IsKept (contents c.args.delta ps ms c.new-3.result.items c.args.now)) (sym c.new-2.ensures)
    (subst (λ (cs : List Tracked). IsKept (contents c.args.delta ps [] cs c.args.now)) (sym c.new-3.ensures.items) kept))
