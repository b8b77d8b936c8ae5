use Rattle.std.proofs.Common.{[], ◌≡◌, ◌<◌, ◌+◌, ◌∷◌, ◌++◌, ◌∙◌, Some, length, option_copied, sym, ap, arith, rules}
use Rattle.node_keeper.specs.Objects.{heard_names}
use Rattle.node_keeper.proofs.ScanLemmas.{told_at, written_more, written_no_more}
use Rattle.node_keeper.proofs.objects.Objects.names_from.Goals.{in-Some+in_ok-clone+in_ok-push, in_default}
use Rattle.node_keeper.proofs.objects.Objects.names_from.Goals as goal

pub loop-step-preserved : goal.loop-step-preserved
loop-step-preserved c =
    let objects = c.args.self.now in
    let first = c.args.first in
    let step = c.loop-step.step in
    let less : first + step < length (heard_names objects) = omega (arith, c.requires.within, c.loop-step-test.true) in
    let told = told_at objects (first + step) _ less c.written_name.ensures in
    elim c.match-written_name.branch [
      | in-Some+in_ok-clone+in_ok-push w ↦
          let copy : w.in_ok-clone.field-0 ≡ w.in-Some.name.now = search rules in
          ap (λ names. names.items) w.names-is ∙ w.in_ok-push.ensures.items
          ∙ ap (λ before. before ++ w.in_ok-clone.field-0 ∷ []) c.loop-step.invariant
          ∙ written_more objects first step w.in_ok-clone.field-0 _ less (ap option_copied w.in-Some.is ∙ ap Some (sym copy)) told
      | in_default w ↦
          ap (λ names. names.items) w.names-is ∙ c.loop-step.invariant
          ∙ written_no_more objects first step _ less (ap option_copied w.in_default.is) told
    ]
