use Rattle.std.proofs.Common.{◌≡◌, ◌∙◌, subst, sym}
use Rattle.encoder.specs.Fragment.{fragment}
use Rattle.atomicity.specs.Atomic.{IsSequence}
use Rattle.record.specs.Journals.{entries}
use Rattle.history.specs.Check.{AreLawfulEntries}
use Rattle.soak_parts.proofs.summary.look_at.Goals as goal

pub returns-clause-check : goal.returns-clause-check
returns-clause-check c =
    let object = c.args.register.now.object in
    let listed : c.deref-3.result.now ≡ entries object = c.deref-3.ensures.value ∙ c.in_ok-entries.ensures.entries in
    let lawful : AreLawfulEntries (entries object) =
    c.entries_are_lawful.ensures fragment object c.args.register.now.last c.fragments_are_a_code.ensures c.soundness.ensures.sound
    c.soundness.ensures.numbered in
    c.check.ensures.1 (
      subst AreLawfulEntries (sym listed) lawful,
      subst (λ es. IsSequence es c.deref-4.result.now) (sym listed)
          (subst (λ order. IsSequence (entries object) order) (sym c.deref-4.ensures.value) c.in_ok-order.ensures.sequence),
    )
