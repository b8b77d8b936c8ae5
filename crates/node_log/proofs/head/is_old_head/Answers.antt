use Rattle.std.proofs.Common.{◌/◌, ◌^◌, ◌<◌, ℕ, refl, ap, subst, ◌∙◌, arith, w64}
use Rattle.std.specs.Int.{from_be_bytes}
use Rattle.node_log.specs.Entry.{form}
use Rattle.node_log.proofs.HeadLemmas.{is_old, old_is_tested}
use Rattle.node_log.proofs.head.is_old_head.Goals as goal

pub returns : goal.returns
returns c =
    let number = c.from_be_bytes-number.ensures ∙ ap (from_be_bytes w64) c.first_eight.ensures in
    let head = c.args.head.now in
    let digest = c.as_slice.ensures ∙ c.digest_of.ensures in (
      (λ holds. is_old head c.as_slice.result.now _ c.eq.result c.told-head
          (subst (λ (v : ℕ). v / 2 ^ 56 < form) number (omega (arith, c.if-number-ge-FORM.false))) digest refl c.eq.ensures holds),
      (λ old. old_is_tested head c.as_slice.result.now _ c.eq.result c.told-head digest refl c.eq.ensures old),
    )
