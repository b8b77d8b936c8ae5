use Rattle.std.proofs.Common.{◌≡◌, ◌∙◌, ℕ, ap, arith}
use Rattle.std.specs.Io.Iter.{u64_saturate}
use Rattle.record.specs.Accounts.{member_sum}
use Rattle.tag.specs.declared.limits.TheConstants.{MOST_MEMBERS, MOST_POSITIONS}
use Rattle.soak_parts.specs.Audit.{bank_bytes_at}
use Rattle.soak_parts.proofs.AccountSumLemmas.{capped_more, sum_more, stored_sum}
use Rattle.soak_parts.proofs.audit.stored_anew.Goals as goal

pub loop-position-preserved : goal.loop-position-preserved
loop-position-preserved c =
    let f : ℕ → ℕ = λ p. member_sum (bank_bytes_at c.args.register.now.object c.args.server p) 0 MOST_MEMBERS in
    capped_more _ _ _ _ _ _ c.loop-position.invariant c.position_anew.ensures c.saturating_add-total.ensures
    (sum_more f c.loop-position.position)

pub returns : goal.returns
returns c =
    let f : ℕ → ℕ = λ p. member_sum (bank_bytes_at c.args.register.now.object c.args.server p) 0 MOST_MEMBERS in
    let all : c.loop-position.position ≡ MOST_POSITIONS = omega arith in
    c.loop-position.invariant ∙ (ap (λ n. u64_saturate (member_sum f 0 n)) all
    ∙ ap u64_saturate
    (stored_sum c.args.register.now.object c.args.server c.soundness.ensures.sound.legal.layouts c.soundness.ensures.limits.positions))
