use Rattle.std.proofs.Common.{◌/◌, ◌%◌, ◌^◌, ℕ, refl, sym, ap, ◌∙◌, w64}
use Rattle.std.specs.Int.{from_be_bytes}
use Rattle.node_log.proofs.HeadLemmas.{is_head, is_no_head}
use Rattle.node_log.proofs.head.length_in.Goals as goal

pub returns-then-eq : goal.returns-then-eq
returns-then-eq c =
    let number = c.from_be_bytes-number.ensures ∙ ap (from_be_bytes w64) c.first_eight.ensures in (
      is_head c.args.chain.state c.args.head.now c.as_slice.result.now _ c.eq.result c.told-head
          (ap (λ (v : ℕ). v / 2 ^ 56) (sym number) ∙ c.if-number-ne-FORM.false) (c.as_slice.ensures ∙ c.digest_behind.ensures) refl
          c.eq.ensures c.if-eq.true,
      ap (λ (v : ℕ). v % 2 ^ 56) number,
    )

pub returns-else-eq : goal.returns-else-eq
returns-else-eq c =
    is_no_head c.args.chain.state c.args.head.now c.as_slice.result.now _ c.eq.result c.told-head
    (c.as_slice.ensures ∙ c.digest_behind.ensures) refl c.eq.ensures c.if-eq.false
