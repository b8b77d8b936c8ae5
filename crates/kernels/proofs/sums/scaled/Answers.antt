use Rattle.std.proofs.Common.{◌≡◌, ℕ, suc, ◌+◌, ◌-◌, ◌%◌, ◌^◌, ◌<◌, ◌≤◌, bit_and, bit_xor}
use Rattle.std.proofs.Common.{ap, ap₂, sym, ◌∙◌, arith, lit<, mod-eq_of_lt, replicate}
use Rattle.std.specs.Int.{bit_at}
use Rattle.std.proofs.Math.Pow.{pow_mono}
use Rattle.std.proofs.lemmas.Nat.Bits.{shr_and_one, bit_at-lt}
use Rattle.std.proofs.lemmas.Nat.{and_mask, leading_length}
use Rattle.gf256.specs.Field.{field_power}
use Rattle.gf256.specs.Polynomial.{scaled}
use Rattle.gf256.proofs.FieldLemmas.{power_lt, power-zero, power-suc}
use Rattle.gf256.proofs.LoopStepLemmas.{low_bits_set, low_bits_clear}
use Rattle.kernels.proofs.LaneLemmas.{scaled-zero, scaled-one, zip2-scaled, scaled-scaled, AreBytes-from_lanes}
use Rattle.kernels.proofs.sums.scaled.Goals as goal
use Rattle.kernels.proofs.sums.scaled.Goals.{then-c-eq1, else-c-eq1, then-c-i-eq1, else-c-i-eq1}
use lib.Count.{count_leading_zeros}
use lib.Lanes.{zip2}

pub loop-i-init : goal.loop-i-init
loop-i-init c =
    let lanes = c.args.lanes in
    let one : scaled 1 lanes ≡ lanes = scaled-one lanes (AreBytes-from_lanes lanes c.fits-lanes.1) in
    let low : bit_and c.args.c 1 ≡ c.args.c % 2 = and_mask c.args.c 1 in
    record {
      sum = elim c.if-c-eq1.branch [
        | then-c-eq1 w ↦ w.sum-is ∙ sym one ∙ ap (λ d. scaled d lanes) (sym w.if-c-eq1.true ∙ low)
        | else-c-eq1 w ↦
            let clear : 0 ≡ c.args.c % 2 = omega arith in
            w.sum-is ∙ ap (λ n. replicate n 0) (sym c.fits-lanes.0) ∙ scaled-zero lanes ∙ ap (λ d. scaled d lanes) clear
      ];
      term = sym (ap (λ p. scaled p lanes) (power-zero 2) ∙ one);
    }

pub loop-i-preserved : goal.loop-i-preserved
loop-i-preserved c =
    let lanes = c.args.lanes in
    let i = c.loop-i.i in
    let known = c.loop-i.invariant in
    let bit = shr_and_one c.args.c i in
    let last : suc (i - 1) ≡ i = omega arith in
    let here : i + 1 - 1 ≡ i = omega arith in
    let small : i < 8 = omega arith in
    let term : c.doubled-term.result ≡ scaled (field_power 2 i) lanes =
    c.doubled-term.ensures ∙ ap (scaled 2) known.term
    ∙ scaled-scaled 2 (field_power 2 (i - 1)) lanes (lit< tt) (power_lt 2 (i - 1) (lit< tt)) (AreBytes-from_lanes lanes c.fits-lanes.1)
    ∙ ap (λ p. scaled p lanes) (sym (power-suc 2 (i - 1)) ∙ ap (field_power 2) last) in
    record {
      sum = elim c.if-c-i-eq1.branch [
        | then-c-i-eq1 w ↦
            let set : bit_at c.args.c i ≡ 1 = sym bit ∙ w.if-c-i-eq1.true in
            w.sum-is ∙ ap₂ (zip2 bit_xor) known.sum term
            ∙ zip2-scaled (c.args.c % 2 ^ i) (field_power 2 i) lanes
            ∙ ap (λ d. scaled d lanes) (sym (low_bits_set c.args.c i small set))
        | else-c-i-eq1 w ↦
            let clear : bit_at c.args.c i ≡ 0 = omega (arith, bit_at-lt c.args.c i) in
            w.sum-is ∙ known.sum ∙ ap (λ d. scaled d lanes) (sym (low_bits_clear c.args.c i clear))
      ];
      term = term ∙ ap (λ k. scaled (field_power 2 k) lanes) (sym here);
    }

-- there is no bit from the loop's end on
low_bits_all : (a n : ℕ) → a < 256 → 8 - count_leading_zeros 8 a ≤ n → a % 2 ^ n ≡ a
low_bits_all a n fits over =
    let length = leading_length 8 a fits in
    let reaches : 2 ^ length.0 ≤ 2 ^ n = pow_mono (omega (arith, length.1)) in
    mod-eq_of_lt (omega (arith, length.2))

pub returns : goal.returns
returns c = c.loop-i.invariant.sum ∙ ap (λ d. scaled d c.args.lanes) (low_bits_all c.args.c c.loop-i.i c.ranges.c.fits c.loop-i-test.false)
