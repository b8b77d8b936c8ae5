use Rattle.std.proofs.Common.{◌≡◌, ℕ, ◌+◌, ◌*◌, ◌<◌, length, get_or, bit_xor, refl, sym, ap, ap₂, subst, ◌∙◌, arith, add-one}
use Rattle.gf256.specs.Field.{field_product, field_sum}
use Rattle.gf256.proofs.FieldSumLemmas.{field_sum-suc}
use Rattle.kernels.specs.Dot.{bytes_of, dot_byte, row, term}
use Rattle.kernels.proofs.LaneSumLemmas.{no_slice, bytes_at, length-bytes_of}
use Rattle.decoder.proofs.padding.sum_at.Goals as goal

pub loop-i-init : goal.loop-i-init
unfolding field_sum
loop-i-init c = refl

pub bounds-fragment-b : goal.bounds-fragment-b
bounds-fragment-b c =
    let i = c.loop-i.i in
    let fragments = c.args.fragments.now in
    let inside : i < length fragments = c.loop-i-test.true in
    subst (λ n. c.args.b < n) (sym (ap length (bytes_at fragments i no_slice inside))) (c.requires.longer i inside)

pub loop-i-preserved : goal.loop-i-preserved
loop-i-preserved c =
    let i = c.loop-i.i in
    let fragments = c.args.fragments.now in
    let inside : i < length fragments = c.loop-i-test.true in
    let terms : ℕ → ℕ = term (row c.args.table.now (length fragments) c.args.j) (bytes_of fragments) c.args.b in
    ap₂ bit_xor c.loop-i.invariant
    (c.mul-sum.ensures
    ∙ ap (λ xs. field_product (get_or c.args.table.now (i * length fragments + c.args.j) 0) (get_or xs c.args.b 0))
    (bytes_at fragments i no_slice inside))
    ∙ sym (field_sum-suc i terms) ∙ ap (λ m. field_sum m terms) (sym (add-one i))

pub returns : goal.returns
unfolding dot_byte
returns c =
    let fragments = c.args.fragments.now in
    let bytes = bytes_of fragments in
    let count = length-bytes_of fragments in
    let all : c.loop-i.i ≡ length bytes = omega (arith, count) in
    c.loop-i.invariant ∙ ap₂ (λ m w. field_sum m (term (row c.args.table.now w c.args.j) bytes c.args.b)) all (sym count)
