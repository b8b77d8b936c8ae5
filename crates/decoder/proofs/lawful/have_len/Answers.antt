use Rattle.std.proofs.Common.{◌≡◌, ◌<◌, [], length, get_or, sym, ap, subst, ◌∙◌, arith, ⊎_elim, true≢false}
use Rattle.std.proofs.lemmas.Bool.{cases_lt}
use Rattle.gf256.specs.Polynomial.{AreBytes}
use Rattle.kernels.specs.Dot.{bytes_of}
use Rattle.kernels.proofs.LaneSumLemmas.{no_slice, bytes_at}
use Rattle.decoder.proofs.lawful.have_len.Goals as goal

pub returns-then-not-has_len-clause-lens : goal.returns-then-not-has_len-clause-lens
returns-then-not-has_len-clause-lens c =
    let i = c.loop-i.i in
    let fragments = c.args.fragments.now in
    let inside : i < length fragments = omega arith in (
      λ no. absurd (true≢false (sym no)),
      λ lens. absurd (true≢false
          (sym (c.has_len.ensures.len.1 (ap length (bytes_at fragments i no_slice inside) ∙ lens i inside)) ∙ c.if-not-has_len.true)),
    )

pub loop-i-preserved : goal.loop-i-preserved
loop-i-preserved c =
    let known = c.loop-i.invariant in
    let i = c.loop-i.i in
    let fragments = c.args.fragments.now in
    let inside : i < length fragments = omega arith in
    let at = bytes_at fragments i no_slice inside in
    let here : length (get_or (bytes_of fragments) i []) ≡ c.args.len =
    ap length (sym at) ∙ c.has_len.ensures.len.0 c.if-not-has_len.false in
    let of_bytes : AreBytes (get_or (bytes_of fragments) i []) = subst AreBytes at c.has_len.ensures.bytes in
    record {
      lens = λ m hm.
          ⊎_elim (λ low. known.lens m low)
          (λ high.
          let e : i ≡ m = omega arith in
          ap (λ n. length (get_or (bytes_of fragments) n [])) (sym e) ∙ here)
          (cases_lt m i);
      bytes = λ m hm.
          ⊎_elim (λ low. known.bytes m low)
          (λ high.
          let e : i ≡ m = omega arith in
          subst (λ n. AreBytes (get_or (bytes_of fragments) n [])) e of_bytes)
          (cases_lt m i);
    }
