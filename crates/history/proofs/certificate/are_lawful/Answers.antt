use Rattle.std.proofs.Common.{◌≡◌, ℕ, suc, slice_get, sym, ap, ◌∙◌, subst, inl, inr, refl, arith, IsSome}
use Rattle.std.proofs.lemmas.Bool.{cases_lt}
use Rattle.std.proofs.lemmas.Option.{slice_get_read, slice_get_within, same_Some}
use Rattle.record.specs.declared.call.Entry.{Entry}
use Rattle.atomicity.specs.Atomic.{MayStand}
use Rattle.history.proofs.certificate.are_lawful.Goals as goal

pub returns-then-not-is_lawful_as : goal.returns-then-not-is_lawful_as
returns-then-not-is_lawful_as c = (
  (λ f. absurd (cc)),
  (λ lawful.
      let here = lawful c.loop-place.place c.index-entries-place.result
      (slice_get_read c.args.entries.now _ c.loop-place.place c.index-entries-place.result refl c.loop-place-test.true
      c.index-entries-place.is) in
      let t = c.is_lawful_as.ensures.1 (omega (arith, here.0), here.1) in cc),
)

pub loop-place-preserved : goal.loop-place-preserved
loop-place-preserved c index entry h at = elim (cases_lt index c.loop-place.place) [
  | inl old ↦ c.loop-place.invariant index entry old at
  | inr new ↦
      let here = c.is_lawful_as.ensures.0 c.if-not-is_lawful_as.false in
      let is = slice_get_read c.args.entries.now _ c.loop-place.place c.index-entries-place.result refl c.loop-place-test.true
      c.index-entries-place.is in
      let place : c.loop-place.place ≡ index = omega arith in
      let same : c.index-entries-place.result ≡ entry = same_Some _ entry
      (sym is ∙ ap (λ (i : ℕ). slice_get c.args.entries.now i) place ∙ at) in
      subst (λ (e : Entry). (e.call ≡ suc index) × (MayStand e → IsSome e.value)) same (omega (arith, here.0), here.1)
]

pub returns : goal.returns
returns c = (
  (λ t index entry at. let within = slice_get_within c.args.entries.now index entry at in
      c.loop-place.invariant index entry (omega arith) at),
  (λ lawful. refl),
)
