use Rattle.std.proofs.Common.{◌≡◌, ℕ, ◌-◌, ◌<◌, List, get_or, sym, ap, ◌∙◌, subst, inl, inr, refl, arith}
use Rattle.std.proofs.lemmas.Bool.{cases_lt}
use Rattle.record.specs.declared.call.Entry.{Entry}
use Rattle.atomicity.specs.Atomic.{entry_at, IsAnsweredBefore}
use Rattle.history.proofs.PairwiseByPlaceLemmas.{call_there, places_from_keeps}
use Rattle.history.proofs.certificate.is_new.Goals as goal

pub entry_at-requires-clause-within : goal.entry_at-requires-clause-within
entry_at-requires-clause-within c = (call_there c.args.entries.now c.args.order.now c.requires.standing c.args.place c.requires.within).1

pub entry_at-requires-in-loop-rest-clause-within : goal.entry_at-requires-in-loop-rest-clause-within
entry_at-requires-in-loop-rest-clause-within c =
    (call_there c.args.entries.now c.args.order.now c.requires.standing (c.loop-rest.rest - 1) (omega (arith, c.loop-rest.invariant.0))).1

pub returns-then-is_before : goal.returns-then-is_before
returns-then-is_before c = ((λ t earlier h e. apart earlier h e), (λ new. refl))
  where
    order : List ℕ
    order = c.args.order.now

    at : ℕ → Entry
    at place = entry_at c.args.entries.now (get_or order place 0)

    rest : ℕ
    rest = c.loop-rest.rest - 1

    before : IsAnsweredBefore (at rest) (at c.args.place)
    before =
        let b = c.is_before.ensures.0 c.if-is_before.true in (
          b.0,
          ap (λ (x : Entry). x.answered) (sym c.entry_at-in-loop-rest.ensures) ∙ b.1,
          subst (λ (x : Entry). b.0 < x.called) c.entry_at.ensures b.2,
        )

    apart : (earlier : ℕ) → earlier < c.args.place → get_or order earlier 0 ≡ get_or order c.args.place 0 → ⊥
    apart earlier h e = elim (cases_lt earlier rest) [
      | inl below ↦
          places_from_keeps c.args.entries.now order c.requires.in_order earlier rest below
          (omega (arith, c.loop-rest.invariant.0, c.requires.within))
          (subst (λ (call : ℕ). IsAnsweredBefore (at rest) (entry_at c.args.entries.now call)) (sym e) before)
      | inr past ↦ elim (cases_lt rest earlier) [
        | inl above ↦ c.loop-rest.invariant.1 earlier (omega arith) h e
        | inr same ↦
            let place : earlier ≡ rest = omega arith in
            c.if-other-call.false (ap (λ (i : ℕ). get_or order i 0) (sym place) ∙ e)
      ]
    ]
