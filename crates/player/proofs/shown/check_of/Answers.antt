use Rattle.std.proofs.Common.{◌≡◌, ◌↔◌, ◌∙◌, IsTrue, List, inl, inr, refl, rules, subst, true}
use Rattle.std.specs.Prelude.{is_some}
use Rattle.std.specs.List.{list_all}
use Rattle.register.specs.Causes.{call_at}
use Rattle.record.specs.declared.call.Entry.{Entry}
use Rattle.atomicity.specs.Atomic.{IsSequence}
use Rattle.history.specs.Check.{AreLawfulEntries}
use Rattle.player.specs.Shown.{IsChecked}
use Rattle.player.proofs.PrintedLineLemmas.{prints_as}
use Rattle.player.proofs.MissingCallLemmas.{none_missing, none_missing-unknown}
use Rattle.player.proofs.shown.check_of.Goals as goal

pub returns-in-Err : goal.returns-in-Err
returns-in-Err g c = prints_as _ _ _ _ _ _ (
  none_missing-unknown c.args.cluster.now c.args.name.now c.args.calls.now _ c.in-Err.ensures.cause,
  inr (_, inl c.in-Err.ensures.cause, refl),
)
    c.refuse.ensures

pub returns-in-Ok-entries : goal.returns-in-Ok-entries
returns-in-Ok-entries g c =
    let state = c.in-Ok.register.now in
    let all : list_all (λ call. is_some (call_at state.object call)) c.args.calls.now ≡ true = search rules in
    let none = none_missing c.args.cluster.now c.args.name.now c.args.calls.now state c.in-Ok.ensures.object all in
    let checked : IsChecked c.args.cluster.now c.args.name.now c.args.calls.now c.check.result = record {
      state = c.in-Ok.register.now;
      there = c.in-Ok.ensures.object;
      says = subst (λ (es : List Entry). IsTrue c.check.result ↔ (AreLawfulEntries es × IsSequence es c.args.calls.now))
          (c.deref.ensures.value ∙ c.in-Ok-entries.ensures.entries) c.check.ensures;
    } in
    prints_as _ _ _ _ _ _ (none, inl (c.check.result, checked, refl)) (c.print_line.ensures _ refl)

pub returns-in-Err-entries : goal.returns-in-Err-entries
returns-in-Err-entries g c =
    let state = c.in-Ok.register.now in
    let all : list_all (λ call. is_some (call_at state.object call)) c.args.calls.now ≡ true = search rules in
    let none = none_missing c.args.cluster.now c.args.name.now c.args.calls.now state c.in-Ok.ensures.object all in
    prints_as _ _ _ _ _ _
    (none, inr (_, inr (c.in-Ok.ensures.cause, c.in-Err-entries.ensures.refused), refl)) c.refuse-in-Err-entries.ensures
