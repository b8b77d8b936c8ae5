use Rattle.std.proofs.Common.{◌≤◌, drop, sym, subst, arith}
use Rattle.std.specs.List.{AllByRecursion}
use Rattle.std.proofs.lemmas.Grind.{common_steps}
use Rattle.layout.specs.Layout.{IsLawful}
use Rattle.tag.specs.declared.limits.TheConstants.{MOST_BYTES}
use Rattle.record.specs.Accounts.{stored_bytes}
use Rattle.register.specs.Position.{layouts_of, banks_of, all_bytes}
use Rattle.register.proofs.StoredBytesLemmas.{stored_next, stored_most, layout_at_lawful}
use Rattle.register.proofs.register.Register.stored.Goals as goal

pub stored-total-requires-clause-lawful : goal.stored-total-requires-clause-lawful
stored-total-requires-clause-lawful c =
    let ps = c.deref-position-items.result.now in
    let all = subst (λ ps. AllByRecursion IsLawful (layouts_of ps))
    (sym c.deref-position-items.ensures.value) c.self.invariant.sound.legal.layouts in
    layout_at_lawful ps c.loop-position.position-index c.position-item.result c.loop-position-test.true c.position-item.is all

pub stored-total-requires-clause-room : goal.stored-total-requires-clause-room
stored-total-requires-clause-room c =
    let ps = c.deref-position-items.result.now in
    let p = c.position-item.result in
    let most : all_bytes (banks_of ps) ≤ MOST_BYTES =
    subst (λ ps. all_bytes (banks_of ps) ≤ MOST_BYTES) (sym c.deref-position-items.ensures.value) c.self.invariant.limits.stored in
    let all = stored_next c.args.server ps c.loop-position.position-index c.loop-position.total p c.loop-position-test.true
    c.position-item.is c.loop-position.invariant most in
    omega (arith, all)

pub overflow_add-total : goal.overflow_add-total
overflow_add-total c =
    let ps = c.deref-position-items.result.now in
    let p = c.position-item.result in
    let most : all_bytes (banks_of ps) ≤ MOST_BYTES =
    subst (λ ps. all_bytes (banks_of ps) ≤ MOST_BYTES) (sym c.deref-position-items.ensures.value) c.self.invariant.limits.stored in
    let all = stored_next c.args.server ps c.loop-position.position-index c.loop-position.total p c.loop-position-test.true
    c.position-item.is c.loop-position.invariant most in
    omega (arith, all, c.stored-total.ensures)

pub returns-clause-within : goal.returns-clause-within
returns-clause-within c =
    let ps = c.deref-position-items.result.now in
    let i = c.loop-position.position-index in
    let most : all_bytes (banks_of ps) ≤ MOST_BYTES =
    subst (λ ps. all_bytes (banks_of ps) ≤ MOST_BYTES) (sym c.deref-position-items.ensures.value) c.self.invariant.limits.stored in
    stored_most c.args.server ps c.loop-position.total
    (stored_bytes c.args.server (layouts_of (drop i ps)) (banks_of (drop i ps))) c.loop-position.invariant most

pub loop-position-preserved : goal.loop-position-preserved
loop-position-preserved c = grind (arith, common_steps)
