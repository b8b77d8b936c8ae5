use Rattle.std.proofs.Common.{◌≡◌, List, length, sym, ap, ◌∙◌, arith, rules}
use Rattle.layout.specs.Layout.{Layout}
use Rattle.bank.specs.Bank.{Bank}
use Rattle.register.specs.Position.{Position}
use Rattle.call.proofs.MemberListLemmas.{first_of}
use Rattle.register.proofs.MemberLoopLemmas.{bank_for, opened_first}
use Rattle.register.proofs.position.Position.new.Goals as goal

abbrev with_banks : Layout → List Bank → Position
with_banks layout banks = record { layout = layout; banks = banks }

pub returns-clause-opened : goal.returns-clause-opened
returns-clause-opened c =
    let members = c.args.layout.members in
    let all : c.loop-member.member ≡ length members =
    omega (arith, c.loop-member-test.false, c.loop-member.auto.member-end, c.n-member-end.ensures.value) in
    ap (with_banks c.args.layout) (c.loop-member.invariant ∙ ap (first_of (bank_for c.args.delta c.args.now)) all
    ∙ sym (opened_first members c.args.delta c.args.now))

pub loop-member-preserved : goal.loop-member-preserved
loop-member-preserved c = search rules
