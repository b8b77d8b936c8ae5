use Rattle.std.proofs.Common.{rules, ◌<◌, ◌∙◌, not, length, sym, ap, arith}
use Rattle.layout.proofs.MarkedPlaceLemmas.{contains-marked, marked-set, insert_present, len-marked-set, len-marked-le}
use Rattle.layout.proofs.member_set.MemberSet.insert.Goals as goal

-- the member was there
pub returns-then-self-place-clause-inserted : goal.returns-then-self-place-clause-inserted
returns-then-self-place-clause-inserted c =
    rw (← c.self.view_is, ← c.from-place.ensures) (sym (insert_present c.self.inside.present c.from-place.result c.if-self-place.true))

pub returns-then-self-place-clause-was_new : goal.returns-then-self-place-clause-was_new
returns-then-self-place-clause-was_new c =
    rw (← c.self.view_is, ← c.from-place.ensures) (sym (ap not (contains-marked c.self.inside.present c.from-place.result
    ∙ c.if-self-place.true)))

-- the member is new
pub overflow_add-self : goal.overflow_add-self
overflow_add-self c = omega (arith, len-marked-le c.self.inside.present)

pub invariant_of-self : goal.invariant_of-self
invariant_of-self c =
    let within : c.from-place.result < length c.self.inside.present = omega arith in
    let marked = len-marked-set c.self.inside.present c.from-place.result within c.if-self-place.false in
    (omega arith, search rules)

pub returns-clause-inserted : goal.returns-clause-inserted
returns-clause-inserted c =
    let within : c.from-place.result < length c.self.inside.present = omega arith in
    rw (← c.self.view_is, ← c.from-place.ensures) (marked-set c.self.inside.present c.from-place.result within)

pub returns-clause-was_new : goal.returns-clause-was_new
returns-clause-was_new c =
    rw (← c.self.view_is, ← c.from-place.ensures) (sym (ap not (contains-marked c.self.inside.present c.from-place.result
    ∙ c.if-self-place.false)))
