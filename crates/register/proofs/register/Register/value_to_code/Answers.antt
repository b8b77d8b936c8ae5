use Rattle.std.proofs.Common.{Some, sym, ap, ◌∙◌, inl, arith, rules, length}
use Rattle.register.proofs.FoundCallLemmas.{is_found, below_those, few_those}
use Rattle.register.proofs.SentPieceLemmas.{sending, value_cause_is, position_there, none_sent, coding_is, layout_there, for_memory}
use Rattle.register.proofs.SuppliedPieceLemmas.{none_of}
use Rattle.register.proofs.register.Register.value_to_code.Goals as goal

pub pieces_position-requires : goal.pieces_position-requires
pieces_position-requires c =
    let f = is_found c.self.invariant c.in_ok-index.ensures.place c.deref.ensures.value c.index-tracked.ensures in
    record { count = few_those c.self.invariant c.deref-2.ensures.value; below = below_those f c.deref-2.ensures.value }

pub returns-in_default-clause-cause : goal.returns-in_default-clause-cause
returns-in_default-clause-cause c =
    let f = is_found c.self.invariant c.in_ok-index.ensures.place c.deref.ensures.value c.index-tracked.ensures in
    inl (rw (← c.self.view_is) (value_cause_is (none_sent f c.in_default.ensures)))

pub returns-in_default-pieces_position-clause-cause : goal.returns-in_default-pieces_position-clause-cause
returns-in_default-pieces_position-clause-cause c =
    let f = is_found c.self.invariant c.in_ok-index.ensures.place c.deref.ensures.value c.index-tracked.ensures in
    let none = none_of c.pieces_position.result c.in_default-pieces_position.not-Some in
    let s = sending f c.pieces_position.ensures c.deref-2.ensures.value none in
    inl (rw (← c.self.view_is) (value_cause_is s))

pub index-requires : goal.index-requires
index-requires c =
    let f = is_found c.self.invariant c.in_ok-index.ensures.place c.deref.ensures.value c.index-tracked.ensures in
    let s = sending f c.pieces_position.ensures c.deref-2.ensures.value c.in-Some-pieces_position.is in
    omega (arith, position_there s, c.deref-2.ensures.len, ap length c.deref-2.ensures.value)

pub returns-in_err-clone-clause-cause : goal.returns-in_err-clone-clause-cause
returns-in_err-clone-clause-cause c =
    let f = is_found c.self.invariant c.in_ok-index.ensures.place c.deref.ensures.value c.index-tracked.ensures in
    let s = sending f c.pieces_position.ensures c.deref-2.ensures.value c.in-Some-pieces_position.is in
    for_memory _ c.from_residual-in_err-clone.result (rw (← c.self.view_is) (value_cause_is s)) (search rules)

pub returns : goal.returns
returns c =
    let f = is_found c.self.invariant c.in_ok-index.ensures.place c.deref.ensures.value c.index-tracked.ensures in
    let s = sending f c.pieces_position.ensures c.deref-2.ensures.value c.in-Some-pieces_position.is in
    let placed = layout_there s c.index.ensures c.layout-layout.ensures in
    record {
      value = rw (← c.self.view_is)
          (coding_is s (ap Some c.in_ok-clone.ensures.cases ∙ c.in-Some.ensures) placed
          ∙ (λ j. Some (c.in_ok-clone.field-0, sym c.k.ensures.value j, sym c.n.ensures.value j)));
      cause = rw (← c.self.view_is) (value_cause_is s);
    }
