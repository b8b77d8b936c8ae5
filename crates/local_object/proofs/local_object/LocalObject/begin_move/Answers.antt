use Rattle.std.proofs.Common.{◌+◌, ◌^◌, IsSome, ap, sym, subst, inl, ◌∙◌, arith}
use Rattle.std.proofs.lemmas.Bool.{le-ltb, lt-ltb}
use Rattle.local_object.specs.Doing.{move_refusal}
use Rattle.local_object.specs.Local.{LocalObject, last_position, layout_here}
use Rattle.local_object.proofs.BeginLemmas.{for_memory, move_full, move_none, move_pending}
use Rattle.local_object.proofs.local_object.LocalObject.begin_move.Goals as goal

pub returns-then-is_moving-clause-cause : goal.returns-then-is_moving-clause-cause
returns-then-is_moving-clause-cause c =
    inl (move_pending c.args.self.now c.args.id c.in_ok-refuse_open.ensures.new (sym c.is_moving.ensures ∙ c.if-is_moving.true))

pub returns-then-last-clause-cause : goal.returns-then-last-clause-cause
returns-then-last-clause-cause c =
    let last = c.last-last.ensures.last ∙ ap (λ (l : LocalObject). last_position l) c.self.view_is in
    inl (move_full c.args.self.now c.args.id c.in_ok-refuse_open.ensures.new (sym c.is_moving.ensures ∙ c.if-is_moving.false)
    (le-ltb (last_position c.args.self.now + 2) (2 ^ 32) (omega (arith, last, c.if-last.true))))

pub begin_from-requires-clause-last : goal.begin_from-requires-clause-last
begin_from-requires-clause-last c = c.last-last.ensures.last ∙ ap (λ (l : LocalObject). last_position l) c.self.view_is

pub begin_from-requires-clause-known : goal.begin_from-requires-clause-known
begin_from-requires-clause-known c =
    subst (λ (l : LocalObject). IsSome (layout_here l c.last-last.result)) c.self.view_is c.last-last.ensures.known

pub begin_from-requires-clause-still : goal.begin_from-requires-clause-still
begin_from-requires-clause-still c = sym c.is_moving.ensures ∙ c.if-is_moving.false

pub returns-clause-cause : goal.returns-clause-cause
returns-clause-cause c =
    let last = c.last-last.ensures.last ∙ ap (λ (l : LocalObject). last_position l) c.self.view_is in
    for_memory (move_refusal c.args.self.now c.args.id) c.begin_from.result
    (move_none c.args.self.now c.args.id c.in_ok-refuse_open.ensures.new (sym c.is_moving.ensures ∙ c.if-is_moving.false)
    (lt-ltb (last_position c.args.self.now + 2) (2 ^ 32) (omega (arith, last, c.if-last.false))))
    c.begin_from.ensures.refused
