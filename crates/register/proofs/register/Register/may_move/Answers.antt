use Rattle.std.proofs.Common.{◌-◌, ◌<◌, ℕ, length, ◌∙◌, arith, rules}
use Rattle.tag.specs.declared.limits.TheConstants.{MOST_CALLS, MOST_POSITIONS}
use Rattle.register.specs.State.{Contents}
use Rattle.register.proofs.BeginRefusalLemmas.{many_messages, no_cause}
use Rattle.register.proofs.FoundCallLemmas.{later}
use Rattle.register.proofs.LastPositionLemmas.{IsLast, last_of}
use Rattle.register.proofs.StepInvariantLemmas.{contents_of}
use Rattle.register.proofs.register.Register.may_move.Goals as goal
use Rattle.register.proofs.register.Register.may_move.Goals.{After-n}

-- the layout that was read is that of the last position
module _ (c : After-n) where
  abbrev held : Contents
  held = contents_of c.self.inside

  abbrev from : ℕ
  from = c.len-positions.result - 1

  is_last : IsLast held from c.layout.result.now
  is_last = last_of held c.len-positions.result c.index.result.now c.layout.result.now c.self.invariant
      (omega (arith, c.len-positions.ensures)) c.index.ensures c.layout.ensures

pub returns-then-not-has_room : goal.returns-then-not-has_room
returns-then-not-has_room c =
    let n = (goal.at.returns-then-not-has_room c).After-n in
    let few_positions : length c.self.inside.positions.items < MOST_POSITIONS =
    omega (arith, c.len-positions.ensures, c.if-positions-ge-MOST_POSITIONS.false) in
    let few : length c.self.inside.calls.items < MOST_CALLS = omega (arith, c.len.ensures, c.if-len-ge-MOST_CALLS.false) in
    record {
      cause = λ layout. rw (← c.self.view_is) (many_messages (held n) c.args.now (from n) c.layout.result.now layout c.self.invariant
          c.if-self.false (is_last n) c.if-now-gt-MOST_STEPS.false few_positions few c.from-posted.result c.has_room.result
          (c.from-posted.ensures ∙ c.n.ensures.value) c.has_room.ensures c.if-not-has_room.true);
    }

pub returns : goal.returns
returns c =
    let n = (goal.at.returns c).After-n in
    let few_positions : length c.self.inside.positions.items < MOST_POSITIONS =
    omega (arith, c.len-positions.ensures, c.if-positions-ge-MOST_POSITIONS.false) in
    let few : length c.self.inside.calls.items < MOST_CALLS = omega (arith, c.len.ensures, c.if-len-ge-MOST_CALLS.false) in
    record {
      cause = λ layout. rw (← c.self.view_is) (no_cause (held n) c.args.now (from n) c.layout.result.now layout c.self.invariant
          c.if-self.false (is_last n) c.if-now-gt-MOST_STEPS.false few_positions few c.from-posted.result c.has_room.result
          (c.from-posted.ensures ∙ c.n.ensures.value) c.has_room.ensures c.if-not-has_room.false
          (later (held n) c.self.view_is c.requires.after));
    }

pub returns-then-self : goal.returns-then-self
returns-then-self c = search rules
