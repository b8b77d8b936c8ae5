use Rattle.std.proofs.Common.{◌≡◌, ◌+◌, ◌<◌, ◌≤◌, false, length, is_some, arith}
use Rattle.std.proofs.lemmas.Bool.Decides.{nat_tests}
use Rattle.mail.specs.Phase.{Phase, end_of, has_taken}
use Rattle.mail.proofs.TakenReplyLemmas.{ended_pushed, record_more, recorded}
use Rattle.mail.proofs.phase.Phase.add.Goals as goal

-- a quorum is still missing
pub invariant_of-self : goal.invariant_of-self
invariant_of-self c =
    let p = c.self.inside in
    let unended : is_some (end_of p.quorum p.replies.items) ≡ false = grind (arith, nat_tests, rw (← c.self.view_is) at c.requires.open) in
    let missing : has_taken p.replies.items c.args.taken.member ≡ false = rw (← c.self.view_is) at c.requires.missing in
    let below : length p.replies.items + 1 < p.quorum = omega (arith, c.if-len-from.true, c.len.ensures, c.push_reserved.ensures.len) in
    rw c.push_reserved.ensures.items (
      record_more p.members p.quorum p.replies.items (end_of p.quorum p.replies.items) _ c.args.taken c.self.invariant.0 unended missing
          (ended_pushed p.quorum p.replies.items c.args.taken),
      omega (arith, c.self.invariant.1, c.push_reserved.ensures.capacity),
    )

-- the reply makes the quorum
pub invariant_of-self-2 : goal.invariant_of-self-2
invariant_of-self-2 c =
    let p = c.self.inside in
    let unended : is_some (end_of p.quorum p.replies.items) ≡ false = grind (arith, nat_tests, rw (← c.self.view_is) at c.requires.open) in
    let missing : has_taken p.replies.items c.args.taken.member ≡ false = rw (← c.self.view_is) at c.requires.missing in
    let reached : p.quorum ≤ length p.replies.items + 1 = omega (arith, c.if-len-from.false, c.len.ensures, c.push_reserved.ensures.len) in
    rw c.push_reserved.ensures.items (
      record_more p.members p.quorum p.replies.items (end_of p.quorum p.replies.items) _ c.args.taken c.self.invariant.0 unended missing
          (ended_pushed p.quorum p.replies.items c.args.taken),
      omega (arith, c.self.invariant.1, c.push_reserved.ensures.capacity),
    )

pub returns-clause-phase : goal.returns-clause-phase
returns-clause-phase c =
    let p = c.self.inside in
    let seen : Phase = record {
      call = p.ask.call;
      number = p.ask.number;
      kind = p.ask.kind;
      position = p.ask.position;
      members = p.members;
      quorum = p.quorum;
      needed = p.needed;
      start = p.start;
      replies = p.replies.items;
      end = end_of p.quorum p.replies.items;
    } in
    rw (← c.self.view_is) (recorded seen c.args.taken c.push_reserved.new.self.items c.push_reserved.ensures.items)
