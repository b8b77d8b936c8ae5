use Rattle.std.proofs.Common.{◌≡◌, ◌||◌, true, false, length, sym, ap, ◌∙◌, arith}
use Rattle.record.specs.Sending.{waits}
use Rattle.call.proofs.MemberListLemmas.{first_of}
use Rattle.register.proofs.MemberLoopLemmas.{is_there, missing_for, missing_first, missing_more, has_replied}
use Rattle.register.proofs.requests.missing_count.Goals as goal
use Rattle.register.proofs.requests.missing_count.Goals.{then-not-is_there, else-not-is_there}

pub loop-member-preserved : goal.loop-member-preserved
loop-member-preserved c =
    let ask = c.args.ask in
    let phase = c.args.phase.now in
    let member = c.loop-member.member in
    let there : is_there c.args.mail.now phase.replies ask.call ask.number member ≡ c.is_there.result =
    ap (λ b. b || waits c.args.mail.now ask.call ask.number member) (has_replied phase.replies member) ∙ sym c.is_there.ensures in
    record {
      few = elim c.if-not-is_there.branch [
        | then-not-is_there w ↦ omega (arith, w.count-is, c.loop-member.invariant.few)
        | else-not-is_there w ↦ omega (arith, w.count-is, c.loop-member.invariant.few)
      ];
      same = λ piece. elim c.if-not-is_there.branch [
        | then-not-is_there w ↦ w.count-is ∙ missing_more c.args.mail.now phase.replies ask.call ask.number ask.kind ask.position piece
            member false c.loop-member.count (there ∙ w.if-not-is_there.true) (c.loop-member.invariant.same piece)
        | else-not-is_there w ↦ w.count-is ∙ missing_more c.args.mail.now phase.replies ask.call ask.number ask.kind ask.position piece
            member true c.loop-member.count (there ∙ w.if-not-is_there.false) (c.loop-member.invariant.same piece)
      ];
    }

pub returns : goal.returns
returns c servers piece count =
    let ask = c.args.ask in
    let phase = c.args.phase.now in
    let all : c.loop-member.member ≡ length servers =
    omega (arith, c.loop-member-test.false, c.loop-member.auto.member-end, c.members-member-end.ensures, count) in
    c.loop-member.invariant.same piece ∙ ap (λ n. length
    (first_of (missing_for c.args.mail.now phase.replies ask.call ask.number ask.kind ask.position piece) n)) all
    ∙ ap length (sym (missing_first c.args.mail.now phase.replies ask.call ask.number ask.kind ask.position servers piece))
