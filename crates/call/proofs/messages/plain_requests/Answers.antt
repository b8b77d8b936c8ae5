use Rattle.std.proofs.Common.{◌≡◌, length, sym, ap, ◌∙◌, arith, rules}
use Rattle.call.proofs.MemberListLemmas.{first_of, requests_for, requests_first}
use Rattle.call.proofs.messages.plain_requests.Goals as goal

pub returns-clause-requests : goal.returns-clause-requests
returns-clause-requests c servers piece count =
    let ask = c.args.ask in
    let all : c.loop-member.member ≡ length servers = omega (arith, c.loop-member-test.false, c.loop-member.auto.member-end, count) in
    c.loop-member.invariant.made piece ∙ ap (first_of (requests_for ask.call ask.number ask.kind ask.position piece)) all
    ∙ sym (requests_first ask.call ask.number ask.kind ask.position servers piece)

pub loop-member-preserved : goal.loop-member-preserved
loop-member-preserved c = search rules
