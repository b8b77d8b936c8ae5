use Rattle.std.proofs.Common.{◌≡◌, ℕ, length, sym, ap, ◌∙◌, arith, rules}
use Rattle.std.specs.Option.{option_copied}
use Rattle.piece.specs.declared.piece.Piece.{Piece}
use Rattle.call.specs.Pieces.{piece_from}
use Rattle.call.proofs.MemberListLemmas.{first_of, requests_for, requests_first}
use Rattle.call.proofs.messages.requests_with_pieces.Goals as goal

pub returns-clause-requests : goal.returns-clause-requests
returns-clause-requests c servers count =
    let ask = c.args.ask in
    let piece : ℕ → Piece = piece_from (option_copied c.args.coded) in
    let all : c.loop-member.member ≡ length servers = omega (arith, c.loop-member-test.false, c.loop-member.auto.member-end, count) in
    c.loop-member.invariant ∙ ap (first_of (requests_for ask.call ask.number ask.kind ask.position piece)) all
    ∙ sym (requests_first ask.call ask.number ask.kind ask.position servers piece)

pub loop-member-preserved : goal.loop-member-preserved
loop-member-preserved c = search rules
