use Rattle.std.proofs.Common.{◌≡◌}
use Rattle.std.specs.Option.{option_copied}
use Rattle.call.specs.Pieces.{piece_from}
use Rattle.call.proofs.MemberListLemmas.{first_of, requests_for}
use Rattle.call.proofs.messages.requests_with_pieces.Given as goal

-- the requests to the members so far
abbrev pub invariant-loop-member : goal.invariant-loop-member
invariant-loop-member l = l.messages.items ≡ first_of
    (requests_for l.ask.call l.ask.number l.ask.kind l.ask.position (piece_from (option_copied l.coded))) l.member
