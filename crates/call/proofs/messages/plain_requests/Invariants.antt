use Rattle.std.proofs.Common.{◌≡◌, ◌+◌, ◌-◌, ◌≤◌, ℕ}
use Rattle.std.specs.Vec.{vec_len, vec_capacity}
use Rattle.piece.specs.declared.piece.Piece.{Piece}
use Rattle.call.proofs.MemberListLemmas.{first_of, requests_for}
use Rattle.call.proofs.messages.plain_requests.Given as goal

-- the requests to the members so far, whatever the pieces would be, and room for those that are left
abbrev pub invariant-loop-member : goal.invariant-loop-member
invariant-loop-member l = record {
  made : (piece : ℕ → Piece) → l.messages.items ≡ first_of
      (requests_for l.ask.call l.ask.number l.ask.kind l.ask.position piece) l.member;
  room : vec_len l.messages + (l.members - l.member) ≤ vec_capacity l.messages;
}
