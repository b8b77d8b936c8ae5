use Rattle.std.proofs.Common.{◌≡◌, ℕ, ◌≤◌, length}
use Rattle.piece.specs.declared.piece.Piece.{Piece}
use Rattle.call.proofs.MemberListLemmas.{first_of}
use Rattle.register.proofs.MemberLoopLemmas.{missing_for}
use Rattle.register.proofs.requests.missing_count.Given as goal

-- how many are missing of the members so far
abbrev pub invariant-loop-member : goal.invariant-loop-member
invariant-loop-member l =
    record {
      few : l.count ≤ l.member;
      same : (piece : ℕ → Piece) → l.count ≡ length
          (first_of (missing_for l.mail l.phase.replies l.ask.call l.ask.number l.ask.kind l.ask.position piece) l.member);
    }
