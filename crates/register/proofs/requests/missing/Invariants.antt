use Rattle.std.proofs.Common.{◌≡◌}
use Rattle.std.specs.Option.{option_copied}
use Rattle.call.specs.Pieces.{piece_from}
use Rattle.call.proofs.MemberListLemmas.{first_of}
use Rattle.register.proofs.MemberLoopLemmas.{missing_for}
use Rattle.register.proofs.requests.missing.Given as goal

-- the requests that are missing of the members so far
abbrev pub invariant-loop-member : goal.invariant-loop-member
invariant-loop-member l =
    l.messages.items
    ≡ first_of (missing_for l.mail l.phase.replies l.ask.call l.ask.number l.ask.kind l.ask.position (piece_from (option_copied l.coded)))
    l.member
