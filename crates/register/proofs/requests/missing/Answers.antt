use Rattle.std.proofs.Common.{◌≡◌, ℕ, ◌||◌, true, false, Vec, Global, ◌∷◌, [], ◌++◌, length, sym, ap, ◌∙◌, arith}
use Rattle.std.specs.Option.{option_copied}
use Rattle.piece.specs.declared.piece.Piece.{Piece}
use Rattle.mail.specs.declared.message.Message.{Message}
use Rattle.record.specs.Sending.{waits}
use Rattle.call.specs.Pieces.{piece_from}
use Rattle.call.proofs.MemberListLemmas.{first_of}
use Rattle.register.proofs.MemberLoopLemmas.{is_there, missing_for, missing_first, missing_next, has_replied}
use Rattle.register.proofs.requests.missing.Goals as goal
use Rattle.register.proofs.requests.missing.Goals.{then-not-is_there+in_ok-request_to+in_ok-push, else-not-is_there}

pub loop-member-preserved : goal.loop-member-preserved
loop-member-preserved c =
    let ask = c.args.ask in
    let phase = c.args.phase.now in
    let member = c.loop-member.member in
    let piece : ℕ → Piece = piece_from (option_copied c.args.coded) in
    let there : is_there c.args.mail.now phase.replies ask.call ask.number member ≡ c.is_there.result =
    ap (λ b. b || waits c.args.mail.now ask.call ask.number member) (has_replied phase.replies member) ∙ sym c.is_there.ensures in
    elim c.if-not-is_there.branch [
      | then-not-is_there+in_ok-request_to+in_ok-push w ↦
          ap (λ (v : Vec Message Global). v.items) w.messages-is ∙ w.in_ok-push.ensures.items
          ∙ ap (λ m. c.loop-member.messages.items ++ m ∷ []) w.in_ok-request_to.ensures.request
          ∙ missing_next c.args.mail.now phase.replies ask.call ask.number ask.kind ask.position piece member false
          c.loop-member.messages.items (there ∙ w.if-not-is_there.true) c.loop-member.invariant
      | else-not-is_there w ↦ ap (λ (v : Vec Message Global). v.items) w.messages-is
          ∙ missing_next c.args.mail.now phase.replies ask.call ask.number ask.kind ask.position piece member true
          c.loop-member.messages.items (there ∙ w.if-not-is_there.false) c.loop-member.invariant
    ]

pub returns-clause-requests : goal.returns-clause-requests
returns-clause-requests c servers count =
    let ask = c.args.ask in
    let phase = c.args.phase.now in
    let piece : ℕ → Piece = piece_from (option_copied c.args.coded) in
    let all : c.loop-member.member ≡ length servers =
    omega (arith, c.loop-member-test.false, c.loop-member.auto.member-end, c.members-member-end.ensures, count) in
    c.loop-member.invariant ∙ ap (first_of (missing_for c.args.mail.now phase.replies ask.call ask.number ask.kind ask.position piece)) all
    ∙ sym (missing_first c.args.mail.now phase.replies ask.call ask.number ask.kind ask.position servers piece)
