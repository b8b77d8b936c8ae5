use Rattle.std.proofs.Common.{◌++◌, ap, ◌∙◌, inl}
use Rattle.bank.specs.Bank.{empty_piece}
use Rattle.mail.specs.Mail.{mail_cause}
use Rattle.record.specs.Sending.{requests}
use Rattle.register.proofs.RoomLemmas.{few_room, many_full, sum_few, handed_on}
use Rattle.register.proofs.tracked_call.TrackedCall.begin.Goals as goal

pub returns-then-not-has_room-clause-cause : goal.returns-then-not-has_room-clause-cause
returns-then-not-has_room-clause-cause c =
    let ask = c.args.ask in
    let members = c.args.layout.now.members in
    let few = sum_few c.args.mail.now ask.call 1 ask.kind ask.position members empty_piece c.from.result c.has_room.result
    (c.from.ensures ∙ c.n.ensures.value) c.has_room.ensures in
    inl (many_full _ (few ∙ c.if-not-has_room.true))

pub returns-in_err-call-clause-cause : goal.returns-in_err-call-clause-cause
returns-in_err-call-clause-cause c =
    let ask = c.args.ask in
    let members = c.args.layout.now.members in
    let few = sum_few c.args.mail.now ask.call 1 ask.kind ask.position members empty_piece c.from.result c.has_room.result
    (c.from.ensures ∙ c.n.ensures.value) c.has_room.ensures in
    handed_on _ c.from_residual.result _ (few_room _ c.requires.room (few ∙ c.if-not-has_room.false)) c.from_residual.ensures.1
    c.in_err-call.ensures.refused

pub post_requests-requires-clause-room : goal.post_requests-requires-clause-room
post_requests-requires-clause-room c =
    let ask = c.args.ask in
    let members = c.args.layout.now.members in
    let few = sum_few c.args.mail.now ask.call 1 ask.kind ask.position members empty_piece c.from.result c.has_room.result
    (c.from.ensures ∙ c.n.ensures.value) c.has_room.ensures in
    ap (λ n. mail_cause (c.args.mail.now ++ requests ask.call n ask.kind ask.position members 0 empty_piece)) c.requires.first
    ∙ few_room _ c.requires.room (few ∙ c.if-not-has_room.false)

pub returns-in_err-post_requests-clause-cause : goal.returns-in_err-post_requests-clause-cause
returns-in_err-post_requests-clause-cause c =
    let ask = c.args.ask in
    let members = c.args.layout.now.members in
    let few = sum_few c.args.mail.now ask.call 1 ask.kind ask.position members empty_piece c.from.result c.has_room.result
    (c.from.ensures ∙ c.n.ensures.value) c.has_room.ensures in
    handed_on _ c.from_residual-in_err-post_requests.result _ (few_room _ c.requires.room (few ∙ c.if-not-has_room.false))
    c.from_residual-in_err-post_requests.ensures.1 c.in_err-post_requests.ensures.refused

pub returns-clause-cause : goal.returns-clause-cause
returns-clause-cause c =
    let ask = c.args.ask in
    let members = c.args.layout.now.members in
    let few = sum_few c.args.mail.now ask.call 1 ask.kind ask.position members empty_piece c.from.result c.has_room.result
    (c.from.ensures ∙ c.n.ensures.value) c.has_room.ensures in
    few_room _ c.requires.room (few ∙ c.if-not-has_room.false)
