use Rattle.std.proofs.Common.{List, map, ap, sym, ◌∙◌}
use Rattle.encoder.specs.Fragment.{fragment}
use Rattle.layout.specs.Layout.{Layout}
use Rattle.mail.specs.declared.message.Message.{Message}
use Rattle.mail.specs.declared.phase.Ask.{Ask}
use Rattle.record.specs.Sending.{fragment_piece, requests}
use Rattle.local_object.specs.Coding.{call_value}
use Rattle.local_object.specs.Letters.{letter_in}
use Rattle.local_object.specs.Sent.{asks_piece, sent_letters, unanswered}
use Rattle.local_object.proofs.ResentLemmas.{all_again, some_again}
use Rattle.local_object.proofs.missing.missing.Goals as goal

pub returns-then-begins_anew-clause-letters : goal.returns-then-begins_anew-clause-letters
returns-then-begins_anew-clause-letters c =
    let call = c.args.call.now in
    let layout = c.args.layout.now in
    let of = λ (l : Layout) (a : Ask). requests a.call a.number a.kind a.position l.members 0
    (fragment_piece fragment l (call_value call)) in
    let sent = λ (a : Ask). requests a.call a.number a.kind a.position layout.members 0
    (fragment_piece fragment layout (call_value call)) in
    c.in_ok-letters.ensures.letters
    ∙ ap (λ b. map (letter_in c.args.places.now c.args.start b layout) c.in_ok-messages.messages.items) c.asks_piece.ensures
    ∙ ap (λ (ms : List Message). map (letter_in c.args.places.now c.args.start (asks_piece call.kind call.stage) layout) ms)
    (c.in_ok-messages.ensures.requests ∙ ap (λ (l : Layout). of l c.ask.result) c.layout.ensures ∙ ap sent c.ask.ensures)
    ∙ sym (all_again call (sent_letters c.args.places.now c.args.start call layout) (sym c.begins_anew.ensures ∙ c.if-begins_anew.true))

pub returns-clause-letters : goal.returns-clause-letters
returns-clause-letters c =
    let call = c.args.call.now in
    let layout = c.args.layout.now in
    let of = λ (l : Layout) (a : Ask). requests a.call a.number a.kind a.position l.members 0
    (fragment_piece fragment l (call_value call)) in
    let sent = λ (a : Ask). requests a.call a.number a.kind a.position layout.members 0
    (fragment_piece fragment layout (call_value call)) in
    c.keep_unanswered.ensures
    ∙ ap (unanswered call.phase.replies)
    (c.in_ok-letters.ensures.letters
    ∙ ap (λ b. map (letter_in c.args.places.now c.args.start b layout) c.in_ok-messages.messages.items) c.asks_piece.ensures
    ∙ ap (λ (ms : List Message). map (letter_in c.args.places.now c.args.start (asks_piece call.kind call.stage) layout) ms)
    (c.in_ok-messages.ensures.requests ∙ ap (λ (l : Layout). of l c.ask.result) c.layout.ensures ∙ ap sent c.ask.ensures))
    ∙ sym (some_again call (sent_letters c.args.places.now c.args.start call layout) (sym c.begins_anew.ensures ∙ c.if-begins_anew.false))
