use Rattle.std.proofs.Common.{◌≡◌, ◌+◌, ◌^◌, length, map, slice_set, refl, sym, subst, ap, ◌∙◌, arith}
use Rattle.std.proofs.lemmas.Bool.{le-ltb, lt-ltb}
use Rattle.bank.specs.Bank.{empty_piece}
use Rattle.bank.specs.declared.kind.Kind.TheVariants.{Next}
use Rattle.layout.specs.Layout.{Layout}
use Rattle.mail.specs.Phase.{Phase}
use Rattle.record.specs.Sending.{requests}
use Rattle.call.specs.Call.{OpenCall as Machine}
use Rattle.local_object.specs.Anew.{IsReadAtIf, IsReadLater, reading_machine}
use Rattle.local_object.specs.Letters.{letter_in}
use Rattle.local_object.specs.Outcomes.{is_read}
use Rattle.local_object.specs.Local.{layout_in, heard_place}
use Rattle.local_object.proofs.CarriedCallLemmas.{same_call}
use Rattle.local_object.proofs.reading.read_at.Goals as goal

pub returns-then-number-more-clause-read : goal.returns-then-number-more-clause-read
returns-then-number-more-clause-read c = λ call at.
    let read = c.at-call.result.now in
    let same = same_call read call (sym c.at-call.ensures ∙ at) in
    let number = c.number-number.ensures ∙ ap (λ (p : Phase). p.number) c.phase.ensures.value in
    subst (λ (m : Machine). IsReadLater c.args.places.now c.args.calls.now m c.args.index c.args.more c.args.position c.args.calls.now
    c.new.result.items) same
    (subst (λ b. IsReadAtIf b c.args.places.now c.args.calls.now read c.args.index (read.phase.number + c.args.more) c.args.position
    c.args.calls.now c.new.result.items)
    (sym (le-ltb (read.phase.number + c.args.more) (2 ^ 32) (omega (arith, number, c.if-number-more.true))))
    (refl, c.new.ensures.items))

pub returns-clause-read : goal.returns-clause-read
returns-clause-read c = λ call at.
    let places = c.args.places.now in
    let calls = c.args.calls.now in
    let read = c.at-call.result.now in
    let same = same_call read call (sym c.at-call.ensures ∙ at) in
    let layout = c.in-Some.layout.now in
    let number = c.number-number.ensures ∙ ap (λ (p : Phase). p.number) c.phase.ensures.value in
    let later = ap (λ n. n + c.args.more) number in
    let known = sym (c.in-Some.ensures ∙ ap (λ n. layout_in (heard_place places n)) c.from.ensures) in
    let servers : length layout.members ≡ c.n.result = sym (c.n.ensures.value ∙ ap (λ (l : Layout). length l.members) c.layout.ensures) in
    subst (λ (m : Machine). IsReadLater places calls m c.args.index c.args.more c.args.position c.read_at.new.self
    c.in_ok-letters.letters.items) same
    (subst (λ b. IsReadAtIf b places calls read c.args.index (read.phase.number + c.args.more) c.args.position c.read_at.new.self
    c.in_ok-letters.letters.items)
    (sym (lt-ltb (read.phase.number + c.args.more) (2 ^ 32) (omega (arith, number, c.if-number-more.false))))
    (record {
      layout = layout;
      known = known;
      calls = c.in_ok-read_at.ensures.read read c.at-call.ensures
          ∙ ap (λ (l : Layout). slice_set calls c.args.index
          (reading_machine read (c.number-number.result + c.args.more) c.args.position l))
          c.layout-2.ensures
          ∙ ap (λ n. slice_set calls c.args.index (reading_machine read n c.args.position layout)) later;
      sent = c.in_ok-letters.ensures.letters
          ∙ ap (λ b. map (letter_in places c.args.position b layout) c.in_ok-messages.messages.items) c.is_read.ensures
          ∙ ap (map (letter_in places c.args.position (is_read read.kind) layout))
          (c.in_ok-messages.ensures.requests layout.members servers
          ∙ ap (λ id. requests id (c.number-number.result + c.args.more) Next c.args.position layout.members 0 empty_piece) c.id.ensures
          ∙ ap (λ n. requests read.id n Next c.args.position layout.members 0 empty_piece) later);
    }))
