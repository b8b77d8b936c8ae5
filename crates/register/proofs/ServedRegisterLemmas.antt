-- What a register holds once a member has served a request.
use Rattle.std.proofs.Common.{◌≡◌, ℕ, ◌+◌, ◌-◌, ◌<◌, ◌≤◌, ◌^◌, List, length, set, slice_get}
use Rattle.std.proofs.Common.{Some, sym, ap, subst, ◌∙◌, arith}
use Rattle.tag.specs.declared.limits.TheConstants.{MOST_BYTES, MOST_MESSAGES}
use Rattle.bank.specs.Bank.{Bank}
use Rattle.bank.specs.Bytes.{bank_bytes}
use Rattle.bank.specs.Answer.{answer_bytes}
use Rattle.bank.specs.Serve.{served_bank, reply_to}
use Rattle.bank.specs.declared.request.Request.{Request}
use Rattle.bank.specs.declared.reply.Reply.{Reply}
use Rattle.soundness.proofs.ListLemmas.{set_here}
use Rattle.register.proofs.FoundCallLemmas.{later}
use Rattle.mail.specs.declared.message.Message.{Message}
use Rattle.mail.specs.Message.{request_bytes, body_bytes}
use Rattle.mail.specs.Mail.{mail_bytes, replied}
use Rattle.record.specs.Steps.{Step}
use Rattle.register.specs.Position.{Position}
use Rattle.register.specs.State.{Contents, State, state_of, made}
use Rattle.register.specs.Kept.{IsKept}
use Rattle.std.proofs.lemmas.Option.{slice_get_within}
use Rattle.register.proofs.ListLemmas.{same_some}
use Rattle.register.proofs.ServeRequestLemmas.{IsServing, stored_few, serving_is, serving_keeps, stored_fits, reply_room}

-- the bank has served the request
pub record IsServed (c : Contents) (place : ℕ) (m : Message) (p : Position) (q : Request) (now : ℕ) (new : Position) : Type 0 where
  pub request : IsServing c place m p q
  pub layout : new.layout ≡ p.layout
  pub banks : new.banks ≡ set p.banks m.member (served_bank request.bank q now)
  pub room : c.stored + request_bytes q ≤ MOST_BYTES

pub served : {c : Contents} {place : ℕ} {m : Message} {p new : Position} {q : Request} {now bytes : ℕ} → IsServing c place m p q
    → new.layout ≡ p.layout
    → ((b : Bank) → slice_get p.banks m.member ≡ Some b → new.banks ≡ set p.banks m.member (served_bank b q now))
    → bytes ≡ body_bytes m.body → bytes ≤ MOST_BYTES - c.stored → IsServed c place m p q now new
served {q = q} s layout banks bytes_are few = record {
  request = s;
  layout = layout;
  banks = banks s.bank s.held;
  room =
      let brought : _ ≡ request_bytes q = bytes_are ∙ ap body_bytes s.is in
      let stored = stored_few s in omega (arith, brought, stored, few);
}

module _ {c : Contents} {place : ℕ} {m : Message} {p : Position} {q : Request} {now : ℕ} {new : Position}
    (d : IsServed c place m p q now new) where
  abbrev bank : Bank
  bank = d.request.bank

  pub put : slice_get new.banks m.member ≡ Some (served_bank bank q now)
  put =
      subst (λ bs. slice_get bs m.member ≡ Some (served_bank bank q now)) (sym d.banks)
      (set_here p.banks m.member bank (served_bank bank q now) d.request.held)

  pub new_there : m.member < length new.banks
  new_there = slice_get_within new.banks m.member (served_bank bank q now) put

  pub new_fits : c.stored - bank_bytes bank + bank_bytes (served_bank bank q now) ≤ MOST_BYTES
  new_fits = stored_fits d.request now d.layout d.banks d.room

  pub new_few : (other : Bank) → slice_get new.banks m.member ≡ Some other → bank_bytes other < 2 ^ 64
  new_few other e =
      let same = ap bank_bytes (same_some (served_bank bank q now) other (sym put ∙ e)) in
      let fits = new_fits in omega (arith, same, fits)

  module _ {reply : Reply} {mail : List Message} (replies : (b : Bank) → slice_get p.banks m.member ≡ Some b → reply ≡ reply_to b q now)
      (mail_is : mail ≡ replied c.mail place reply) where
    mail_made : mail ≡ replied c.mail place (reply_to bank q now)
    mail_made = mail_is ∙ ap (replied c.mail place) (replies bank d.request.held)

    pub serve_step : (stored : ℕ) → state_of (record c
        { positions = set c.positions m.position new; mail = mail; stored = stored; last = now })
        ≡ made (Step.Serve place) now (state_of c)
    serve_step stored = cc (mail_made, serving_is d.request now d.layout d.banks)

    pub serve_kept : {before after : ℕ} → before ≡ bank_bytes bank → after ≡ bank_bytes (served_bank bank q now)
        → {s : State} → state_of c ≡ s → s.last < now
        → IsKept (record c { positions = set c.positions m.position new; mail = mail; stored = c.stored - before + after; last = now })
    serve_kept {before = before} {after = after} first second view later_on =
        let stored : c.stored - before + after ≡ c.stored - bank_bytes bank + bank_bytes (served_bank bank q now) =
        ap (λ n. c.stored - n + after) first ∙ ap (λ n. c.stored - bank_bytes bank + n) second in
        subst (λ n. IsKept (record c { positions = set c.positions m.position new; mail = mail; stored = n; last = now })) (sym stored)
        (subst (λ ms. IsKept (record c {
          positions = set c.positions m.position new;
          mail = ms;
          stored = c.stored - bank_bytes bank + bank_bytes (served_bank bank q now);
          last = now;
        })) (sym mail_made)
        (serving_keeps d.request now d.layout d.banks (later c view later_on) d.room))

-- the reply has room beside the messages
pub reply_fits : {c : Contents} {place : ℕ} {m : Message} {p : Position} {q : Request} {now : ℕ} {reply : Reply}
    → (s : IsServing c place m p q)
    → ((b : Bank) → slice_get p.banks m.member ≡ Some b → reply ≡ reply_to b q now) → length c.mail ≤ MOST_MESSAGES
    → mail_bytes c.mail + answer_bytes reply.answer ≤ MOST_BYTES
reply_fits {c = c} s replies few =
    subst (λ (r : Reply). mail_bytes c.mail + answer_bytes r.answer ≤ MOST_BYTES) (sym (replies s.bank s.held)) (reply_room s few)
