-- The current phase of a call that sends no pieces asks again.
use Rattle.std.proofs.Common.{◌≡◌, ℕ, pred, ◌<◌, Bool, true, false, not, List, ◌++◌, get_or, Option, Some, None, refl, sym}
use Rattle.std.proofs.Common.{subst, ap, ◌∙◌}
use Rattle.tag.specs.declared.limits.TheConstants.{MOST_STEPS}
use Rattle.tag.specs.declared.refusal.Refusal.{Refusal}
use Rattle.tag.specs.declared.refusal.Refusal.TheVariants.{NotNow, Full}
use Rattle.tag.specs.declared.tag.Tag.{Tag}
use Rattle.encoder.specs.Fragment.{fragment}
use Rattle.bank.specs.declared.kind.Kind.{Kind}
use Rattle.bank.specs.declared.kind.Kind.TheVariants.{PreWrite}
use Rattle.mail.specs.Mail.{mail_cause}
use Rattle.mail.specs.Phase.{Phase, members_of}
use Rattle.record.specs.declared.stage.Want.{Want}
use Rattle.record.specs.declared.stage.Want.TheVariants as want
use Rattle.record.specs.Records.{Object, layout_at}
use Rattle.record.specs.Steps as steps
use Rattle.record.specs.Steps.{Step, stepped, on_call}
use Rattle.record.specs.Sending.{sent_pieces, requests, missing}
use Rattle.record.specs.Wants.{current_phase}
use Rattle.register.specs.Causes.{unless, if_step, is_replies, is_plain, may_post, post_cause}
use Rattle.call.specs.Pieces.{piece_from, HavePieces}
use Rattle.register.specs.Coding.{is_pre_write}
use Rattle.register.specs.State.{Contents, made, object_of, state_of}
use Rattle.register.specs.Tracked.{Tracked, asked_again}
use Rattle.register.proofs.AskAgainLemmas.{IsAsking, phase_members, phase_call}
use Rattle.register.proofs.ChangedCallLemmas.{requests_plain}
use Rattle.register.proofs.FoundCallLemmas.{IsWanting, at, at_place, same, caused}
use Rattle.register.proofs.RoomLemmas.{not_true, step_past}

pub not_replies : (w : Want) → (w ≡ want.Replies → ⊥) → is_replies w ≡ false
not_replies want.Replies other = absurd (other refl)
not_replies _ other = refl

pub plain_phase : (o : Option Phase) → is_plain o ≡ true → (p : Phase) × (o ≡ Some p) × (is_pre_write p.kind ≡ false)
plain_phase None e = absurd (cc)
plain_phase (Some p) e = (p, refl, not_true (is_pre_write p.kind) e)

pub no_pre : (kind : Kind) → is_pre_write kind ≡ false → (tag : Tag) → kind ≡ PreWrite tag → ⊥
no_pre kind plain tag e = absurd (let clash : true ≡ false = sym (ap is_pre_write e) ∙ plain in cc)

no_coded : (kind : Kind) (members : ℕ) → is_pre_write kind ≡ false → HavePieces kind members None
no_coded (PreWrite tag) members plain = absurd (cc)
no_coded _ members plain = tt

module _ {c : Contents} {number index : ℕ} {t : Tracked} {w : Want} (wanted : IsWanting c number index t w) (now : ℕ) where
  abbrev for_room : (may : Bool) → Option Refusal
  for_room may =
      unless may NotNow (if_step now (mail_cause (stepped fragment (Step.Post (pred number)) now (state_of c).object).mail))

  post_by : (phase : Option Phase) → current_phase t.call.phases ≡ phase
      → post_cause now (state_of c).object number ≡ for_room (may_post w phase)
  post_by phase current =
      caused wanted.found _
      ∙ ap (λ v. for_room (may_post v (current_phase t.call.phases))) wanted.wants ∙ ap (λ p. for_room (may_post w p)) current

  pub post_refused : (w ≡ want.Replies → ⊥) → post_cause now (state_of c).object number ≡ Some NotNow
  post_refused other = cc (post_by (current_phase t.call.phases) refl, not_replies w other)

-- where the call wants replies, and its current phase is known
module _ {c : Contents} {number index : ℕ} {t : Tracked} (wanted : IsWanting c number index t want.Replies) {p : Phase} {sends : Bool}
    (there : current_phase t.call.phases ≡ Some p) (tested : sends ≡ is_pre_write p.kind) where
  abbrev object : Object
  object = (state_of c).object

  post_with : (now : ℕ) (b : Bool) → sends ≡ b → post_cause now (state_of c).object number ≡ for_room wanted now (not b)
  post_with now b is = post_by wanted now (Some p) there ∙ ap (λ b. for_room wanted now (not b)) (sym tested ∙ is)

  pub post_pieces : (now : ℕ) → sends ≡ true → post_cause now (state_of c).object number ≡ Some NotNow
  post_pieces now pre = post_with now true pre

  module _ (sends_none : sends ≡ false) where
    plain : is_pre_write p.kind ≡ false
    plain = sym tested ∙ sends_none

    abbrev servers : List ℕ
    servers = (layout_at object p.position).members

    goes_on : (now : ℕ) → post_cause now (state_of c).object number ≡ for_room wanted now true
    goes_on now = post_with now false sends_none

    -- past the limit of steps
    pub post_past : (now : ℕ) → MOST_STEPS < now → post_cause now (state_of c).object number ≡ Some Full
    post_past now past = goes_on now ∙ step_past now _ past

    post_is : (now : ℕ) → made (Step.Post (pred number)) now (state_of c)
        ≡ state_of (record c { mail = c.mail ++ asked_again number p servers c.mail (piece_from None); last = now })
    post_is now =
        let f = wanted.found in
        ap (λ o. record { object = o; last = now })
        (subst (λ n. stepped fragment (Step.Post (pred n)) now object ≡ stepped fragment (Step.Post index) now object) f.named refl
        ∙ ap (λ o. on_call object o (λ call. steps.asked_again fragment object call (current_phase call.phases))) (at f)
        ∙ ap (λ q. steps.asked_again fragment object t.call q) there
        ∙ ap (λ rs. object_of c.delta c.positions (c.mail ++ missing c.mail (members_of p.replies) rs) c.calls)
        (requests_plain p.call p.number p.kind p.position servers 0 (sent_pieces fragment object t.call p.position) (piece_from None)
        (no_pre p.kind plain)
        ∙ ap (λ n. requests n p.number p.kind p.position servers 0 (piece_from None)) (phase_call f there)))

    asks : IsAsking c number index t (Step.Post (pred number)) (λ now. post_cause now object number) None
    asks = record {
      found = wanted.found;
      may = record {
        call = t.call;
        phase = p;
        waiting = record { wants = (at_place wanted.found, wanted.wants); current = there };
        plain = λ pre. no_pre p.kind plain pre.0 pre.1;
      };
      phase = p;
      current = there;
      servers = servers;
      members = phase_members wanted.found there;
      sends = no_coded p.kind p.members plain;
      makes = post_is;
      causes = goes_on;
    }

    -- the call, as it is read once more
    pub posting : {old : Tracked} → old ≡ get_or c.calls index old
        → IsAsking c number index old (Step.Post (pred number)) (λ now. post_cause now object number) None
    posting read =
        subst (λ (u : Tracked). IsAsking c number index u (Step.Post (pred number)) (λ now. post_cause now object number) None)
        (same wanted.found read) asks
