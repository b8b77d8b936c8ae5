-- A bank that serves a request sends a true reply.
use Rattle.std.proofs.Common.{◌≡◌, ◌⊎◌, inl, inr, ℕ, zero, suc, ◌<◌, [], ◌∷◌, length, get_or, Some, slice_get}
use Rattle.std.proofs.Common.{refl, sym, ap, ◌∙◌, subst}
use Rattle.std.proofs.lemmas.Option.{same_Some}
use Rattle.bank.specs.Bank.{Bank}
use Rattle.bank.specs.Pointer.{raised, status_of}
use Rattle.bank.specs.Serve.{kind_of, reply_to, served_bank}
use Rattle.bank.specs.declared.kind.Kind.{Kind}
use Rattle.bank.specs.declared.kind.Kind.TheVariants.{Spread}
use Rattle.bank.specs.declared.reply.Reply.{Reply}
use Rattle.bank.specs.declared.request.Request.{Request}
use Rattle.bank.specs.declared.request.Request.TheVariants as request
use Rattle.bank.specs.declared.status.Pointer.{Pointer}
use Rattle.bank.specs.declared.status.Pointer.TheVariants as pointer
use Rattle.bank.specs.declared.status.Status.TheVariants as status
use Rattle.mail.specs.Message.{answered, body_kind}
use Rattle.mail.specs.declared.message.Body.TheVariants as body
use Rattle.mail.specs.declared.message.Message.{Message}
use Rattle.soundness.proofs.ListLemmas.{all_weaker}
use Rattle.open_calls.specs.OpenCalls.{NodeCall}
use Rattle.network.specs.Worlds.{World, known_layouts, member_bank}
use Rattle.network.specs.Events.{handled_world}
use Rattle.network.specs.Premises.{WasSent}
use Rattle.starts.specs.Starts.{HasFinal}
use Rattle.starts.proofs.BankRowLemmas.{bank_set_here, counts_set, row_count}
use Rattle.starts.proofs.BegunPhaseLemmas.{split_list}
use Rattle.starts.proofs.FinalPointerLemmas.{kept_served, ticked}
use Rattle.starts.proofs.TrueReplyLemmas.{Grows, IsSoFar, IsTrueCall, IsTrueMessage, IsTruthful, call_still, message_still, so_far_still}
use Rattle.starts.proofs.TrueReplyLemmas.{within_still}

raised_to_final : (p : Pointer) → status_of (raised p status.Final 0) ≡ status.Final
raised_to_final pointer.Unset = refl
raised_to_final (pointer.Pending since) = refl
raised_to_final (pointer.Final pending since) = refl

-- a bank that was told that its pointer is final has a final pointer
spread_to : (bank : Bank) (asked : Request) → kind_of asked ≡ Spread status.Final →
    status_of (served_bank bank asked 0).pointer ≡ status.Final
spread_to bank request.Next is = absurd (cc)
spread_to bank (request.Spread s) is =
    let same : s ≡ status.Final = cc in ap (λ t. status_of (raised bank.pointer t 0)) same ∙ raised_to_final bank.pointer
spread_to bank request.Query is = absurd (cc)
spread_to bank (request.PreWrite tag piece) is = absurd (cc)
spread_to bank (request.Finalize tag) is = absurd (cc)
spread_to bank (request.Fetch tag) is = absurd (cc)

same_kind : (k l : Kind) (r s : Reply) → body.Reply k r ≡ body.Reply l s → k ≡ l
same_kind k l r s e = cc

module _ (world : World) (is : IsTruthful world) (message : Message) (was : WasSent world message) (asked : Request)
    (shape : message.body ≡ body.Request asked) where
  abbrev new : World
  new = handled_world (ticked world) message asked

  abbrev bank : Bank
  bank = member_bank world message.position message.member

  abbrev reply : Message
  reply = answered message (reply_to bank asked 0)

  told : IsTrueMessage world message
  told = is.messages message was

  grows : Grows world new
  grows = record { keeps = kept_served world message (body.Request asked); known = λ id known. known }

  has_bank : message.member < length (get_or world.banks message.position [])
  has_bank = subst (λ n. message.member < n) (sym (row_count world.banks (known_layouts world 0) message.position is.banks)) told.within

  -- the reply is the only new message
  news : (other : Message) → WasSent new other → WasSent world other ⊎ (reply ≡ other)
  news other sent = go (split_list world.sent (reply ∷ []) sent.0 other sent.1)
    where
      only : (place : ℕ) → slice_get (reply ∷ []) place ≡ Some other → reply ≡ other
      only zero at = same_Some reply other at
      only (suc place) at = absurd (cc)

      go : ((place : ℕ) × (slice_get world.sent place ≡ Some other)) ⊎ ((place : ℕ) × (slice_get (reply ∷ []) place ≡ Some other)) →
          WasSent world other ⊎ (reply ≡ other)
      go (inl there) = inl there
      go (inr there) = inr (only there.0 there.1)

  shows_final : (made : Reply) → reply.body ≡ body.Reply (Spread status.Final) made → HasFinal new message.position message.member
  shows_final made says =
      let spread = same_kind (body_kind message.body) (Spread status.Final) (reply_to bank asked 0) made says in
      ap (λ (b : Bank). status_of b.pointer)
      (bank_set_here world.banks message.position message.member (served_bank bank asked 0) has_bank)
      ∙ spread_to bank asked (ap body_kind (sym shape) ∙ spread)

  reply_true : IsTrueMessage new reply
  reply_true = record {
    known = told.known;
    within = within_still world new grows message.position message.member told.within;
    final = shows_final;
  }

  replied : (call : NodeCall) → IsTrueCall world call → (other : Message) → other.call ≡ call.id → WasSent world other ⊎ (reply ≡ other) →
      WasSent world other ⊎ IsSoFar new call.phase other
  replied call there other own (inl before) = inl before
  replied call there other own (inr same) =
      inr (subst (IsSoFar new call.phase) same (relabel (so_far_still world new grows call.phase message
      (there.sent message was (ap (λ (m : Message). m.call) same ∙ own)))))
    where
      relabel : IsSoFar new call.phase message → IsSoFar new call.phase reply
      relabel (inl before) = inl before
      relabel (inr of) = inr (record { number = of.number; kind = of.kind; at = of.at; within = of.within; quorum = of.quorum })

  pub serving_true : IsTruthful new
  serving_true = record {
    one = is.one;
    lawful = is.lawful;
    banks = counts_set world.banks message.position message.member (served_bank bank asked 0) ∙ is.banks;
    messages = λ other sent. go other (news other sent);
    calls = all_weaker (IsTrueCall world) (IsTrueCall new)
        (λ call there. call_still world new grows call (λ other sent own. replied call there other own (news other sent)) there)
        world.calls is.calls;
  }
    where
      go : (other : Message) → WasSent world other ⊎ (reply ≡ other) → IsTrueMessage new other
      go other (inl before) = message_still world new grows other (is.messages other before)
      go other (inr same) = subst (IsTrueMessage new) same reply_true
