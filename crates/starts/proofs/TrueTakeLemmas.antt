-- A call that takes a message stays true.
use Rattle.std.proofs.Common.{◌≡◌, inl, inr, ℕ, ◌+◌, ◌≤◌, ◌&&◌, Bool, true, false, not, cond, List, [], ◌∷◌, length}
use Rattle.std.proofs.Common.{Some, None, IsSome, is_some, nat_eq, nat_lt, refl, sym, ap, ◌∙◌, subst, eqb, eqb-true, arith}
use Rattle.std.proofs.lemmas.Bool.Decides.{nat_tests}
use Rattle.std.proofs.lemmas.List.{length-append, map-append}
use Rattle.std.specs.List.{IsDistinct}
use Rattle.layout.specs.Layout.{quorum_of}
use Rattle.layout.specs.Quorum.{has}
use Rattle.layout.proofs.DistinctMemberLemmas.{distinct_push}
use Rattle.bank.specs.declared.kind.Kind.{Kind}
use Rattle.bank.specs.declared.kind.Kind.TheVariants.{Spread}
use Rattle.bank.specs.declared.reply.Reply.{Reply}
use Rattle.bank.specs.declared.status.Status.TheVariants as status
use Rattle.mail.specs.Message.{body_kind}
use Rattle.mail.specs.Phase.{Phase, after_body, has_taken, is_current, makes_quorum, members_of, with_reply}
use Rattle.mail.specs.declared.message.Body.{Body}
use Rattle.mail.specs.declared.message.Body.TheVariants as body
use Rattle.mail.specs.declared.message.Message.{Message}
use Rattle.mail.specs.declared.phase.Taken.{Taken}
use Rattle.soundness.proofs.ListLemmas.{all_push, all_weaker}
use Rattle.open_calls.specs.OpenCalls.{NodeCall, taking_open}
use Rattle.network.specs.Worlds.{World, known_layout}
use Rattle.network.specs.Premises.{WasSent}
use Rattle.starts.specs.Starts.{HasFinal}
use Rattle.starts.proofs.TrueReplyLemmas.{HasQuorum, IsOfPhase, IsSoFar, IsTrueCall, IsTrueMessage, IsTrueTaken}

has_members : (replies : List Taken) (member : ℕ) → has (members_of replies) member ≡ has_taken replies member
has_members [] member = refl
has_members (taken ∷ replies) member = grind (arith, nat_tests, has_members replies member)

whole_quorum : (have quorum : ℕ) → not (nat_lt (have + 1) quorum) ≡ true → quorum ≤ have + 1
whole_quorum have quorum is = grind (arith, nat_tests)

ended_if : (b : Bool) → IsSome {T = ℕ} (cond b (Some 0) None) → b ≡ true
ended_if true ended = refl
ended_if false ended = absurd (cc)

second_of : (a b c : Bool) → (a && (b && c)) ≡ true → b ≡ true
second_of true true c is = refl
second_of true false c is = absurd (cc)
second_of false b c is = absurd (cc)

module _ (world : World) (call : NodeCall) (is : IsTrueCall world call) (message : Message) (was : WasSent world message)
    (own : message.call ≡ call.id) (told : IsTrueMessage world message) where
  -- the call with another phase
  abbrev with_phase : Phase → NodeCall
  with_phase phase = record call { phase = phase }

  same_true : IsTrueCall world (with_phase call.phase)
  same_true = record { known = is.known; own = is.own; sent = is.sent; replies = is.replies }

  -- a current message is of the phase
  of_phase : is_current call.phase message.call message.phase ≡ true → IsOfPhase world call.phase message
  of_phase current = go (is.sent message was own)
    where
      same : message.phase ≡ call.phase.number
      same = eqb-true message.phase call.phase.number
          (second_of (eqb message.call call.phase.call) (eqb message.phase call.phase.number) (not (is_some call.phase.end)) current)

      go : IsSoFar world call.phase message → IsOfPhase world call.phase message
      go (inl before) = absurd (omega (arith, before, same))
      go (inr there) = there

  module _ (kind : Kind) (made : Reply) (shape : message.body ≡ body.Reply kind made) (of : IsOfPhase world call.phase message)
      (apart : has_taken call.phase.replies message.member ≡ false) where
    abbrev taken : Taken
    taken = record { member = message.member; reply = made; step = 0 }

    abbrev new : Phase
    new = with_reply call.phase message.member made 0

    same_kind : kind ≡ call.phase.kind
    same_kind = ap body_kind (sym shape) ∙ of.kind

    -- the reply says that the pointer is final, and it is
    shows_final : call.phase.kind ≡ Spread status.Final → HasFinal world call.phase.position message.member
    shows_final spread = subst (λ p. HasFinal world p message.member) of.at
        (told.final made (shape ∙ ap (λ k. body.Reply k made) (same_kind ∙ spread)))

    has_quorum : makes_quorum call.phase ≡ true → HasQuorum world new
    has_quorum whole = record {
      member = message.member;
      within = of.within;
      enough = subst (λ n. quorum_of (known_layout world 0 call.phase.position) ≤ n)
          (sym (length-append call.phase.replies (taken ∷ [])))
          (subst (λ q. q ≤ length call.phase.replies + 1) of.quorum (whole_quorum (length call.phase.replies) call.phase.quorum whole));
    }

    more_true : IsTrueCall world (with_phase new)
    more_true = record {
      known = is.known;
      own = is.own;
      sent = λ other sent named. go other (is.sent other sent named);
      replies = record {
        each = all_push (IsTrueTaken world new) call.phase.replies taken
            (all_weaker (IsTrueTaken world call.phase) (IsTrueTaken world new)
            (λ one there. record { within = there.within; final = there.final }) call.phase.replies is.replies.each)
            (record { within = of.within; final = shows_final });
        distinct = subst (IsDistinct nat_eq) (sym (map-append (λ (t : Taken). t.member) call.phase.replies (taken ∷ [])))
            (distinct_push (members_of call.phase.replies) message.member (has_members call.phase.replies message.member ∙ apart)
            is.replies.distinct);
        complete = λ ended. has_quorum (ended_if (makes_quorum call.phase) ended);
      };
    }
      where
        go : (other : Message) → IsSoFar world call.phase other → IsSoFar world new other
        go other (inl before) = inl before
        go other (inr there) = inr (record {
          number = there.number;
          kind = there.kind;
          at = there.at;
          within = there.within;
          quorum = there.quorum;
        })

  pub taking_true : IsTrueCall world (taking_open message call)
  taking_true = go message.body refl
    where
      go : (b : Body) → message.body ≡ b →
          IsTrueCall world (with_phase (after_body call.phase message.call message.phase message.member b 0))
      go (body.Request asked) shape = same_true
      go (body.Reply kind made) shape =
          pick (is_current call.phase message.call message.phase) refl (has_taken call.phase.replies message.member) refl
        where
          pick : (current : Bool) → is_current call.phase message.call message.phase ≡ current → (again : Bool) →
              has_taken call.phase.replies message.member ≡ again →
              IsTrueCall world (with_phase (cond current (cond again call.phase (with_reply call.phase message.member made 0)) call.phase))
          pick false late again e = same_true
          pick true current true e = same_true
          pick true current false apart = more_true kind made shape (of_phase current) apart
