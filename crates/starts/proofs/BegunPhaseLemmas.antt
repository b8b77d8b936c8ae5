-- A phase that begins, and its requests, are true.
use Rattle.std.proofs.Common.{◌≡◌, ◌⊎◌, inl, inr, ℕ, zero, suc, ◌+◌, ◌<◌, List, [], ◌∷◌, ◌++◌, length, Option, Some, None, IsSome}
use Rattle.std.proofs.Common.{slice_get, refl, sym, ap, ◌∙◌, subst, arith}
use Rattle.std.proofs.lemmas.Option.{same_Some}
use Rattle.layout.specs.Layout.{Layout, quorum_of}
use Rattle.piece.specs.declared.piece.Piece.{Piece}
use Rattle.bank.specs.Serve.{kind_of}
use Rattle.bank.specs.declared.kind.Kind.{Kind}
use Rattle.bank.specs.declared.kind.Kind.TheVariants.{Next, Spread, Query, PreWrite, Finalize, Fetch}
use Rattle.bank.specs.declared.reply.Reply.{Reply}
use Rattle.bank.specs.declared.request.Request.{Request}
use Rattle.bank.specs.declared.status.Status.TheVariants as status
use Rattle.mail.specs.Message.{body_kind}
use Rattle.mail.specs.Phase.{Phase}
use Rattle.mail.specs.declared.message.Body.TheVariants as body
use Rattle.mail.specs.declared.message.Message.{Message}
use Rattle.record.specs.Sending.{request_to, requests}
use Rattle.record.specs.Steps.{new_phase}
use Rattle.soundness.proofs.ListLemmas.{none_twice}
use Rattle.open_calls.specs.OpenCalls.{NodeCall}
use Rattle.network.specs.Worlds.{World, known_layout}
use Rattle.network.specs.Premises.{WasSent}
use Rattle.starts.proofs.TrueReplyLemmas.{Grows, HasTrueReplies, IsKnown, IsSoFar, IsTrueCall, IsTrueMessage}
use Rattle.starts.proofs.TrueReplyLemmas.{IsWithin, call_still, message_still}

-- Requests

-- the message is a request of this phase to one of so many members
pub record IsRequestTo (call number : ℕ) (kind : Kind) (position bound : ℕ) (message : Message) : Type 0 where
  pub of_call : message.call ≡ call
  pub of_phase : message.phase ≡ number
  pub asks : body_kind message.body ≡ kind
  pub at : message.position ≡ position
  pub within : message.member < bound
  pub no_reply : (other : Kind) (made : Reply) → message.body ≡ body.Reply other made → ⊥

request_no_reply : (asked : Request) (other : Kind) (made : Reply) → body.Request asked ≡ body.Reply other made → ⊥
request_no_reply asked other made e = cc

no_end : (end : Option ℕ) → end ≡ None → IsSome end → ⊥
no_end None e some = absurd (cc)
no_end (Some step) e some = absurd (cc)

kind_to : (kind : Kind) (piece : Piece) → kind_of (request_to kind piece) ≡ kind
kind_to Next piece = refl
kind_to (Spread s) piece = refl
kind_to Query piece = refl
kind_to (PreWrite tag) piece = refl
kind_to (Finalize tag) piece = refl
kind_to (Fetch tag) piece = refl

pub requests_are : (call number : ℕ) (kind : Kind) (position : ℕ) (servers : List ℕ) (first : ℕ) (piece : ℕ → Piece) (i : ℕ)
    (message : Message) → slice_get (requests call number kind position servers first piece) i ≡ Some message →
    IsRequestTo call number kind position (first + length servers) message
requests_are call number kind position [] first piece i message at = absurd (cc)
requests_are call number kind position (server ∷ servers) first piece zero message at =
    let it : Message = record {
      call = call;
      phase = number;
      position = position;
      member = first;
      body = body.Request (request_to kind (piece first));
    } in
    subst (IsRequestTo call number kind position (first + length (server ∷ servers))) (same_Some it message at) (record {
      of_call = refl;
      of_phase = refl;
      asks = kind_to kind (piece first);
      at = refl;
      within = omega arith;
      no_reply = λ other made e. request_no_reply (request_to kind (piece first)) other made e;
    })
requests_are call number kind position (server ∷ servers) first piece (suc i) message at =
    let rest = requests_are call number kind position servers (suc first) piece i message at in record {
      of_call = rest.of_call;
      of_phase = rest.of_phase;
      asks = rest.asks;
      at = rest.at;
      within = let h = rest.within in omega arith;
      no_reply = rest.no_reply;
    }

-- what stands in two lists, one after the other
pub split_list : {A : Type 0} (xs ys : List A) (i : ℕ) (x : A) → slice_get (xs ++ ys) i ≡ Some x →
    ((place : ℕ) × (slice_get xs place ≡ Some x)) ⊎ ((place : ℕ) × (slice_get ys place ≡ Some x))
split_list [] ys i x at = inr (i, at)
split_list (y ∷ xs) ys zero x at = inl (zero, at)
split_list (y ∷ xs) ys (suc i) x at = go (split_list xs ys i x at)
  where
    go : ((place : ℕ) × (slice_get xs place ≡ Some x)) ⊎ ((place : ℕ) × (slice_get ys place ≡ Some x)) →
        ((place : ℕ) × (slice_get (y ∷ xs) place ≡ Some x)) ⊎ ((place : ℕ) × (slice_get ys place ≡ Some x))
    go (inl there) = inl (suc there.0, there.1)
    go (inr there) = inr there

-- A phase begins

from_zero : (n : ℕ) → 0 + n ≡ n
from_zero n = omega arith

module _ (world new : World) (grows : Grows world new) (id number : ℕ) (kind : Kind) (position : ℕ) (layout : Layout)
    (piece : ℕ → Piece) (same : known_layout new 0 position ≡ layout)
    (sent : new.sent ≡ world.sent ++ requests id number kind position layout.members 0 piece) (known : IsKnown new.history id) where
  -- a message of the new world is one of the old, or a request of the phase
  news : (message : Message) → WasSent new message →
      WasSent world message ⊎ IsRequestTo id number kind position (length layout.members) message
  news message was = go (split_list world.sent asked was.0 message (ap (λ l. slice_get l was.0) (sym sent) ∙ was.1))
    where
      asked : List Message
      asked = requests id number kind position layout.members 0 piece

      go : ((place : ℕ) × (slice_get world.sent place ≡ Some message)) ⊎ ((place : ℕ) × (slice_get asked place ≡ Some message)) →
          WasSent world message ⊎ IsRequestTo id number kind position (length layout.members) message
      go (inl there) = inl there
      go (inr there) = inr (subst (λ n. IsRequestTo id number kind position n message) (from_zero (length layout.members))
          (requests_are id number kind position layout.members 0 piece there.0 message there.1))

  within_new : (message : Message) → IsRequestTo id number kind position (length layout.members) message →
      IsWithin new position message.member
  within_new message is = subst (λ (l : Layout). message.member < length l.members) (sym same) is.within

  pub messages_true : ((message : Message) → WasSent world message → IsTrueMessage world message) → (message : Message) →
      WasSent new message → IsTrueMessage new message
  messages_true old message was = go (news message was)
    where
      go : WasSent world message ⊎ IsRequestTo id number kind position (length layout.members) message → IsTrueMessage new message
      go (inl before) = message_still world new grows message (old message before)
      go (inr is) = record {
        known = subst (IsKnown new.history) (sym is.of_call) known;
        within = subst (λ p. IsWithin new p message.member) (sym is.at) (within_new message is);
        final = λ made replies. absurd (is.no_reply (Spread status.Final) made replies);
      }

  pub other_true : (call : NodeCall) → (call.id ≡ id → ⊥) → IsTrueCall world call → IsTrueCall new call
  other_true call apart is = call_still world new grows call (λ message was own. go message own (news message was)) is
    where
      go : (message : Message) → message.call ≡ call.id →
          WasSent world message ⊎ IsRequestTo id number kind position (length layout.members) message →
          WasSent world message ⊎ IsSoFar new call.phase message
      go message own (inl before) = inl before
      go message own (inr request) = absurd (apart (sym own ∙ request.of_call))

  pub begun_true : (call : NodeCall) → call.id ≡ id → call.phase ≡ new_phase id number kind position layout 0 →
      ((message : Message) → WasSent world message → message.call ≡ id → message.phase < number) → IsTrueCall new call
  begun_true call same_id phase before = record {
    known = subst (IsKnown new.history) (sym same_id) known;
    own = ap (λ (p : Phase). p.call) phase ∙ sym same_id;
    sent = λ message was own. subst (λ p. IsSoFar new p message) (sym phase) (go message (own ∙ same_id) (news message was));
    replies = subst (HasTrueReplies new) (sym phase)
        (record { each = tt; distinct = none_twice; complete = λ ended. absurd (no_end None refl ended) });
  }
    where
      go : (message : Message) → message.call ≡ id →
          WasSent world message ⊎ IsRequestTo id number kind position (length layout.members) message →
          IsSoFar new (new_phase id number kind position layout 0) message
      go message own (inl was) = inl (before message was own)
      go message own (inr is) = inr (record {
        number = is.of_phase;
        kind = is.asks;
        at = is.at;
        within = within_new message is;
        quorum = ap quorum_of (sym same);
      })
