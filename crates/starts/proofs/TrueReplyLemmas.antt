-- What messages and open calls tell of final pointers is true, and stays so in later worlds.
use Rattle.std.proofs.Common.{◌≡◌, ◌⊎◌, inl, inr, ℕ, zero, suc, ◌<◌, ◌≤◌, List, [], ◌∷◌, length, map, Option, Some, None, IsSome, nat_eq}
use Rattle.std.proofs.Common.{slice_get, get_or, refl, sym, ap, ◌∙◌, subst, arith}
use Rattle.std.proofs.lemmas.Option.{get_or_from_slice_get}
use Rattle.std.specs.List.{AllByRecursion, IsDistinct}
use Rattle.layout.specs.Layout.{IsLawful, Layout, quorum_of}
use Rattle.bank.specs.declared.kind.Kind.TheVariants.{Spread}
use Rattle.bank.specs.declared.reply.Reply.{Reply}
use Rattle.bank.specs.declared.status.Status.TheVariants as status
use Rattle.mail.specs.Message.{body_kind}
use Rattle.mail.specs.Phase.{Phase, members_of}
use Rattle.mail.specs.declared.message.Body.TheVariants as body
use Rattle.mail.specs.declared.message.Message.{Message}
use Rattle.mail.specs.declared.phase.Taken.{Taken}
use Rattle.record.specs.declared.call.Entry.{Entry}
use Rattle.record.specs.Records.{no_layout}
use Rattle.soundness.proofs.ListLemmas.{all_weaker}
use Rattle.open_calls.specs.OpenCalls.{NodeCall}
use Rattle.network.specs.Worlds.{World, known_layout, known_layouts}
use Rattle.network.specs.Premises.{IsOneFile, WasSent}
use Rattle.starts.specs.Starts.{HasFinal}
use Rattle.starts.proofs.BankRowLemmas.{member_count}
use Rattle.starts.proofs.FinalPointerLemmas.{Keeps, layouts_grow}

-- Definitions

-- the position has a member with this number
abbrev pub IsWithin : World → (position member : ℕ) → Type 0
IsWithin world position member = member < length (known_layout world 0 position).members

-- the history has a call with this id
abbrev pub IsKnown : List Entry → (id : ℕ) → Type 0
IsKnown history id = (place : ℕ) × (entry : Entry) × (slice_get history place ≡ Some entry) × (entry.call ≡ id)

-- the message is a request of the phase, or a reply to one
pub record IsOfPhase (world : World) (phase : Phase) (message : Message) : Type 0 where
  pub number : message.phase ≡ phase.number
  pub kind : body_kind message.body ≡ phase.kind
  pub at : message.position ≡ phase.position
  pub within : IsWithin world phase.position message.member
  pub quorum : phase.quorum ≡ quorum_of (known_layout world 0 phase.position)

-- the message is of the phase, or of an earlier one
abbrev pub IsSoFar : World → Phase → Message → Type 0
IsSoFar world phase message = (message.phase < phase.number) ⊎ IsOfPhase world phase message

-- the reply is of a member, whose pointer is final if the phase has spread that
pub record IsTrueTaken (world : World) (phase : Phase) (taken : Taken) : Type 0 where
  pub within : IsWithin world phase.position taken.member
  pub final : phase.kind ≡ Spread status.Final → HasFinal world phase.position taken.member

-- the phase has the replies of a quorum, and the position has a member
pub record HasQuorum (world : World) (phase : Phase) : Type 0 where
  pub member : ℕ
  pub within : IsWithin world phase.position member
  pub enough : quorum_of (known_layout world 0 phase.position) ≤ length phase.replies

-- the replies of a phase are true, of different members, and those of a quorum if the phase has ended
pub record HasTrueReplies (world : World) (phase : Phase) : Type 0 where
  pub each : AllByRecursion (IsTrueTaken world phase) phase.replies
  pub distinct : IsDistinct nat_eq (members_of phase.replies)
  pub complete : IsSome phase.end → HasQuorum world phase

-- an open call is in the history; its messages are of its current phase, or of earlier ones; and the replies that this
-- phase took are true
pub record IsTrueCall (world : World) (call : NodeCall) : Type 0 where
  pub known : IsKnown world.history call.id
  pub own : call.phase.call ≡ call.id
  pub sent : (message : Message) → WasSent world message → message.call ≡ call.id → IsSoFar world call.phase message
  pub replies : HasTrueReplies world call.phase

-- a message is of a call of the history, and of a member, whose pointer is final if the message replies that this was spread
pub record IsTrueMessage (world : World) (message : Message) : Type 0 where
  pub known : IsKnown world.history message.call
  pub within : IsWithin world message.position message.member
  pub final : (made : Reply) → message.body ≡ body.Reply (Spread status.Final) made →
      HasFinal world message.position message.member

-- the nodes have one cluster file, layouts are lawful, each member has a bank, and messages and open calls are true
pub record IsTruthful (world : World) : Type 0 where
  pub one : IsOneFile world.files
  pub lawful : AllByRecursion IsLawful (known_layouts world 0)
  pub banks : map length world.banks ≡ map member_count (known_layouts world 0)
  pub messages : (message : Message) → WasSent world message → IsTrueMessage world message
  pub calls : AllByRecursion (IsTrueCall world) world.calls

-- Later worlds

get_none : {A : Type 0} (xs : List A) (i : ℕ) (d : A) → slice_get xs i ≡ None → get_or xs i d ≡ d
get_none [] i d none = refl
get_none (x ∷ xs) zero d none = absurd (cc)
get_none (x ∷ xs) (suc i) d none = get_none xs i d none

-- what is final, the layouts and the calls of the history stay
pub record Grows (world new : World) : Type 0 where
  pub keeps : Keeps world new
  pub known : (id : ℕ) → IsKnown world.history id → IsKnown new.history id

-- a position that has a member keeps its layout
module _ (world new : World) (keeps : Keeps world new) where
  pub layout_still : (position member : ℕ) → IsWithin world position member → known_layout new 0 position ≡ known_layout world 0 position
  layout_still position member within = go (slice_get (known_layouts world 0) position) refl
    where
      go : (o : Option Layout) → slice_get (known_layouts world 0) position ≡ o →
          known_layout new 0 position ≡ known_layout world 0 position
      go None none =
          let few : member < 0 =
          subst (λ (l : Layout). member < length l.members) (get_none (known_layouts world 0) position no_layout none) within in
          absurd (omega (arith, few))
      go (Some layout) at =
          get_or_from_slice_get (known_layouts new 0) position layout no_layout (layouts_grow world new keeps position layout at)
          ∙ sym (get_or_from_slice_get (known_layouts world 0) position layout no_layout at)

module _ (world new : World) (grows : Grows world new) where
  pub within_still : (position member : ℕ) → IsWithin world position member → IsWithin new position member
  within_still position member within =
      subst (λ (l : Layout). member < length l.members) (sym (layout_still world new grows.keeps position member within)) within

  pub so_far_still : (phase : Phase) (message : Message) → IsSoFar world phase message → IsSoFar new phase message
  so_far_still phase message (inl before) = inl before
  so_far_still phase message (inr is) = inr (record {
    number = is.number;
    kind = is.kind;
    at = is.at;
    within = within_still phase.position message.member is.within;
    quorum = is.quorum ∙ ap quorum_of (sym (layout_still world new grows.keeps phase.position message.member is.within));
  })

  replies_still : (phase : Phase) → HasTrueReplies world phase → HasTrueReplies new phase
  replies_still phase is = record {
    each = all_weaker (IsTrueTaken world phase) (IsTrueTaken new phase) (λ taken one. record {
      within = within_still phase.position taken.member one.within;
      final = λ kind. grows.keeps.final phase.position taken.member (one.final kind);
    }) phase.replies is.each;
    distinct = is.distinct;
    complete = λ ended.
        let has = is.complete ended in record {
          member = has.member;
          within = within_still phase.position has.member has.within;
          enough = subst (λ l. quorum_of l ≤ length phase.replies)
              (sym (layout_still world new grows.keeps phase.position has.member has.within)) has.enough;
        };
  }

  pub message_still : (message : Message) → IsTrueMessage world message → IsTrueMessage new message
  message_still message is = record {
    known = grows.known message.call is.known;
    within = within_still message.position message.member is.within;
    final = λ made replies. grows.keeps.final message.position message.member (is.final made replies);
  }

  -- a call stays true if its new messages are of its current phase
  pub call_still : (call : NodeCall) →
      ((message : Message) → WasSent new message → message.call ≡ call.id → WasSent world message ⊎ IsSoFar new call.phase message) →
      IsTrueCall world call → IsTrueCall new call
  call_still call news is = record {
    known = grows.known call.id is.known;
    own = is.own;
    sent = λ message was own. go message own (news message was own);
    replies = replies_still call.phase is.replies;
  }
    where
      go : (message : Message) → message.call ≡ call.id → WasSent world message ⊎ IsSoFar new call.phase message →
          IsSoFar new call.phase message
      go message own (inl was) = so_far_still call.phase message (is.sent message was own)
      go message own (inr there) = there

  -- without new messages, all calls stay true
  pub calls_still : new.sent ≡ world.sent → (calls : List NodeCall) → AllByRecursion (IsTrueCall world) calls →
      AllByRecursion (IsTrueCall new) calls
  calls_still same calls all = all_weaker (IsTrueCall world) (IsTrueCall new)
      (λ call is. call_still call (λ message was own. inl (was.0, ap (λ l. slice_get l was.0) (sym same) ∙ was.1)) is) calls all
