-- The contracts that docs/trusted.md lists do not depend on this file; other contracts and proofs do.
-- What follows from the fact that a phase is complete.
use Rattle.std.specs.Prelude.{◌≡◌, ℕ, ◌<◌, ◌≤◌, List, [], ◌∷◌, Some, None}
use Rattle.std.specs.List.{All, Contains}
use Rattle.bank.specs.declared.kind.Kind.{Kind}
use Rattle.bank.specs.declared.reply.Reply.{Reply}
use Rattle.mail.specs.declared.message.Message.{Message}
use Rattle.mail.specs.declared.message.Body.TheVariants as body
use Rattle.layout.specs.Quorum.{AreEnough}
use Rattle.mail.specs.declared.phase.Taken.{Taken}
use Rattle.mail.specs.Phase.{Phase, after_take, members_of}

-- a message with the step at which it is taken
abbrev pub Take : Type 0
Take = Message × ℕ

-- the phase after it takes these messages, one after another
abbrev pub after_takes : Phase → List Take → Phase
after_takes p [] = p
after_takes p (t ∷ ts) = after_takes (after_take p t.0 t.1) ts

-- the takes are made at rising steps, all of them after step s
abbrev pub Rise : ℕ → List Take → Type 0
Rise s [] = Unit {0}
Rise s (t ∷ ts) = (s < t.1) × Rise t.1 ts

-- the phase has taken no reply yet, and its quorum is at least 1 and at most the number of its members
pub record IsNew (p : Phase) : Type 0 where
  pub untaken : p.replies ≡ []
  pub unended : p.end ≡ None
  pub some : 1 ≤ p.quorum
  pub within : p.quorum ≤ p.members

-- the message names the phase's call and the phase's number, and its body is the reply r
pub record IsReply (p : Phase) (m : Message) (r : Reply) : Type 0 where
  pub call : m.call ≡ p.call
  pub number : m.phase ≡ p.number
  pub kind : Kind
  pub is : m.body ≡ body.Reply kind r

-- the reply comes from a member of the phase's position, was made after the phase began, and is taken later, at `now`
pub record IsTimely (p : Phase) (m : Message) (r : Reply) (now : ℕ) : Type 0 where
  pub position : m.position ≡ p.position
  pub member : m.member < p.members
  pub made : p.start < r.step
  pub taken : r.step < now

-- if the message that is taken is a reply to the phase, it is timely
abbrev pub IsTimelyIfReply : Phase → Take → Type 0
IsTimelyIfReply p t = (r : Reply) → IsReply p t.0 r → IsTimely p t.0 r t.1

-- the record of a reply stems from one of the takes, whose message was a timely reply, taken no later than step `end`
pub record CameBy (p : Phase) (takes : List Take) (end : ℕ) (taken : Taken) : Type 0 where
  pub message : Message
  pub among : Contains takes (message, taken.step)
  pub reply : IsReply p message taken.reply
  pub member : message.member ≡ taken.member
  pub timely : IsTimely p message taken.reply taken.step
  pub by_end : taken.step ≤ end

-- the recorded replies are of a quorum of the phase's members, one of each, and each was taken timely, by step `end`
pub record IsComplete (p : Phase) (takes : List Take) (end : ℕ) (replies : List Taken) : Type 0 where
  pub quorum : AreEnough p.members p.quorum (members_of replies)
  pub each : All (CameBy p takes end) replies

-- after lawful takes at rising steps, a phase that has ended has the replies of a quorum
abbrev pub CompleteMeansQuorum : Type 0
CompleteMeansQuorum =
    (p : Phase) (takes : List Take) (end : ℕ) → IsNew p → Rise p.start takes → All (IsTimelyIfReply p) takes
    → (after_takes p takes).end ≡ Some end → IsComplete p takes end (after_takes p takes).replies
