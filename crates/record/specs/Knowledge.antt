-- Which replies and which phases are true: they state what banks recorded.
use Rattle.std.specs.Prelude.{◌≡◌, ℕ, ◌<◌, ◌≤◌, nat_eq, length, Some}
use Rattle.std.specs.List.{AllByRecursion, IsDistinct}
use Rattle.layout.specs.Layout.{Layout, quorum_of}
use Rattle.bank.specs.Knowledge.{IsTrueAnswer}
use Rattle.mail.specs.declared.phase.Taken.{Taken}
use Rattle.mail.specs.Phase.{Phase, members_of}
use Rattle.record.specs.Records.{Object, layout_at, bank_at}

-- a member of the phase's position made the reply after the phase began and before it was taken, and the reply is true
pub record IsTrueReply (object : Object) (phase : Phase) (taken : Taken) : Type 0 where
  pub within : taken.member < length (layout_at object phase.position).members
  pub after_start : phase.start < taken.reply.step
  pub in_order : taken.reply.step < taken.step
  pub says : IsTrueAnswer (bank_at object phase.position taken.member) taken.reply.step phase.kind taken.reply.answer

-- the phase asks all members of the layout, and waits for a quorum of them; if it is a fetch, it needs k pieces
pub record IsSized (layout : Layout) (phase : Phase) : Type 0 where
  pub members : phase.members ≡ length layout.members
  pub quorum : phase.quorum ≡ quorum_of layout
  pub needed : phase.needed ≡ layout.k

-- the phase took true replies, one from each member, and if it is complete those of a quorum, all taken by its end
pub record IsTruePhase (object : Object) (phase : Phase) : Type 0 where
  pub placed : phase.position < length object.layouts
  pub sized : IsSized (layout_at object phase.position) phase
  pub replies : AllByRecursion (IsTrueReply object phase) phase.replies
  pub one_each : IsDistinct nat_eq (members_of phase.replies)
  pub complete : (end : ℕ) → phase.end ≡ Some end →
      (quorum_of (layout_at object phase.position) ≤ length phase.replies)
      × AllByRecursion (λ taken. taken.step ≤ end) phase.replies
