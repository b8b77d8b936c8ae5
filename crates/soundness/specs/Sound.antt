-- The invariant of every step: the record is legal, its messages are true, its steps past, and its pieces fragments.
use Rattle.std.specs.Prelude.{◌≡◌, ℕ, suc, ◌<◌, ◌≤◌, length, get_or, [], Option, Some, None, slice_get}
use Rattle.std.specs.List.{AllByRecursion}
use Rattle.tag.specs.declared.tag.Tag.{Tag}
use Rattle.bank.specs.Bank.{Bank}
use Rattle.bank.specs.Collect.{IsCollected}
use Rattle.bank.specs.Facts.{IsBefore}
use Rattle.bank.specs.Knowledge.{IsTrueAnswer, pending_since, final_since}
use Rattle.bank.specs.declared.kind.Kind.{Kind}
use Rattle.bank.specs.declared.reply.Reply.{Reply}
use Rattle.mail.specs.declared.message.Message.{Message}
use Rattle.mail.specs.declared.message.Body.TheVariants as body
use Rattle.mail.specs.Message.{body_kind}
use Rattle.mail.specs.Phase.{Phase}
use Rattle.record.specs.Records.{Call, Object, layout_at, bank_at, retired_at, base_of}
use Rattle.record.specs.Legal.{moves_in, IsOpenedAt, BeginInOpen, IsLegal}
use Rattle.record.specs.Journals.{tag_of}
use Rattle.record.specs.Fragments.{Code, AreCoded, AreSettled, AreValues}

-- the message is a request of a phase that has begun, or a true reply to one
pub record IsPosted (object : Object) (message : Message) : Type 0 where
  pub index : ℕ
  pub call : Call
  pub at : slice_get object.calls index ≡ Some call
  pub same_call : message.call ≡ call.id
  pub place : ℕ
  pub phase : Phase
  pub within : slice_get call.phases place ≡ Some phase
  pub same_phase : message.phase ≡ suc place
  pub same_kind : body_kind message.body ≡ phase.kind
  pub same_position : message.position ≡ phase.position
  pub member : message.member < length (layout_at object message.position).members
  pub reply : (kind : Kind) (made : Reply) → message.body ≡ body.Reply kind made → (phase.start < made.step)
      × IsTrueAnswer (bank_at object message.position message.member) made.step kind made.answer

-- the event happened at this step or earlier, if it happened at all
abbrev pub UpTo : ℕ → Option ℕ → Type 0
UpTo step came = (at : ℕ) → came ≡ Some at → at ≤ step

-- the phase began, took its replies and ended at this step or earlier
pub record IsPhasePast (step : ℕ) (phase : Phase) : Type 0 where
  pub start : phase.start ≤ step
  pub replies : AllByRecursion (λ taken. taken.step ≤ step) phase.replies
  pub end : UpTo step phase.end

-- the call was made and answered, and its phases happened, at this step or earlier
pub record IsCallPast (step : ℕ) (call : Call) : Type 0 where
  pub called : call.called ≤ step
  pub answered : UpTo step call.answered
  pub phases : AllByRecursion (IsPhasePast step) call.phases

-- nothing in the record is later than this step, and no tag has a greater number
pub record IsPast (step : ℕ) (object : Object) : Type 0 where
  pub banks : (position member : ℕ) → IsBefore (bank_at object position member) (suc step)
  pub mail : AllByRecursion (λ message. (kind : Kind) (made : Reply) → message.body ≡ body.Reply kind made →
      made.step ≤ step) object.mail
  pub calls : AllByRecursion (IsCallPast step) object.calls
  pub tags : (index : ℕ) (call : Call) (tag : Tag) → slice_get object.calls index ≡ Some call →
      tag_of object index call ≡ Some tag → tag.number ≤ step

-- if the bank's pointer is set, the next position is one of the `count` positions
pub record HasNext (count position : ℕ) (bank : Bank) : Type 0 where
  pub pending : (step : ℕ) → pending_since bank.pointer ≡ Some step → suc position < count
  pub final : (step : ℕ) → final_since bank.pointer ≡ Some step → suc position < count

-- the shape of the record: one position more than moves, and for each member a bank that fits object and position
pub record HasShape (object : Object) : Type 0 where
  pub positions : length object.layouts ≡ suc (moves_in object.calls)
  pub banks : length object.banks ≡ length object.layouts
  pub members : (position : ℕ) → position < length object.layouts →
      length (get_or object.banks position []) ≡ length (layout_at object position).members
  pub opened : (position member : ℕ) → position < length object.layouts →
      member < length (layout_at object position).members →
      (step : ℕ) × IsOpenedAt (bank_at object position member) step
  pub delta : (position member : ℕ) → position < length object.layouts →
      member < length (layout_at object position).members → (bank_at object position member).delta ≡ object.delta
  pub next : (position member : ℕ) → HasNext (length object.layouts) position (bank_at object position member)
  pub collected : (position member : ℕ) → IsCollected (bank_at object position member)
  pub retired : (position member : ℕ) → position < length object.layouts →
      member < length (layout_at object position).members →
      (bank_at object position member).retired ≡ retired_at object position
  pub leading : (position : ℕ) → base_of object ≤ position → retired_at object position ≡ None

-- the record is sound after the step with this number: the invariant that every step keeps
pub record IsSound (fragment : Code) (object : Object) (step : ℕ) : Type 0 where
  pub legal : IsLegal object
  pub open_banks : BeginInOpen object
  pub mail : AllByRecursion (IsPosted object) object.mail
  pub past : IsPast step object
  pub shape : HasShape object
  pub values : AreValues object
  pub coded : AreCoded fragment object
  pub settled : AreSettled fragment object
