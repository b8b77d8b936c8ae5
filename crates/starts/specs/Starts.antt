-- The contracts that docs/trusted.md lists do not depend on this file; other contracts and proofs do.
-- Positions whose pointer is final at a quorum, the starts of an object, and requests to raise a pointer to final.
use Rattle.std.specs.Prelude.{◌≡◌, ◌<◌, ℕ, List, Some, slice_get}
use Rattle.std.specs.List.{AllByRecursion}
use Rattle.layout.specs.Layout.{Layout}
use Rattle.layout.specs.Quorum.{IsQuorum}
use Rattle.bank.specs.Pointer.{status_of}
use Rattle.bank.specs.declared.request.Request.TheVariants as request
use Rattle.bank.specs.declared.status.Status.TheVariants as status
use Rattle.mail.specs.declared.message.Body.TheVariants as body
use Rattle.mail.specs.declared.message.Message.{Message}
use Rattle.network.specs.Worlds.{World, known_layouts, member_bank}
use Rattle.network.specs.Premises.{WasSent}

-- the pointer of a member of the position is final
abbrev pub HasFinal : World → (position member : ℕ) → Type 0
HasFinal world position member = status_of (member_bank world position member).pointer ≡ status.Final

-- the pointer of the position is final at a quorum of its members
pub record IsFinalAt (world : World) (position : ℕ) : Type 0 where
  pub layout : Layout
  pub at : slice_get (known_layouts world 0) position ≡ Some layout
  pub members : List ℕ
  pub quorum : IsQuorum layout members
  pub final : AllByRecursion (HasFinal world position) members

-- a start of the object: a position such that at each position before it the pointer is final at a quorum
abbrev pub IsStart : World → (start : ℕ) → Type 0
IsStart world start = (position : ℕ) → position < start → IsFinalAt world position

-- the request of a phase of a call to a member of the position, to raise the pointer to final
abbrev pub raise_request : (call phase position member : ℕ) → Message
raise_request call phase position member = record {
  call = call;
  phase = phase;
  position = position;
  member = member;
  body = body.Request (request.Spread status.Final);
}

-- a call sent this member of the position a request to raise the pointer to final
pub record WasAskedToRaise (world : World) (position member : ℕ) : Type 0 where
  pub call : ℕ
  pub phase : ℕ
  pub sent : WasSent world (raise_request call phase position member)
