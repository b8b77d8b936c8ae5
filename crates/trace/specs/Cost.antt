-- The contracts that docs/trusted.md lists do not depend on this file; other contracts and proofs do.
-- What calls cost, as sums over the record of an object.
use Rattle.std.specs.Prelude.{ℕ, ◌+◌, ◌&&◌, List, length, sum_by, is_some, if◌then◌else◌, Option, Some}
use Rattle.std.specs.Prelude.{None, slice_get}
use Rattle.std.specs.FinMap as map
use Rattle.std.specs.Io.Iter.{u64_saturate}
use Rattle.tag.specs.declared.tag.Tag.{Tag}
use Rattle.tag.specs.Tag.{tag_eq}
use Rattle.layout.specs.Layout.{Layout}
use Rattle.encoder.specs.Fragment.{fragment_len}
use Rattle.bank.specs.Answer.{answer_bytes}
use Rattle.bank.specs.Bank.{Bank}
use Rattle.bank.specs.declared.kind.Kind.{Kind}
use Rattle.bank.specs.declared.kind.Kind.TheVariants.{Next, Spread, Query, PreWrite, Finalize, Fetch}
use Rattle.bank.specs.declared.row.Row.{Row}
use Rattle.mail.specs.declared.phase.Taken.{Taken}
use Rattle.mail.specs.Phase.{Phase}
use Rattle.record.specs.Accounts.{member_sum}
use Rattle.record.specs.Records.{Object}
use Rattle.register.specs.View.{bank_there, phases_at, value_at}
use Rattle.trace.specs.declared.cost.Cost.{Cost}

-- how many bytes a fragment of the value has under this layout; 0 if the value or the layout is absent
abbrev pub fragment_of : Option (List ℕ) → Option Layout → ℕ
fragment_of None layout = 0
fragment_of (Some value) None = 0
fragment_of (Some value) (Some layout) = fragment_len layout.k (length value)

-- how many bytes a fragment of the value of this call has, under the layout of this position
abbrev pub fragment_at : Object → (call position : ℕ) → ℕ
fragment_at object call position = fragment_of (value_at object call) (slice_get object.layouts position)

-- the bytes of a fragment, if this row of a bank is for this tag and a fragment came for it; otherwise 0
abbrev pub bytes_for : (fragment : ℕ) → Tag → Tag × Row → ℕ
bytes_for fragment tag entry = if tag_eq entry.0 tag && is_some entry.1.arrival then fragment else 0

-- the bytes of a fragment, if one came to this bank for this tag, even if the bank dropped it since; otherwise 0
abbrev pub came_bytes : (fragment : ℕ) → Tag → Option Bank → ℕ
came_bytes fragment tag None = 0
came_bytes fragment tag (Some bank) = sum_by (bytes_for fragment tag) (map.entries bank.rows)

-- the bytes of a fragment, if one came to this member of this position for this tag; otherwise 0
abbrev pub came_at : Object → (fragment : ℕ) → Tag → (position member : ℕ) → ℕ
came_at object fragment tag position member = came_bytes fragment tag (bank_there object position member)

-- how many bytes a phase sends: a pre-write the fragments of its tag that came to the members, any other phase none
abbrev pub sent_by : Object → (call : ℕ) → Kind → (position members : ℕ) → ℕ
sent_by object call (PreWrite tag) position members =
    member_sum (came_at object (fragment_at object call position) tag position) 0 members
sent_by object call Next position members = 0
sent_by object call (Spread status) position members = 0
sent_by object call Query position members = 0
sent_by object call (Finalize tag) position members = 0
sent_by object call (Fetch tag) position members = 0

-- how many bytes this phase of the call of this number sends
abbrev pub sent_in_phase : Object → (call : ℕ) → Phase → ℕ
sent_in_phase object call phase = sent_by object call phase.kind phase.position phase.members

-- how many bytes of a fragment a reply has
abbrev pub taken_bytes : Taken → ℕ
taken_bytes taken = answer_bytes taken.reply.answer

-- how many bytes of fragments the replies have that a phase took
abbrev pub returned_in : Phase → ℕ
returned_in phase = sum_by taken_bytes phase.replies

-- the cost of the call of this number: sums over its phases
abbrev pub cost_of : Object → (call : ℕ) → Cost
cost_of object call = record {
  phases = length (phases_at object call);
  requests = u64_saturate (sum_by (λ phase. phase.members) (phases_at object call));
  replies = u64_saturate (sum_by (λ phase. length phase.replies) (phases_at object call));
  sent = u64_saturate (sum_by (sent_in_phase object call) (phases_at object call));
  returned = u64_saturate (sum_by returned_in (phases_at object call));
}

-- the cost of no call
abbrev pub no_cost : Cost
no_cost = record { phases = 0; requests = 0; replies = 0; sent = 0; returned = 0 }

-- the sum of two costs
abbrev pub plus : Cost → Cost → Cost
plus one other = record {
  phases = u64_saturate (one.phases + other.phases);
  requests = u64_saturate (one.requests + other.requests);
  replies = u64_saturate (one.replies + other.replies);
  sent = u64_saturate (one.sent + other.sent);
  returned = u64_saturate (one.returned + other.returned);
}
