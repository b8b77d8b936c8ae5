-- The contracts that docs/trusted.md lists do not depend on this file; other contracts and proofs do.
-- The words for the parts of calls, messages and banks.
use Rattle.std.specs.Prelude.{ℕ, List, codes}
use Rattle.bank.specs.declared.kind.Kind.{Kind}
use Rattle.bank.specs.declared.kind.Kind.TheVariants as kind
use Rattle.bank.specs.declared.row.Label.{Label}
use Rattle.bank.specs.declared.row.Label.TheVariants as label
use Rattle.bank.specs.declared.status.Status.{Status}
use Rattle.bank.specs.declared.status.Status.TheVariants as status
use Rattle.mail.specs.declared.phase.Took.{Took}
use Rattle.mail.specs.declared.phase.Took.TheVariants as took
use Rattle.record.specs.declared.call.Operation.{Operation}
use Rattle.record.specs.declared.call.Operation.TheVariants as operation
use Rattle.record.specs.declared.stage.Want.{Want}
use Rattle.record.specs.declared.stage.Want.TheVariants as want

-- the word for what a phase asks
abbrev pub word_of_kind : Kind → List ℕ
word_of_kind kind.Next = codes "next"
word_of_kind (kind.Spread s) = codes "spread"
word_of_kind kind.Query = codes "query"
word_of_kind (kind.PreWrite t) = codes "pre"
word_of_kind (kind.Finalize t) = codes "fin"
word_of_kind (kind.Fetch t) = codes "fetch"

-- the word for what a call does
abbrev pub word_of_operation : Operation → List ℕ
word_of_operation operation.Read = codes "read"
word_of_operation operation.Write = codes "write"
word_of_operation operation.Move = codes "move"

-- the word for what a call wants next
abbrev pub word_of_want : Want → List ℕ
word_of_want want.Replies = codes "replies"
word_of_want want.Advance = codes "advance"
word_of_want (want.Supply k n) = codes "supply"
word_of_want (want.Settle k len) = codes "settle"
word_of_want want.Again = codes "again"
word_of_want want.Answer = codes "answer"
word_of_want want.Done = codes "done"

-- the word for what a bank knows about the next position
abbrev pub word_of_status : Status → List ℕ
word_of_status status.Unset = codes "none"
word_of_status status.Pending = codes "pending"
word_of_status status.Final = codes "final"

-- the word for the label that a bank gives a tag: it is pre-written or finalized
abbrev pub word_of_label : Label → List ℕ
word_of_label (label.PreWritten since) = codes "pre"
word_of_label (label.Finalized since) = codes "fin"

-- the word for what a call did with a reply
abbrev pub word_of_took : Took → List ℕ
word_of_took took.Recorded = codes "recorded"
word_of_took took.Complete = codes "complete"
word_of_took took.Stale = codes "stale"
word_of_took took.Doubled = codes "doubled"
