-- The table of requests: the bank after each request, and the answer to it.
use Rattle.std.specs.Prelude.{ℕ, Bool, true, false, not, is_some, ◌||◌, if◌then◌else◌, List, [], ◌∷◌}
use Rattle.std.specs.FinMap as map
use Rattle.tag.specs.declared.tag.Tag.{Tag}
use Rattle.tag.specs.Tag.{opening_tag, later_tag}
use Rattle.bank.specs.declared.row.Row.{Row}
use Rattle.bank.specs.declared.kind.Kind.{Kind}
use Rattle.bank.specs.declared.kind.Kind.TheVariants as kind
use Rattle.bank.specs.declared.request.Request.{Request}
use Rattle.bank.specs.declared.request.Request.TheVariants as request
use Rattle.bank.specs.declared.reply.Answer.{Answer}
use Rattle.bank.specs.declared.reply.Answer.TheVariants as answer
use Rattle.bank.specs.declared.reply.Reply.{Reply}
use Rattle.bank.specs.Pointer.{status_of, raised}
use Rattle.bank.specs.Bank.{Bank, pre_written, finalized, with_pointer, knows}
use Rattle.bank.specs.Knowledge.{is_finalized}
use Rattle.bank.specs.Collect.{collected, fetched_piece, dropped_bytes}

-- the kind of a request: what it asks, without the piece
abbrev pub kind_of : Request → Kind
kind_of request.Next = kind.Next
kind_of (request.Spread status) = kind.Spread status
kind_of request.Query = kind.Query
kind_of (request.PreWrite tag piece) = kind.PreWrite tag
kind_of (request.Finalize tag) = kind.Finalize tag
kind_of (request.Fetch tag) = kind.Fetch tag

-- the greatest finalized tag of the entries, or the opening tag if none is finalized
abbrev pub greatest_among : List (Tag × Row) → Tag
greatest_among [] = opening_tag
greatest_among (e ∷ es) = if is_finalized e.1.label then later_tag (greatest_among es) e.0 else greatest_among es

-- the greatest finalized tag of a bank
abbrev pub greatest_final : Bank → Tag
greatest_final b = greatest_among (map.entries b.rows)

-- the bank after it serves a request at step `now`, before any piece is dropped
abbrev pub uncollected_bank : Bank → Request → ℕ → Bank
uncollected_bank b request.Next now = b
uncollected_bank b (request.Spread status) now = with_pointer b (raised b.pointer status now)
uncollected_bank b request.Query now = b
uncollected_bank b (request.PreWrite tag piece) now = pre_written b tag piece now
uncollected_bank b (request.Finalize tag) now = finalized b tag now
uncollected_bank b (request.Fetch tag) now = finalized b tag now

-- the bank after it serves a request at step `now`
abbrev pub served_bank : Bank → Request → ℕ → Bank
served_bank b request.Next now = b
served_bank b (request.Spread status) now = with_pointer b (raised b.pointer status now)
served_bank b request.Query now = b
served_bank b (request.PreWrite tag piece) now = collected (pre_written b tag piece now)
served_bank b (request.Finalize tag) now = collected (finalized b tag now)
served_bank b (request.Fetch tag) now = collected (finalized b tag now)

-- the number of bytes that a request at step `now` frees: those of the pieces that the bank is then to drop
abbrev pub freed_bytes : Bank → Request → ℕ → ℕ
freed_bytes b (request.PreWrite tag piece) now = dropped_bytes (pre_written b tag piece now)
freed_bytes b (request.Finalize tag) now = dropped_bytes (finalized b tag now)
freed_bytes b (request.Fetch tag) now = dropped_bytes (finalized b tag now)
freed_bytes b q now = 0

-- the answer of the bank to a request
abbrev pub answer_to : Bank → Request → Answer
answer_to b request.Next = answer.Pointer (status_of b.pointer)
answer_to b (request.Spread status) = answer.Done
answer_to b request.Query = answer.Greatest (greatest_final b)
answer_to b (request.PreWrite tag piece) = answer.Done
answer_to b (request.Finalize tag) = answer.Done
answer_to b (request.Fetch tag) = answer.Piece (fetched_piece b tag)

-- the reply of the bank to a request: the answer, with the step at which it was made
abbrev pub reply_to : Bank → Request → ℕ → Reply
reply_to b q now = record { step = now; answer = answer_to b q }

-- whether serving a request may allocate memory: for the row of a new tag, or for one more owner of a piece
abbrev pub takes_memory : Bank → Request → Bool
takes_memory b request.Next = false
takes_memory b (request.Spread status) = false
takes_memory b request.Query = false
takes_memory b (request.PreWrite tag piece) = true
takes_memory b (request.Finalize tag) = not (knows b tag)
takes_memory b (request.Fetch tag) = not (knows b tag) || is_some (fetched_piece b tag)
