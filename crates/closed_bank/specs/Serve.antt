-- The table of requests to a closed bank: the closed bank after each request, and the answer to it, if it answers.
use Rattle.std.specs.Prelude.{ℕ, Bool, false, Option, None, Some, option_map}
use Rattle.tag.specs.Tag.{later_tag, tag_lt}
use Rattle.bank.specs.declared.reply.Answer.{Answer}
use Rattle.bank.specs.declared.reply.Answer.TheVariants as answer
use Rattle.bank.specs.declared.reply.Reply.{Reply}
use Rattle.bank.specs.declared.request.Request.{Request}
use Rattle.bank.specs.declared.request.Request.TheVariants as request
use Rattle.bank.specs.declared.status.Status.TheVariants as status
use Rattle.closed_bank.specs.ClosedBank.{ClosedBank}

-- the closed bank after a request
abbrev pub closed_after : ClosedBank → Request → ClosedBank
closed_after closed (request.Finalize tag) = record { greatest = later_tag closed.greatest tag }
closed_after closed q = closed

-- whether a request changes the closed bank
abbrev pub changes_closed : ClosedBank → Request → Bool
changes_closed closed (request.Finalize tag) = tag_lt closed.greatest tag
changes_closed closed q = false

-- the answer of the closed bank to a request; it declines a fetch
abbrev pub closed_answer : ClosedBank → Request → Option Answer
closed_answer closed request.Next = Some (answer.Pointer status.Final)
closed_answer closed (request.Spread s) = Some answer.Done
closed_answer closed request.Query = Some (answer.Greatest closed.greatest)
closed_answer closed (request.PreWrite tag piece) = Some answer.Done
closed_answer closed (request.Finalize tag) = Some answer.Done
closed_answer closed (request.Fetch tag) = None

-- an answer with the step at which it was made
abbrev pub reply_at : (now : ℕ) → Answer → Reply
reply_at now answer = record { step = now; answer = answer }

-- the reply of the closed bank to a request at step `now`, if it answers
abbrev pub closed_reply : ClosedBank → Request → (now : ℕ) → Option Reply
closed_reply closed q now = option_map (reply_at now) (closed_answer closed q)
