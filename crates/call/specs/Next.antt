-- What a call does next.
use Rattle.std.specs.Prelude.{ℕ, Bool, ◌&&◌, not, is_some, if◌then◌else◌, Option, Some, None}
use Rattle.bank.specs.declared.kind.Kind.{Kind}
use Rattle.mail.specs.Phase.{lacks_pieces}
use Rattle.record.specs.PhaseOrder.{due}
use Rattle.record.specs.Wants.{is_fetch}
use Rattle.call.specs.declared.next.Next.{Next}
use Rattle.call.specs.declared.next.Next.TheVariants as next
use Rattle.call.specs.Call.{OpenCall, reached}

-- what a call does whose phase is done and leads on: it begins the phase that is due, or is answered if none is
abbrev pub leads_to : Option (Kind × ℕ) → Next
leads_to None = next.Answer
leads_to (Some asked) = next.Begin asked.0 asked.1

-- what a call does whose fetch lacks pieces: it begins again with the phase that is due
abbrev pub leads_back : Option (Kind × ℕ) → Next
leads_back None = next.Answer
leads_back (Some asked) = next.Restart asked.0 asked.1

-- whether the current phase is a fetch, and no value is settled
abbrev pub is_unsettled : OpenCall → Bool
is_unsettled call = is_fetch call.phase.kind && not (is_some call.settled)

-- what a call does next: it waits for a quorum, settles what it fetched or restarts, and then goes on
abbrev pub next_of : OpenCall → Next
next_of call =
    if is_some call.phase.end
    then (if is_unsettled call
    then (if lacks_pieces call.phase then leads_back (due (reached call)) else next.Settle)
    else leads_to (due (reached call)))
    else next.Wait
