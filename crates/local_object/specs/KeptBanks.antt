-- What a node keeps of a bank, as declared in src/kept_bank.rt: what it answers, how its pointer is raised, and how it
-- is closed.
use Rattle.std.specs.Prelude.{Option, None, Some}
use Rattle.bank.specs.Serve.{reply_to}
use Rattle.bank.specs.declared.reply.Reply.{Reply}
use Rattle.bank.specs.declared.request.Request.{Request}
use Rattle.bank.specs.declared.request.Request.TheVariants as request
use Rattle.bank.specs.declared.status.Status.TheVariants as status
use Rattle.closed_bank.specs.ClosedBank.{ClosedBank, closed_of}
use Rattle.closed_bank.specs.Serve.{closed_reply}
use Rattle.local_object.specs.declared.kept_bank.KeptBank.{KeptBank}
use Rattle.local_object.specs.declared.kept_bank.KeptBank.TheVariants as kept
use Rattle.local_object.specs.ChangedBanks.{kept_after}

-- the reply to a request, if there is one: a closed bank declines each fetch
abbrev pub kept_reply : KeptBank → Request → Option Reply
kept_reply (kept.Open bank) asked = Some (reply_to bank asked 0)
kept_reply (kept.Closed closed) asked = closed_reply closed asked 0

-- what is left of a bank once it is closed, if it is open and its pointer is final
abbrev pub closing : Option KeptBank → Option ClosedBank
closing None = None
closing (Some (kept.Open bank)) = closed_of bank
closing (Some (kept.Closed closed)) = None

-- what is kept then, where this was kept before
abbrev pub closed_or : Option ClosedBank → Option KeptBank → Option KeptBank
closed_or None before = before
closed_or (Some closed) before = Some (kept.Closed closed)

-- what is kept after the node closes a bank; nothing changes if it cannot be closed
abbrev pub after_closing : Option KeptBank → Option KeptBank
after_closing before = closed_or (closing before) before

-- what is kept of a bank, if there is one, after its pointer was raised to final
abbrev pub after_raising : Option KeptBank → Option KeptBank
after_raising None = None
after_raising (Some bank) = Some (kept_after bank (request.Spread status.Final))
