-- The contracts that docs/trusted.md lists do not depend on this file; other contracts and proofs do.
-- A call as the machine that carries it out, while its first reading stands for its query: it takes a reply for each
-- member that told an unset pointer, until it has a quorum of them.
use Rattle.std.specs.Prelude.{ℕ, suc, if◌then◌else◌, List, [], ◌∷◌}
use Rattle.layout.specs.Layout.{Layout}
use Rattle.bank.specs.declared.kind.Kind.TheVariants.{Query}
use Rattle.bank.specs.declared.reply.Answer.TheVariants as answer
use Rattle.mail.specs.declared.message.Body.TheVariants as body
use Rattle.mail.specs.declared.message.Message.{Message}
use Rattle.call.specs.Call.{OpenCall as Machine}
use Rattle.call.specs.Steps.{entered, phase_next, taken_call}
use Rattle.local_object.specs.declared.report.Report.{Report}
use Rattle.local_object.specs.Reports.{tells_unset}

-- the reply to a query of this phase of a call, at this position, that says what a member told the phase before
abbrev pub query_reply : (call phase position : ℕ) → Report → Message
query_reply call phase position report = record {
  call = call;
  phase = suc phase;
  position = position;
  member = report.member;
  body = body.Reply Query (record { step = 0; answer = answer.Greatest report.telling.greatest });
}

-- the machine after it takes such a reply, if the member told this phase of the call an unset pointer
abbrev pub heeding : (call phase position : ℕ) → Machine → Report → Machine
heeding call phase position machine report =
    if tells_unset call phase report then taken_call (query_reply call phase position report) 0 machine else machine

-- the machine after it takes such replies, one after another
abbrev pub heeding_all : (call phase position : ℕ) → Machine → List Report → Machine
heeding_all call phase position machine [] = machine
heeding_all call phase position machine (report ∷ reports) =
    heeding_all call phase position (heeding call phase position machine report) reports

-- the machine after it begins a query of its position, which has this layout, and takes replies that say what its phase
-- before was told
abbrev pub querying : Machine → Layout → List Report → Machine
querying call layout reports =
    heeding_all call.id call.phase.number call.phase.position
    (entered call (phase_next call Query call.phase.position layout 0)) reports
