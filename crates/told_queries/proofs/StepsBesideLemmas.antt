-- What single events do, together: each has one beside it, and a query may be served in the place of a waiting event.
use Rattle.std.proofs.Common.{◌≡◌, [], get_or, refl, ap, subst}
use Rattle.layout.specs.Layout.{Layout}
use Rattle.bank.specs.Serve.{reply_to}
use Rattle.bank.specs.declared.kind.Kind.TheVariants.{Next}
use Rattle.bank.specs.declared.request.Request.TheVariants as request
use Rattle.mail.specs.Message.{answered}
use Rattle.mail.specs.declared.message.Message.{Message}
use Rattle.record.specs.Fragments.{Code}
use Rattle.record.specs.Records.{no_bank}
use Rattle.open_calls.specs.OpenCalls.{NodeCall}
use Rattle.network.specs.Worlds.{World}
use Rattle.network.specs.Events.{Event, happens}
use Rattle.network.specs.Premises.{WasSent}
use Rattle.told_queries.proofs.BesideEventLemmas.{beside_event, step_beside}
use Rattle.told_queries.proofs.BesideLemmas.{querying}
use Rattle.told_queries.proofs.SentPhaseLemmas.{reached_orderly}
use Rattle.told_queries.proofs.ServedQueryLemmas.{query_step, reply_in, reply_sent}
use Rattle.told_queries.proofs.StayingCallLemmas.{so_far_until}
use Rattle.told_queries.proofs.TurnLemmas.{Beside, query_of}
use Rattle.told_queries.proofs.TurnStepLemmas.{HasSteps, query_reply}

-- the reply is the same by the banks of both worlds
same_reply : (fragment : Code) (begun : NodeCall) (layout : Layout) (world other : World) (message : Message) →
    Beside fragment begun layout world other → reply_in other (query_of message) ≡ query_reply world message
same_reply fragment begun layout world other message beside =
    ap (λ banks. answered (query_of message)
    (reply_to (get_or (get_or banks message.position []) message.member no_bank) request.Query 0)) beside.banks

-- the steps of a call that reads first
pub steps_beside : (fragment : Code) (begun : NodeCall) (layout : Layout) → begun.phase.kind ≡ Next →
    HasSteps fragment begun layout (beside_event (querying begun layout))
steps_beside fragment begun layout reads = record {
  serves = λ message. refl;
  step = λ world other event reached beside so_far next may premised.
      step_beside fragment begun layout world other event reads (reached_orderly fragment world reached) beside may premised so_far next;
  stays = λ first second world reached may so_far there.
      so_far_until fragment begun reads first second world (reached_orderly fragment world reached) may so_far there;
  query = λ world other wait message beside is was.
      query_step fragment begun layout world other beside wait is (query_of message) refl was;
  reply = λ world other message beside.
      subst (WasSent (happens fragment other (Event.Serve (query_of message))))
      (same_reply fragment begun layout world other message beside) (reply_sent fragment other (query_of message) refl);
}
