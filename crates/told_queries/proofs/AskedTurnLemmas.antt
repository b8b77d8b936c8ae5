-- Turns of a run beside those of the other run: where the call's requests are served, the query was sent.
use Rattle.std.proofs.Common.{◌≡◌, ◌⊎◌, ℕ, suc, ◌<◌, inl, inr, List, [], ◌∷◌, length}
use Rattle.std.proofs.Common.{sym, subst, ap, ◌∙◌, arith}
use Rattle.layout.specs.Layout.{Layout}
use Rattle.bank.specs.declared.request.Request.TheVariants as request
use Rattle.mail.specs.declared.message.Body.TheVariants as body
use Rattle.mail.specs.declared.message.Message.{Message}
use Rattle.record.specs.Fragments.{Code}
use Rattle.open_calls.specs.OpenCalls.{NodeCall}
use Rattle.open_calls.proofs.OpenCallLemmas.{found}
use Rattle.network.specs.Worlds.{World, known_layout}
use Rattle.network.specs.Events.{Event, happens, world_after}
use Rattle.network.specs.Laws.{IsReached}
use Rattle.network.specs.Premises.{MayHappenInTurn, WasSent}
use Rattle.starts.proofs.FinalPointerLemmas.{kept}
use Rattle.starts.proofs.ServedReplyLemmas.{request_of}
use Rattle.starts.proofs.TrueReplyLemmas.{IsOfPhase, IsTrueCall, IsWithin, layout_still}
use Rattle.starts.proofs.TrueWorldLemmas.{reached_true}
use Rattle.told_queries.proofs.BesideLemmas.{IsSoFar, querying}
use Rattle.told_queries.proofs.TurnLemmas.{query_of}

-- The layout of the call's position

-- the position has this layout, and a member
pub record Knows (world : World) (position : ℕ) (layout : Layout) : Type 0 where
  pub known : known_layout world 0 position ≡ layout
  pub some : 0 < length layout.members

pub knows_later : (fragment : Code) (position : ℕ) (layout : Layout) (events : List Event) (world : World) →
    MayHappenInTurn fragment events world → Knows world position layout → Knows (world_after fragment events world) position layout
knows_later fragment position layout [] world may knows = knows
knows_later fragment position layout (event ∷ events) world may knows =
    let next = happens fragment world event in
    let within : IsWithin world position 0 = subst (λ (l : Layout). 0 < length l.members) (sym knows.known) knows.some in
    let same = layout_still world next (kept fragment world event may.0 may.1) position 0 within in
    knows_later fragment position layout events next may.2 (record { known = same ∙ knows.known; some = knows.some })

-- A request of the call's phase

module _ (fragment : Code) (begun : NodeCall) (layout : Layout) where
  -- the query was sent to each member
  abbrev pub HasAsked : World → Type 0
  HasAsked other = (member : ℕ) → member < length layout.members →
      WasSent other (request_of (querying begun layout) request.Query member)

  -- a message of the phase goes to a member of the call's position
  pub record IsToMember (message : Message) : Type 0 where
    pub at : message.position ≡ begun.phase.position
    pub within : message.member < length layout.members

  pub of_phase : (world : World) (message : Message) → IsReached fragment world → IsSoFar begun world →
      Knows world begun.phase.position layout → WasSent world message → message.call ≡ begun.id →
      message.phase ≡ begun.phase.number → IsToMember message
  of_phase world message reached so_far knows was same_call same_phase =
      go (is_true.0.sent message was (same_call ∙ sym is_true.1))
    where
      is_true : IsTrueCall world so_far.call × (so_far.call.id ≡ begun.id)
      is_true = found (IsTrueCall world) world.calls begun.id so_far.call (reached_true fragment world reached).calls so_far.open_there

      number : so_far.call.phase.number ≡ begun.phase.number
      number = ap (λ (c : NodeCall). c.phase.number) so_far.same

      position : so_far.call.phase.position ≡ begun.phase.position
      position = ap (λ (c : NodeCall). c.phase.position) so_far.same

      go : (message.phase < so_far.call.phase.number) ⊎ IsOfPhase world so_far.call.phase message → IsToMember message
      go (inl before) = absurd (let a = same_phase in let b = number in omega arith)
      go (inr is) = record {
        at = is.at ∙ position;
        within = subst (λ (l : Layout). message.member < length l.members) knows.known
            (subst (λ p. IsWithin world p message.member) position is.within);
      }

  pub query_is : (message : Message) → message.call ≡ begun.id → message.phase ≡ begun.phase.number → IsToMember message →
      request_of (querying begun layout) request.Query message.member ≡ query_of message
  query_is message same_call same_phase is =
      ap (λ c. made c begun.phase.number begun.phase.position) (sym same_call)
      ∙ ap (λ n. made message.call n begun.phase.position) (sym same_phase)
      ∙ ap (λ p. made message.call message.phase p) (sym is.at)
    where
      made : (call phase position : ℕ) → Message
      made call phase position = record {
        call = call;
        phase = suc phase;
        position = position;
        member = message.member;
        body = body.Request request.Query;
      }
