-- A call that reads before a start goes on to the start.
use Rattle.std.proofs.Common.{◌≡◌, inl, ℕ, zero, suc, ◌+◌, ◌*◌, ◌-◌, ◌<◌, ◌≤◌, length}
use Rattle.std.proofs.Common.{Some, IsSome, refl, sym, ap, ◌∙◌, subst, arith}
use Rattle.std.proofs.Math.Nat.{suc-mul}
use Rattle.std.specs.List.{AllByRecursion}
use Rattle.tag.specs.declared.limits.TheConstants.{MOST_MEMBERS}
use Rattle.layout.specs.Layout.{IsLawful, quorum_of}
use Rattle.bank.specs.declared.kind.Kind.TheVariants.{Fetch, Next, Spread}
use Rattle.bank.specs.declared.reply.Answer.TheVariants as answer
use Rattle.bank.specs.declared.request.Request.TheVariants as request
use Rattle.bank.specs.declared.status.Status.TheVariants as status
use Rattle.mail.specs.Phase.{lacks_pieces}
use Rattle.record.specs.declared.stage.Stage.TheVariants.{ReadNext, ReadSpread}
use Rattle.record.specs.Fragments.{Code, IsFetch}
use Rattle.record.specs.PhaseOrder.{after, after_next}
use Rattle.record.specs.Sending.{request_to}
use Rattle.open_calls.specs.OpenCalls.{NodeCall, open_call, stage_reached}
use Rattle.network.specs.Worlds.{World, known_layout, known_layouts}
use Rattle.network.specs.Premises.{IsOneFile}
use Rattle.starts.specs.Starts.{IsFinalAt, IsStart}
use Rattle.starts.specs.Reading.{IsReading, LeadsTo, most_events, reading_at, world_with}
use Rattle.starts.proofs.LeadingLemmas.{found_changed, leads_within, sent_there, then_leads}
use Rattle.starts.proofs.GatheredReplyLemmas.{Gathered, gather, most_to_gather, tells_there, with_replies}
use Rattle.starts.proofs.AdvancedCallLemmas.{advanced_call, advances}
use Rattle.starts.proofs.FinalPositionLemmas.{enough_members, final_there, most_quorum, some_quorum, tell_next, tell_spread}

-- A call leaves a position behind

fewer : (a q r : ℕ) → a < q → q ≡ r → 0 < r
fewer a q r less same = omega arith

-- two phases that begin, and the replies that each of them lacked
counted : (a q r s : ℕ) → q ≤ s → r ≤ s → (((2 * (q - a) + 1) + 2 * (r - 0)) + 1) ≤ 4 * s + 2
counted a q r s small few = omega (arith, small, few)

module _ (fragment : Code) (world : World) (one : IsOneFile world.files) (call : NodeCall)
    (found : open_call world.calls call.id ≡ Some call) (reads : IsReading world call call.phase.position)
    (is : IsFinalAt world call.phase.position) (lawful : AllByRecursion IsLawful (known_layouts world 0)) where
  next : Gathered fragment (answer.Pointer status.Final) world call
  next = gather fragment request.Next (answer.Pointer status.Final) is.members is.members is.quorum.distinct world call
      (record {
        found = found;
        own = reads.own;
        unended = reads.unended;
        few = reads.few;
        request = λ piece. ap (λ k. request_to k piece) reads.kind;
        sent = reads.sent;
      })
      (tell_next world one call.node call.phase.position is)
      (subst (λ q. q ≤ length is.members) (sym reads.quorum) (enough_members world one call.node call.phase.position is))
      (λ q there. inl there)

  -- the call that knows that the pointer is final
  abbrev told_final : NodeCall
  told_final = with_replies call next.replies (Some 0)

  abbrev after_told : World
  after_told = world_with world told_final next.leads.sent next.leads.now

  reached : stage_reached told_final ≡ ReadSpread call.phase.position reads.finalized status.Final
  reached = ap (λ s. after call.kind call.id s next.replies (lacks_pieces told_final.phase)) reads.stage
      ∙ ap (λ s. after_next s call.phase.position reads.finalized) (next.shows refl)

  -- the call as it begins to spread this
  abbrev spreading : NodeCall
  spreading = advanced_call after_told told_final (ReadSpread call.phase.position reads.finalized status.Final) (Spread status.Final)
      call.phase.position

  no_fetch : IsFetch call.phase.kind → IsSome call.settled
  no_fetch fetch = absurd (let clash : Next ≡ Fetch fetch.0 = sym reads.kind ∙ fetch.1 in cc)

  to_spreading : LeadsTo fragment world spreading (most_to_gather call + 1)
  to_spreading = then_leads fragment world told_final spreading (most_to_gather call) 1 refl next.leads
      (advances fragment after_told told_final (ReadSpread call.phase.position reads.finalized status.Final) (Spread status.Final)
      call.phase.position (found_changed world.calls call told_final found) refl no_fetch reached refl (λ a b. refl))

  abbrev in_spreading : World
  in_spreading = world_with world spreading to_spreading.sent to_spreading.now

  spread : Gathered fragment answer.Done in_spreading spreading
  spread = gather fragment (request.Spread status.Final) answer.Done is.members is.members is.quorum.distinct in_spreading spreading
      (record {
        found = found_changed world.calls call spreading found;
        own = refl;
        unended = refl;
        few = fewer (length call.phase.replies) call.phase.quorum (quorum_of (known_layout world call.node call.phase.position))
            reads.few reads.quorum;
        request = λ piece. refl;
        sent = sent_there fragment world spreading (most_to_gather call + 1) to_spreading;
      })
      (tells_there (request.Spread status.Final) answer.Done world spreading to_spreading.sent to_spreading.now call.node
      call.phase.position is.members (tell_spread world one call.node call.phase.position is))
      (enough_members world one call.node call.phase.position is)
      (λ q there. inl there)

  -- the call that has spread it
  abbrev has_spread : NodeCall
  has_spread = with_replies spreading spread.replies (Some 0)

  to_spread : LeadsTo fragment world has_spread ((most_to_gather call + 1) + most_to_gather spreading)
  to_spread = then_leads fragment world spreading has_spread (most_to_gather call + 1) (most_to_gather spreading) refl to_spreading
      spread.leads

  abbrev after_spread_world : World
  after_spread_world = world_with world has_spread to_spread.sent to_spread.now

  -- the call as it reads at the next position
  abbrev left : NodeCall
  left = reading_at world call (suc (suc call.phase.number)) (suc call.phase.position)

  pub leaves_position : LeadsTo fragment world left most_events
  leaves_position =
      leads_within fragment world left (((most_to_gather call + 1) + most_to_gather spreading) + 1) most_events
      (counted (length call.phase.replies) call.phase.quorum (quorum_of (known_layout world call.node call.phase.position)) MOST_MEMBERS
      (subst (λ q. q ≤ MOST_MEMBERS) (sym reads.quorum) small) small)
      (then_leads fragment world has_spread left ((most_to_gather call + 1) + most_to_gather spreading) 1 refl to_spread
      (advances fragment after_spread_world has_spread (ReadNext (suc call.phase.position) (suc call.phase.position)) Next
      (suc call.phase.position) (found_changed world.calls call has_spread found) refl no_fetch_there refl refl (λ a b. refl)))
    where
      small : quorum_of (known_layout world call.node call.phase.position) ≤ MOST_MEMBERS
      small = most_quorum world one call.node call.phase.position is lawful

      no_fetch_there : IsFetch (Spread status.Final) → IsSome call.settled
      no_fetch_there fetch = absurd (let clash : Spread status.Final ≡ Fetch fetch.0 = fetch.1 in cc)

-- And goes on to the start

one_time : (m : ℕ) → m ≤ suc zero * m
one_time m = let e : suc zero * m ≡ zero * m + m = suc-mul zero m in omega (arith, e)

once_more : (n m : ℕ) → m + n * m ≤ suc n * m
once_more n m = let e : suc n * m ≡ n * m + m = suc-mul n m in omega (arith, e)

-- the same events, at most so many, lead to the call at this position, with this number
pub lead_to : (fragment : Code) (world : World) (call : NodeCall) (number other position start most : ℕ) → number ≡ other →
    position ≡ start → LeadsTo fragment world (reading_at world call number position) most →
    LeadsTo fragment world (reading_at world call other start) most
lead_to fragment world call number other position start most same is led =
    subst (λ n. LeadsTo fragment world (reading_at world call n start) most) same
    (subst (λ p. LeadsTo fragment world (reading_at world call number p) most) is led)

pub reads_on : (fragment : Code) (more : ℕ) (world : World) → IsOneFile world.files → AllByRecursion IsLawful (known_layouts world 0) →
    (call : NodeCall) → open_call world.calls call.id ≡ Some call → IsReading world call call.phase.position →
    IsStart world (call.phase.position + suc more) →
    LeadsTo fragment world (reading_at world call (call.phase.number + 2 * suc more) (call.phase.position + suc more))
    (suc more * most_events)
reads_on fragment zero world one lawful call found reads start =
    lead_to fragment world call (suc (suc call.phase.number)) (call.phase.number + 2 * suc zero) (suc call.phase.position)
    (call.phase.position + suc zero) (suc zero * most_events) (omega arith) (omega arith)
    (leads_within fragment world (reading_at world call (suc (suc call.phase.number)) (suc call.phase.position)) most_events
    (suc zero * most_events) (one_time most_events)
    (leaves_position fragment world one call found reads (start call.phase.position (omega arith)) lawful))
reads_on fragment (suc more) world one lawful call found reads start =
    let first = leaves_position fragment world one call found reads (start call.phase.position (omega arith)) lawful in
    let there = reading_at world call (suc (suc call.phase.number)) (suc call.phase.position) in
    let final : IsFinalAt world (suc call.phase.position) = start (suc call.phase.position) (omega arith) in
    let w = world_with world there first.sent first.now in
    let last = reading_at world call (call.phase.number + 2 * suc (suc more)) (call.phase.position + suc (suc more)) in
    leads_within fragment world last (most_events + suc more * most_events) (suc (suc more) * most_events)
    (once_more (suc more) most_events)
    (then_leads fragment world there last most_events (suc more * most_events) refl first
    (lead_to fragment w there (suc (suc call.phase.number) + 2 * suc more) (call.phase.number + 2 * suc (suc more))
    (suc call.phase.position + suc more) (call.phase.position + suc (suc more)) (suc more * most_events) (omega arith) (omega arith)
    (reads_on fragment more w one lawful there (found_changed world.calls call there found)
    (record {
      finalized = suc call.phase.position;
      stage = refl;
      kind = refl;
      at = refl;
      own = refl;
      quorum = refl;
      few = some_quorum world one call.node (suc call.phase.position) final lawful;
      unended = refl;
      sent = sent_there fragment world there most_events first;
    })
    (λ p less. final_there world there first.sent first.now p (start p (omega arith))))))

-- the call reads at the start, with a number greater by two for each position that it leaves behind
pub reads_to : (fragment : Code) (world : World) (call : NodeCall) (start : ℕ) → IsOneFile world.files →
    AllByRecursion IsLawful (known_layouts world 0) → IsStart world start → open_call world.calls call.id ≡ Some call →
    IsReading world call call.phase.position → call.phase.position < start →
    LeadsTo fragment world (reading_at world call (call.phase.number + 2 * (start - call.phase.position)) start)
    ((start - call.phase.position) * most_events)
reads_to fragment world call start one lawful starts there reads less =
    go (start - call.phase.position - 1) (omega (arith, less))
  where
    go : (more : ℕ) → suc more ≡ start - call.phase.position →
        LeadsTo fragment world (reading_at world call (call.phase.number + 2 * (start - call.phase.position)) start)
        ((start - call.phase.position) * most_events)
    go more left =
        let at_start : call.phase.position + suc more ≡ start = omega (arith, left, less) in
        lead_to fragment world call (call.phase.number + 2 * suc more) (call.phase.number + 2 * (start - call.phase.position))
        (call.phase.position + suc more) start ((start - call.phase.position) * most_events) (omega (arith, left)) at_start
        (subst (λ n. LeadsTo fragment world (reading_at world call (call.phase.number + 2 * suc more) (call.phase.position + suc more))
        (n * most_events)) left (reads_on fragment more world one lawful call there reads (subst (IsStart world) (sym at_start) starts)))
