-- Events of the call that reads first, which stays in its phase: it takes messages, and its node does not stop.
use Rattle.std.proofs.Common.{◌≡◌, ◌⊎◌, inl, inr, ℕ, suc, ◌<◌, ◌&&◌, Bool, true, false, cond, eqb, eq-eqb, not}
use Rattle.std.proofs.Common.{List, Option, Some, None, IsSome, is_some, refl, sym, ap, ◌∙◌, subst₂, arith}
use Rattle.std.proofs.lemmas.Option.{same_Some}
use Rattle.std.specs.List.{AllByRecursion}
use Rattle.layout.specs.Layout.{Layout}
use Rattle.bank.specs.Bank.{Bank}
use Rattle.bank.specs.declared.kind.Kind.{Kind}
use Rattle.bank.specs.declared.kind.Kind.TheVariants.{Fetch, Next}
use Rattle.mail.specs.declared.message.Body.{Body}
use Rattle.mail.specs.declared.message.Body.TheVariants as body
use Rattle.mail.specs.declared.message.Message.{Message}
use Rattle.mail.specs.Phase.{after_body, has_taken, is_current, with_reply}
use Rattle.record.specs.Fragments.{Code, IsFetch}
use Rattle.record.specs.Legal.{is_move}
use Rattle.record.specs.PhaseOrder.{begun_at}
use Rattle.record.specs.Steps.{new_phase}
use Rattle.open_calls.specs.OpenCalls.{NodeCall, IsLacking, IsReady, due_phase, open_call, stage_reached, taking_open, with_open}
use Rattle.open_calls.specs.OpenCalls.{without_call}
use Rattle.open_calls.proofs.CallsOfNodeLemmas.{differs, found_there, only_one, with_here}
use Rattle.open_calls.proofs.ListLemmas.{all_weaker}
use Rattle.open_calls.proofs.OpenCallLemmas.{found_with}
use Rattle.network.specs.Worlds.{World, known_layout}
use Rattle.network.specs.Events.{Event, IsOpen, MayHappen, advanced_world, answered_world, happens, on_open}
use Rattle.network.specs.Premises.{IsKeptByLog, WasSent}
use Rattle.starts.proofs.FinalPointerLemmas.{ticked}
use Rattle.told_queries.proofs.ApartEventLemmas.{IsAmong, alongside}
use Rattle.told_queries.proofs.BesideLemmas.{IsBeside, IsSoFar, querying}
use Rattle.told_queries.proofs.SentPhaseLemmas.{IsOrderly, open_id, sent_so_far}
use Rattle.told_queries.proofs.WithOpenLemmas.{with_again}

-- Messages of earlier phases

second_fails : (a b c : Bool) → b ≡ false → (a && (b && c)) ≡ false
second_fails true true c e = absurd (cc)
second_fails true false c e = refl
second_fails false b c e = refl

-- a message of an earlier phase does not change the call
pub stale_taken : (call : NodeCall) (message : Message) → message.phase < call.phase.number → taking_open message call ≡ call
stale_taken call message earlier = go message.body
  where
    stale : is_current call.phase message.call message.phase ≡ false
    stale = second_fails (eqb message.call call.phase.call) (eqb message.phase call.phase.number) (not (is_some call.phase.end))
        (differs message.phase call.phase.number (λ same. absurd (omega arith)))

    after : (b : Body) → NodeCall
    after b = record call { phase = after_body call.phase message.call message.phase message.member b 0 }

    go : (b : Body) → after b ≡ call
    go (body.Request asked) = refl
    go (body.Reply kind made) = ap (λ current. let c : NodeCall = record call {
      phase = cond current (cond (has_taken call.phase.replies message.member) call.phase
          (with_reply call.phase message.member made 0)) call.phase;
    } in c) stale

-- A call that goes on

-- the call as it begins its next phase
abbrev gone_on : World → NodeCall → Kind × ℕ → NodeCall
gone_on world call next = record call {
  stage = begun_at (stage_reached call) next.1;
  phase = new_phase call.id (suc call.phase.number) next.0 next.1 (known_layout world call.node next.1) 0;
}

number_rises : (fragment : Code) (world : World) (call new : NodeCall) (next : Kind × ℕ) → IsOpen world call.id call →
    IsOpen (advanced_world fragment (ticked world) call (Some next)) call.id new → new.phase.number ≡ suc call.phase.number
number_rises fragment world call new next open_there there =
    let is : gone_on world call next ≡ new = same_Some (gone_on world call next) new
    (sym (ap (λ b. Some (cond b (gone_on world call next) call)) (eq-eqb call.id call.id refl))
    ∙ sym (found_with (gone_on world call next) world.calls call.id call open_there) ∙ there) in
    ap (λ (c : NodeCall). c.phase.number) (sym is)

module _ (fragment : Code) (begun : NodeCall) (world : World) (is : IsOrderly world) (so_far : IsSoFar begun world) where
  same_number : so_far.call.phase.number ≡ begun.phase.number
  same_number = ap (λ (c : NodeCall). c.phase.number) so_far.same

  -- what is found under the call's id is the call
  same_found : (id : ℕ) (call : NodeCall) → id ≡ begun.id → IsOpen world id call → call ≡ so_far.call
  same_found id call same open_there =
      same_Some call so_far.call (sym open_there ∙ ap (open_call world.calls) same ∙ so_far.open_there)

  -- What does not happen to it

  module _ (reads : begun.phase.kind ≡ Next) (id : ℕ) (own : id ≡ begun.id) where
    none_fetched : (call : NodeCall) → IsOpen world id call → IsFetch call.phase.kind → ⊥
    none_fetched call open_there fetch =
        absurd (let clash : Next ≡ Fetch fetch.0 =
        sym reads ∙ sym (ap (λ (c : NodeCall). c.phase.kind) so_far.same)
        ∙ sym (ap (λ (c : NodeCall). c.phase.kind) (same_found id call own open_there)) ∙ fetch.1 in cc)

    -- its value is not settled
    pub not_settled : (value : List ℕ) → MayHappen fragment world (Event.Settle id value) → ⊥
    not_settled value may = none_fetched may.0 may.1 may.2.fetch

    -- it does not go on
    pub not_advanced : MayHappen fragment world (Event.Advance id) → IsSoFar begun (happens fragment world (Event.Advance id)) → ⊥
    not_advanced may next = go may.2
      where
        call : NodeCall
        call = may.0

        own_id : call.id ≡ id
        own_id = open_id world id call is may.1

        due_next : (o : Option (Kind × ℕ)) → due_phase call ≡ o → IsSome o → ⊥
        due_next None e some = absurd (cc)
        due_next (Some due) e some =
            let is_after : happens fragment world (Event.Advance id) ≡ advanced_world fragment (ticked world) call (Some due) =
            ap (λ o. on_open (ticked world) o (λ c. advanced_world fragment (ticked world) c (due_phase c))) may.1
            ∙ ap (advanced_world fragment (ticked world) call) e in
            let there : IsOpen (advanced_world fragment (ticked world) call (Some due)) call.id next.call =
            ap (λ (w : World). open_call w.calls call.id) (sym is_after)
            ∙ ap (open_call (happens fragment world (Event.Advance id)).calls) (own_id ∙ own) ∙ next.open_there in
            let risen : next.call.phase.number ≡ suc call.phase.number =
            number_rises fragment world call next.call due (ap (open_call world.calls) own_id ∙ may.1) there in
            let before : call.phase.number ≡ begun.phase.number =
            ap (λ (c : NodeCall). c.phase.number) (same_found id call own may.1) ∙ same_number in
            let after : next.call.phase.number ≡ begun.phase.number = ap (λ (c : NodeCall). c.phase.number) next.same in
            absurd (omega arith)

        go : ((IsReady call × IsSome (due_phase call)) ⊎ IsLacking call) → ⊥
        go (inl ready) = due_next (due_phase call) refl ready.1
        go (inr lacking) = none_fetched call may.1 lacking.fetch

  -- without it, it is not open any more
  none_left : (id : ℕ) (call : NodeCall) → id ≡ begun.id → call.id ≡ begun.id →
      open_call (without_call id world.calls) begun.id ≡ Some call → ⊥
  none_left id call same own there =
      let passes = (found_there (λ c. not (eqb c.id id)) world.calls begun.id call is.distinct there).1 in
      absurd (let wrong : false ≡ true = sym (ap not (eq-eqb call.id id (own ∙ sym same))) ∙ passes in cc)

  pub not_given_up : (id : ℕ) → id ≡ begun.id → IsSoFar begun (happens fragment world (Event.GiveUp id)) → ⊥
  not_given_up id own next = none_left id next.call own (ap (λ (c : NodeCall). c.id) next.same) next.open_there

  pub not_answered : (id : ℕ) → id ≡ begun.id → MayHappen fragment world (Event.Answer id) →
      IsSoFar begun (happens fragment world (Event.Answer id)) → ⊥
  not_answered id own may next =
      none_left may.0.id next.call (open_id world id may.0 is may.1 ∙ own) (ap (λ (c : NodeCall). c.id) next.same)
      (ap (λ (w : World). open_call w.calls begun.id)
      (sym (ap (λ o. on_open (ticked world) o (λ c. answered_world (ticked world) c)) may.1)) ∙ next.open_there)

  -- What happens to it

  module _ (layout : Layout) (sent : List Message) (keeps : (message : Message) → WasSent world message → IsAmong sent message) where
    abbrev asking : NodeCall
    asking = querying begun layout

    abbrev along : World
    along = alongside asking world sent

    -- it takes a message; as it queries, it does not change by that
    pub own_taken : (message : Message) → message.call ≡ begun.id → WasSent world message →
        IsBeside asking (happens fragment world (Event.Take message)) (happens fragment along (Event.Take message))
    own_taken message own was =
        subst₂ (λ o p. IsBeside asking (on_open (ticked world) o taken_here) (on_open (ticked along) p taken_there))
        (sym found_here) (sym found_along) (record {
          files = refl;
          later = refl;
          banks = refl;
          history = refl;
          now = refl;
          calls = ap (λ c. with_open c along.calls) (stale_taken asking message earlier)
              ∙ with_again asking asking world.calls refl
              ∙ sym (with_again asking (taking_open message so_far.call) world.calls
              (open_id world begun.id so_far.call is so_far.open_there));
          sent = keeps;
        })
      where
        taken_here : NodeCall → World
        taken_here call = record (ticked world) { calls = with_open (taking_open message call) world.calls }

        taken_there : NodeCall → World
        taken_there call = record (ticked along) { calls = with_open (taking_open message call) along.calls }

        found_here : open_call world.calls message.call ≡ Some so_far.call
        found_here = ap (open_call world.calls) own ∙ so_far.open_there

        found_along : open_call along.calls message.call ≡ Some asking
        found_along =
            found_with asking world.calls message.call so_far.call found_here
            ∙ ap (λ b. Some (cond b asking so_far.call)) (eq-eqb message.call begun.id own)

        earlier : message.phase < suc begun.phase.number
        earlier =
            let before = sent_so_far world begun.id so_far.call message is so_far.open_there was own in
            let same = same_number in omega arith

    -- a node stops and starts again, and the call is still there
    pub kept_along : (node : ℕ) (banks : List (List Bank)) (calls : List NodeCall) →
        IsKeptByLog world (Event.Restart node banks calls) →
        IsSoFar begun (happens fragment world (Event.Restart node banks calls)) →
        IsKeptByLog along (Event.Restart node banks (with_open asking calls))
    kept_along node banks calls kept next =
        (kept.0, ap (with_open asking) kept.1 ∙ sym (with_here test asking world.calls passes same))
      where
        test : NodeCall → Bool
        test c = not (eqb c.node node && not (is_move c.kind))

        there : (open_call world.calls begun.id ≡ Some next.call) × (test next.call ≡ true)
        there = found_there test world.calls begun.id next.call is.distinct
            (ap (λ l. open_call l begun.id) (sym kept.1) ∙ next.open_there)

        same_test : test asking ≡ test next.call
        same_test = sym (ap test next.same)

        passes : test asking ≡ true
        passes = same_test ∙ there.1

        same : AllByRecursion (λ other. other.id ≡ asking.id → test other ≡ test asking) world.calls
        same =
            all_weaker (λ (other : NodeCall). other.id ≡ begun.id → other ≡ next.call)
            (λ (other : NodeCall). other.id ≡ begun.id → test other ≡ test asking)
            (λ other one e. ap test (one e) ∙ sym same_test) world.calls
            (only_one world.calls begun.id next.call is.distinct there.0)
