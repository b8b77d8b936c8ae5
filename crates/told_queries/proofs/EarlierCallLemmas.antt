-- An open call before an event, from what it is after the event: it stays in its phase, or goes on to the next one.
use Rattle.std.proofs.Common.{◌≡◌, ◌⊎◌, inl, inr, ℕ, ◌<◌, ◌≤◌, ◌&&◌, Bool, true, false, cond, eqb, eqb-true, eq-eqb, not}
use Rattle.std.proofs.Common.{List, [], ◌∷◌, ◌++◌, Option, Some, None, refl, sym, ap, ◌∙◌, subst, arith}
use Rattle.std.proofs.lemmas.Option.{same_Some}
use Rattle.bank.specs.declared.kind.Kind.{Kind}
use Rattle.mail.specs.declared.message.Body.{Body}
use Rattle.mail.specs.declared.message.Body.TheVariants as body
use Rattle.mail.specs.declared.message.Message.{Message}
use Rattle.mail.specs.Phase.{after_body, has_taken, is_current, with_reply}
use Rattle.record.specs.Fragments.{Code, IsFetch}
use Rattle.record.specs.Legal.{is_move}
use Rattle.open_calls.specs.OpenCalls.{NodeCall, due_phase, open_call, taking_open, with_open}
use Rattle.open_calls.proofs.CallsOfNodeLemmas.{differs, found_there}
use Rattle.open_calls.proofs.OpenCallLemmas.{found_with}
use Rattle.network.specs.Worlds.{World}
use Rattle.network.specs.Events.{Event, IsOpen, MayHappen, advanced_world, answered_world, happens, on_open, served_world}
use Rattle.network.specs.Premises.{IsPremised, IsUnused}
use Rattle.starts.proofs.FinalPointerLemmas.{ticked}
use Rattle.starts.proofs.TrueReplyLemmas.{IsKnown}
use Rattle.told_queries.specs.Courses.{as_begun}
use Rattle.told_queries.proofs.RunLemmas.{open_other}
use Rattle.told_queries.proofs.SentPhaseLemmas.{IsOrderly, none_unused, open_id}

-- a call after an event: its phase is the same, but for replies, or it is a later one, or a fetch, which may be settled
pub record GoesOn (call new : NodeCall) : Type 0 where
  pub forward : call.phase.number ≤ new.phase.number
  pub phase : (as_begun new ≡ as_begun call) ⊎ ((call.phase.number < new.phase.number) ⊎ IsFetch call.phase.kind)

-- the call was open before, and went on
pub record WasOpen (world : World) (id : ℕ) (new : NodeCall) : Type 0 where
  pub call : NodeCall
  pub open_there : IsOpen world id call
  pub goes : GoesOn call new

-- One event

stayed : (world : World) (id : ℕ) (new : NodeCall) → IsOpen world id new → WasOpen world id new
stayed world id new open_there =
    record { call = new; open_there = open_there; goes = record { forward = omega arith; phase = inl refl } }

-- what is found after one more call began is found before it
open_push : (calls : List NodeCall) (new : NodeCall) (id : ℕ) → eqb new.id id ≡ false →
    open_call (calls ++ new ∷ []) id ≡ open_call calls id
open_push [] new id apart = ap (λ b. cond b (Some new) None) apart
open_push (first ∷ calls) new id apart = ap (λ o. cond (eqb first.id id) (Some first) o) (open_push calls new id apart)

begins : (world : World) (more : NodeCall) (id : ℕ) (new : NodeCall) → IsUnused world more.id → IsKnown world.history id →
    open_call (world.calls ++ more ∷ []) id ≡ Some new → WasOpen world id new
begins world more id new unused known found =
    stayed world id new (sym (open_push world.calls more id (differs more.id id
    (λ same. none_unused world.history more.id unused (subst (IsKnown world.history) (sym same) known)))) ∙ found)

-- one call is changed
changes : (world : World) (changed id : ℕ) (call next new : NodeCall) → IsOpen world changed call → next.id ≡ changed →
    GoesOn call next → open_call (with_open next world.calls) id ≡ Some new → WasOpen world id new
changes world changed id call next new open_there own goes found = go (eqb id changed) refl
  where
    go : (b : Bool) → eqb id changed ≡ b → WasOpen world id new
    go true e =
        let same : id ≡ changed = eqb-true id changed e in
        let is : next ≡ new = same_Some next new
        (sym (ap (λ b. Some (cond b next call)) (eq-eqb changed next.id (sym own)))
        ∙ sym (found_with next world.calls changed call open_there)
        ∙ ap (open_call (with_open next world.calls)) (sym same) ∙ found) in
        record {
          call = call;
          open_there = ap (open_call world.calls) same ∙ open_there;
          goes = subst (GoesOn call) is goes;
        }
    go false e =
        stayed world id new (sym (open_other next world.calls id (λ same. apart (same ∙ own))) ∙ found)
      where
        apart : id ≡ changed → ⊥
        apart same = absurd (let wrong : false ≡ true = sym e ∙ eq-eqb id changed same in cc)

-- a call that takes a message stays in its phase
takes_on : (message : Message) (call : NodeCall) → GoesOn call (taking_open message call)
takes_on message call = go message.body
  where
    go : (b : Body) → GoesOn call (record call { phase = after_body call.phase message.call message.phase message.member b 0 })
    go (body.Request asked) = record { forward = omega arith; phase = inl refl }
    go (body.Reply kind made) =
        pick (is_current call.phase message.call message.phase) (has_taken call.phase.replies message.member)
      where
        pick : (current again : Bool) → GoesOn call (record call {
          phase = cond current (cond again call.phase (with_reply call.phase message.member made 0)) call.phase;
        })
        pick false again = record { forward = omega arith; phase = inl refl }
        pick true true = record { forward = omega arith; phase = inl refl }
        pick true false = record { forward = omega arith; phase = inl refl }

advances : (fragment : Code) (world : World) (other id : ℕ) (call new : NodeCall) (o : Option (Kind × ℕ)) →
    IsOpen world other call → call.id ≡ other → open_call (advanced_world fragment (ticked world) call o).calls id ≡ Some new →
    WasOpen world id new
advances fragment world other id call new None open_there own found = stayed world id new found
advances fragment world other id call new (Some next) open_there own found =
    changes world other id call _ new open_there own (record { forward = omega arith; phase = inr (inl (omega arith)) }) found

serves : (world : World) (message : Message) (b : Body) (id : ℕ) (new : NodeCall) →
    open_call (served_world (ticked world) message b).calls id ≡ Some new → WasOpen world id new
serves world message (body.Request asked) id new found = stayed world id new found
serves world message (body.Reply kind made) id new found = stayed world id new found

-- a change of a call, where a node carries it out
if_found : (world : World) (other id : ℕ) (new : NodeCall) (change : NodeCall → World) →
    ((call : NodeCall) → IsOpen world other call → open_call (change call).calls id ≡ Some new → WasOpen world id new) →
    open_call (on_open (ticked world) (open_call world.calls other) change).calls id ≡ Some new → WasOpen world id new
if_found world other id new change each found = go (open_call world.calls other) refl found
  where
    go : (o : Option NodeCall) → open_call world.calls other ≡ o →
        open_call (on_open (ticked world) o change).calls id ≡ Some new → WasOpen world id new
    go None e there = stayed world id new there
    go (Some call) e there = each call e there

-- an open call whose id was known was open before
pub was_open : (fragment : Code) (world : World) (event : Event) (id : ℕ) (new : NodeCall) → IsOrderly world →
    MayHappen fragment world event → IsPremised world event → IsKnown world.history id →
    IsOpen (happens fragment world event) id new → WasOpen world id new
was_open fragment world (Event.BeginRead node more) id new is may premised known found =
    begins world _ id new premised.ids known found
was_open fragment world (Event.BeginWrite node more value) id new is may premised known found =
    begins world _ id new premised.ids known found
was_open fragment world (Event.BeginMove node more layout) id new is may premised known found =
    begins world _ id new premised.ids known found
was_open fragment world (Event.Advance other) id new is may premised known found =
    if_found world other id new (λ call. advanced_world fragment (ticked world) call (due_phase call))
    (λ call open_there there. advances fragment world other id call new (due_phase call) open_there
    (open_id world other call is open_there) there) found
was_open fragment world (Event.Serve message) id new is may premised known found = serves world message message.body id new found
was_open fragment world (Event.Take message) id new is may premised known found =
    if_found world message.call id new
    (λ call. record (ticked world) { calls = with_open (taking_open message call) world.calls })
    (λ call open_there there. changes world message.call id call (taking_open message call) new open_there
    (open_id world message.call call is open_there) (takes_on message call) there) found
was_open fragment world (Event.Settle other value) id new is may premised known found =
    if_found world other id new
    (λ call. record (ticked world) { calls = with_open (record call { settled = Some value }) world.calls })
    (λ call open_there there. changes world other id call (record call { settled = Some value }) new open_there
    (open_id world other call is open_there)
    (record { forward = omega arith; phase = inr (inr (is_fetch call open_there)) }) there) found
  where
    is_fetch : (call : NodeCall) → IsOpen world other call → IsFetch call.phase.kind
    is_fetch call open_there =
        subst (λ (c : NodeCall). IsFetch c.phase.kind) (same_Some may.0 call (sym may.1 ∙ open_there)) may.2.fetch
was_open fragment world (Event.Answer other) id new is may premised known found =
    if_found world other id new (λ call. answered_world (ticked world) call)
    (λ call open_there there.
    stayed world id new (found_there (λ c. not (eqb c.id call.id)) world.calls id new is.distinct there).0) found
was_open fragment world (Event.GiveUp other) id new is may premised known found =
    stayed world id new (found_there (λ c. not (eqb c.id other)) world.calls id new is.distinct found).0
was_open fragment world (Event.Restart node banks calls) id new is may premised known found =
    stayed world id new (found_there (λ c. not (eqb c.node node && not (is_move c.kind))) world.calls id new is.distinct
    (ap (λ l. open_call l id) (sym premised.log.1) ∙ found)).0
