-- A call that is to send pieces has the value, and for as many members as there are.
use Rattle.std.proofs.Common.{◌≡◌, ℕ, suc, ◌<◌, ◌⊎◌, true, false, length, get_or}
use Rattle.std.proofs.Common.{Some, IsSome, refl, sym, subst, ap, ◌∙◌, inl, inr, arith, slice_get}
use Rattle.std.proofs.lemmas.Bool.{cases_eq}
use Rattle.std.proofs.lemmas.Option.{same_Some, slice_get_within, slice_get-get_or}
use Rattle.tag.specs.declared.tag.Tag.{Tag}
use Rattle.bank.specs.declared.kind.Kind.{Kind}
use Rattle.bank.specs.declared.kind.Kind.TheVariants.{PreWrite, Fetch}
use Rattle.mail.specs.Phase.{Phase, lacks_pieces}
use Rattle.record.specs.declared.call.CallKind.{CallKind}
use Rattle.record.specs.declared.call.CallKind.TheVariants.{Write}
use Rattle.record.specs.Records.{Call, Object, layout_at, base_of}
use Rattle.record.specs.PhaseOrder.{IsCourse}
use Rattle.record.specs.declared.stage.Stage.{Stage}
use Rattle.record.specs.Legal.{first_stage, source_of, due_of}
use Rattle.record.specs.Fragments.{Code, IsFetch}
use Rattle.soundness.specs.Sound.{IsSound}
use Rattle.record.specs.Sending.{sent_value}
use Rattle.record.specs.Wants.{current_phase, want_of}
use Rattle.record.specs.Preconditions.{IsPreWrite, WantsPieces, AwaitsPieces}
use Rattle.record.specs.declared.stage.Want.TheVariants as wants
use Rattle.soundness.proofs.Sound.FetchBeforeSendLemmas.{Fetches, Fetched, fetched_before_due, fetched_before_sent, unfetched_first}
use Rattle.soundness.proofs.Sound.WantCaseLemmas.{LastAt, last_at}
use Rattle.soundness.proofs.Sound.WantPreconditionLemmas.{supply_ready}

-- The value

-- a fetch before the last phase has settled the value; so has the last phase, where this is given
settled_after : (fragment : Code) (object : Object) (step : ℕ) → IsSound fragment object step → (index : ℕ) (call : Call) →
    slice_get object.calls index ≡ Some call → (phase : Phase) → current_phase call.phases ≡ Some phase →
    (IsFetch phase.kind → IsSome call.settled) → Fetched call.phases → IsSome call.settled
settled_after fragment object step sound index call at phase current last found = go (cases_eq found.place there.place)
  where
    there : LastAt call.phases phase
    there = last_at call.phases phase current

    go : (found.place ≡ there.place) ⊎ (found.place ≡ there.place → ⊥) → IsSome call.settled
    go (inl here) =
        let same : found.phase ≡ phase = same_Some found.phase phase
        (sym found.within ∙ ap (λ i. slice_get call.phases i) here ∙ there.within) in
        last (subst (λ (p : Phase). IsFetch p.kind) same found.fetch)
    go (inr apart) =
        let within = slice_get_within call.phases found.place found.phase found.within in
        let ends = there.last in
        let below : suc found.place < length call.phases = omega (arith, apart) in
        settled_or (sound.settled.before_next index found.place call found.phase
        (get_or call.phases (suc found.place) found.phase) at found.within found.fetch
        (slice_get-get_or call.phases (suc found.place) found.phase below))
      where
        settled_or : IsSome call.settled ⊎ (lacks_pieces found.phase ≡ true) → IsSome call.settled
        settled_or (inl some) = some
        settled_or (inr lacks) = absurd (let no : true ≡ false = sym lacks ∙ found.enough in cc)

-- a phase that sends pieces is no fetch
not_both : (kind : Kind) → IsPreWrite kind → IsFetch kind → ⊥
not_both kind (sent, s) (fetched, f) = let no : PreWrite sent ≡ Fetch fetched = sym s ∙ f in cc

-- a read or a move that sends pieces has settled their value
pub settled_of : (fragment : Code) (object : Object) (step : ℕ) → IsSound fragment object step → (index : ℕ) (call : Call) →
    slice_get object.calls index ≡ Some call →
    Fetches call.kind → WantsPieces object index call ⊎ AwaitsPieces object index call → IsSome call.settled
settled_of fragment object step sound index call at fetches takes = go takes
  where
    first : Stage
    first = first_stage call.kind (source_of object index)

    course : IsCourse call.kind call.id first call.phases
    course = (sound.legal.calls index call at).course

    go : WantsPieces object index call ⊎ AwaitsPieces object index call → IsSome call.settled
    go (inl wanted) =
        let both = supply_ready object index call wanted.0 wanted.1 wanted.2.1 in
        let next = both.1 in
        settled_after fragment object step sound index call at both.0.phase both.0.current both.0.settled
        (fetched_before_due call.kind fetches call.id call.phases first course (unfetched_first call.kind (source_of object index))
        (base_of object) (next.tag, next.position, next.is_due))
    go (inr awaits) =
        let phase = awaits.0 in
        let there = last_at call.phases phase awaits.1.current in
        settled_after fragment object step sound index call at phase awaits.1.current
        (λ fetch. absurd (not_both phase.kind awaits.2 fetch))
        (fetched_before_sent call.kind fetches call.id call.phases first course (unfetched_first call.kind (source_of object index))
        there.place phase there.within awaits.2)

-- a call that wants its pieces, or that sends them, has their value
pub sent_there : (fragment : Code) (object : Object) (step : ℕ) → IsSound fragment object step → (index : ℕ) (call : Call) →
    slice_get object.calls index ≡ Some call →
    WantsPieces object index call ⊎ AwaitsPieces object index call → IsSome (sent_value call.kind call.settled)
sent_there fragment object step sound index call at takes = go call.kind refl
  where
    go : (kind : CallKind) → call.kind ≡ kind → IsSome (sent_value kind call.settled)
    go (Write value) is = refl
    go _ is = settled_of fragment object step sound index call at (subst Fetches (sym is) tt) takes

-- How many pieces

-- the pieces that a call wants are for the threshold and the members of the layout where they are due
pub supply_counts : (object : Object) (index : ℕ) (call : Call) (k n : ℕ) → want_of object index call ≡ wants.Supply k n →
    (tag : Tag) × (position : ℕ) × (due_of object index call ≡ Some (PreWrite tag, position))
    × (k ≡ (layout_at object position).k) × (n ≡ length (layout_at object position).members)
supply_counts object index call k n e = grind (arith, supply_ready)
