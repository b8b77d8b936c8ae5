-- Which calls are open at an object where only moves are, after it takes a letter again, and which call that ends.
use Rattle.std.proofs.Common.{◌≡◌, inl, inr, ℕ, Bool, true, false, cond, eqb, is_some, not, List, [], ◌∷◌, ◌++◌, Option, None, Some}
use Rattle.std.proofs.Common.{◌&&◌, refl, sym, subst, ap, ◌∙◌}
use Rattle.bank.specs.declared.kind.Kind.{Kind}
use Rattle.call.specs.Call.{reached}
use Rattle.call.specs.declared.next.Next.{Next}
use Rattle.call.specs.declared.next.Next.TheVariants as next
use Rattle.encoder.specs.Fragment.{fragment}
use Rattle.letter.specs.declared.letter.Letter.{Letter}
use Rattle.record.specs.Legal.{is_move}
use Rattle.open_calls.specs.OpenCalls.{NodeCall, open_call}
use Rattle.open_calls.proofs.OpenCallLemmas.{all_filter, found}
use Rattle.local_object.specs.declared.progress.Ended.{Ended}
use Rattle.local_object.specs.Doing.{is_taken}
use Rattle.local_object.specs.Ended.{all_told, told_if}
use Rattle.local_object.specs.Events.{LocalEvent, all_done, done_here}
use Rattle.local_object.specs.Going.{next_if}
use Rattle.local_object.specs.Local.{LocalObject}
use Rattle.local_object.specs.Querying.{query_by, query_events, stands_for_query}
use Rattle.local_object.specs.Replies.{IsReplyOutcome}
use Rattle.local_object.specs.Taking.{AreSettling, begin_anew_events, begin_events, call_events, can_begin}
use Rattle.local_object.specs.Taking.{can_begin_anew, going_events, grows_by, is_read_begin, lead_events, machine_of, repeats}
use Rattle.local_object.specs.Taking.{restart_events, step_events}
use Rattle.recoveries.proofs.EarlyMoveLemmas.{no_early_move}
use Rattle.recoveries.proofs.KeptCallLemmas.{found_id}
use Rattle.recoveries.proofs.QueriedLemmas.{after_reply}
use Rattle.recoveries.proofs.TakenReplyLemmas.{gone_on, taken_to}
use Rattle.node_keeper.specs.Delivering.{first_id}
use Rattle.node.proofs.OpenObjectLemmas.{HasOnlyMoves, advance_keeps, anew_keeps, is_open, none_without, others_without}
use Rattle.node.proofs.OpenObjectLemmas.{settle_keeps, take_keeps}

-- where only moves were open, only moves are, and under the same ids, but for the one that ended, if one is given
abbrev pub EndsOpen : (old : LocalObject) → (ended : Option ℕ) → (new : LocalObject) → Type 0
EndsOpen old None new = (id : ℕ) → is_open new id ≡ is_open old id
EndsOpen old (Some ended) new = (is_open old ended ≡ true) × (is_open new ended ≡ false)
    × ((id : ℕ) → (id ≡ ended → ⊥) → is_open new id ≡ is_open old id)

ends_then : (a b c : LocalObject) (ended : Option ℕ) → ((id : ℕ) → is_open b id ≡ is_open a id) → EndsOpen b ended c → EndsOpen a ended c
ends_then a b c None same ends = λ id. ends id ∙ same id
ends_then a b c (Some ended) same ends =
    (sym (same ended) ∙ ends.0, ends.1, λ id apart. ends.2 id apart ∙ same id)

-- a call is answered
answer_ends : (local : LocalObject) (id : ℕ) (call : NodeCall) → open_call local.calls id ≡ Some call → HasOnlyMoves local →
    HasOnlyMoves (done_here fragment local (LocalEvent.Answer call.id)).local
    × EndsOpen local (Some call.id) (done_here fragment local (LocalEvent.Answer call.id)).local
answer_ends local id call e all = (
  all_filter (λ (call : NodeCall). is_move call.kind ≡ true) (λ c. not (eqb c.id call.id)) local.calls all,
  (
    ap (λ i. is_open local i) (found_id local.calls id call e) ∙ ap is_some e,
    none_without call.id local.calls,
    λ other apart. others_without call.id other apart local.calls,
  ),
)

-- what is told of it
answer_told : (local : LocalObject) (id : ℕ) (call : NodeCall) → open_call local.calls id ≡ Some call →
    first_id (all_told fragment local (LocalEvent.Answer call.id ∷ [])) ≡ Some call.id
answer_told local id call e =
    ap (λ o. first_id (told_if o ++ [])) (ap (open_call local.calls) (found_id local.calls id call e) ∙ e)

-- the outcome of events by which calls may end
abbrev EndsBy : LocalObject → List LocalEvent → Type 0
EndsBy local events = HasOnlyMoves (all_done fragment local events).local
    × EndsOpen local (first_id (all_told fragment local events)) (all_done fragment local events).local

module _ (local : LocalObject) (all : HasOnlyMoves local) where
  nothing : EndsBy local []
  nothing = (all, λ id. refl)

  begins : (call : NodeCall) (kind : Kind) (position : ℕ) → EndsBy local (begin_events local.places (machine_of call) kind position)
  begins call kind position = go (can_begin local.places (machine_of call) kind position)
    where
      go : (b : Bool) → EndsBy local (cond b (LocalEvent.Advance call.id ∷ []) [])
      go true = advance_keeps local call.id all
      go false = (all, λ id. refl)

  restarts : (call : NodeCall) (kind : Kind) (position : ℕ) → EndsBy local (restart_events local (machine_of call) kind position)
  restarts call kind position = go (is_read_begin (reached (machine_of call)))
    where
      anew : (b : Bool) → EndsBy local (cond b (LocalEvent.BeginAnew call.id ∷ []) [])
      anew true = anew_keeps local call.id all
      anew false = (all, λ id. refl)

      go : (b : Bool) → EndsBy local
          (cond b (begin_anew_events local (machine_of call)) (begin_events local.places (machine_of call) kind position))
      go true = anew (can_begin_anew local (machine_of call))
      go false = begins call kind position

  steps : (id : ℕ) (call : NodeCall) → open_call local.calls id ≡ Some call → (n : Next) →
      EndsBy local (step_events local (machine_of call) n)
  steps id call e next.Wait = nothing
  steps id call e next.Settle = nothing
  steps id call e (next.Restart kind position) = restarts call kind position
  steps id call e (next.Begin kind position) = begins call kind position
  steps id call e next.Answer =
      let ends = answer_ends local id call e all in (
        ends.0,
        subst (λ (o : Option ℕ). EndsOpen local o (done_here fragment local (LocalEvent.Answer call.id)).local)
            (sym (answer_told local id call e)) ends.1,
      )

  leads : (again : Bool) (id : ℕ) → EndsBy local (lead_events again local id)
  leads again id = go (open_call local.calls id) refl
    where
      go : (o : Option NodeCall) → open_call local.calls id ≡ o → EndsBy local (call_events again local o)
      go None e = (all, λ other. refl)
      go (Some call) e = steps id call e (next_if again (machine_of call))

-- the start grows by the call, if it can, and the call goes on
goes : (local : LocalObject) → HasOnlyMoves local → (again : Bool) (id : ℕ) → EndsBy local (going_events again local id)
goes local all again id = go (grows_by local (open_call local.calls id))
  where
    grows : Bool → List LocalEvent
    grows b = cond b (LocalEvent.Grow id ∷ []) []

    go : (b : Bool) → EndsBy local (grows b ++ lead_events again (all_done fragment local (grows b)).local id)
    go true =
        let grown = (done_here fragment local (LocalEvent.Grow id)).local in
        let ends = leads grown all again id in
        (ends.0, ends_then local grown _ _ (λ other. refl) ends.1)
    go false = leads local all again id

-- the call settles what it fetched, if it can, and goes on
goes_on : (local : LocalObject) (again : Bool) (id : ℕ) (settling : List LocalEvent) → AreSettling local id settling → HasOnlyMoves local →
    HasOnlyMoves (gone_on again local id settling) × EndsOpen local
    (first_id (all_told fragment local (settling ++ going_events again (all_done fragment local settling).local id)))
    (gone_on again local id settling)
goes_on local again id settling (inl none) all =
    subst (λ (es : List LocalEvent). HasOnlyMoves (gone_on again local id es) × EndsOpen local
    (first_id (all_told fragment local (es ++ going_events again (all_done fragment local es).local id))) (gone_on again local id es))
    (sym none.0) (goes local all again id)
goes_on local again id settling (inr some) all =
    let settled = (done_here fragment local (LocalEvent.Settle id some.0)).local in
    let kept = settle_keeps local id some.0 all in
    let ends = goes settled kept.0 again id in
    subst (λ (es : List LocalEvent). HasOnlyMoves (gone_on again local id es) × EndsOpen local
    (first_id (all_told fragment local (es ++ going_events again (all_done fragment local es).local id))) (gone_on again local id es))
    (sym some.2) (ends.0, ends_then local settled _ _ kept.1 ends.1)

-- a first reading of a move does not stand for a query
not_standing : (move reads told : Bool) → move ≡ true → ((not move && reads) && told) ≡ false
not_standing true reads told e = refl
not_standing false reads told e = absurd (cc)

no_query : (local : LocalObject) → HasOnlyMoves local → (id : ℕ) → query_events local id ≡ []
no_query local all id = go (open_call local.calls id) refl
  where
    go : (o : Option NodeCall) → open_call local.calls id ≡ o → query_by local o ≡ []
    go None e = refl
    go (Some call) e =
        let move = found (λ (call : NodeCall). is_move call.kind ≡ true) local.calls id call all e in
        let stands : stands_for_query local call ≡ false = not_standing (is_move call.kind) _ _ move.0 in
        ap (λ b. cond b (LocalEvent.Query call.id ∷ []) []) stands

-- the call makes no query of its first reading, settles what it fetched, if it can, and goes on
asks_on : (local : LocalObject) (again : Bool) (id : ℕ) (asked settling : List LocalEvent) → asked ≡ [] →
    AreSettling (all_done fragment local asked).local id settling → HasOnlyMoves local →
    HasOnlyMoves (gone_on again (all_done fragment local asked).local id settling) × EndsOpen local
    (first_id (all_told fragment local (asked ++ settling ++ going_events again
    (all_done fragment local (asked ++ settling)).local id)))
    (gone_on again (all_done fragment local asked).local id settling)
asks_on local again id asked settling none settles all =
    subst (λ (es : List LocalEvent). HasOnlyMoves (gone_on again (all_done fragment local es).local id settling) × EndsOpen local
    (first_id (all_told fragment local (es ++ settling ++ going_events again
    (all_done fragment local (es ++ settling)).local id)))
    (gone_on again (all_done fragment local es).local id settling))
    (sym none)
    (goes_on local again id settling
    (subst (λ (es : List LocalEvent). AreSettling (all_done fragment local es).local id settling) none settles) all)

-- a letter is taken
pub take_ends : (old : LocalObject) (letter : Letter) (new : LocalObject) (sent : List Letter) (ended : List Ended) →
    IsReplyOutcome (is_taken old letter) old letter new sent ended → HasOnlyMoves old →
    HasOnlyMoves new × EndsOpen old (first_id ended) new
take_ends old letter new sent ended taken all = go (is_taken old letter) taken
  where
    go : (b : Bool) → IsReplyOutcome b old letter new sent ended → HasOnlyMoves new × EndsOpen old (first_id ended) new
    go false none =
        subst (λ (l : LocalObject). HasOnlyMoves l × EndsOpen old (first_id ended) l) (sym none.done.local)
        (all, subst (λ (es : List Ended). EndsOpen old (first_id es) old) (sym none.told) (λ id. refl))
    go true (inl early) =
        let kept = take_keeps old letter all in
        let first = (done_here fragment old (LocalEvent.Take letter)).local in
        let call = found (λ (call : NodeCall). is_move call.kind ≡ true) first.calls letter.message.call early.can.call kept.0
        early.can.carried in
        absurd (no_early_move first letter.message.call early.can.call early.can.carried call.0 early.returned early.can)
    go true (inr gone) =
        let id = letter.message.call in
        let again = repeats old letter in
        let first = (done_here fragment old (LocalEvent.Take letter)).local in
        let kept = take_keeps old letter all in
        let asked = query_events first id in
        let ends = asks_on first again id asked gone.settling (no_query first kept.0 id) gone.settles kept.0 in
        let gone_to = gone_on again (after_reply old letter) id gone.settling in
        subst (λ (l : LocalObject). HasOnlyMoves l × EndsOpen old (first_id ended) l) (sym (taken_to old letter new sent ended gone)) (
          ends.0,
          subst (λ (es : List Ended). EndsOpen old (first_id es) gone_to) (sym gone.leads.told)
              (ends_then old first gone_to _ kept.1 ends.1),
        )
