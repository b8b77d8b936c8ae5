-- What is known once some calls have their processes, and what stays known once one more has.
use Rattle.std.proofs.Common.{◌≡◌, ◌≢◌, ◌<◌, ◌≤◌, ◌⊎◌, ℕ, max, List, [], ◌∷◌, ◌++◌, length, get_or}
use Rattle.std.proofs.Common.{Option, Some, None, refl, sym, ap, subst, ◌∙◌, inl, inr, arith}
use Rattle.std.specs.Prelude.{slice_get, ◌↔◌}
use Rattle.std.proofs.lemmas.Bool.{cases_lt}
use Rattle.std.proofs.lemmas.Option.{slice_get_cases}
use Rattle.record.specs.declared.call.Entry.{Entry}
use Rattle.record.specs.declared.call.Operation.TheVariants as operation
use Rattle.atomicity.specs.Atomic.{IsAnsweredBefore, no_entry}
use Rattle.exports.specs.declared.event.Process.{Process}
use Rattle.exports.specs.declared.event.Process.TheVariants as process
use Rattle.exports.specs.Clients.{AreBusy, IsBusy, IsBusyAt, later}
use Rattle.exports.proofs.ListLemmas.{front, last, length-pushed, pushed, same_some, within}

-- the call was answered by a step
abbrev pub IsAnsweredBy : Entry → (step : ℕ) → Type 0
IsAnsweredBy entry by = (step : ℕ) × (entry.answered ≡ Some step) × (step ≤ by)

-- what is kept of a client is the answer of one of its calls
abbrev pub IsKept : List Entry → List Process → (client : ℕ) → (kept : Option ℕ) → Type 0
IsKept entries processes client kept =
    (j : ℕ) × (slice_get processes j ≡ Some (process.Client client)) × ((get_or entries j no_entry).answered ≡ kept)

-- the first calls have these processes, and each client's calls are answered by the step that is kept of it
pub record Follows (entries : List Entry) (processes : List Process) (clients : List (Option ℕ)) : Type 0 where
  pub moves : (i : ℕ) → i < length processes
      → (slice_get processes i ≡ Some process.Nemesis) ↔ ((get_or entries i no_entry).kind ≡ operation.Move)
  pub known : (i client : ℕ) → slice_get processes i ≡ Some (process.Client client) → client < length clients
  pub free : (i client since : ℕ) → slice_get processes i ≡ Some (process.Client client)
      → slice_get clients client ≡ Some (Some since) → IsAnsweredBy (get_or entries i no_entry) since
  pub kept : (client : ℕ) (kept : Option ℕ) → slice_get clients client ≡ Some kept → IsKept entries processes client kept
  pub first : (i client before : ℕ) → slice_get processes i ≡ Some (process.Client client) → before < client
      → IsBusyAt entries processes i before
  pub apart : (i j client : ℕ) → i < j → slice_get processes i ≡ Some (process.Client client)
      → slice_get processes j ≡ Some (process.Client client)
      → IsAnsweredBefore (get_or entries i no_entry) (get_or entries j no_entry)

-- a call whose answer keeps its client busy was not answered before
not_before : (entry next : Entry) (kept : Option ℕ) → entry.answered ≡ kept → IsBusy next.called kept
    → IsAnsweredBefore entry next → ⊥
not_before entry next None is busy before = let answer = before.1 in absurd (let e = sym is ∙ answer in cc)
not_before entry next (Some since) is busy before =
    let same = same_some since before.0 (sym is ∙ before.1) in let early = before.2 in omega (arith, same, early, busy)

pub later_than : (since by : ℕ) (answered : Option ℕ) → later since answered ≡ Some by → since ≤ by
later_than since by None e = absurd (cc)
later_than since by (Some step) e = let is = same_some (max step since) by e in omega (arith, is)

pub answered_by : (entry : Entry) (since by : ℕ) (answered : Option ℕ) → entry.answered ≡ answered → later since answered ≡ Some by
    → IsAnsweredBy entry by
answered_by entry since by None is e = absurd (cc)
answered_by entry since by (Some step) is e =
    let most = same_some (max step since) by e in (step, is, omega (arith, most))

module _ (entries : List Entry) (processes : List Process) (old new : List (Option ℕ)) (so_far : Follows entries processes old) where
  moves_too : (p : Process) → ((p ≡ process.Nemesis) ↔ ((get_or entries (length processes) no_entry).kind ≡ operation.Move))
      → (i : ℕ) → i < length (processes ++ p ∷ [])
      → (slice_get (processes ++ p ∷ []) i ≡ Some process.Nemesis) ↔ ((get_or entries i no_entry).kind ≡ operation.Move)
  moves_too p is i below = elim (cases_lt i (length processes)) [
    | inl early ↦ (
      (λ e. (so_far.moves i early).0 (sym (front processes p i early) ∙ e)),
      (λ m. front processes p i early ∙ (so_far.moves i early).1 m),
    )
    | inr late ↦
        let count = length-pushed processes p in
        let place : length processes ≡ i = omega (arith, count, below, late) in
        subst (λ (n : ℕ). (slice_get (processes ++ p ∷ []) n ≡ Some process.Nemesis)
        ↔ ((get_or entries n no_entry).kind ≡ operation.Move))
        place
        ((λ e. is.0 (same_some p process.Nemesis (sym (last processes p) ∙ e))), λ m. last processes p ∙ ap Some (is.1 m))
  ]

  -- what was kept is kept on
  pub kept_on : (p : Process) (client : ℕ) (kept : Option ℕ) → IsKept entries processes client kept
      → IsKept entries (processes ++ p ∷ []) client kept
  kept_on p client kept (j, at, is) = (j, front processes p j (within processes j (process.Client client) at) ∙ at, is)

  -- a client that was busy was busy
  busy_on : (p : Process) (i client : ℕ) → i < length processes → IsBusyAt entries processes i client
      → IsBusyAt entries (processes ++ p ∷ []) i client
  busy_on p i client low (j, before, at, late) =
      (j, before, front processes p j (omega (arith, before, low)) ∙ at, late)

  pub to_nemesis : (get_or entries (length processes) no_entry).kind ≡ operation.Move → new ≡ old
      → Follows entries (processes ++ process.Nemesis ∷ []) new
  to_nemesis is same = subst (Follows entries (processes ++ process.Nemesis ∷ [])) (sym same) (record {
    moves = moves_too process.Nemesis ((λ _. is), λ _. refl);
    known = λ i client e. so_far.known i client (earlier i client e);
    free = λ i client since e. so_far.free i client since (earlier i client e);
    kept = λ client kept e. kept_on process.Nemesis client kept (so_far.kept client kept e);
    first = λ i client before e less.
        let was = earlier i client e in
        busy_on process.Nemesis i before (within processes i (process.Client client) was) (so_far.first i client before was less);
    apart = λ i j client below e f. so_far.apart i j client below (earlier i client e) (earlier j client f);
  })
    where
      earlier : (i client : ℕ) → slice_get (processes ++ process.Nemesis ∷ []) i ≡ Some (process.Client client)
          → slice_get processes i ≡ Some (process.Client client)
      earlier i client e = elim (pushed processes process.Nemesis (process.Client client) i e) [
        | inl was ↦ was
        | inr now ↦ absurd (let clash = now.1 in cc)
      ]

  module _ (client : ℕ) (is : (get_or entries (length processes) no_entry).kind ≢ operation.Move) where
    abbrev pub all : List Process
    all = processes ++ process.Client client ∷ []

    pub same_client : (other : ℕ) → process.Client client ≡ process.Client other → client ≡ other
    same_client other e = cc

    pub moves_not : (i : ℕ) → i < length all
        → (slice_get all i ≡ Some process.Nemesis) ↔ ((get_or entries i no_entry).kind ≡ operation.Move)
    moves_not = moves_too (process.Client client) ((λ e. absurd (cc)), λ m. absurd (is m))

    -- of two calls of one client, the later one is the last, or both are earlier
    pub apart_if : ((i : ℕ) → slice_get processes i ≡ Some (process.Client client)
        → IsAnsweredBefore (get_or entries i no_entry) (get_or entries (length processes) no_entry))
        → (i j other : ℕ) → i < j → slice_get all i ≡ Some (process.Client other)
        → slice_get all j ≡ Some (process.Client other) → IsAnsweredBefore (get_or entries i no_entry) (get_or entries j no_entry)
    apart_if before i j other below e f = elim (pushed processes (process.Client client) (process.Client other) j f) [
      | inl was_j ↦
          let low = within processes j (process.Client other) was_j in
          so_far.apart i j other below (sym (front processes (process.Client client) i (omega (arith, low, below))) ∙ e) was_j
      | inr now_j ↦
          let at_end = now_j.0 in
          let one : client ≡ other = same_client other now_j.1 in
          let was_i = sym (front processes (process.Client client) i (omega (arith, at_end, below))) ∙ e in
          subst (λ (n : ℕ). IsAnsweredBefore (get_or entries i no_entry) (get_or entries n no_entry)) (sym at_end)
          (before i (was_i ∙ ap (λ (n : ℕ). Some (process.Client n)) (sym one)))
    ]

    -- the clients before the one of the last call are busy
    pub first_if : client ≤ length old → AreBusy (get_or entries (length processes) no_entry).called old client
        → (i other before : ℕ) → slice_get all i ≡ Some (process.Client other) → before < other
        → IsBusyAt entries all i before
    first_if there busy i other before e less = elim (pushed processes (process.Client client) (process.Client other) i e) [
      | inl was ↦
          busy_on (process.Client client) i before (within processes i (process.Client other) was)
          (so_far.first i other before was less)
      | inr now ↦
          let one : client ≡ other = same_client other now.1 in
          subst (λ (n : ℕ). IsBusyAt entries all n before) (sym now.0)
          (witness before (omega (arith, less, one)) (slice_get_cases old before).1)
    ]
      where
        witness : (before : ℕ) → before < client
            → ((x : Option ℕ) × (before < length old) × (slice_get old before ≡ Some x) × (get_or old before x ≡ x))
            ⊎ ((length old ≤ before) × (slice_get old before ≡ None)) → IsBusyAt entries all (length processes) before
        witness before less (inl found) =
            let kept = so_far.kept before found.0 found.2 in
            let low = within processes kept.0 (process.Client before) kept.1 in (
              kept.0,
              low,
              front processes (process.Client client) kept.0 low ∙ kept.1,
              not_before (get_or entries kept.0 no_entry) (get_or entries (length processes) no_entry) found.0 kept.2
                  (busy before found.0 less found.2),
            )
        witness before less (inr none) = let over = none.0 in absurd (omega (arith, over, less, there))
