-- Which clients are free, call by call.
use Rattle.std.proofs.Common.{◌≡◌, ◌≢◌, ◌<◌, ◌≤◌, ℕ, max, List, [], ◌∷◌, ◌++◌, length, get_or, set}
use Rattle.std.proofs.Common.{Option, Some, None, refl, sym, ap, subst, ◌∙◌, inl, inr, arith}
use Rattle.std.specs.Prelude.{slice_get}
use Rattle.std.proofs.lemmas.Bool.{cases_lt}
use Rattle.record.specs.declared.call.Entry.{Entry}
use Rattle.record.specs.declared.call.Operation.TheVariants as operation
use Rattle.atomicity.specs.Atomic.{IsAnsweredBefore, no_entry}
use Rattle.exports.specs.declared.event.Process.{Process}
use Rattle.exports.specs.declared.event.Process.TheVariants as process
use Rattle.exports.specs.Clients.{AreBusy, TakesProcess, later}
use Rattle.exports.proofs.FollowsLemmas.{Follows, IsAnsweredBy, IsKept, answered_by, later_than, to_nemesis}
use Rattle.exports.proofs.FollowsLemmas as known
use Rattle.exports.proofs.ListLemmas.{changed, last, length-changed, length-pushed, pushed, within}

module _ (entries : List Entry) (processes : List Process) (old new : List (Option ℕ)) (so_far : Follows entries processes old)
    (client : ℕ) (is : (get_or entries (length processes) no_entry).kind ≢ operation.Move) where
  abbrev all : List Process
  all = processes ++ process.Client client ∷ []

  same_client : (other : ℕ) → process.Client client ≡ process.Client other → client ≡ other
  same_client = known.same_client entries processes old new so_far client is

  kept_on : (other : ℕ) (kept : Option ℕ) → IsKept entries processes other kept → IsKept entries all other kept
  kept_on = known.kept_on entries processes old new so_far (process.Client client)

  -- all calls have their processes once each client's calls are answered by what is kept of it
  follows_if : (clients : List (Option ℕ))
      → ((i other : ℕ) → slice_get all i ≡ Some (process.Client other) → other < length clients)
      → ((i other by : ℕ) → slice_get all i ≡ Some (process.Client other) → slice_get clients other ≡ Some (Some by)
      → IsAnsweredBy (get_or entries i no_entry) by)
      → ((other : ℕ) (kept : Option ℕ) → slice_get clients other ≡ Some kept → IsKept entries all other kept)
      → client ≤ length old → AreBusy (get_or entries (length processes) no_entry).called old client
      → ((i : ℕ) → slice_get processes i ≡ Some (process.Client client)
      → IsAnsweredBefore (get_or entries i no_entry) (get_or entries (length processes) no_entry))
      → Follows entries all clients
  follows_if clients known_too free_too kept_too there busy before = record {
    moves = known.moves_not entries processes old new so_far client is;
    known = known_too;
    free = free_too;
    kept = kept_too;
    first = known.first_if entries processes old new so_far client is there busy;
    apart = known.apart_if entries processes old new so_far client is before;
  }

  module _ (since : ℕ) (at : slice_get old client ≡ Some (Some since))
      (before : since < (get_or entries (length processes) no_entry).called)
      (set_is : new ≡ set old client (later since (get_or entries (length processes) no_entry).answered)) where
    abbrev next : Option ℕ
    next = later since (get_or entries (length processes) no_entry).answered

    answered_before : (i : ℕ) → slice_get processes i ≡ Some (process.Client client)
        → IsAnsweredBefore (get_or entries i no_entry) (get_or entries (length processes) no_entry)
    answered_before i e =
        let was = so_far.free i client since e at in
        let low = was.2 in
        (was.0, was.1, omega (arith, low, before))

    known_again : (i other : ℕ) → slice_get all i ≡ Some (process.Client other) → other < length (set old client next)
    known_again i other e = elim (pushed processes (process.Client client) (process.Client other) i e) [
      | inl was ↦
          let low = so_far.known i other was in
          let same = length-changed old client next in
          omega (arith, low, same)
      | inr now ↦
          let one : client ≡ other = same_client other now.1 in
          let low = within old client (Some since) at in
          let same = length-changed old client next in
          omega (arith, low, same, one)
    ]

    free_again : (i other by : ℕ) → slice_get all i ≡ Some (process.Client other)
        → slice_get (set old client next) other ≡ Some (Some by) → IsAnsweredBy (get_or entries i no_entry) by
    free_again i other by e f = elim (changed old client other next (Some by) f) [
      | inl this ↦ elim (pushed processes (process.Client client) (process.Client other) i e) [
        | inl was ↦
            let earlier = so_far.free i client since (was ∙ ap (λ (n : ℕ). Some (process.Client n)) this.0) at in
            let low = earlier.2 in
            let most = later_than since by (get_or entries (length processes) no_entry).answered this.1 in
            (earlier.0, earlier.1, omega (arith, low, most))
        | inr now ↦
            subst (λ (n : ℕ). IsAnsweredBy (get_or entries n no_entry) by) (sym now.0)
            (answered_by (get_or entries (length processes) no_entry) since by
            (get_or entries (length processes) no_entry).answered refl this.1)
      ]
      | inr that ↦ elim (pushed processes (process.Client client) (process.Client other) i e) [
        | inl was ↦ so_far.free i other by was that.1
        | inr now ↦ absurd (that.0 (sym (same_client other now.1)))
      ]
    ]

    kept_again : (other : ℕ) (kept : Option ℕ) → slice_get (set old client next) other ≡ Some kept
        → IsKept entries all other kept
    kept_again other kept e = elim (changed old client other next kept e) [
      | inl this ↦
          subst (λ (n : ℕ). IsKept entries all n kept) (sym this.0)
          (subst (IsKept entries all client) this.1 (of_both (get_or entries (length processes) no_entry).answered refl))
      | inr that ↦ kept_on other kept (so_far.kept other kept that.1)
    ]
      where
        this_call : (kept : Option ℕ) → (get_or entries (length processes) no_entry).answered ≡ kept
            → IsKept entries all client kept
        this_call kept is = (length processes, last processes (process.Client client), is)

        of_both : (answered : Option ℕ) → (get_or entries (length processes) no_entry).answered ≡ answered
            → IsKept entries all client (later since answered)
        of_both None is = this_call None is
        of_both (Some step) is = elim (cases_lt since step) [
          | inl less ↦ subst (IsKept entries all client) (ap Some (is_most step less)) (this_call (Some step) is)
          | inr not ↦
              subst (IsKept entries all client) (ap Some (is_least step not))
              (kept_on client (Some since) (so_far.kept client (Some since) at))
        ]
          where
            is_most : (step : ℕ) → since < step → step ≡ max step since
            is_most step less = omega (arith, less)

            is_least : (step : ℕ) → step ≤ since → since ≡ max step since
            is_least step not = omega (arith, not)

    pub to_free : AreBusy (get_or entries (length processes) no_entry).called old client
        → Follows entries (processes ++ process.Client client ∷ []) new
    to_free busy =
        let there = within old client (Some since) at in
        subst (Follows entries all) (sym set_is)
        (follows_if (set old client next) known_again free_again kept_again (omega (arith, there)) busy answered_before)

  module _ (fresh : client ≡ length old) (push_is : new ≡ old ++ (get_or entries (length processes) no_entry).answered ∷ []) where
    abbrev answer : Option ℕ
    answer = (get_or entries (length processes) no_entry).answered

    never : (i other : ℕ) → slice_get processes i ≡ Some (process.Client other) → client ≡ other → ⊥
    never i other e one = let low = so_far.known i other e in omega (arith, low, one, fresh)

    known_more : (i other : ℕ) → slice_get all i ≡ Some (process.Client other) → other < length (old ++ answer ∷ [])
    known_more i other e = elim (pushed processes (process.Client client) (process.Client other) i e) [
      | inl was ↦
          let low = so_far.known i other was in
          let more = length-pushed old answer in
          omega (arith, low, more)
      | inr now ↦
          let one : client ≡ other = same_client other now.1 in
          let more = length-pushed old answer in
          omega (arith, more, one, fresh)
    ]

    free_more : (i other by : ℕ) → slice_get all i ≡ Some (process.Client other)
        → slice_get (old ++ answer ∷ []) other ≡ Some (Some by) → IsAnsweredBy (get_or entries i no_entry) by
    free_more i other by e f = elim (pushed old answer (Some by) other f) [
      | inl that ↦ elim (pushed processes (process.Client client) (process.Client other) i e) [
        | inl was ↦ so_far.free i other by was that
        | inr now ↦
            let one : client ≡ other = same_client other now.1 in
            let low = within old other (Some by) that in
            absurd (omega (arith, low, one, fresh))
      ]
      | inr this ↦ elim (pushed processes (process.Client client) (process.Client other) i e) [
        | inl was ↦ let place = this.0 in absurd (never i other was (let e : client ≡ other = omega (arith, fresh, place) in e))
        | inr now ↦
            subst (λ (n : ℕ). IsAnsweredBy (get_or entries n no_entry) by) (sym now.0)
            (by, this.1, omega arith)
      ]
    ]

    kept_more : (other : ℕ) (kept : Option ℕ) → slice_get (old ++ answer ∷ []) other ≡ Some kept
        → IsKept entries all other kept
    kept_more other kept e = elim (pushed old answer kept other e) [
      | inl was ↦ kept_on other kept (so_far.kept other kept was)
      | inr now ↦
          subst (λ (n : ℕ). IsKept entries all n kept) (fresh ∙ sym now.0)
          (length processes, last processes (process.Client client), now.1)
    ]

    pub to_new : AreBusy (get_or entries (length processes) no_entry).called old client
        → Follows entries (processes ++ process.Client client ∷ []) new
    to_new busy = subst (Follows entries all) (sym push_is)
        (follows_if (old ++ answer ∷ []) known_more free_more kept_more (omega (arith, fresh)) busy
        (λ i e. absurd (never i client e refl)))

-- one more call has its process
pub one_more : (entries : List Entry) (processes : List Process) (old new : List (Option ℕ)) (p : Process)
    → Follows entries processes old → TakesProcess old (get_or entries (length processes) no_entry) new p
    → Follows entries (processes ++ p ∷ []) new
one_more entries processes old new process.Nemesis so_far takes = to_nemesis entries processes old new so_far takes.0 takes.1
one_more entries processes old new (process.Client client) so_far (is, (busy, inl free)) =
    to_free entries processes old new so_far client is free.0 free.1 free.2 free.3 busy
one_more entries processes old new (process.Client client) so_far (is, (busy, inr fresh)) =
    to_new entries processes old new so_far client is fresh.0 fresh.1 busy
