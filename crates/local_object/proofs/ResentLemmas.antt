-- The letters that a call sends again are those of its current phase.
use Rattle.std.proofs.Common.{◌≡◌, ℕ, suc, ◌+◌, Bool, true, false, cond, not, List, [], ◌∷◌, slice_get, filter}
use Rattle.std.proofs.Common.{Option, Some, None, refl, sym, ap, ◌∙◌, arith}
use Rattle.std.specs.List.{AllByRecursion}
use Rattle.layout.specs.Layout.{Layout}
use Rattle.mail.specs.Phase.{has_taken}
use Rattle.record.specs.Fragments.{Code}
use Rattle.open_calls.specs.OpenCalls.{NodeCall, open_call}
use Rattle.call.specs.Call.{OpenCall as Machine}
use Rattle.letter.specs.declared.letter.Letter.{Letter}
use Rattle.local_object.specs.Coding.{is_sendable}
use Rattle.local_object.specs.Going.{is_restart, next_here}
use Rattle.local_object.specs.Local.{LocalObject, layout_here}
use Rattle.local_object.specs.May.{IsCarriedOut}
use Rattle.local_object.specs.Resent.{IsResent, current_letters, letters_again, letters_again_at, letters_again_of}
use Rattle.local_object.specs.Sent.{due_again, unanswered}
use Rattle.local_object.specs.Taking.{machine_of}

-- the letters that a call sends again, by whether it is to begin anew
pub all_again : (call : Machine) (letters : List Letter) → is_restart (next_here call) ≡ true → due_again call letters ≡ letters
all_again call letters anew = ap (λ b. cond b letters (unanswered call.phase.replies letters)) anew

pub some_again : (call : Machine) (letters : List Letter) → is_restart (next_here call) ≡ false
    → due_again call letters ≡ unanswered call.phase.replies letters
some_again call letters anew = ap (λ b. cond b letters (unanswered call.phase.replies letters)) anew

if_passing : {X : Type 0} (P : X → Type 0) (x : X) (xs : List X) → P x → AllByRecursion P xs → (passes : Bool)
    → AllByRecursion P (cond passes (x ∷ xs) xs)
if_passing P x xs first others true = (first, others)
if_passing P x xs first others false = others

-- what holds of all elements holds of those that pass a test
all_passing : {X : Type 0} (P : X → Type 0) (p : X → Bool) (xs : List X) → AllByRecursion P xs → AllByRecursion P (filter p xs)
all_passing {X} P p [] all = tt
all_passing {X} P p (x ∷ xs) all = if_passing P x (filter p xs) all.0 (all_passing P p xs all.1) (p x)

-- each element of a list has its place in it; these are the elements from a place on
all_placed : {X : Type 0} (P : X → Type 0) (all rest : List X) (first : ℕ)
    → ((i : ℕ) → slice_get rest i ≡ slice_get all (first + i))
    → ((place : ℕ) (x : X) → slice_get all place ≡ Some x → P x) → AllByRecursion P rest
all_placed P all [] first same holds = tt
all_placed P all (x ∷ rest) first same holds = (
  holds (first + 0) x (sym (same 0)),
  all_placed P all rest (suc first)
      (λ i. same (suc i) ∙ ap (slice_get all) (let e : first + suc i ≡ suc first + i = omega arith in e)) holds,
)

module _ (fragment : Code) (local : LocalObject) (id : ℕ) where
  module _ (call : NodeCall) (carried : IsCarriedOut local id call) where
    current_resent : (layout : Layout) → layout_here local call.phase.position ≡ Some layout
        → AllByRecursion (IsResent fragment local) (current_letters fragment local call layout)
    current_resent layout known =
        let letters = current_letters fragment local call layout in
        all_placed (IsResent fragment local) letters letters 0 (λ i. ap (slice_get letters) (let e : i ≡ 0 + i = omega arith in e))
        (λ place letter at. record {
          id = id;
          call = call;
          carried = carried;
          layout = layout;
          known = known;
          place = place;
          at = at;
        })

    asked_resent : (letters : List Letter) → AllByRecursion (IsResent fragment local) letters
        → AllByRecursion (IsResent fragment local) (due_again (machine_of call) letters)
    asked_resent letters all = go (is_restart (next_here (machine_of call)))
      where
        go : (anew : Bool) → AllByRecursion (IsResent fragment local) (cond anew letters (unanswered call.phase.replies letters))
        go true = all
        go false =
            all_passing (IsResent fragment local) (λ (letter : Letter). not (has_taken call.phase.replies letter.message.member)) letters
            all

    if_sendable : (sendable : Bool) (letters : List Letter) → AllByRecursion (IsResent fragment local) letters
        → AllByRecursion (IsResent fragment local) (cond sendable letters [])
    if_sendable true letters all = all
    if_sendable false letters all = tt

    resent_at : (known : Option Layout) → layout_here local call.phase.position ≡ known
        → AllByRecursion (IsResent fragment local) (letters_again_at fragment local call known)
    resent_at None is = tt
    resent_at (Some layout) is =
        if_sendable (is_sendable call.phase.kind (machine_of call)) _ (asked_resent _ (current_resent layout is))

  resent_of : (found : Option NodeCall) → open_call local.calls id ≡ found
      → AllByRecursion (IsResent fragment local) (letters_again_of fragment local found)
  resent_of None is = tt
  resent_of (Some call) is = resent_at call is (layout_here local call.phase.position) refl

  pub all_resent : AllByRecursion (IsResent fragment local) (letters_again fragment local id)
  all_resent = resent_of (open_call local.calls id) refl
