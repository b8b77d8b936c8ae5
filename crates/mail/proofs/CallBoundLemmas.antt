-- The bounds beside messages: what a call makes of them, and what they tell.
use Rattle.std.proofs.Common.{◌≡◌, ℕ, zero, suc, ◌-◌, ◌<◌, ◌≤◌, max, List, [], ◌∷◌, ◌++◌, length, Some, slice_get}
use Rattle.std.proofs.Common.{get_or, slice_set, refl, sym, ap, ◌∙◌, arith}
use Rattle.std.specs.List.{remove}
use Rattle.mail.specs.declared.message.Message.{Message}
use Rattle.mail.specs.Bounds.{AreOthers, AreBounds, AreRising, bounds_from, last_bound}

pub bounds_count : (least : ℕ) (messages : List Message) (bounds : List ℕ) → AreBounds least messages bounds
    → length bounds ≡ length messages
bounds_count least [] [] are = refl
bounds_count least [] (b ∷ bs) are = absurd are
bounds_count least (m ∷ ms) [] are = absurd are
bounds_count least (m ∷ ms) (b ∷ bs) are = ap suc (bounds_count b ms bs are.2)

bounds_weaken : (less least : ℕ) (messages : List Message) (bounds : List ℕ) → less ≤ least → AreBounds least messages bounds
    → AreBounds less messages bounds
bounds_weaken less least [] [] below are = tt
bounds_weaken less least [] (b ∷ bs) below are = absurd are
bounds_weaken less least (m ∷ ms) [] below are = absurd are
bounds_weaken less least (m ∷ ms) (b ∷ bs) below are =
    (let first = are.0 in let l : less ≤ b = omega arith in l, are.1, are.2)

bounds_made : (least : ℕ) (messages : List Message) → AreBounds least messages (bounds_from least messages)
bounds_made least [] = tt
bounds_made least (m ∷ ms) = (
  let l : least ≤ max least m.call = omega arith in l,
  let r : m.call ≤ max least m.call = omega arith in r,
  bounds_made (max least m.call) ms,
)

pub bounds_append : (least : ℕ) (messages : List Message) (bounds : List ℕ) (more : List Message) → AreBounds least messages bounds
    → AreBounds least (messages ++ more) (bounds ++ bounds_from (last_bound least bounds) more)
bounds_append least [] [] more are = bounds_made least more
bounds_append least [] (b ∷ bs) more are = absurd are
bounds_append least (m ∷ ms) [] more are = absurd are
bounds_append least (m ∷ ms) (b ∷ bs) more are = (are.0, are.1, bounds_append b ms bs more are.2)

pub bounds_remove : (least : ℕ) (messages : List Message) (bounds : List ℕ) (place : ℕ) → AreBounds least messages bounds
    → AreBounds least (remove messages place) (remove bounds place)
bounds_remove least [] [] zero are = tt
bounds_remove least [] [] (suc place) are = tt
bounds_remove least [] (b ∷ bs) place are = absurd are
bounds_remove least (m ∷ ms) [] place are = absurd are
bounds_remove least (m ∷ ms) (b ∷ bs) zero are = bounds_weaken least b ms bs are.0 are.2
bounds_remove least (m ∷ ms) (b ∷ bs) (suc place) are = (are.0, are.1, bounds_remove b ms bs place are.2)

same_first : {A : Type 0} (x y : A) → Some x ≡ Some y → x ≡ y
same_first x y e = cc

pub bounds_set : (least : ℕ) (messages : List Message) (bounds : List ℕ) (place : ℕ) (old new : Message)
    → slice_get messages place ≡ Some old → new.call ≡ old.call → AreBounds least messages bounds
    → AreBounds least (slice_set messages place new) bounds
bounds_set least [] [] place old new at same are = tt
bounds_set least [] (b ∷ bs) place old new at same are = absurd are
bounds_set least (m ∷ ms) [] place old new at same are = absurd are
bounds_set least (m ∷ ms) (b ∷ bs) zero old new at same are =
    let e : new.call ≡ m.call = same ∙ ap (λ (x : Message). x.call) (sym (same_first m old at)) in
    let first = are.1 in (are.0, let r : new.call ≤ b = omega arith in r, are.2)
bounds_set least (m ∷ ms) (b ∷ bs) (suc place) old new at same are = (are.0, are.1, bounds_set b ms bs place old new at same are.2)

least_below : (least : ℕ) (messages : List Message) (bounds : List ℕ) (place : ℕ) → AreBounds least messages bounds
    → place < length bounds → least ≤ get_or bounds place 0
least_below least messages [] place are within = absurd (omega arith)
least_below least [] (b ∷ bs) place are within = absurd are
least_below least (m ∷ ms) (b ∷ bs) zero are within = are.0
least_below least (m ∷ ms) (b ∷ bs) (suc place) are within =
    let first = are.0 in
    let rest : b ≤ get_or bs place 0 = least_below b ms bs place are.2 (omega arith) in omega arith

pub bounds_rise : (least : ℕ) (messages : List Message) (bounds : List ℕ) → AreBounds least messages bounds → AreRising bounds
bounds_rise least messages [] are i j order within = absurd (omega arith)
bounds_rise least [] (b ∷ bs) are i j order within = absurd are
bounds_rise least (m ∷ ms) (b ∷ bs) are zero zero order within = omega arith
bounds_rise least (m ∷ ms) (b ∷ bs) are zero (suc j) order within = least_below b ms bs j are.2 (omega arith)
bounds_rise least (m ∷ ms) (b ∷ bs) are (suc i) zero order within = absurd (omega arith)
bounds_rise least (m ∷ ms) (b ∷ bs) are (suc i) (suc j) order within = bounds_rise b ms bs are.2 i j (omega arith) (omega arith)

-- messages with bounds below a call are of other calls
pub others_below : (call from least : ℕ) (messages : List Message) (bounds : List ℕ) → AreBounds least messages bounds
    → from ≤ length bounds → ((place : ℕ) → place < from → get_or bounds place 0 < call)
    → AreOthers call from messages
others_below call zero least messages bounds are within below = tt
others_below call (suc from) least messages [] are within below = absurd (omega arith)
others_below call (suc from) least [] (b ∷ bs) are within below = absurd are
others_below call (suc from) least (m ∷ ms) (b ∷ bs) are within below =
    let bounded = are.1 in
    let first : b < call = below 0 (omega arith) in (
      λ e. let h : m.call ≡ call = e in omega arith,
      others_below call from b ms bs are.2 (omega arith) (λ place h. below (suc place) (omega arith)),
    )

-- the last bound is the one at the end
pub last_at : (least : ℕ) (bounds : List ℕ) (bound : ℕ) → slice_get bounds (length bounds - 1) ≡ Some bound
    → last_bound least bounds ≡ bound
last_at least [] bound at = absurd (cc)
last_at least (b ∷ []) bound at = same_first b bound at
last_at least (b ∷ c ∷ bs) bound at =
    let e : length (b ∷ c ∷ bs) - 1 ≡ suc (length (c ∷ bs) - 1) = omega arith in
    last_at b (c ∷ bs) bound (ap (slice_get (b ∷ c ∷ bs)) (sym e) ∙ at)
