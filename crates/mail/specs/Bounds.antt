-- The bounds that are kept beside the messages, and by which the messages of a call are found.
use Rattle.std.specs.Prelude.{◌≢◌, ℕ, zero, suc, ◌<◌, ◌≤◌, max, List, [], ◌∷◌, length, slice_index}
use Rattle.mail.specs.declared.message.Message.{Message}

-- there are at least `from` messages, and the first `from` of them are of other calls
abbrev pub AreOthers : (call from : ℕ) → List Message → Type 0
AreOthers call zero messages = Unit {0}
AreOthers call (suc from) [] = ⊥
AreOthers call (suc from) (message ∷ messages) = (message.call ≢ call) × AreOthers call from messages

-- each message has a bound: at least the message's call number, and at least the bound before it, `least` for the first
abbrev pub AreBounds : (least : ℕ) → List Message → (bounds : List ℕ) → Type 0
AreBounds least [] [] = Unit {0}
AreBounds least [] (bound ∷ bounds) = ⊥
AreBounds least (message ∷ messages) [] = ⊥
AreBounds least (message ∷ messages) (bound ∷ bounds) =
    (least ≤ bound) × (message.call ≤ bound) × AreBounds bound messages bounds

-- the last of the bounds, or `least` if there are none
abbrev pub last_bound : (least : ℕ) → (bounds : List ℕ) → ℕ
last_bound least [] = least
last_bound least (bound ∷ bounds) = last_bound bound bounds

-- the bounds of messages after one whose bound is `least`: the greatest call number so far, at least `least`
abbrev pub bounds_from : (least : ℕ) → List Message → List ℕ
bounds_from least [] = []
bounds_from least (message ∷ messages) =
    let bound = max least message.call in bound ∷ bounds_from bound messages

-- no bound is less than an earlier one
abbrev pub AreRising : (bounds : List ℕ) → Type 0
AreRising bounds =
    (i j : ℕ) → i ≤ j → j < length bounds → slice_index bounds i ≤ slice_index bounds j
