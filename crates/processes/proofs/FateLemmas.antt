-- How many first entries of a log the later starts of a process will find.
use Rattle.std.proofs.Common.{◌≡◌, ◌⊎◌, ◌<◌, ◌≤◌, ◌==◌, if◌then◌else◌, inl, inr, ℕ, Bool, true, false, cond, List, [], ◌∷◌, length}
use Rattle.std.proofs.Common.{Option, None, Some, refl, ltb, arith}
use Rattle.std.specs.Prelude.{⊤, nat_lt}
use Rattle.std.proofs.lemmas.Bool.{ltb-true, ltb-false}
use Rattle.processes.specs.Events.{ProcessEvent, number_of}

-- so many of these first entries remain, if at most so many can
abbrev pub remaining : Option ℕ → (length : ℕ) → ℕ
remaining None length = length
remaining (Some most) length = if nat_lt most length then most else length

-- so many entries remain, where it may be that all do, after an event of the process
abbrev pub fate_by : ProcessEvent → Option ℕ → Option ℕ
fate_by (ProcessEvent.Starts number read None new copy after) later = Some (remaining later (length read))
fate_by (ProcessEvent.Starts number read (Some entries) new copy after) later = Some (length read)
fate_by (ProcessEvent.Rewrites number entries) later = None
fate_by event later = later

-- so many first entries at most will be found by the later starts of the node's process before its log is written anew;
-- nothing is known of a log from which no later start reads
abbrev pub fate : List ProcessEvent → (number : ℕ) → Option ℕ
fate [] number = None
fate (event ∷ events) number =
    if number == number_of event then fate_by event (fate events number) else fate events number

-- at least so many entries remain
abbrev pub AreSafe : Option ℕ → (count : ℕ) → Type 0
AreSafe None count = ⊤
AreSafe (Some most) count = count ≤ most

-- of no more than so many entries, all remain
abbrev pub AllRemain : Option ℕ → (length : ℕ) → Type 0
AllRemain fate length = (count : ℕ) → count ≤ length → remaining fate count ≡ count

-- of so many entries, only the first ones remain
pub record SomeAreLost (fate : Option ℕ) (length : ℕ) : Type 0 where
  pub most : ℕ
  pub less : most < length
  pub below : (count : ℕ) → count ≤ most → remaining fate count ≡ count
  pub above : (count : ℕ) → most ≤ count → remaining fate count ≡ most

pub remains : (most length : ℕ) → length ≤ most → remaining (Some most) length ≡ length
remains most length le = go (ltb most length) refl
  where
    go : (b : Bool) → ltb most length ≡ b → cond b most length ≡ length
    go true e = absurd (let less = ltb-true most length e in omega arith)
    go false e = refl

pub loses : (most length : ℕ) → most ≤ length → remaining (Some most) length ≡ most
loses most length le = go (ltb most length) refl
  where
    go : (b : Bool) → ltb most length ≡ b → cond b most length ≡ most
    go true e = refl
    go false e = let more = ltb-false most length e in omega arith

pub remain_or_lost : (fate : Option ℕ) (length : ℕ) → AllRemain fate length ⊎ SomeAreLost fate length
remain_or_lost None length = inl (λ count le. refl)
remain_or_lost (Some most) length = go (ltb most length) refl
  where
    go : (b : Bool) → ltb most length ≡ b → AllRemain (Some most) length ⊎ SomeAreLost (Some most) length
    go true e = inr (record {
      most = most;
      less = ltb-true most length e;
      below = λ count le. remains most count le;
      above = λ count le. loses most count le;
    })
    go false e = inl (λ count le. remains most count (let more = ltb-false most length e in omega arith))

-- what follows if all entries remain, or what follows if some are lost
pub as_remain_or_lost : {A B : Type 0} (fate : Option ℕ) (length : ℕ) → (AllRemain fate length → A) →
    (SomeAreLost fate length → B) → B ⊎ A
as_remain_or_lost {A} {B} fate length wholly partly = go (remain_or_lost fate length)
  where
    go : AllRemain fate length ⊎ SomeAreLost fate length → B ⊎ A
    go (inl all) = inr (wholly all)
    go (inr lost) = inl (partly lost)

pub most_remain : (fate : Option ℕ) (length : ℕ) → remaining fate length ≤ length
most_remain None length = omega arith
most_remain (Some most) length = go (ltb most length) refl
  where
    go : (b : Bool) → ltb most length ≡ b → cond b most length ≤ length
    go true e = let less = ltb-true most length e in omega arith
    go false e = omega arith

pub safe_remain : (fate : Option ℕ) (count length : ℕ) → AreSafe fate count → count ≤ length → count ≤ remaining fate length
safe_remain None count length safe le = le
safe_remain (Some most) count length safe le = go (ltb most length)
  where
    go : (b : Bool) → count ≤ cond b most length
    go true = safe
    go false = le

pub all_safe : (fate : Option ℕ) (count : ℕ) → AreSafe fate count → remaining fate count ≡ count
all_safe None count safe = refl
all_safe (Some most) count safe = remains most count safe
