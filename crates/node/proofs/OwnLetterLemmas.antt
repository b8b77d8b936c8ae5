-- Letters of a node to itself: each one that waits is among those that it sent.
use Rattle.std.proofs.Common.{◌≡◌, ℕ, zero, suc, Bool, true, false, cond, ◌==◌, List, [], ◌∷◌, ◌++◌}
use Rattle.std.proofs.Common.{Some, slice_get, refl, sym, subst}
use Rattle.std.specs.List.{AllByRecursion}
use Rattle.deeds.specs.Named.{NamedLetter as Named, IsOneOf}
use Rattle.deeds.proofs.NameLemmas.{one_of_first, one_of_second}
use Rattle.open_calls.proofs.ListLemmas.{all_weaker}
use Rattle.letter.specs.declared.letter.NamedLetter.{NamedLetter}
use Rattle.node_effects.specs.Seen.{named_of}
use Rattle.node_keeper.specs.Keeping.{heeds, if_heeded, kept_of}
use Rattle.node_keeper.specs.Sendings.{Sending, letters_of, to_itself}
use Rattle.node_keeper.specs.declared.keeper.Keeper.{Keeper}
use Rattle.node_keeper.proofs.SendingLemmas.{letters_append}

-- a letter of the node to itself is one of those that it sent
abbrev pub WasSent : List Sending → NamedLetter → Type 0
WasSent sends it = IsOneOf (letters_of sends) (named_of it)

later : (send : Sending) (sends : List Sending) (it : NamedLetter) → WasSent sends it → WasSent (send ∷ sends) it
later send sends it is = (suc is.0, is.1)

pub own_were_sent : (number : ℕ) (sends : List Sending) → AllByRecursion (WasSent sends) (to_itself number sends)
own_were_sent number [] = tt
own_were_sent number (send ∷ sends) =
    go (send.to == number)
    (all_weaker (WasSent sends) (WasSent (send ∷ sends)) (later send sends) (to_itself number sends) (own_were_sent number sends))
  where
    go : (b : Bool) → AllByRecursion (WasSent (send ∷ sends)) (to_itself number sends) →
        AllByRecursion (WasSent (send ∷ sends)) (cond b (send.it ∷ to_itself number sends) (to_itself number sends))
    go true rest = ((0, refl), rest)
    go false rest = rest

pub one_before : (first second : List Sending) (letter : Named) → IsOneOf (letters_of first) letter →
    IsOneOf (letters_of (first ++ second)) letter
one_before first second letter is =
    subst (λ xs. IsOneOf xs letter) (sym (letters_append first second))
    (one_of_first (letters_of first) (letters_of second) letter is)

pub sent_before : (first second : List Sending) (it : NamedLetter) → WasSent first it → WasSent (first ++ second) it
sent_before first second it is = one_before first second (named_of it) is

pub sent_after : (first second : List Sending) (it : NamedLetter) → WasSent second it → WasSent (first ++ second) it
sent_after first second it is =
    subst (λ xs. IsOneOf xs (named_of it)) (sym (letters_append first second))
    (one_of_second (letters_of first) (letters_of second) (named_of it) is)

-- a letter that is heeded is the one that came
pub heeded_is : (keeper : Keeper) (it letter : Named) → IsOneOf (if_heeded (kept_of keeper) it) letter → IsOneOf (it ∷ []) letter
heeded_is keeper it letter is = go (heeds (kept_of keeper) it) is
  where
    go : (b : Bool) → IsOneOf (cond b (it ∷ []) []) letter → IsOneOf (it ∷ []) letter
    go true is = is
    go false is = absurd (none is.0 is.1)
      where
        none : (i : ℕ) → slice_get [] i ≡ Some letter → ⊥
        none i e = cc

-- one of the letters that were sent
pub sent_one : (sends : List Sending) (it : NamedLetter) (letter : Named) → WasSent sends it →
    IsOneOf (named_of it ∷ []) letter → IsOneOf (letters_of sends) letter
sent_one sends it letter sent is = subst (λ l. IsOneOf (letters_of sends) l) (only is.0 is.1) sent
  where
    only : (i : ℕ) → slice_get (named_of it ∷ []) i ≡ Some letter → named_of it ≡ letter
    only zero e = cc
    only (suc i) e = absurd (cc)
