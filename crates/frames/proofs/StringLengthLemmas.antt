-- The test of the strings' lengths.
use Rattle.std.proofs.Common.{◌≡◌, ℕ, Bool, true, false, List, [], ◌∷◌, length, leb, refl, sym, ◌∙◌}
use Rattle.std.specs.List.{AllByRecursion, list_all}
use Rattle.std.proofs.lemmas.Bool.{leb-true, le-leb, and_parts, and_from, both_ways}
use Rattle.frames.specs.declared.limits.TheConstants.{LONGEST_STRING}
use Rattle.frames.specs.Frame.{IsShort}

abbrev tested : List (List ℕ) → Bool
tested strings = list_all (λ string. leb (length string) LONGEST_STRING) strings

short_if : (strings : List (List ℕ)) → tested strings ≡ true → AllByRecursion IsShort strings
short_if [] e = tt
short_if (s ∷ ss) e = let p = and_parts _ _ e in (leb-true _ _ p.0, short_if ss p.1)

only_if : (strings : List (List ℕ)) → AllByRecursion IsShort strings → tested strings ≡ true
only_if [] h = refl
only_if (s ∷ ss) h = and_from _ _ (le-leb _ _ h.0) (only_if ss h.1)

pub all_short : (strings : List (List ℕ)) (test : Bool) → test ≡ tested strings → test ≡ true → AllByRecursion IsShort strings
all_short strings test e h = short_if strings (sym e ∙ h)

pub not_short : (strings : List (List ℕ)) (test : Bool) → test ≡ tested strings → test ≡ false → AllByRecursion IsShort strings → ⊥
not_short strings test e h f = both_ways test h (e ∙ only_if strings f)
