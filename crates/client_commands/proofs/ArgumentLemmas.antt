-- The arguments of a command, one by one.
use Rattle.std.proofs.Common.{◌≡◌, ℕ, ltb, List, [], ◌∷◌, length, Ok, refl, ap, subst}
use Rattle.std.proofs.lemmas.Bool.{ltb-false, le-ltb}
use Rattle.tag.specs.declared.limits.TheConstants.{LONGEST_NAME, LONGEST_VALUE}
use Rattle.node_strings.specs.Strings.{Strings}
use Rattle.client_commands.specs.Arguments.{checked_name, checked_value, only_argument, name_and_value}
use Rattle.client_commands.specs.Command.{IsShortName, IsShortValue}
use Rattle.client_commands.specs.declared.command.CommandName.{CommandName}
use Rattle.client_commands.specs.declared.fault.CommandFault.TheVariants.{NameTooLong, ValueTooLong}
use Rattle.words.proofs.PartLemmas.{guarded_above, ok_is}

-- ---- what they say

pub only_ok : (name : CommandName) (arguments : Strings) (x : List ℕ) → only_argument name arguments ≡ Ok x → arguments ≡ x ∷ []
only_ok name [] x e = absurd cc
only_ok name (y ∷ []) x e = ap (λ (s : List ℕ). s ∷ []) (ok_is y x e)
only_ok name (y ∷ z ∷ zs) x e = absurd cc

pub both_ok : (arguments : Strings) (p : List ℕ × List ℕ) → name_and_value arguments ≡ Ok p → arguments ≡ p.0 ∷ p.1 ∷ []
both_ok [] p e = absurd cc
both_ok (x ∷ []) p e = absurd cc
both_ok (x ∷ y ∷ []) p e = ap (λ (q : List ℕ × List ℕ). q.0 ∷ q.1 ∷ []) (ok_is (x, y) p e)
both_ok (x ∷ y ∷ z ∷ zs) p e = absurd cc

pub name_ok : (name x : List ℕ) → checked_name name ≡ Ok x → (name ≡ x) × IsShortName x
name_ok name x e =
    let a = guarded_above (ltb LONGEST_NAME (length name)) NameTooLong (Ok name) x e in
    let is = ok_is name x a.1 in
    (is, subst IsShortName is (ltb-false LONGEST_NAME (length name) a.0))

pub value_ok : (value x : List ℕ) → checked_value value ≡ Ok x → (value ≡ x) × IsShortValue x
value_ok value x e =
    let a = guarded_above (ltb LONGEST_VALUE (length value)) ValueTooLong (Ok value) x e in
    let is = ok_is value x a.1 in
    (is, subst IsShortValue is (ltb-false LONGEST_VALUE (length value) a.0))

pub name_again : (name : List ℕ) → IsShortName name → checked_name name ≡ Ok name
name_again name le = rw (le-ltb LONGEST_NAME (length name) le) refl

pub value_again : (value : List ℕ) → IsShortValue value → checked_value value ≡ Ok value
value_again value le = rw (le-ltb LONGEST_VALUE (length value) le) refl
