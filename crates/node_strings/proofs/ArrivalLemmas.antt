-- What is read of a frame that came is what its strings say, and what they say is read.
use Rattle.std.proofs.Common.{◌≡◌, ℕ, ◌^◌, ◌-◌, true, false, cond, List, [], ◌∷◌, ◌++◌}
use Rattle.std.proofs.Common.{Option, Some, None, refl, ap, sym, ◌∙◌, subst, inl, inr, arith, IfSome, ◌&&◌}
use Rattle.std.specs.Prelude.{codes}
use Rattle.std.specs.Fmt.{decimal}
use Rattle.std.specs.Str.{bytes_eq}
use Rattle.std.proofs.lemmas.Bool.{and_parts}
use Rattle.std.proofs.lemmas.Slice.Eq.{bytes_eq-Decides}
use Rattle.node_strings.specs.Strings.{Strings}
use Rattle.node_strings.specs.Parts.{then_read, rest_behind, number_or_none}
use Rattle.node_strings.specs.declared.arrival.Arrival.{Arrival}
use Rattle.node_strings.specs.declared.arrival.Arrival.TheVariants as came
use Rattle.node_strings.specs.Arrival.{IsArrival, arrival_strings, client_arrival, tick_arrival, if_behind, node_arrival}
use Rattle.node_strings.specs.Heard.{are_node_numbers, is_empty}
use Rattle.node_strings.specs.Arrival.{arrival_from, arrival_at}
use Rattle.node_strings.proofs.PartLemmas.{some_is, bind_some, chosen, number_ok, number_again, behind_ok}

-- no string stands behind the address
none_behind : (rest : Strings) → is_empty rest ≡ true → rest ≡ []
none_behind [] e = refl
none_behind (string ∷ rest) e = absurd cc

some_behind : (rest : Strings) → (rest ≡ [] → ⊥) → is_empty rest ≡ false
some_behind [] some = absurd (some refl)
some_behind (string ∷ rest) some = refl

client_ok : (address number : List ℕ) (rest : Strings) (it : Arrival) → address ≡ codes "client " ++ number
    → client_arrival number rest ≡ Some it → address ∷ rest ≡ arrival_strings it
client_ok address number rest it a e =
    let b = bind_some (number_or_none (2 ^ 64 - 1) number)
    (λ client. cond (is_empty rest) (Some (came.Left client)) (Some (came.Command client rest))) it e in
    let n = number_ok (2 ^ 64 - 1) number b.0 (omega arith) (omega arith) b.1 in
    let same = a ∙ ap (λ s. codes "client " ++ s) n.0 in
    elim (chosen (is_empty rest) (Some (came.Left b.0)) (Some (came.Command b.0 rest)) it b.2) [
      | inl h ↦ subst (λ (i : Arrival). address ∷ rest ≡ arrival_strings i) (some_is (came.Left b.0) it h.1)
          (ap (λ (s : List ℕ). s ∷ rest) same ∙ ap (λ (r : Strings). (codes "client " ++ decimal b.0) ∷ r) (none_behind rest h.0))
      | inr h ↦ subst (λ (i : Arrival). address ∷ rest ≡ arrival_strings i) (some_is (came.Command b.0 rest) it h.1)
          (ap (λ (s : List ℕ). s ∷ rest) same)
    ]

tick_ok : (address : List ℕ) (rest : Strings) (it : Arrival) → tick_arrival address rest ≡ Some it → address ∷ rest ≡ arrival_strings it
tick_ok address rest it e =
    let tick : Arrival = came.Tick (record { numbers = rest }) in
    elim (chosen (bytes_eq address (codes "tick") && are_node_numbers rest) (Some tick) None it e) [
      | inl h ↦
          let p = and_parts (bytes_eq address (codes "tick")) (are_node_numbers rest) h.0 in
          subst (λ (i : Arrival). address ∷ rest ≡ arrival_strings i) (some_is tick it h.1)
          (ap (λ (s : List ℕ). s ∷ rest) ((bytes_eq-Decides address (codes "tick")).0 p.0))
      | inr h ↦ absurd cc
    ]

node_ok : (address : List ℕ) (rest : Strings) (it : Arrival) (number : Option (List ℕ)) → rest_behind (codes "node ") address ≡ number
    → if_behind number (λ n. then_read (number_or_none 255 n) (λ node. Some (came.Message node rest))) (tick_arrival address rest) ≡ Some it
    → address ∷ rest ≡ arrival_strings it
node_ok address rest it (Some number) b e =
    let a = bind_some (number_or_none 255 number) (λ node. Some (came.Message node rest)) it e in
    let n = number_ok 255 number a.0 (omega arith) (omega arith) a.1 in
    subst (λ (i : Arrival). address ∷ rest ≡ arrival_strings i) (some_is (came.Message a.0 rest) it a.2)
    (ap (λ (s : List ℕ). s ∷ rest) (behind_ok (codes "node ") address number b ∙ ap (λ s. codes "node " ++ s) n.0))
node_ok address rest it None b e = tick_ok address rest it e

from_ok : (address : List ℕ) (rest : Strings) (it : Arrival) (number : Option (List ℕ)) → rest_behind (codes "client ") address ≡ number
    → if_behind number (λ n. client_arrival n rest) (node_arrival address rest) ≡ Some it
    → address ∷ rest ≡ arrival_strings it
from_ok address rest it (Some number) b e = client_ok address number rest it (behind_ok (codes "client ") address number b) e
from_ok address rest it None b e = node_ok address rest it (rest_behind (codes "node ") address) refl e

pub arrival_ok : (strings : Strings) (it : Arrival) → arrival_at strings ≡ Some it → strings ≡ arrival_strings it
unfolding arrival_at arrival_from
arrival_ok [] it e = absurd cc
arrival_ok (address ∷ rest) it e = from_ok address rest it (rest_behind (codes "client ") address) refl e

pub arrival_again : (it : Arrival) → IsArrival it → arrival_at (arrival_strings it) ≡ Some it
unfolding arrival_at arrival_from
arrival_again (came.Command client command) is =
    rw (number_again (2 ^ 64 - 1) client (omega (arith, is.0)) (omega arith), some_behind command is.1) refl
arrival_again (came.Left client) is =
    rw (number_again (2 ^ 64 - 1) client (omega (arith, is)) (omega arith)) refl
arrival_again (came.Message node frame) is =
    rw (number_again 255 node (omega (arith, is)) (omega arith)) refl
arrival_again (came.Tick heard) is = rw (is) refl

-- ---- for the function's contract

pub is_found : (strings : Strings) (result : Option Arrival) → result ≡ arrival_at strings
    → IfSome result (λ it. strings ≡ arrival_strings it)
is_found strings (Some it) e = arrival_ok strings it (sym e)
is_found strings None e = tt

pub is_only : (strings : Strings) (result : Option Arrival) → result ≡ arrival_at strings
    → (it : Arrival) → IsArrival it → strings ≡ arrival_strings it → result ≡ Some it
is_only strings result e it is same = e ∙ ap arrival_at same ∙ arrival_again it is
