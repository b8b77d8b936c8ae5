-- The number of a client whose command has come has its range.
use Rattle.std.proofs.Common.{◌≡◌, ◌<◌, ◌^◌, ◌-◌, ◌&&◌, ℕ, Bool, true, false, cond, List, [], ◌∷◌, Option, Some, None}
use Rattle.std.proofs.Common.{refl, sym, ap, ◌∙◌, arith}
use Rattle.std.specs.Prelude.{codes}
use Rattle.std.specs.Str.{bytes_eq}
use Rattle.node_strings.specs.Arrival.{arrival_at, arrival_from, client_arrival, if_behind, node_arrival, tick_arrival}
use Rattle.node_strings.specs.Heard.{are_node_numbers, is_empty}
use Rattle.node_strings.specs.Parts.{number_or_none, rest_behind, then_read}
use Rattle.node_strings.specs.Strings.{Strings}
use Rattle.node_strings.specs.declared.arrival.Arrival.{Arrival}
use Rattle.node_strings.specs.declared.arrival.Arrival.TheVariants as came
use Rattle.node_strings.proofs.PartLemmas.{bind_some, number_ok, some_is}

module _ (client : ℕ) (command : Strings) where
  abbrev it : Arrival
  it = came.Command client command

  -- the client of what has come, or 0
  abbrev client_of : Arrival → ℕ
  client_of (came.Command other strings) = other
  client_of (came.Left other) = 0
  client_of (came.Message node strings) = 0
  client_of (came.Tick heard) = 0

  -- whether a command has come
  abbrev is_command : Arrival → Bool
  is_command (came.Command other strings) = true
  is_command (came.Left other) = false
  is_command (came.Message node strings) = false
  is_command (came.Tick heard) = false

  other_kind : (arrival : Arrival) → is_command arrival ≡ false → Some arrival ≡ Some it → ⊥
  other_kind arrival none e = absurd (let wrong : false ≡ true = sym none ∙ ap is_command (some_is arrival it e) in cc)

  from_client : (number : List ℕ) (rest : Strings) → client_arrival number rest ≡ Some it → client < 2 ^ 64
  from_client number rest e =
      let b = bind_some (number_or_none (2 ^ 64 - 1) number)
      (λ other. cond (is_empty rest) (Some (came.Left other)) (Some (came.Command other rest))) it e in
      let n = number_ok (2 ^ 64 - 1) number b.0 (omega arith) (omega arith) b.1 in
      let most = n.1 in
      let same : b.0 ≡ client = one b.0 (is_empty rest) b.2 in omega arith
    where
      one : (other : ℕ) (b : Bool) → cond b (Some (came.Left other)) (Some (came.Command other rest)) ≡ Some it → other ≡ client
      one other true e = absurd (other_kind (came.Left other) refl e)
      one other false e = ap client_of (some_is (came.Command other rest) it e)

  from_tick : (address : List ℕ) (rest : Strings) → tick_arrival address rest ≡ Some it → client < 2 ^ 64
  from_tick address rest e = go (bytes_eq address (codes "tick") && are_node_numbers rest) e
    where
      go : (b : Bool) → cond b (Some (came.Tick (record { numbers = rest }))) None ≡ Some it → client < 2 ^ 64
      go true e = absurd (other_kind (came.Tick (record { numbers = rest })) refl e)
      go false e = absurd cc

  from_node : (address : List ℕ) (rest : Strings) (number : Option (List ℕ)) →
      if_behind number (λ n. then_read (number_or_none 255 n) (λ node. Some (came.Message node rest))) (tick_arrival address rest)
      ≡ Some it → client < 2 ^ 64
  from_node address rest None e = from_tick address rest e
  from_node address rest (Some number) e =
      let a = bind_some (number_or_none 255 number) (λ node. Some (came.Message node rest)) it e in
      absurd (other_kind (came.Message a.0 rest) refl a.2)

  from_any : (address : List ℕ) (rest : Strings) (number : Option (List ℕ)) →
      if_behind number (λ n. client_arrival n rest) (node_arrival address rest) ≡ Some it → client < 2 ^ 64
  from_any address rest (Some number) e = from_client number rest e
  from_any address rest None e = from_node address rest (rest_behind (codes "node ") address) e

pub command_bound : (frame : Strings) (client : ℕ) (command : Strings) → arrival_at frame ≡ Some (came.Command client command) →
    client < 2 ^ 64
unfolding arrival_at arrival_from
command_bound [] client command e = absurd cc
command_bound (address ∷ rest) client command e = from_any client command address rest (rest_behind (codes "client ") address) e
