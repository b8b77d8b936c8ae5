-- What a node does in a row.
use Rattle.std.proofs.Common.{◌≡◌, ℕ, cond, eq-eqb, List, [], ◌∷◌, ◌++◌, refl, sym, subst, ap, ◌∙◌}
use Rattle.std.proofs.Common.{append_assoc}
use Rattle.local_object.specs.Local.{LocalObject}
use Rattle.local_object.specs.Events.{all_done, done_here}
use Rattle.local_object.specs.May.{MayAllHappen}
use Rattle.refinement.specs.Laws.{EventsInARowAreEvents}
use Rattle.refinement.specs.Systems.{SystemEvent, system_after, with_object_at}
use Rattle.open_calls.proofs.CallsOfNodeLemmas.{differs}

append_none : {A : Type 0} (xs : List A) → xs ≡ xs ++ []
append_none [] = refl
append_none (x ∷ xs) = ap (λ l. x ∷ l) (append_none xs)

-- what the node keeps after it changed, and what others keep
own_object : (objects : ℕ → LocalObject) (node : ℕ) (local : LocalObject) → with_object_at objects node local node ≡ local
own_object objects node local = ap (λ b. cond b local (objects node)) (eq-eqb node node refl)

other_object : (objects : ℕ → LocalObject) (node : ℕ) (local : LocalObject) (other : ℕ) → (other ≡ node → ⊥) →
    with_object_at objects node local other ≡ objects other
other_object objects node local other apart = ap (λ b. cond b local (objects other)) (differs other node apart)

pub rows_done : EventsInARowAreEvents
rows_done fragment system node [] may premised = record {
  may = tt;
  own = refl;
  others = λ other apart. refl;
  letters = append_none system.letters;
}
rows_done fragment system node (event ∷ events) may premised =
    let local = system.objects node in
    let done = done_here fragment local event in
    let next = system_after fragment system (SystemEvent.Acts node event) in
    let own : next.objects node ≡ done.local = own_object system.objects node done.local in
    let rest = rows_done fragment next node events (subst (λ l. MayAllHappen fragment l events) (sym own) may.1) premised.1 in record {
      may = ((may.0, premised.0), rest.may);
      own = rest.own ∙ ap (λ l. (all_done fragment l events).local) own;
      others = λ other apart. rest.others other apart ∙ other_object system.objects node done.local other apart;
      letters = rest.letters ∙ ap (λ l. (system.letters ++ done.sent) ++ (all_done fragment l events).sent) own
          ∙ append_assoc system.letters done.sent (all_done fragment done.local events).sent;
    }
