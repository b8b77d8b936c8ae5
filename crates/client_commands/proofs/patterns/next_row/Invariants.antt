-- The row so far is right, if that of the parts behind is.
use Rattle.std.proofs.Common.{◌≡◌, ◌≤◌, ◌+◌, ◌-◌, ℕ, ◌∷◌, List, drop, false, get_or, length}
use Rattle.client_commands.specs.Patterns.{IsRow, fits}
use Rattle.client_commands.specs.declared.patterns.Part.{Part}
use Rattle.client_commands.proofs.patterns.next_row.Given as goal

abbrev pub invariant-loop-count : goal.invariant-loop-count
invariant-loop-count l =
    (length l.next.items ≡ l.count + 1)
    × ((parts : List Part) → IsRow parts l.text l.row → (i : ℕ) → i ≤ l.count →
    get_or l.next.items i false ≡ fits (l.part ∷ parts) (drop (length l.text - i) l.text))
    × ((parts : List Part) → IsRow parts l.text l.row →
    l.last ≡ fits (l.part ∷ parts) (drop (length l.text - l.count) l.text))
