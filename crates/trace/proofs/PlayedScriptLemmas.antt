-- What playing a script line by line comes to.
use Rattle.std.proofs.Common.{◌≡◌, ℕ, ◌+◌, ◌≤◌, List, length, Option, Some, None, subst, ◌∙◌, inl}
use Rattle.std.specs.Prelude.{slice_get}
use Rattle.std.specs.Str.Lines.{lines}
use Rattle.std.proofs.lemmas.List.{take_all}
use Rattle.cluster.specs.Cluster.{Cluster}
use Rattle.player.specs.Script.{PlaysLines}
use Rattle.player.proofs.ScriptRunLemmas.{IsPlayedSoFar, last_line}
use Rattle.trace.specs.declared.fault.Fault.{Fault}
use Rattle.trace.specs.Played.{EndsAtLine, EndsEarly, LeadsThrough}

-- the last line ends the script
pub ends_before : (all : List (List ℕ)) (count : ℕ) (words : List ℕ) → slice_get all count ≡ Some words → (script : List ℕ)
    (state : Option Cluster) (why : Fault) → all ≡ lines script → IsPlayedSoFar all count state None None
    → EndsAtLine (count + 1) state words why → EndsEarly script why
ends_before all count words at script state why is so_far (end, because, ends) =
    inl (end, because, last_line all count words at script state None None None end is so_far ends)

-- all lines are played
pub leads_through : (all : List (List ℕ)) (count : ℕ) (script : List ℕ) (state : Option Cluster) → all ≡ lines script
    → length all ≤ count → IsPlayedSoFar all count state None None → LeadsThrough script state
leads_through all count script state is whole so_far =
    (so_far.text, subst (λ (front : List (List ℕ)). PlaysLines front state so_far.text) (take_all count all whole ∙ is) so_far.played)
