-- The contracts that docs/trusted.md lists do not depend on this file; other contracts and proofs do.
-- What playing a script leads to: a cluster, or an early end.
use Rattle.std.specs.Prelude.{◌≡◌, ◌⊎◌, ℕ, List, Option, None}
use Rattle.std.specs.Str.Lines.{lines}
use Rattle.tag.specs.declared.refusal.Refusal.TheVariants.{NoMemory}
use Rattle.cluster.specs.Cluster.{Cluster}
use Rattle.player.specs.declared.run.End.{End}
use Rattle.player.specs.Script.{EndsAt, RunEndsBy, EndsLine, IsScriptOf, PlaysLines}
use Rattle.trace.specs.declared.fault.Fault.{Fault}
use Rattle.trace.specs.declared.fault.Fault.TheVariants as fault

-- playing the lines of the script leads to this cluster, or to none if no line made one
abbrev pub LeadsThrough : (script : List ℕ) → Option Cluster → Type 0
LeadsThrough script cluster = (text : List ℕ) × PlaysLines (lines script) cluster text

-- playing the reader's whole script leads to this cluster
abbrev pub LeadsTo : (remaining : Option (List ℕ)) → Option Cluster → Type 0
LeadsTo remaining cluster = (script : List ℕ) × IsScriptOf remaining script × LeadsThrough script cluster

-- playing the line of this number ends the script early, and this fault says why
abbrev pub EndsAtLine : (number : ℕ) → Option Cluster → (line : List ℕ) → Fault → Type 0
EndsAtLine number state line why = (end : End) × (why ≡ fault.Ended end) × EndsLine number state line None None end

-- playing the script ends early at one of its lines, or memory is refused
abbrev pub EndsEarly : (script : List ℕ) → Fault → Type 0
EndsEarly script why =
    ((end : End) × (why ≡ fault.Ended end) × EndsAt script None None end) ⊎ (why ≡ fault.Refused NoMemory)

-- playing the reader's script ends early, or memory is refused
abbrev pub IsUnplayed : (remaining : Option (List ℕ)) → Fault → Type 0
IsUnplayed remaining why =
    ((end : End) × (why ≡ fault.Ended end) × RunEndsBy remaining None None end) ⊎ (why ≡ fault.Refused NoMemory)
