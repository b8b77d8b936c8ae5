-- The contracts that docs/trusted.md lists do not depend on this file; other contracts and proofs do.
-- What a run of the program writes, and with which exit status it ends.
use Rattle.std.specs.Prelude.{◌≡◌, ◌⊎◌, ℕ, List, Option, None, Result, Ok, Err}
use Rattle.std.specs.Io.KnownBytes.{Keeps}
use Rattle.cluster.specs.Cluster.{Cluster}
use Rattle.player.specs.declared.run.End.TheVariants.{NoRoom, Unread}
use Rattle.words.specs.Word.{Word}
use Rattle.trace.specs.declared.fault.Fault.{Fault}
use Rattle.trace.specs.declared.fault.Fault.TheVariants as fault
use Rattle.trace.specs.declared.request.Form.{Form}
use Rattle.trace.specs.Fault.{exit_status_of_fault}
use Rattle.trace.specs.Played.{IsUnplayed, LeadsTo}
use Rattle.trace.specs.Request.{SpellsOrNone, words_asking_for}
use Rattle.trace.specs.Shown.{Shows}

-- the file could not be opened, and nothing is written
abbrev pub GivesNoFile : (old new : Option (List ℕ)) → Result Unit Fault → Type 0
GivesNoFile old new result =
    ((result ≡ Err (fault.Ended NoRoom)) ⊎ (result ≡ Err (fault.Ended Unread))) × Keeps old new

-- playing the script ends early, and nothing is written; or it is played to its end, and the object is shown or not
abbrev pub Carries : (given : Option (List ℕ)) → Form → (name : Word) → (old new : Option (List ℕ))
    → Result Unit Fault → Type 0
Carries given asked name old new result =
    ((why : Fault) × IsUnplayed given why × (result ≡ Err why) × Keeps old new)
    ⊎ ((cluster : Option Cluster) × LeadsTo given cluster × Shows asked cluster name old new result)

-- the file could not be opened, or it gave some script: no clause can say what a file holds
abbrev pub ShowsOfFile : Form → (name : Word) → (old new : Option (List ℕ)) → Result Unit Fault → Type 0
ShowsOfFile asked name old new result =
    GivesNoFile old new result ⊎ ((given : Option (List ℕ)) × Carries given asked name old new result)

-- this is the exit status of a result for which `Is` holds
abbrev pub IsStatusOf : (Result Unit Fault → Type 0) → (status : ℕ) → Type 0
IsStatusOf Is status =
    ((status ≡ 0) × (Is (Ok tt))) ⊎ ((why : Fault) × (status ≡ exit_status_of_fault why) × Is (Err why))

-- the words spell no request, and nothing is written; or they spell one, and the status is that of its result
abbrev pub TraceEndsBy : List Word → (old new : Option (List ℕ)) → (status : ℕ) → Type 0
TraceEndsBy words old new status =
    (SpellsOrNone words None × (status ≡ 2) × Keeps old new)
    ⊎ ((asked : Form) × (script : Word) × (name : Word) × (words ≡ words_asking_for asked script name)
    × IsStatusOf (ShowsOfFile asked name old new) status)
