-- The contracts that docs/trusted.md lists do not depend on this file; other contracts and proofs do.
-- What a run of the program writes, and with which exit status it ends.
use Rattle.std.specs.Prelude.{◌≡◌, ◌⊎◌, ℕ, List, [], ◌∷◌, ◌++◌, Option, codes}
use Rattle.std.specs.Io.KnownBytes.{Appends, Keeps}
use Rattle.std.specs.declared.io.ErrorKind.{ErrorKind}
use Rattle.player.specs.Script.{Runs, unread_status}
use Rattle.soak.specs.Closed.{IsOfClosed}
use Rattle.soak_parts.specs.Setting.{setting}
use Rattle.soak_parts.specs.Summary.{summary_text}
use Rattle.soak_parts.specs.Summary.{exit_status_of_summary}
use Rattle.soak_plan.specs.declared.plan.Plan.{Plan}
use Rattle.soak_parts.specs.declared.summary.Summary.{Summary}
use Rattle.coding_commands.specs.Fault.{exit_status_of}
use Rattle.coding_commands.specs.Program.{AnswersRequest}
use Rattle.words.specs.Written.{Written}
use Rattle.words.specs.Word.{Word}
use Rattle.coding_commands.specs.Request.{SpellsCoding}
use Rattle.coding_commands.specs.declared.fault.Fault.{Fault}
use Rattle.coding_commands.specs.declared.request.CodingRequest.{CodingRequest}
use Rattle.commands.specs.Request.{IsFaultOf, Spells}
use Rattle.commands.specs.declared.request.Request.TheVariants as request

-- the file could not be opened, with an error of this kind: the status says so, and nothing is written
abbrev pub IsUnopened : ErrorKind → Written → Written → ℕ → Type 0
IsUnopened kind old new status = (status ≡ unread_status kind) × Keeps old new

-- a file could not be opened, or what it gave was played: some text, or a failure. No clause can say what a file holds
abbrev pub RunsFile : Written → Written → ℕ → Type 0
RunsFile old new status = ((kind : ErrorKind) × IsUnopened kind old new status)
    ⊎ ((given : Option (List ℕ)) × Runs given old new status)

-- a soak is run: the lines of its summary are written, and the status is the summary's; or it is refused, and nothing
-- is written; or such lines are lost. A summary is of a store that was opened with the setting, with as many seats as
-- the plan has clients, in which the calls and the moves of the plan were made, and which was then closed
abbrev pub Soaks : Plan → Written → Written → ℕ → Type 0
Soaks plan old new status =
    ((summary : Summary) × IsOfClosed setting plan summary × (status ≡ exit_status_of_summary summary)
    × Appends old new (summary_text summary ++ 10 ∷ []))
    ⊎ (((status ≡ 1) × Keeps old new)
    ⊎ ((status ≡ 1) × ((summary : Summary) × IsOfClosed setting plan summary)))

-- one of four: the words spell a coding request, and it is answered; they spell no request, the status says why, and
-- nothing is written; they are `run FILE`, and the status is that of the run; they spell a soak, and the status is that
-- of the soak
abbrev pub EndsBy : List Word → Written → Written → ℕ → Type 0
EndsBy words old new status =
    ((asked : CodingRequest) × SpellsCoding words asked × AnswersRequest asked old new status)
    ⊎ ((fault : Fault) × IsFaultOf words fault × (status ≡ exit_status_of fault) × Keeps old new)
    ⊎ ((file : Word) × (words ≡ codes "run" ∷ file ∷ []) × RunsFile old new status)
    ⊎ ((plan : Plan) × Spells words (request.Soak plan) × Soaks plan old new status)
