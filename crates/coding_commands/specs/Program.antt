-- The contracts that docs/trusted.md lists do not depend on this file; other contracts and proofs do.
-- What a command line that encodes or decodes does.
use Rattle.std.specs.Prelude.{◌≡◌, ◌⊎◌, ℕ, List, [], ◌∷◌, ◌++◌}
use Rattle.std.specs.Io.KnownBytes.{Appends, Keeps}
use Rattle.tag.specs.declared.refusal.Refusal.{Refusal}
use Rattle.tag.specs.declared.refusal.Refusal.TheVariants.{NoMemory}
use Rattle.coding_commands.specs.Answer.{IsAnswerTo, IsRefusedFor}
use Rattle.coding_commands.specs.Fault.{exit_status_of}
use Rattle.coding_commands.specs.Output.{output_text}
use Rattle.coding_commands.specs.Request.{IsCodingFaultOf, SpellsCoding}
use Rattle.words.specs.Word.{Word}
use Rattle.words.specs.Written.{Written}
use Rattle.coding_commands.specs.declared.request.CodingRequest.{CodingRequest}
use Rattle.coding_commands.specs.declared.output.Output.{Output}
use Rattle.coding_commands.specs.declared.fault.Fault.{Fault}

-- the line of the output is written, and the status is 0; or the line is lost, and the status is 1
abbrev pub IsPrinted : Output → Written → Written → ℕ → Type 0
IsPrinted output old new status = ((status ≡ 0) × Appends old new (output_text output ++ 10 ∷ [])) ⊎ (status ≡ 1)

-- the line of the request's answer is written or lost; or the request is refused, by its cause or for want of memory,
-- with status 1 and nothing written
abbrev pub AnswersRequest : CodingRequest → Written → Written → ℕ → Type 0
AnswersRequest request old new status =
    ((output : Output) × IsAnswerTo request output × IsPrinted output old new status)
    ⊎ ((refusal : Refusal) × ((refusal ≡ NoMemory) ⊎ IsRefusedFor request refusal) × (status ≡ 1) × Keeps old new)

-- the words spell a request, and it is answered; or they spell none, the status says why, and nothing is written
abbrev pub CodingEndsBy : List Word → Written → Written → ℕ → Type 0
CodingEndsBy words old new status =
    ((request : CodingRequest) × SpellsCoding words request × AnswersRequest request old new status)
    ⊎ ((fault : Fault) × IsCodingFaultOf words fault × (status ≡ exit_status_of fault) × Keeps old new)
