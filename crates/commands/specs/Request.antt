-- The contracts that docs/trusted.md lists do not depend on this file; other contracts and proofs do.
-- Which words of a command line spell which request.
use Rattle.std.specs.Prelude.{◌≡◌, ◌⊎◌, List, [], ◌∷◌, codes, Result, MatchResult, string_bytes}
use Rattle.tag.specs.declared.refusal.Refusal.TheVariants.{NoMemory}
use Rattle.words.specs.Number.{IsNumber}
use Rattle.soak_plan.specs.Plan.{IsWithin}
use Rattle.words.specs.Word.{Word}
use Rattle.coding_commands.specs.Request.{HasCodingForm, SpellsCoding}
use Rattle.coding_commands.specs.declared.fault.Fault.{Fault}
use Rattle.coding_commands.specs.declared.fault.Fault.TheVariants.{NotText, Usage, BadArgument, Refused, OutputLost}
use Rattle.commands.specs.declared.request.Request.{Request}
use Rattle.commands.specs.declared.request.Request.TheVariants as of

-- the words after the program's name spell this request: a coding request, `run FILE` with any word as FILE, or
-- `soak CLIENTS CALLS MOVES CHOICES`
abbrev pub Spells : List Word → Request → Type 0
Spells words (of.Coding request) = SpellsCoding words request
Spells words (of.Run file) = words ≡ codes "run" ∷ string_bytes file ∷ []
Spells words (of.Soak plan) = (a : Word) × (b : Word) × (c : Word) × (d : Word)
    × (words ≡ codes "soak" ∷ a ∷ b ∷ c ∷ d ∷ []) × IsNumber a plan.clients × IsNumber b plan.calls
    × IsNumber c plan.moves × IsNumber d plan.choices × IsWithin plan.clients plan.calls plan.moves

-- the words have the form of a request, whatever the words for its numbers and bytes are
abbrev pub HasForm : List Word → Type 0
HasForm words = HasCodingForm words
    ⊎ ((file : Word) × (words ≡ codes "run" ∷ file ∷ []))
    ⊎ ((a : Word) × (b : Word) × (c : Word) × (d : Word) × (words ≡ codes "soak" ∷ a ∷ b ∷ c ∷ d ∷ []))

-- why the words give no request: they have another form, their form is right but a word is not, or memory is refused
abbrev pub IsFaultOf : List Word → Fault → Type 0
IsFaultOf words Usage = ¬ (HasForm words)
IsFaultOf words BadArgument = HasForm words × ((r : Request) → ¬ (Spells words r))
IsFaultOf words (Refused refusal) = refusal ≡ NoMemory
IsFaultOf words NotText = ⊥
IsFaultOf words OutputLost = ⊥

-- the result is the request that the words spell, or why they give none
abbrev pub ParsesTo : List Word → Result Request Fault → Type 0
ParsesTo words result = MatchResult result (Spells words) (IsFaultOf words)
