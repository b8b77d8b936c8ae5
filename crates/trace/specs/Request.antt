-- The contracts that docs/trusted.md lists do not depend on this file; other contracts and proofs do.
-- What the words of a command line ask for.
use Rattle.std.specs.Prelude.{◌≡◌, List, [], ◌∷◌, Option, Some, None, codes}
use Rattle.words.specs.Word.{Word}
use Rattle.trace.specs.declared.request.Form.{Form}
use Rattle.trace.specs.declared.request.Form.TheVariants as form
use Rattle.trace.specs.declared.request.Request.{Request}

-- the words that ask for this form of an object
abbrev pub words_asking_for : Form → (script name : Word) → List Word
words_asking_for form.Picture script name = codes "picture" ∷ script ∷ name ∷ []
words_asking_for form.Edn script name = codes "history" ∷ script ∷ name ∷ codes "edn" ∷ []
words_asking_for form.Json script name = codes "history" ∷ script ∷ name ∷ codes "json" ∷ []
words_asking_for form.Costs script name = codes "costs" ∷ script ∷ name ∷ []

-- the words spell this request, or no request at all
abbrev pub SpellsOrNone : List Word → Option Request → Type 0
SpellsOrNone words None = (asked : Form) (script name : Word) → ¬ (words ≡ words_asking_for asked script name)
SpellsOrNone words (Some request) = words ≡ words_asking_for request.form request.script.now request.name.now
