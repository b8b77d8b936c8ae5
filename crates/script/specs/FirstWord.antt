-- The contracts that docs/trusted.md lists do not depend on this file; other contracts and proofs do.
-- The words that commands begin with, by the groups in which the parser looks for them.
use Rattle.std.specs.Prelude.{◌≢◌, List, [], ◌∷◌, ⊤, codes}
use Rattle.script.specs.declared.number_commands.NumberCommand.{NumberCommand}
use Rattle.script.specs.declared.number_commands.NumberCommand.TheVariants as number
use Rattle.words.specs.Word.{Word}

-- the first word of a command of a name and a number
abbrev pub number_word : NumberCommand → Word
number_word number.Retire = codes "retire"
number_word number.Advance = codes "advance"
number_word number.Supply = codes "supply"
number_word number.Settle = codes "settle"
number_word number.Post = codes "post"
number_word number.Again = codes "again"
number_word number.Answer = codes "answer"
number_word number.Show = codes "show"
number_word number.Serve = codes "serve"
number_word number.Take = codes "take"
number_word number.Lose = codes "lose"
number_word number.Repeat = codes "repeat"

-- these first words
abbrev pub number_words : List Word
number_words = codes "retire" ∷ codes "advance" ∷ codes "supply" ∷ codes "settle" ∷ codes "post" ∷ codes "again"
    ∷ codes "answer" ∷ codes "show" ∷ codes "serve" ∷ codes "take" ∷ codes "lose" ∷ codes "repeat" ∷ []

-- the first words of the other commands on the whole cluster
abbrev pub cluster_words : List Word
cluster_words = codes "servers" ∷ codes "layout" ∷ codes "object" ∷ codes "down" ∷ codes "up" ∷ codes "account" ∷ []

-- the first words of the other commands on one call, on mail and on banks
abbrev pub call_words : List Word
call_words = codes "call" ∷ codes "supply-as" ∷ codes "deliver" ∷ codes "mail" ∷ codes "bank" ∷ []

-- the word is none of these texts
abbrev pub IsNoneOf : (texts : List Word) → (word : Word) → Type 0
IsNoneOf [] word = ⊤
IsNoneOf (text ∷ texts) word = (word ≢ text) × IsNoneOf texts word
