-- Words behind a command, as the code finds them.
use Rattle.std.proofs.Common.{◌≡◌, ◌∙◌, ◌<◌, ◌≤◌, ◌-◌, List, [], ◌∷◌, length, map, refl, ap, sym, subst, arith, Bor, codes}
use Rattle.std.specs.Prelude.{Result, get_or, drop, take}
use Rattle.std.proofs.lemmas.List.{length-drop, take_all}
use Rattle.coding_commands.specs.declared.request.CodingRequest.{CodingRequest}
use Rattle.coding_commands.specs.declared.fault.Fault.{Fault}
use Rattle.coding_commands.specs.Request.{ParsesToCoding}
use Rattle.words.specs.Word.{Word}

-- the texts of borrowed words
abbrev pub texts : List (Bor Word) → List Word
texts words = map (λ w. w.now) words

-- the first word and the words behind it
pub ParsesToCoding-first : (words rest : List (Bor Word)) (command : Bor Word) (text : Word) (r : Result CodingRequest Fault)
    → words ≡ command ∷ rest → command.now ≡ text → ParsesToCoding (text ∷ texts rest) r → ParsesToCoding (texts words) r
ParsesToCoding-first words rest command text r parted is reads =
    subst (λ ws. ParsesToCoding ws r) (sym (ap texts parted ∙ ap (λ w. w ∷ texts rest) is)) reads

-- three words
three : (words : List (Bor Word)) (d : Bor Word) → 3 ≤ length words → length words < 4
    → texts words ≡ (get_or words 0 d).now ∷ (get_or words 1 d).now ∷ (get_or words 2 d).now ∷ []
three [] d least most = absurd (omega arith)
three (a ∷ []) d least most = absurd (omega arith)
three (a ∷ b ∷ []) d least most = absurd (omega arith)
three (a ∷ b ∷ c ∷ []) d least most = refl
three (a ∷ b ∷ c ∷ e ∷ more) d least most = absurd (omega arith)

pub ParsesToCoding-three : (words : List (Bor Word)) (d : Bor Word) (r : Result CodingRequest Fault)
    → 3 ≤ length words → length words < 4
    → ParsesToCoding (codes "fragments" ∷ (get_or words 0 d).now ∷ (get_or words 1 d).now ∷ (get_or words 2 d).now ∷ []) r
    → ParsesToCoding (codes "fragments" ∷ texts words) r
ParsesToCoding-three words d r least most reads =
    subst (λ ws. ParsesToCoding (codes "fragments" ∷ ws) r) (sym (three words d least most)) reads

-- two words and the words behind them
two : (words : List (Bor Word)) (d : Bor Word) → 2 ≤ length words
    → texts words ≡ (get_or words 0 d).now ∷ (get_or words 1 d).now ∷ texts (drop 2 words)
two [] d least = absurd (omega arith)
two (a ∷ []) d least = absurd (omega arith)
two (a ∷ b ∷ more) d least = refl

pub ParsesToCoding-two : (words : List (Bor Word)) (d : Bor Word) (r : Result CodingRequest Fault) → 2 ≤ length words
    → ParsesToCoding (codes "decode" ∷ (get_or words 0 d).now ∷ (get_or words 1 d).now
    ∷ texts (take (length words - 2) (drop 2 words))) r
    → ParsesToCoding (codes "decode" ∷ texts words) r
ParsesToCoding-two words d r least reads =
    let all : take (length words - 2) (drop 2 words) ≡ drop 2 words = take_all _ _ (simp length-drop (omega arith)) in
    subst (λ ws. ParsesToCoding (codes "decode" ∷ ws) r)
    (ap (λ more. (get_or words 0 d).now ∷ (get_or words 1 d).now ∷ texts more) all ∙ sym (two words d least)) reads
