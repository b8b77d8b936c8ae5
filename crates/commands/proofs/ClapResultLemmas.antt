-- What the code makes of what `clap` finds.
use Rattle.std.proofs.Common.{◌≡◌, ◌≢◌, ◌⊎◌, ◌∙◌, ◌≤◌, ℕ, List, [], ◌∷◌, length, Option, Some}
use Rattle.std.proofs.Common.{None, codes, refl, ap, ap₂, sym, subst, inl, inr, arith}
use Rattle.std.specs.Prelude.{unwrap_or, get_or, option_map, Box, Result}
use Rattle.clap.specs.Lexer.{usize_max}
use Rattle.clap.proofs.WalkLemmas.{first_value-rows, raw_values-rows}
use Rattle.clap.specs.Simple.{subcommand_rows}
use Rattle.clap.specs.Words.{Row, Text, fault_of, first_value, matched_of, raw_values}
use Rattle.clap.specs.Words.{rows_of, subcommand_name_of, subcommand_of, subcommand_rows_of}
use Rattle.clap.specs.declared.parser.matches.Found.{Found}
use Rattle.clap.specs.declared.parser.matches.ArgMatches.{ArgMatches}
use Rattle.clap.specs.declared.parser.matches.ArgMatches.TheViews.{out-ArgMatches, out-SubCommand}
use Rattle.clap.specs.declared.parser.matches.SubCommand.{SubCommand}
use Rattle.std.specs.Box.{box_value}
use Rattle.tag.specs.declared.refusal.Refusal.TheVariants.{NoMemory}
use Rattle.commands.specs.CommandLine.{cas_form, marked_words}
use Rattle.words.specs.Word.{Word}
use Rattle.commands.specs.Request.{IsFaultOf, ParsesTo}
use Rattle.commands.specs.declared.request.Request.{Request}
use Rattle.coding_commands.specs.declared.fault.Fault.{Fault}
use Rattle.coding_commands.specs.declared.fault.Fault.TheVariants.{Refused, Usage}
use Rattle.commands.proofs.ParsedCommandLemmas.{Finds, marked_words-finds}
use Rattle.commands.proofs.ParsedCommandLemmas.{marked_words-lawful}

length-marked_words : (words : List Word) → length words ≤ length (marked_words words)
length-marked_words [] = omega arith
length-marked_words (name ∷ rest) = omega arith

some_is : {T : Type 0} {x y : T} → Some x ≡ Some y → y ≡ x
some_is e = cc

-- the fault of words that `clap` did not read
pub IsFaultOf-unread : (words seen : List Word) (e : Fault) → seen ≡ marked_words words → length seen ≤ usize_max
    → (e ≡ Refused NoMemory) ⊎ ((e ≡ Usage) × (fault_of cas_form seen ≢ [])) → IsFaultOf words e
IsFaultOf-unread words seen e is fits (inl memory) = subst (IsFaultOf words) (sym memory) refl
IsFaultOf-unread words seen e is fits (inr usage) =
    let count = ap (length {A = Word}) is in
    let longer = length-marked_words words in
    subst (IsFaultOf words) (sym usage.0) (λ form. usage.1 (ap (fault_of cas_form) is ∙ marked_words-lawful words (omega arith) form))

-- what is found for words that `clap` read
pub Finds-read : (words seen : List Word) (o : Option (Text × List Row)) → seen ≡ marked_words words → fault_of cas_form seen ≡ []
    → o ≡ subcommand_of cas_form seen → Finds words o
Finds-read words seen o is lawful read =
    subst (Finds words) (sym (read ∙ ap (subcommand_of cas_form) is)) (marked_words-finds words (ap (fault_of cas_form) (sym is) ∙ lawful))

-- a command without rows is none
pub rows-None : (o : Option (Text × List Row)) → None ≡ option_map (λ p. p.1) o → o ≡ None
rows-None None e = refl
rows-None (Some p) e = cc

-- the name and the rows are those of the command
rows-Some : (m : ArgMatches) (name : Text) (rows : List Row) → Some name ≡ subcommand_name_of m
    → Some rows ≡ option_map (λ p. p.1) (subcommand_rows_of m)
    → subcommand_rows_of m ≡ Some (name, rows)
rows-Some m name rows named rowed = go (out-ArgMatches m).subcommand named rowed
  where
    go : {Z : Type 0} (o : Option (Box SubCommand Z)) → Some name ≡ option_map (λ b. (out-SubCommand (box_value b)).name.now) o
        → Some rows ≡ option_map (λ p. p.1) (subcommand_rows o) → subcommand_rows o ≡ Some (name, rows)
    go None n r = cc
    go (Some b) n r = ap₂ (λ x y. let p : Text × List Row = (x, y) in Some p) (some_is n) (some_is r)

-- the command and its rows, for words that `clap` read
pub Finds-command : (words seen : List Word) (m : ArgMatches) (name : Text) (rows : List Row) → seen ≡ marked_words words
    → fault_of cas_form seen ≡ [] → subcommand_rows_of m ≡ subcommand_of cas_form seen → Some name ≡ subcommand_name_of m
    → Some rows ≡ option_map (λ p. p.1) (subcommand_rows_of m) → Finds words (Some (name, rows))
Finds-command words seen m name rows is lawful read named rowed =
    subst (Finds words) (rows-Some m name rows named rowed) (Finds-read words seen (subcommand_rows_of m) is lawful read)

-- `fragments`, by the texts under its names
pub ParsesTo-fragments : (words : List Word) (name : Text) (found : Found) (r : Result Request Fault)
    → Finds words (Some (name, rows_of found))
    → name ≡ codes "fragments"
    → ((a b c : Word) → first_value found (codes "K") ≡ Some a → first_value found (codes "N") ≡ Some b
    → first_value found (codes "HEX") ≡ Some c
    → ParsesTo (codes "fragments" ∷ a ∷ b ∷ c ∷ []) r)
    → ParsesTo words r
ParsesTo-fragments words name found r (inl f) is reads =
    subst (λ ws. ParsesTo ws r) (sym f.words_are)
    (reads f.a f.b f.c (first_value-rows found (codes "K") ∙ f.k) (first_value-rows found (codes "N") ∙ f.n)
    (first_value-rows found (codes "HEX") ∙ f.digits))
ParsesTo-fragments words name found r (inr (inl d)) is reads =
    let clash : ◌≡◌ {A = ℕ} 102 100 = ap (λ (w : Word). get_or w 0 0) (sym is ∙ d.name_is) in absurd (omega arith)
ParsesTo-fragments words name found r (inr (inr (inl f))) is reads =
    let clash : ◌≡◌ {A = ℕ} 102 114 = ap (λ (w : Word). get_or w 0 0) (sym is ∙ f.name_is) in absurd (omega arith)
ParsesTo-fragments words name found r (inr (inr (inr f))) is reads =
    let clash : ◌≡◌ {A = ℕ} 102 115 = ap (λ (w : Word). get_or w 0 0) (sym is ∙ f.name_is) in absurd (omega arith)

-- `decode`, by the texts under its names
pub ParsesTo-decode : (words : List Word) (name : Text) (found : Found) (r : Result Request Fault)
    → Finds words (Some (name, rows_of found))
    → name ≡ codes "decode"
    → ((a b : Word) (rest : List Word) → first_value found (codes "K") ≡ Some a → first_value found (codes "LEN") ≡ Some b
    → unwrap_or (option_map raw_values (matched_of found (codes "POINT:HEX"))) [] ≡ rest → ParsesTo (codes "decode" ∷ a ∷ b ∷ rest) r)
    → ParsesTo words r
ParsesTo-decode words name found r (inl f) is reads =
    let clash : ◌≡◌ {A = ℕ} 100 102 = ap (λ (w : Word). get_or w 0 0) (sym is ∙ f.name_is) in absurd (omega arith)
ParsesTo-decode words name found r (inr (inr (inl f))) is reads =
    let clash : ◌≡◌ {A = ℕ} 100 114 = ap (λ (w : Word). get_or w 0 0) (sym is ∙ f.name_is) in absurd (omega arith)
ParsesTo-decode words name found r (inr (inr (inr f))) is reads =
    let clash : ◌≡◌ {A = ℕ} 100 115 = ap (λ (w : Word). get_or w 0 0) (sym is ∙ f.name_is) in absurd (omega arith)
ParsesTo-decode words name found r (inr (inl d)) is reads =
    subst (λ ws. ParsesTo ws r) (sym d.words_are)
    (reads d.a d.b d.rest (first_value-rows found (codes "K") ∙ d.k) (first_value-rows found (codes "LEN") ∙ d.len)
    (ap (λ o. unwrap_or o []) (raw_values-rows found (codes "POINT:HEX")) ∙ d.pieces))

-- `run`, by the text under its name
pub ParsesTo-run : (words : List Word) (name : Text) (found : Found) (r : Result Request Fault) → Finds words (Some (name, rows_of found))
    → name ≡ codes "run"
    → ((file : Word) → first_value found (codes "FILE") ≡ Some file → ParsesTo (codes "run" ∷ file ∷ []) r)
    → ParsesTo words r
ParsesTo-run words name found r (inl f) is reads =
    let clash : ◌≡◌ {A = ℕ} 114 102 = ap (λ (w : Word). get_or w 0 0) (sym is ∙ f.name_is) in absurd (omega arith)
ParsesTo-run words name found r (inr (inl d)) is reads =
    let clash : ◌≡◌ {A = ℕ} 114 100 = ap (λ (w : Word). get_or w 0 0) (sym is ∙ d.name_is) in absurd (omega arith)
ParsesTo-run words name found r (inr (inr (inr f))) is reads =
    let clash : ◌≡◌ {A = ℕ} 114 115 = ap (λ (w : Word). get_or w 0 0) (sym is ∙ f.name_is) in absurd (omega arith)
ParsesTo-run words name found r (inr (inr (inl f))) is reads =
    subst (λ ws. ParsesTo ws r) (sym f.words_are) (reads f.file (first_value-rows found (codes "FILE") ∙ f.text))

-- `soak`, by the texts under its names
pub ParsesTo-soak : (words : List Word) (name : Text) (found : Found) (r : Result Request Fault) → Finds words (Some (name, rows_of found))
    → name ≡ codes "soak"
    → ((a b c d : Word) → first_value found (codes "CLIENTS") ≡ Some a → first_value found (codes "CALLS") ≡ Some b
    → first_value found (codes "MOVES") ≡ Some c → first_value found (codes "CHOICES") ≡ Some d
    → ParsesTo (codes "soak" ∷ a ∷ b ∷ c ∷ d ∷ []) r)
    → ParsesTo words r
ParsesTo-soak words name found r (inl f) is reads =
    let clash : ◌≡◌ {A = ℕ} 115 102 = ap (λ (w : Word). get_or w 0 0) (sym is ∙ f.name_is) in absurd (omega arith)
ParsesTo-soak words name found r (inr (inl d)) is reads =
    let clash : ◌≡◌ {A = ℕ} 115 100 = ap (λ (w : Word). get_or w 0 0) (sym is ∙ d.name_is) in absurd (omega arith)
ParsesTo-soak words name found r (inr (inr (inl f))) is reads =
    let clash : ◌≡◌ {A = ℕ} 115 114 = ap (λ (w : Word). get_or w 0 0) (sym is ∙ f.name_is) in absurd (omega arith)
ParsesTo-soak words name found r (inr (inr (inr f))) is reads =
    subst (λ ws. ParsesTo ws r) (sym f.words_are)
    (reads f.a f.b f.c f.d (first_value-rows found (codes "CLIENTS") ∙ f.clients) (first_value-rows found (codes "CALLS") ∙ f.calls)
    (first_value-rows found (codes "MOVES") ∙ f.moves) (first_value-rows found (codes "CHOICES") ∙ f.choices))
