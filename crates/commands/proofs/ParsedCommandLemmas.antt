-- What `clap` finds for the words after the program's name.
use Rattle.std.proofs.Common.{◌≡◌, ◌⊎◌, ◌∙◌, ◌≤◌, List, [], ◌∷◌, length, Bool, true, false, Option, Some}
use Rattle.std.proofs.Common.{None, codes, refl, ap, sym, subst, inl, inr, arith}
use Rattle.std.specs.Prelude.{unwrap_or, get_or}
use Rattle.std.specs.Str.{bytes_eq}
use Rattle.std.proofs.lemmas.Slice.Eq.{bytes_eq-Decides}
use Rattle.clap.proofs.OnLiterals.{clap_on_literals}
use Rattle.clap.specs.Kinds.{Kinds}
use Rattle.clap.specs.Lexer.{usize_max}
use Rattle.clap.specs.Faults.{level_fault}
use Rattle.clap.specs.Walk.{nothing_held}
use Rattle.clap.specs.Words.{Row, Text, all_of, fault_of, first_of}
use Rattle.clap.specs.Words.{subcommand_of}
use Rattle.clap.specs.declared.error.kind.ErrorKind.{ErrorKind}
use Rattle.commands.specs.CommandLine.{cas_form, marked_words}
use Rattle.words.specs.Word.{Word}
use Rattle.commands.specs.Request.{HasForm}
use Rattle.commands.proofs.CommandArgumentLemmas.{decode-lacks, decode-rows, decode-takes, decode_shape}
use Rattle.commands.proofs.CommandArgumentLemmas.{fragments-lacks, fragments-rows, fragments-strays, fragments-takes}
use Rattle.commands.proofs.CommandArgumentLemmas.{fragments_shape, run-lacks, run-rows, run-strays, run-takes, run_shape}
use Rattle.commands.proofs.CommandArgumentLemmas.{soak-lacks, soak-rows, soak-strays, soak-takes, soak_shape}
use Rattle.commands.proofs.KnownCommandLemmas.{fault_of-known, subcommand_of-known}
use Rattle.commands.proofs.UnknownCommandLemmas.{subcommand_of-unknown}

-- the command `fragments` with the texts of K, N and HEX
pub record FindsFragments (words : List Word) (name : Text) (rows : List Row) : Type 0 where
  pub a : Word
  pub b : Word
  pub c : Word
  pub words_are : words ≡ codes "fragments" ∷ a ∷ b ∷ c ∷ []
  pub name_is : name ≡ codes "fragments"
  pub k : first_of (codes "K") rows ≡ Some a
  pub n : first_of (codes "N") rows ≡ Some b
  pub digits : first_of (codes "HEX") rows ≡ Some c

-- the command `decode` with the texts of K, LEN and the pieces
pub record FindsDecode (words : List Word) (name : Text) (rows : List Row) : Type 0 where
  pub a : Word
  pub b : Word
  pub rest : List Word
  pub words_are : words ≡ codes "decode" ∷ a ∷ b ∷ rest
  pub name_is : name ≡ codes "decode"
  pub k : first_of (codes "K") rows ≡ Some a
  pub len : first_of (codes "LEN") rows ≡ Some b
  pub pieces : unwrap_or (all_of (codes "POINT:HEX") rows) [] ≡ rest

-- the command `run` with the text of FILE
pub record FindsRun (words : List Word) (name : Text) (rows : List Row) : Type 0 where
  pub file : Word
  pub words_are : words ≡ codes "run" ∷ file ∷ []
  pub name_is : name ≡ codes "run"
  pub text : first_of (codes "FILE") rows ≡ Some file

-- the command `soak` with the texts of its numbers
pub record FindsSoak (words : List Word) (name : Text) (rows : List Row) : Type 0 where
  pub a : Word
  pub b : Word
  pub c : Word
  pub d : Word
  pub words_are : words ≡ codes "soak" ∷ a ∷ b ∷ c ∷ d ∷ []
  pub name_is : name ≡ codes "soak"
  pub clients : first_of (codes "CLIENTS") rows ≡ Some a
  pub calls : first_of (codes "CALLS") rows ≡ Some b
  pub moves : first_of (codes "MOVES") rows ≡ Some c
  pub choices : first_of (codes "CHOICES") rows ≡ Some d

-- no command, or one of the four
abbrev pub Finds : List Word → Option (Text × List Row) → Type 0
Finds words None = ¬ (HasForm words)
Finds words (Some p) = FindsFragments words p.0 p.1 ⊎ FindsDecode words p.0 p.1 ⊎ FindsRun words p.0 p.1 ⊎ FindsSoak words p.0 p.1

kinds-clash : (k : ErrorKind) (ks : Kinds) → k ∷ ks ≡ [] → ⊥
kinds-clash k ks e = cc

fragments-fault : (rest : List Word) → fault_of cas_form (marked_words (codes "fragments" ∷ rest))
    ≡ level_fault fragments_shape [] nothing_held (codes "--" ∷ rest) false []
unfolding clap_on_literals
fragments-fault rest = fault_of-known (codes "fragments") fragments_shape refl refl refl (codes "--" ∷ rest)

decode-fault : (rest : List Word) → fault_of cas_form (marked_words (codes "decode" ∷ rest))
    ≡ level_fault decode_shape [] nothing_held (codes "--" ∷ rest) false []
unfolding clap_on_literals
decode-fault rest = fault_of-known (codes "decode") decode_shape refl refl refl (codes "--" ∷ rest)

run-fault : (rest : List Word) → fault_of cas_form (marked_words (codes "run" ∷ rest))
    ≡ level_fault run_shape [] nothing_held (codes "--" ∷ rest) false []
unfolding clap_on_literals
run-fault rest = fault_of-known (codes "run") run_shape refl refl refl (codes "--" ∷ rest)

soak-fault : (rest : List Word) → fault_of cas_form (marked_words (codes "soak" ∷ rest))
    ≡ level_fault soak_shape [] nothing_held (codes "--" ∷ rest) false []
unfolding clap_on_literals
soak-fault rest = fault_of-known (codes "soak") soak_shape refl refl refl (codes "--" ∷ rest)

finds-fragments : (rest : List Word) → fault_of cas_form (marked_words (codes "fragments" ∷ rest)) ≡ []
    → Finds (codes "fragments" ∷ rest) (subcommand_of cas_form (marked_words (codes "fragments" ∷ rest)))
unfolding clap_on_literals
finds-fragments (a ∷ b ∷ c ∷ []) lawful =
    let rows = fragments-rows a b c in
    subst (Finds (codes "fragments" ∷ a ∷ b ∷ c ∷ []))
    (sym (subcommand_of-known (codes "fragments") fragments_shape refl refl refl (codes "--" ∷ a ∷ b ∷ c ∷ [])))
    (inl (record { a = a; b = b; c = c; words_are = refl; name_is = refl; k = rows.0; n = rows.1; digits = rows.2 }))
finds-fragments (a ∷ b ∷ c ∷ d ∷ rest) lawful =
    let clash = sym (fragments-fault (a ∷ b ∷ c ∷ d ∷ rest) ∙ fragments-strays a b c d rest) ∙ lawful in absurd (kinds-clash _ _ clash)
finds-fragments [] lawful = absurd (kinds-clash _ _ (sym (fragments-fault [] ∙ fragments-lacks [] (omega arith)) ∙ lawful))
finds-fragments (a ∷ []) lawful =
    absurd (kinds-clash _ _ (sym (fragments-fault (a ∷ []) ∙ fragments-lacks (a ∷ []) (omega arith)) ∙ lawful))
finds-fragments (a ∷ b ∷ []) lawful =
    absurd (kinds-clash _ _ (sym (fragments-fault (a ∷ b ∷ []) ∙ fragments-lacks (a ∷ b ∷ []) (omega arith)) ∙ lawful))

finds-decode : (rest : List Word) → fault_of cas_form (marked_words (codes "decode" ∷ rest)) ≡ []
    → Finds (codes "decode" ∷ rest) (subcommand_of cas_form (marked_words (codes "decode" ∷ rest)))
unfolding clap_on_literals
finds-decode (a ∷ b ∷ rest) lawful =
    let rows = decode-rows a b rest in
    subst (Finds (codes "decode" ∷ a ∷ b ∷ rest))
    (sym (subcommand_of-known (codes "decode") decode_shape refl refl refl (codes "--" ∷ a ∷ b ∷ rest)))
    (inr (inl (record { a = a; b = b; rest = rest; words_are = refl; name_is = refl; k = rows.0; len = rows.1; pieces = rows.2 })))
finds-decode [] lawful = absurd (kinds-clash _ _ (sym (decode-fault [] ∙ decode-lacks [] (omega arith)) ∙ lawful))
finds-decode (a ∷ []) lawful = absurd (kinds-clash _ _ (sym (decode-fault (a ∷ []) ∙ decode-lacks (a ∷ []) (omega arith)) ∙ lawful))

finds-run : (rest : List Word) → fault_of cas_form (marked_words (codes "run" ∷ rest)) ≡ []
    → Finds (codes "run" ∷ rest) (subcommand_of cas_form (marked_words (codes "run" ∷ rest)))
unfolding clap_on_literals
finds-run [] lawful = absurd (kinds-clash _ _ (sym (run-fault [] ∙ run-lacks) ∙ lawful))
finds-run (file ∷ []) lawful =
    subst (Finds (codes "run" ∷ file ∷ []))
    (sym (subcommand_of-known (codes "run") run_shape refl refl refl (codes "--" ∷ file ∷ [])))
    (inr (inr (inl (record { file = file; words_are = refl; name_is = refl; text = run-rows file }))))
finds-run (a ∷ b ∷ rest) lawful = absurd (kinds-clash _ _ (sym (run-fault (a ∷ b ∷ rest) ∙ run-strays a b rest) ∙ lawful))

finds-soak : (rest : List Word) → fault_of cas_form (marked_words (codes "soak" ∷ rest)) ≡ []
    → Finds (codes "soak" ∷ rest) (subcommand_of cas_form (marked_words (codes "soak" ∷ rest)))
unfolding clap_on_literals
finds-soak (a ∷ b ∷ c ∷ d ∷ []) lawful =
    let rows = soak-rows a b c d in
    subst (Finds (codes "soak" ∷ a ∷ b ∷ c ∷ d ∷ []))
    (sym (subcommand_of-known (codes "soak") soak_shape refl refl refl (codes "--" ∷ a ∷ b ∷ c ∷ d ∷ [])))
    (inr (inr (inr (record {
      a = a;
      b = b;
      c = c;
      d = d;
      words_are = refl;
      name_is = refl;
      clients = rows.0;
      calls = rows.1;
      moves = rows.2;
      choices = rows.3;
    }))))
finds-soak (a ∷ b ∷ c ∷ d ∷ e ∷ rest) lawful =
    let clash = sym (soak-fault (a ∷ b ∷ c ∷ d ∷ e ∷ rest) ∙ soak-strays a b c d e rest) ∙ lawful in absurd (kinds-clash _ _ clash)
finds-soak [] lawful = absurd (kinds-clash _ _ (sym (soak-fault [] ∙ soak-lacks [] (omega arith)) ∙ lawful))
finds-soak (a ∷ []) lawful = absurd (kinds-clash _ _ (sym (soak-fault (a ∷ []) ∙ soak-lacks (a ∷ []) (omega arith)) ∙ lawful))
finds-soak (a ∷ b ∷ []) lawful = absurd (kinds-clash _ _ (sym (soak-fault (a ∷ b ∷ []) ∙ soak-lacks (a ∷ b ∷ []) (omega arith)) ∙ lawful))
finds-soak (a ∷ b ∷ c ∷ []) lawful =
    absurd (kinds-clash _ _ (sym (soak-fault (a ∷ b ∷ c ∷ []) ∙ soak-lacks (a ∷ b ∷ c ∷ []) (omega arith)) ∙ lawful))

HasForm-some : ¬ (HasForm [])
HasForm-some (inl (inl (a, b, c, e))) = cc
HasForm-some (inl (inr (a, b, rest, e))) = cc
HasForm-some (inr (inl (file, e))) = cc
HasForm-some (inr (inr (a, b, c, d, e))) = cc

HasForm-unknown : (name : Word) (rest : List Word) → bytes_eq (codes "fragments") name ≡ false
    → bytes_eq (codes "decode") name ≡ false → bytes_eq (codes "run") name ≡ false → bytes_eq (codes "soak") name ≡ false
    → ¬ (HasForm (name ∷ rest))
HasForm-unknown name rest not_fragments not_decode not_run not_soak (inl (inl (a, b, c, e))) =
    let same : name ≡ codes "fragments" = ap (λ (ws : List Word). get_or ws 0 []) e in
    let yes = (bytes_eq-Decides (codes "fragments") name).1 (sym same) in cc
HasForm-unknown name rest not_fragments not_decode not_run not_soak (inl (inr (a, b, more, e))) =
    let same : name ≡ codes "decode" = ap (λ (ws : List Word). get_or ws 0 []) e in
    let yes = (bytes_eq-Decides (codes "decode") name).1 (sym same) in cc
HasForm-unknown name rest not_fragments not_decode not_run not_soak (inr (inl (file, e))) =
    let same : name ≡ codes "run" = ap (λ (ws : List Word). get_or ws 0 []) e in
    let yes = (bytes_eq-Decides (codes "run") name).1 (sym same) in cc
HasForm-unknown name rest not_fragments not_decode not_run not_soak (inr (inr (a, b, c, d, e))) =
    let same : name ≡ codes "soak" = ap (λ (ws : List Word). get_or ws 0 []) e in
    let yes = (bytes_eq-Decides (codes "soak") name).1 (sym same) in cc

-- words without a fault have the form that is found, and where no command is found they have none
pub marked_words-finds : (words : List Word) → fault_of cas_form (marked_words words) ≡ []
    → Finds words (subcommand_of cas_form (marked_words words))
unfolding clap_on_literals
marked_words-finds [] lawful = HasForm-some
marked_words-finds (name ∷ rest) lawful =
    go (bytes_eq (codes "fragments") name) refl (bytes_eq (codes "decode") name) refl (bytes_eq (codes "run") name) refl
    (bytes_eq (codes "soak") name) refl
  where
    P : Word → Type 0
    P w = fault_of cas_form (marked_words (w ∷ rest)) ≡ [] → Finds (w ∷ rest) (subcommand_of cas_form (marked_words (w ∷ rest)))

    go : (f : Bool) → bytes_eq (codes "fragments") name ≡ f → (d : Bool) → bytes_eq (codes "decode") name ≡ d
        → (r : Bool) → bytes_eq (codes "run") name ≡ r → (s : Bool) → bytes_eq (codes "soak") name ≡ s
        → Finds (name ∷ rest) (subcommand_of cas_form (marked_words (name ∷ rest)))
    go true is d d_is r r_is s s_is =
        subst P ((bytes_eq-Decides (codes "fragments") name).0 is) (finds-fragments rest) lawful
    go false not true is r r_is s s_is =
        subst P ((bytes_eq-Decides (codes "decode") name).0 is) (finds-decode rest) lawful
    go false not false never true is s s_is =
        subst P ((bytes_eq-Decides (codes "run") name).0 is) (finds-run rest) lawful
    go false not false never false none true is =
        subst P ((bytes_eq-Decides (codes "soak") name).0 is) (finds-soak rest) lawful
    go false not_fragments false not_decode false not_run false not_soak =
        subst (Finds (name ∷ rest)) (sym (subcommand_of-unknown name rest not_fragments not_decode not_run not_soak))
        (HasForm-unknown name rest not_fragments not_decode not_run not_soak)

-- words that have the form are without a fault
pub marked_words-lawful : (words : List Word) → length words ≤ usize_max → HasForm words → fault_of cas_form (marked_words words) ≡ []
marked_words-lawful words fits (inl (inl (a, b, c, e))) =
    ap (λ ws. fault_of cas_form (marked_words ws)) e ∙ fragments-fault (a ∷ b ∷ c ∷ []) ∙ fragments-takes a b c
marked_words-lawful words fits (inr (inl (file, e))) =
    ap (λ ws. fault_of cas_form (marked_words ws)) e ∙ run-fault (file ∷ []) ∙ run-takes file
marked_words-lawful words fits (inr (inr (a, b, c, d, e))) =
    ap (λ ws. fault_of cas_form (marked_words ws)) e ∙ soak-fault (a ∷ b ∷ c ∷ d ∷ []) ∙ soak-takes a b c d
marked_words-lawful words fits (inl (inr (a, b, rest, e))) =
    let count = ap (length {A = Word}) e in
    ap (λ ws. fault_of cas_form (marked_words ws)) e ∙ decode-fault (a ∷ b ∷ rest) ∙ decode-takes a b rest (omega arith)
