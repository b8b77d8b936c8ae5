-- A text of a lawful file is read as that file.
use Rattle.std.proofs.Common.{◌≡◌, ◌==◌, ◌||◌, ◌<◌, ◌^◌, ◌+◌, ℕ, Bool, true, false, nat_eq}
use Rattle.std.proofs.Common.{List, [], ◌∷◌, ◌++◌, length, map, None, Result, Ok}
use Rattle.std.proofs.Common.{refl, sym, ap, subst, ◌∙◌, append_assoc, codes, arith}
use Rattle.std.specs.List.{IsDistinct, AllByRecursion}
use Rattle.std.proofs.lemmas.List.{append-nil, length-append}
use Rattle.std.proofs.lemmas.List.Folds.{list_any-append}
use Rattle.layout.specs.Quorum.{has}
use Rattle.tag.specs.declared.limits.TheConstants.{MOST_SERVERS}
use Rattle.cluster_file.specs.declared.error.Fault.{Fault}
use Rattle.cluster_file.specs.declared.setting.Setting.{Setting}
use Rattle.cluster_file.specs.declared.setting.Setting.TheVariants as setting
use Rattle.cluster_file.specs.File.{FileContents, AreApart, IsLawfulFile}
use Rattle.cluster_file.specs.Lines.{Line, lines_of, end_line}
use Rattle.words.specs.Word.{Word}
use Rattle.cluster_file.specs.Settings.{word_of, setting_from, due_fault}
use Rattle.cluster_file.specs.Numbers.{number_from, delta_from, node_from, is_among}
use Rattle.cluster_file.specs.Reading.{placed_at, first_value, value_of_line, setting_value, setting_at, nodes_from}
use Rattle.cluster_file.specs.Reading.{nodes_at, mover_at, later_at, later_words, of_n, of_k, of_ticks, fixed_at, unless_line_left, file_at}
use Rattle.cluster_file.specs.Written.{Values, WritesNumber, WriteEach, WriteFile, settings_of, said, AreInRange}
use Rattle.cluster_file.specs.Written.{WrittenFilesAreRead}
use Rattle.cluster_file.proofs.ValueLemmas.{neither_is}
use Rattle.cluster_file.proofs.NodeLemmas.{neither}
use Rattle.cluster_file.proofs.MoverLemmas.{words_name, words_of_later}
use Rattle.cluster_file.proofs.WrittenWordLemmas.{join, number_there, are_nodes, mover_small, mover_there, node_there, delta_there}

-- ---- lines

due_there : (due : Setting) → due_fault due (word_of due) ≡ None
unfolding setting_from
due_there setting.Nodes = refl
due_there setting.N = refl
due_there setting.K = refl
due_there setting.Delta = refl
due_there setting.Mover = refl
due_there setting.Later = refl
due_there setting.Ticks = refl

abbrev Entry : Type 0
Entry = Word × List Word

setting_there : (due : Setting) (end : ℕ) (lines : List Line) (values : List Word) (entries : List Entry)
    → map said lines ≡ (word_of due, values) ∷ entries
    → (x : Line × List Line) × (setting_at due end lines ≡ Ok x) × (x.0.values ≡ values) × (map said x.1 ≡ entries)
unfolding setting_at
setting_there due end [] values entries e = absurd cc
setting_there due end (line ∷ rest) values entries e =
    let first : said line ≡ (word_of due, values) = cc in
    let more : map said rest ≡ entries = cc in
    let name : line.name ≡ word_of due = ap (λ (s : Entry). s.0) first in
    let right : due_fault due line.name ≡ None = ap (due_fault due) name ∙ due_there due in
    ((line, rest), rw right refl, ap (λ (s : Entry). s.1) first, more)

value_there : {X : Type 0} (due : Setting) (from : Word → Result X Fault) (end : ℕ) (lines : List Line) (word : Word)
    (entries : List Entry) (v : X) → map said lines ≡ (word_of due, word ∷ []) ∷ entries → from word ≡ Ok v
    → (rest : List Line) × (setting_value due from end lines ≡ Ok (v, rest)) × (map said rest ≡ entries)
unfolding setting_value value_of_line
value_there due from end lines word entries v e writes =
    let line = setting_there due end lines (word ∷ []) entries e in (
      line.0.1,
      join (setting_at due end lines) _ line.0 (v, line.0.1) line.1 (rw (line.2, writes) refl),
      line.3,
    )

mover_line : (nodes : List ℕ) (end : ℕ) (lines : List Line) (word : Word) (words : List Word) (later : List ℕ) (more : List Entry)
    (m : ℕ) → map said lines ≡ (codes "mover", word ∷ []) ∷ (codes "later", words) ∷ more → WritesNumber word m
    → WriteEach words later → AllByRecursion (λ node. node < 2 ^ 8) nodes → AllByRecursion (λ node. node < 2 ^ 8) later
    → (has nodes m || has later m) ≡ true
    → (rest : List Line) × (mover_at nodes end lines ≡ Ok (m, rest)) × (map said rest ≡ (codes "later", words) ∷ more)
unfolding mover_at value_of_line
mover_line nodes end lines word words later more m e written each small small_later named =
    let line = setting_there setting.Mover end lines (word ∷ []) ((codes "later", words) ∷ more) e in
    let said_later = words_of_later line.0.1 words more line.3 in
    let same = words_name m words later (are_nodes words later each small_later) in
    let among : is_among nodes (later_words line.0.1) m ≡ true =
    subst (λ (ws : List Word). is_among nodes ws m ≡ true) (sym said_later)
    (subst (λ (b : Bool). (has nodes m || b) ≡ true) (sym same) named) in
    let below = mover_small nodes later m (has nodes m) small small_later refl named in
    let writes = mover_there nodes (later_words line.0.1) word m written below among in (
      line.0.1,
      join (setting_at setting.Mover end lines) _ line.0 (m, line.0.1) line.1 (rw (line.2, writes) refl),
      line.3,
    )

all_mid : (x n : ℕ) (xs ns : List ℕ) → AllByRecursion (λ y. nat_eq x y ≡ false) (xs ++ n ∷ ns) → nat_eq x n ≡ false
all_mid x n [] ns apart = apart.0
all_mid x n (y ∷ ys) ns apart = all_mid x n ys ns apart.1

new_one : (xs ns : List ℕ) (n : ℕ) → IsDistinct nat_eq (xs ++ n ∷ ns) → has xs n ≡ false
unfolding IsDistinct
new_one [] ns n distinct = refl
new_one (x ∷ xs) ns n distinct = neither (x == n) (has xs n) (all_mid x n xs ns distinct.0) (new_one xs ns n distinct.1)

nodes_there : (others listed : List ℕ) (line : ℕ) (words : List Word) (new : List ℕ) → WriteEach words new
    → AllByRecursion (λ node. node < 2 ^ 8) new → AreApart others (listed ++ new)
    → nodes_from others listed line words ≡ Ok (listed ++ new)
unfolding nodes_from
nodes_there others listed line [] [] written small apart = ap (λ (ns : List ℕ). Ok ns) (sym (append-nil listed))
nodes_there others listed line [] (n ∷ ns) written small apart = absurd written
nodes_there others listed line (word ∷ words) [] written small apart = absurd written
nodes_there others listed line (word ∷ words) (n ∷ ns) written small apart =
    let distinct = subst (IsDistinct nat_eq) (sym (append_assoc others listed (n ∷ ns))) apart.distinct in
    let absent = new_one (others ++ listed) ns n distinct in
    let parts = neither_is (has others n) (has listed n) (sym (list_any-append (λ (j : ℕ). j == n) others listed) ∙ absent) in
    let few = apart.few in
    let room : length others + length listed < MOST_SERVERS =
    omega (arith, few, length-append others (listed ++ n ∷ ns), length-append listed (n ∷ ns)) in
    let node = node_there others listed word n written.0 small.0 parts.0 parts.1 room in
    let again = append_assoc listed (n ∷ []) ns in
    let rest = nodes_there others (listed ++ n ∷ []) line words ns written.1 small.1 (subst (AreApart others) (sym again) apart) in
    join (placed_at line (length listed + 2) (node_from others listed word)) _ n (listed ++ n ∷ ns) (rw node refl)
    (rest ∙ ap (λ (ms : List ℕ). Ok ms) again)

first_there : (line : ℕ) (words : List Word) (nodes : List ℕ) → WriteEach words nodes → 0 < length nodes
    → (word : Word) × (first_value line words ≡ Ok word)
first_there line [] [] written some = absurd (omega arith)
first_there line [] (n ∷ ns) written some = absurd written
first_there line (word ∷ words) nodes written some = (word, refl)

nodes_line : (end : ℕ) (lines : List Line) (words : List Word) (nodes : List ℕ) (entries : List Entry)
    → map said lines ≡ (codes "nodes", words) ∷ entries → WriteEach words nodes → AllByRecursion (λ node. node < 2 ^ 8) nodes
    → AreApart [] nodes → 0 < length nodes
    → (rest : List Line) × (nodes_at end lines ≡ Ok (nodes, rest)) × (map said rest ≡ entries)
unfolding nodes_at
nodes_line end lines words nodes entries e written small apart some =
    let line = setting_there setting.Nodes end lines words entries e in
    let number = line.0.0.number in
    let first = first_there number words nodes written some in
    let each : nodes_from [] [] number line.0.0.values ≡ Ok nodes =
    ap (nodes_from [] [] number) line.2 ∙ nodes_there [] [] number words nodes written small apart in (
      line.0.1,
      join (setting_at setting.Nodes end lines) _ line.0 (nodes, line.0.1) line.1
          (join (first_value number line.0.0.values) _ first.0 (nodes, line.0.1) (ap (first_value number) line.2 ∙ first.1)
          (join (nodes_from [] [] number line.0.0.values) _ nodes (nodes, line.0.1) each refl)),
      line.3,
    )

later_line : (others : List ℕ) (end : ℕ) (lines : List Line) (words : List Word) (later : List ℕ) (entries : List Entry)
    → map said lines ≡ (codes "later", words) ∷ entries → WriteEach words later → AllByRecursion (λ node. node < 2 ^ 8) later
    → AreApart others later
    → (rest : List Line) × (later_at others end lines ≡ Ok (later, rest)) × (map said rest ≡ entries)
unfolding later_at
later_line others end lines words later entries e written small apart =
    let line = setting_there setting.Later end lines words entries e in
    let number = line.0.0.number in
    let each : nodes_from others [] number line.0.0.values ≡ Ok later =
    ap (nodes_from others [] number) line.2 ∙ nodes_there others [] number words later written small apart in (
      line.0.1,
      join (setting_at setting.Later end lines) _ line.0 (later, line.0.1) line.1
          (join (nodes_from others [] number line.0.0.values) _ later (later, line.0.1) each refl),
      line.3,
    )

-- ---- files

alone_apart : (file : FileContents) → IsLawfulFile file → AreApart [] file.fixed.nodes
alone_apart file lawful =
    let few = lawful.nodes.few in
    record {
      distinct = lawful.placed.distinct;
      few = omega (arith, few, length-append file.fixed.nodes file.later);
    }

fixed_lines : (end : ℕ) (lines : List Line) (values : Values) (file : FileContents) (more : List Entry) → WriteFile values file
    → IsLawfulFile file → AreInRange file
    → map said lines ≡ (codes "nodes", values.nodes) ∷ (codes "n", values.n ∷ []) ∷ (codes "k", values.k ∷ [])
    ∷ (codes "delta", values.delta ∷ []) ∷ (codes "mover", values.mover ∷ []) ∷ (codes "later", values.later) ∷ more
    → (rest : List Line) × (fixed_at end lines ≡ Ok (file.fixed, rest)) × (map said rest ≡ (codes "later", values.later) ∷ more)
unfolding fixed_at
fixed_lines end lines values file more written lawful small e =
    let fixed = file.fixed in
    let rules = lawful.placed in
    let few = lawful.nodes.few in
    let total = length-append fixed.nodes file.later in
    let some = rules.some in
    let enough = rules.enough in
    let available = rules.available in
    let a = nodes_line end lines values.nodes fixed.nodes _ e written.nodes small.nodes (alone_apart file lawful) (omega arith) in
    let b = value_there setting.N (number_from (of_n (length fixed.nodes))) end a.0 values.n _ fixed.n a.2
    (number_there (of_n (length fixed.nodes)) values.n fixed.n written.n (omega arith) (omega arith)) in
    let d = value_there setting.K (number_from (of_k fixed.n)) end b.0 values.k _ fixed.k b.2
    (number_there (of_k fixed.n) values.k fixed.k written.k (omega arith) (omega arith)) in
    let f = value_there setting.Delta delta_from end d.0 values.delta _ fixed.delta d.2
    (delta_there values.delta fixed.delta written.delta small.delta) in
    let g = mover_line fixed.nodes end f.0 values.mover values.later file.later more fixed.mover f.2 written.mover written.later
    small.nodes small.later lawful.mover in (
      g.0,
      join (nodes_at end lines) _ (fixed.nodes, a.0) (fixed, g.0) a.1
          (join (setting_value setting.N (number_from (of_n (length fixed.nodes))) end a.0) _ (fixed.n, b.0) (fixed, g.0) b.1
          (join (setting_value setting.K (number_from (of_k fixed.n)) end b.0) _ (fixed.k, d.0) (fixed, g.0) d.1
          (join (setting_value setting.Delta delta_from end d.0) _ (fixed.delta, f.0) (fixed, g.0) f.1
          (join (mover_at fixed.nodes end f.0) _ (fixed.mover, g.0) (fixed, g.0) g.1 refl)))),
      g.2,
    )

none_left : (lines : List Line) → map said lines ≡ [] → lines ≡ []
none_left [] e = refl
none_left (line ∷ rest) e = absurd cc

file_lines : (end : ℕ) (lines : List Line) (values : Values) (file : FileContents) → WriteFile values file → IsLawfulFile file
    → AreInRange file → map said lines ≡ settings_of values → file_at end lines ≡ Ok file
unfolding file_at
file_lines end lines values file written lawful small e =
    let fixed = fixed_lines end lines values file _ written lawful small e in
    let nodes = file.fixed.nodes in
    let some = lawful.ticks in
    let below = small.ticks in
    let later = later_line nodes end fixed.0 values.later file.later _ fixed.2 written.later small.later lawful.nodes in
    let ticks = value_there setting.Ticks (number_from of_ticks) end later.0 values.ticks [] file.ticks later.2
    (number_there of_ticks values.ticks file.ticks written.ticks (omega arith) (omega arith)) in
    join (fixed_at end lines) _ (file.fixed, fixed.0) file fixed.1
    (join (later_at nodes end fixed.0) _ (file.later, later.0) file later.1
    (join (setting_value setting.Ticks (number_from of_ticks) end later.0) _ (file.ticks, ticks.0) file ticks.1
    (ap (λ (ls : List Line). unless_line_left ls file) (none_left ticks.0 ticks.2))))

pub written_is_read : WrittenFilesAreRead
written_is_read text file is_text lawful small =
    file_lines (end_line text) (lines_of text) is_text.values file is_text.written lawful small is_text.lines
