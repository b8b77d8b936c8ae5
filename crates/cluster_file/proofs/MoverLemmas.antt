-- The mover is one of the nodes, or the line `later` names it.
use Rattle.std.proofs.Common.{◌≡◌, ◌==◌, ℕ, Bool, true, ◌||◌, cond, List, [], ◌∷◌, ◌++◌, ◌+◌, length, map}
use Rattle.std.proofs.Common.{Bor, Ok, Err, refl, sym, ap, subst, ◌∙◌, append_assoc, codes}
use Rattle.std.specs.Bool.{⊤}
use Rattle.std.specs.List.{list_any}
use Rattle.std.proofs.lemmas.List.{append-nil}
use Rattle.std.proofs.lemmas.Slice.Eq.{bytes_eq-Decides}
use Rattle.layout.specs.Quorum.{has}
use Rattle.cluster_file.specs.declared.error.Fault.TheVariants.{NoNode}
use Rattle.cluster_file.specs.declared.setting.Setting.TheVariants as setting
use Rattle.cluster_file.specs.Lines.{Line}
use Rattle.words.specs.Word.{Word}
use Rattle.cluster_file.specs.Numbers.{number_from, mover_from, node_from, of_a_byte, writes_node, is_among}
use Rattle.cluster_file.specs.Reading.{placed_at, value_of_line, nodes_from, later_at, later_words}
use Rattle.cluster_file.specs.Written.{said}
use Rattle.cluster_file.proofs.SettingLemmas.{setting_ok}
use Rattle.cluster_file.proofs.ValueLemmas.{placed_ok, value_ok}
use Rattle.words.proofs.PartLemmas.{bind_ok, guarded, guarded_above, ok_is}

-- words write these nodes, one each, in order
abbrev pub AreNodes : List Word → List ℕ → Type 0
AreNodes [] [] = ⊤
AreNodes [] (n ∷ ns) = ⊥
AreNodes (word ∷ words) [] = ⊥
AreNodes (word ∷ words) (n ∷ ns) = (number_from of_a_byte word ≡ Ok n) × AreNodes words ns

-- words as the code holds them
pub any_word : (node : ℕ) (words : List (Bor Word))
    → list_any (λ word. writes_node node word.now) words ≡ list_any (writes_node node) (map (λ word. word.now) words)
any_word node [] = refl
any_word node (word ∷ words) = ap (λ (b : Bool). writes_node node word.now || b) (any_word node words)

-- a word writes a node exactly if it is among the nodes that they write
pub words_name : (node : ℕ) (words : List Word) (nodes : List ℕ) → AreNodes words nodes
    → list_any (writes_node node) words ≡ has nodes node
words_name node [] [] are = refl
words_name node [] (n ∷ ns) are = absurd are
words_name node (word ∷ words) [] are = absurd are
words_name node (word ∷ words) (n ∷ ns) are = rw are.0 (ap (λ (b : Bool). (n == node) || b) (words_name node words ns are.1))

-- the node that a word writes
pub node_read : (others listed : List ℕ) (word : Word) (n : ℕ) → node_from others listed word ≡ Ok n → number_from of_a_byte word ≡ Ok n
unfolding node_from
node_read others listed word n e =
    let a = bind_ok (number_from of_a_byte word) _ n e in
    let b = guarded_above (has others a.0 || has listed a.0) _ _ n a.2 in
    let d = guarded _ (Ok a.0) _ n b.1 in
    subst (λ (m : ℕ). number_from of_a_byte word ≡ Ok m) (ok_is a.0 n d.1) a.1

-- the nodes of a line
pub nodes_read : (others listed : List ℕ) (line : ℕ) (words : List Word) (nodes : List ℕ) → nodes_from others listed line words ≡ Ok nodes
    → (new : List ℕ) × (nodes ≡ listed ++ new) × AreNodes words new
unfolding nodes_from
nodes_read others listed line [] nodes e = ([], sym (ok_is listed nodes e) ∙ sym (append-nil listed), tt)
nodes_read others listed line (word ∷ words) nodes e =
    let a = bind_ok (placed_at line (length listed + 2) (node_from others listed word)) _ nodes e in
    let rest = nodes_read others (listed ++ a.0 ∷ []) line words nodes a.2 in
    let first = node_read others listed word a.0 (placed_ok _ _ (node_from others listed word) a.0 a.1) in
    (a.0 ∷ rest.0, rest.1 ∙ append_assoc listed (a.0 ∷ []) rest.0, (first, rest.2))

-- the words of the line `later`, where it is the first
pub words_of_later : (lines : List Line) (words : List Word) (entries : List (Word × List Word))
    → map said lines ≡ (codes "later", words) ∷ entries → later_words lines ≡ words
words_of_later [] words entries e = absurd cc
words_of_later (line ∷ rest) words entries e =
    let first : said line ≡ (codes "later", words) = cc in
    let named = (bytes_eq-Decides line.name (codes "later")).1 (ap (λ (s : Word × List Word). s.0) first) in
    rw named (ap (λ (s : Word × List Word). s.1) first)

-- the words of the line `later` write the nodes that joined later
later_read : (others : List ℕ) (end : ℕ) (lines : List Line) (x : List ℕ × List Line) → later_at others end lines ≡ Ok x
    → AreNodes (later_words lines) x.0
unfolding later_at
later_read others end lines x e =
    let line = bind_ok _ _ x e in
    let nodes = bind_ok _ _ x line.2 in
    let new = nodes_read others [] line.0.0.number line.0.0.values nodes.0 nodes.1 in
    let words = words_of_later lines line.0.0.values _ (setting_ok setting.Later end lines line.0 line.1) in
    let same : (nodes.0, line.0.1) ≡ x = ok_is _ _ nodes.2 in
    subst (λ (ws : List Word). AreNodes ws x.0) (sym words)
    (subst (AreNodes line.0.0.values) (sym new.1 ∙ ap (λ p. p.0) same) new.2)

-- the mover that was read is one of the nodes of both lines
pub mover_is_named : (others : List ℕ) (end node : ℕ) (lines : List Line) (x : List ℕ × List Line) → later_at others end lines ≡ Ok x
    → is_among others (later_words lines) node ≡ true → (has others node || has x.0 node) ≡ true
mover_is_named others end node lines x e among =
    subst (λ (b : Bool). (has others node || b) ≡ true) (words_name node (later_words lines) x.0 (later_read others end lines x e)) among

-- the mover is one of the nodes, or one of the words writes it
one_of : (nodes : List ℕ) (later : List Word) (word : Word) (n : ℕ) → mover_from nodes later word ≡ Ok n → is_among nodes later n ≡ true
unfolding mover_from
one_of nodes later word n e =
    let a = bind_ok (number_from of_a_byte word) (λ m. cond (is_among nodes later m) (Ok m) (Err NoNode)) n e in
    let b = guarded (is_among nodes later a.0) (Ok a.0) NoNode n a.2 in
    subst (λ m. is_among nodes later m ≡ true) (ok_is a.0 n b.1) b.0

pub mover_is_among : (nodes : List ℕ) (later : List Word) (line : Line) (n : ℕ) → value_of_line (mover_from nodes later) line ≡ Ok n
    → is_among nodes later n ≡ true
mover_is_among nodes later line n e =
    let found = value_ok (mover_from nodes later) line n e in one_of nodes later found.0 n found.1
