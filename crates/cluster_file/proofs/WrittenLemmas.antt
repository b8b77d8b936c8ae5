-- A text that is read as a file writes it.
use Rattle.std.proofs.Common.{◌≡◌, ℕ, Bool, true, false, cond, ltb, ◌||◌, List, [], ◌∷◌, length, map, Option, Some, None}
use Rattle.std.proofs.Common.{Result, Ok, refl, sym, ap, subst, ◌∙◌, codes}
use Rattle.std.specs.Str.{bytes_eq}
use Rattle.std.specs.Str.Parse.{digits_value}
use Rattle.std.proofs.lemmas.Slice.Eq.{bytes_eq-Decides}
use Rattle.cluster_file.specs.declared.error.Fault.{Fault}
use Rattle.cluster_file.specs.declared.error.Fault.TheVariants.{NotANumber}
use Rattle.cluster_file.specs.declared.number.Range.{Range}
use Rattle.cluster_file.specs.declared.setting.Setting.{Setting}
use Rattle.cluster_file.specs.declared.setting.Setting.TheVariants as setting
use Rattle.cluster_file.specs.File.{Fixed, FileContents}
use Rattle.cluster_file.specs.Lines.{Line, lines_of, end_line}
use Rattle.words.specs.Word.{Word}
use Rattle.cluster_file.specs.Settings.{word_of}
use Rattle.cluster_file.specs.Numbers.{is_decimal, within, number_from, delta_from, mover_from, is_among}
use Rattle.words.specs.Parts.{and_then}
use Rattle.cluster_file.specs.Numbers.{of_a_byte, of_32_bits}
use Rattle.cluster_file.specs.Reading.{first_value, without_second, value_of_line, setting_at, setting_value, nodes_from, nodes_at}
use Rattle.cluster_file.specs.Reading.{mover_at, later_at, later_words, of_n, of_k, of_ticks, fixed_at, unless_line_left, file_at}
use Rattle.cluster_file.specs.Written.{WritesNumber, WriteEach, WritesDelta, said, IsTextOf, ReadFilesAreWritten}
use Rattle.cluster_file.proofs.SettingLemmas.{setting_ok}
use Rattle.cluster_file.proofs.ValueLemmas.{placed_ok}
use Rattle.cluster_file.proofs.MoverLemmas.{AreNodes, nodes_read}
use Rattle.words.proofs.PartLemmas.{bind_ok, guarded, guarded_above, ok_is}

-- ---- words

ok_of : {X E : Type 0} (x y : X) → (let r : Result X E = Ok x in r) ≡ Ok y → x ≡ y
ok_of x y e = cc

number_writes : (range : Range) (word : Word) (n : ℕ) → number_from range word ≡ Ok n → WritesNumber word n
unfolding number_from
number_writes range word n e =
    let m = digits_value 10 word in
    let a = guarded (is_decimal word) (within range m) NotANumber n e in
    let b = guarded_above (ltb m range.least || ltb range.most m) range.outside (Ok m) n a.1 in
    (a.0, ok_is m n b.1)

mover_writes : (nodes : List ℕ) (later : List Word) (word : Word) (n : ℕ) → mover_from nodes later word ≡ Ok n → WritesNumber word n
unfolding mover_from
mover_writes nodes later word n e =
    let a = bind_ok (number_from of_a_byte word) _ n e in
    let b = guarded (is_among nodes later a.0) (Ok a.0) _ n a.2 in
    subst (WritesNumber word) (ok_is a.0 n b.1) (number_writes of_a_byte word a.0 a.1)

each_writes : (words : List Word) (nodes : List ℕ) → AreNodes words nodes → WriteEach words nodes
each_writes [] [] are = tt
each_writes [] (n ∷ ns) are = absurd are
each_writes (word ∷ words) [] are = absurd are
each_writes (word ∷ words) (n ∷ ns) are = (number_writes of_a_byte word n are.0, each_writes words ns are.1)

delta_by : (t : Bool) (word : Word) (delta : Option ℕ) → bytes_eq word (codes "none") ≡ t
    → cond t (Ok None) (and_then (number_from of_32_bits word) (λ n. Ok (Some n))) ≡ Ok delta → WritesDelta word delta
delta_by true word delta test e =
    let none : None ≡ delta = ok_is None delta e in
    subst (WritesDelta word) none ((bytes_eq-Decides word (codes "none")).0 test)
delta_by false word delta test e =
    let a = bind_ok (number_from of_32_bits word) (λ n. Ok (Some n)) delta e in
    subst (WritesDelta word) (ok_is (Some a.0) delta a.2) (number_writes of_32_bits word a.0 a.1)

delta_writes : (word : Word) (delta : Option ℕ) → delta_from word ≡ Ok delta → WritesDelta word delta
unfolding delta_from
delta_writes word delta e = delta_by (bytes_eq word (codes "none")) word delta refl e

-- ---- lines

single : {X : Type 0} (line : ℕ) (values : List Word) (word : Word) (x y : X) → first_value line values ≡ Ok word
    → without_second line values x ≡ Ok y → (values ≡ word ∷ []) × (x ≡ y)
single line [] word x y first e = absurd cc
single line (v ∷ []) word x y first e =
    let same : v ≡ word = cc in let value : x ≡ y = cc in (ap (λ (w : Word). w ∷ []) same, value)
single line (v ∷ w ∷ ws) word x y first e = absurd cc

-- the one value of a line
read_line : {X : Type 0} (from : Word → Result X Fault) (line : Line) (x : X) → value_of_line from line ≡ Ok x
    → (word : Word) × (from word ≡ Ok x) × (line.values ≡ word ∷ [])
unfolding value_of_line
read_line from line x e =
    let first = bind_ok _ _ x e in
    let placed = bind_ok _ _ x first.2 in
    let alone = single line.number line.values first.0 placed.0 x first.1 placed.2 in
    (first.0, placed_ok _ _ (from first.0) placed.0 placed.1 ∙ ap (λ z. Ok z) alone.1, alone.0)

-- a setting with one value, on its line before the rest
read_setting : {X : Type 0} (due : Setting) (from : Word → Result X Fault) (end : ℕ) (lines : List Line) (line : Line × List Line)
    (value : X) (x : X × List Line) → setting_at due end lines ≡ Ok line → value_of_line from line.0 ≡ Ok value
    → (value, line.1) ≡ x
    → (word : Word) × (from word ≡ Ok x.0) × (map said lines ≡ (word_of due, word ∷ []) ∷ map said x.1)
read_setting due from end lines line value x at writes whole =
    let read = read_line from line.0 value writes in (
      read.0,
      read.1 ∙ ap (λ z. Ok z) (ap (λ p. p.0) whole),
      setting_ok due end lines line at ∙ ap (λ (ws : List Word). (word_of due, ws) ∷ map said line.1) read.2
          ∙ ap (λ (ls : List Line). (word_of due, read.0 ∷ []) ∷ map said ls) (ap (λ p. p.1) whole),
    )

read_value : {X : Type 0} (due : Setting) (from : Word → Result X Fault) (end : ℕ) (lines : List Line) (x : X × List Line)
    → setting_value due from end lines ≡ Ok x
    → (word : Word) × (from word ≡ Ok x.0) × (map said lines ≡ (word_of due, word ∷ []) ∷ map said x.1)
unfolding setting_value
read_value due from end lines x e =
    let line = bind_ok _ _ x e in
    let value = bind_ok _ _ x line.2 in
    read_setting due from end lines line.0 value.0 x line.1 value.1 (ok_of _ _ value.2)

read_mover : (nodes : List ℕ) (end : ℕ) (lines : List Line) (x : ℕ × List Line) → mover_at nodes end lines ≡ Ok x
    → (word : Word) × WritesNumber word x.0 × (map said lines ≡ (codes "mover", word ∷ []) ∷ map said x.1)
unfolding mover_at
read_mover nodes end lines x e =
    let line = bind_ok _ _ x e in
    let value = bind_ok _ _ x line.2 in
    let from = mover_from nodes (later_words line.0.1) in
    let read = read_setting setting.Mover from end lines line.0 value.0 x line.1 value.1 (ok_of _ _ value.2) in
    (read.0, mover_writes nodes (later_words line.0.1) read.0 x.0 read.1, read.2)

-- the nodes of a line
nodes_write : (others : List ℕ) (line : ℕ) (words : List Word) (nodes : List ℕ) → nodes_from others [] line words ≡ Ok nodes
    → WriteEach words nodes
nodes_write others line words nodes e =
    let new = nodes_read others [] line words nodes e in
    subst (WriteEach words) (sym new.1) (each_writes words new.0 new.2)

read_later : (others : List ℕ) (end : ℕ) (lines : List Line) (x : List ℕ × List Line) → later_at others end lines ≡ Ok x
    → (words : List Word) × WriteEach words x.0 × (map said lines ≡ (codes "later", words) ∷ map said x.1)
unfolding later_at
read_later others end lines x e =
    let line = bind_ok _ _ x e in
    let nodes = bind_ok _ _ x line.2 in
    let new = nodes_write others line.0.0.number line.0.0.values nodes.0 nodes.1 in
    let whole : (nodes.0, line.0.1) ≡ x = ok_of _ _ nodes.2 in (
      line.0.0.values,
      subst (WriteEach line.0.0.values) (ap (λ p. p.0) whole) new,
      setting_ok setting.Later end lines line.0 line.1
          ∙ ap (λ (ls : List Line). (codes "later", line.0.0.values) ∷ map said ls) (ap (λ p. p.1) whole),
    )

read_nodes : (end : ℕ) (lines : List Line) (x : List ℕ × List Line) → nodes_at end lines ≡ Ok x
    → (words : List Word) × WriteEach words x.0 × (map said lines ≡ (codes "nodes", words) ∷ map said x.1)
unfolding nodes_at
read_nodes end lines x e =
    let line = bind_ok _ _ x e in
    let first = bind_ok (first_value line.0.0.number line.0.0.values) _ x line.2 in
    let nodes = bind_ok (nodes_from [] [] line.0.0.number line.0.0.values) _ x first.2 in
    let new = nodes_write [] line.0.0.number line.0.0.values nodes.0 nodes.1 in
    let whole : (nodes.0, line.0.1) ≡ x = ok_of _ _ nodes.2 in (
      line.0.0.values,
      subst (WriteEach line.0.0.values) (ap (λ p. p.0) whole) new,
      setting_ok setting.Nodes end lines line.0 line.1
          ∙ ap (λ (ls : List Line). (codes "nodes", line.0.0.values) ∷ map said ls) (ap (λ p. p.1) whole),
    )

-- ---- files

ended : {X : Type 0} (lines : List Line) (x y : X) → unless_line_left lines x ≡ Ok y → (lines ≡ []) × (x ≡ y)
ended [] x y e = let same : x ≡ y = cc in (refl, same)
ended (line ∷ rest) x y e = absurd cc

-- what is fixed, as the first five of these lines write it
record FixedWritten (lines : List Line) (fixed : Fixed) (rest : List Line) : Type 0 where
  nodes : List Word
  n : Word
  k : Word
  delta : Word
  mover : Word
  entries : map said lines ≡ (codes "nodes", nodes) ∷ (codes "n", n ∷ []) ∷ (codes "k", k ∷ []) ∷ (codes "delta", delta ∷ [])
      ∷ (codes "mover", mover ∷ []) ∷ map said rest
  nodes_written : WriteEach nodes fixed.nodes
  n_written : WritesNumber n fixed.n
  k_written : WritesNumber k fixed.k
  delta_written : WritesDelta delta fixed.delta
  mover_written : WritesNumber mover fixed.mover

behind : (entry : Word × List Word) (xs ys : List (Word × List Word)) → xs ≡ ys → entry ∷ xs ≡ entry ∷ ys
behind entry xs ys e = ap (λ (r : List (Word × List Word)). entry ∷ r) e

fixed_write : (end : ℕ) (lines : List Line) (x : Fixed × List Line) → fixed_at end lines ≡ Ok x → FixedWritten lines x.0 x.1
unfolding fixed_at
fixed_write end lines x e =
    let nodes = bind_ok (nodes_at end lines) _ x e in
    let n = bind_ok (setting_value setting.N (number_from (of_n (length nodes.0.0))) end nodes.0.1) _ x nodes.2 in
    let k = bind_ok (setting_value setting.K (number_from (of_k n.0.0)) end n.0.1) _ x n.2 in
    let delta = bind_ok (setting_value setting.Delta delta_from end k.0.1) _ x k.2 in
    let mover = bind_ok (mover_at nodes.0.0 end delta.0.1) _ x delta.2 in
    let a = read_nodes end lines nodes.0 nodes.1 in
    let b = read_value setting.N (number_from (of_n (length nodes.0.0))) end nodes.0.1 n.0 n.1 in
    let d = read_value setting.K (number_from (of_k n.0.0)) end n.0.1 k.0 k.1 in
    let f = read_value setting.Delta delta_from end k.0.1 delta.0 delta.1 in
    let g = read_mover nodes.0.0 end delta.0.1 mover.0 mover.1 in
    let held : Fixed = record { nodes = nodes.0.0; n = n.0.0; k = k.0.0; delta = delta.0.0; mover = mover.0.0 } in
    let whole : (held, mover.0.1) ≡ x = ok_of _ _ mover.2 in
    let written : FixedWritten lines held mover.0.1 = record {
      nodes = a.0;
      n = b.0;
      k = d.0;
      delta = f.0;
      mover = g.0;
      entries = a.2 ∙ behind _ _ _ (b.2 ∙ behind _ _ _ (d.2 ∙ behind _ _ _ (f.2 ∙ behind _ _ _ g.2)));
      nodes_written = a.1;
      n_written = number_writes (of_n (length nodes.0.0)) b.0 n.0.0 b.1;
      k_written = number_writes (of_k n.0.0) d.0 k.0.0 d.1;
      delta_written = delta_writes f.0 delta.0.0 f.1;
      mover_written = g.1;
    } in
    subst (λ (p : Fixed × List Line). FixedWritten lines p.0 p.1) whole written

lines_write : (end : ℕ) (text : List ℕ) (file : FileContents) → file_at end (lines_of text) ≡ Ok file → IsTextOf text file
unfolding file_at
lines_write end text file e =
    let fixed = bind_ok (fixed_at end (lines_of text)) _ file e in
    let later = bind_ok (later_at fixed.0.0.nodes end fixed.0.1) _ file fixed.2 in
    let ticks = bind_ok (setting_value setting.Ticks (number_from of_ticks) end later.0.1) _ file later.2 in
    let w = fixed_write end (lines_of text) fixed.0 fixed.1 in
    let a = read_later fixed.0.0.nodes end fixed.0.1 later.0 later.1 in
    let b = read_value setting.Ticks (number_from of_ticks) end later.0.1 ticks.0 ticks.1 in
    let held : FileContents = record { fixed = fixed.0.0; later = later.0.0; ticks = ticks.0.0 } in
    let last = ended ticks.0.1 held file ticks.2 in
    let none : map said ticks.0.1 ≡ [] = ap (λ (ls : List Line). map said ls) last.0 in
    let five = λ (more : List (Word × List Word)). (codes "nodes", w.nodes) ∷ (codes "n", w.n ∷ []) ∷ (codes "k", w.k ∷ [])
    ∷ (codes "delta", w.delta ∷ []) ∷ (codes "mover", w.mover ∷ []) ∷ more in
    let written : IsTextOf text held = record {
      values = record { nodes = w.nodes; n = w.n; k = w.k; delta = w.delta; mover = w.mover; later = a.0; ticks = b.0 };
      lines = w.entries ∙ ap five (a.2 ∙ behind _ _ _ (b.2 ∙ behind _ _ _ none));
      written = record {
        nodes = w.nodes_written;
        n = w.n_written;
        k = w.k_written;
        delta = w.delta_written;
        mover = w.mover_written;
        later = a.1;
        ticks = number_writes of_ticks b.0 ticks.0.0 b.1;
      };
    } in
    subst (IsTextOf text) last.1 written

pub read_again : ReadFilesAreWritten
read_again text file e = lines_write (end_line text) text file e
