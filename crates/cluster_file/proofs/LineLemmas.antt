-- The lines of a text as a loop finds them, and a line without its comment.
use Rattle.std.proofs.Common.{◌≡◌, ◌==◌, ℕ, suc, ◌+◌, ◌<◌, ◌≤◌, Bool, true, false}
use Rattle.std.proofs.Common.{List, [], ◌++◌, length, get_or, take, drop, drop-cons, map}
use Rattle.std.proofs.Common.{Some, None, refl, sym, ap, ◌∙◌, append_assoc, arith, Bor}
use Rattle.std.specs.Prelude.{Option, position, nat_lt}
use Rattle.std.specs.List.{position_or_len}
use Rattle.std.proofs.lemmas.Bool.{ltb-false}
use Rattle.std.proofs.lemmas.List.{append-nil, drop_all, take_all}
use Rattle.cluster_file.specs.Lines.{Line, words_before_comment, without_comment, line_from, with_line, lines_from}
use Rattle.words.specs.Word.{Word}

-- the texts behind the references
abbrev pub texts_of : List (Bor Word) → List Word
texts_of texts = map (λ text. text.now) texts

with_line-append : (line : Option Line) (rest : List Line) → with_line line [] ++ rest ≡ with_line line rest
with_line-append None rest = refl
with_line-append (Some line) rest = refl

-- the line of one more text
pub lines_go_on : (texts : List (Bor Word)) (i : ℕ) (d : Bor Word) (so_far new whole : List Line) (line : Option Line)
    → d.now ≡ [] → i < length texts → line ≡ line_from (i + 1) (words_before_comment (get_or texts i d).now)
    → new ≡ so_far ++ with_line line [] → so_far ++ lines_from (i + 1) (texts_of (drop i texts)) ≡ whole
    → new ++ lines_from (i + 1 + 1) (texts_of (drop (i + 1) texts)) ≡ whole
lines_go_on texts i d so_far new whole line empty lt is pushed before =
    let next : suc i ≡ i + 1 = omega arith in
    let rest = lines_from (i + 1 + 1) (texts_of (drop (i + 1) texts)) in
    let first : lines_from (i + 1) (texts_of (drop i texts)) ≡ with_line line rest =
    ap (λ (ts : List (Bor Word)). lines_from (i + 1) (texts_of ts)) (drop-cons texts i d lt)
    ∙ ap (λ (l : Option Line). with_line l (lines_from (i + 1 + 1) (texts_of (drop (suc i) texts)))) (sym is)
    ∙ ap (λ (k : ℕ). with_line line (lines_from (i + 1 + 1) (texts_of (drop k texts)))) next in
    ap (λ (ls : List Line). ls ++ rest) pushed
    ∙ append_assoc so_far (with_line line []) rest
    ∙ ap (λ (ls : List Line). so_far ++ ls) (with_line-append line rest ∙ sym first)
    ∙ before

-- no text is left
pub lines_done : (texts : List (Bor Word)) (i : ℕ) (so_far whole : List Line) → length texts ≤ i
    → so_far ++ lines_from (i + 1) (texts_of (drop i texts)) ≡ whole → so_far ≡ whole
lines_done texts i so_far whole le before =
    sym (ap (λ (ts : List (Bor Word)). so_far ++ lines_from (i + 1) (texts_of ts)) (drop_all i texts le)
    ∙ append-nil so_far)
    ∙ before

-- a line up to its comment
pub before_comment : (text : List ℕ) (i : ℕ) → position (λ b. b == 35) text ≡ Some i → take i text ≡ without_comment text
before_comment text i found = go (nat_lt (position_or_len (λ b. b == 35) text) (length text)) refl found where
  go : (t : Bool) → nat_lt (position_or_len (λ b. b == 35) text) (length text) ≡ t → position (λ b. b == 35) text ≡ Some i
      → take i text ≡ without_comment text
  go true is some =
      let same : Some (position_or_len (λ b. b == 35) text) ≡ Some i = rw is at some in
      let at_i : i ≡ position_or_len (λ b. b == 35) text = cc in
      ap (λ (n : ℕ). take n text) at_i
  go false is some = let clash = rw is at some in cc

-- a line without a comment
pub no_comment : (text : List ℕ) → position (λ b. b == 35) text ≡ None → text ≡ without_comment text
no_comment text none = go (nat_lt (position_or_len (λ b. b == 35) text) (length text)) refl none where
  go : (t : Bool) → nat_lt (position_or_len (λ b. b == 35) text) (length text) ≡ t → position (λ b. b == 35) text ≡ None
      → text ≡ without_comment text
  go true is found = let clash = rw is at found in cc
  go false is found = sym (take_all (position_or_len (λ b. b == 35) text) text (ltb-false _ _ is))
