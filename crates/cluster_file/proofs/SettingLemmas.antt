-- The line of the setting that is due.
use Rattle.std.proofs.Common.{◌≡◌, ℕ, zero, suc, Bool, true, false, cond, ltb, List, [], ◌∷◌, map, Option, Some, None, Ok}
use Rattle.std.proofs.Common.{refl, sym, ap, ◌∙◌, arith, codes}
use Rattle.std.specs.Str.{bytes_eq}
use Rattle.std.proofs.lemmas.Bool.{ltb-false}
use Rattle.std.proofs.lemmas.Slice.Eq.{bytes_eq-Decides}
use Rattle.cluster_file.specs.declared.error.Fault.{Fault}
use Rattle.cluster_file.specs.declared.setting.Setting.{Setting}
use Rattle.cluster_file.specs.declared.setting.Setting.TheVariants as setting
use Rattle.cluster_file.specs.Lines.{Line}
use Rattle.words.specs.Word.{Word}
use Rattle.cluster_file.specs.Settings.{order_of, word_of, setting_from, order_fault, named_fault, due_fault}
use Rattle.cluster_file.specs.Reading.{unless_at, setting_at}
use Rattle.cluster_file.specs.Written.{said}

-- one name after another
tried : (t : Bool) (word name : Word) (s found : Setting) (more : Option Setting) → bytes_eq word name ≡ t
    → cond t (Some s) more ≡ Some found → name ≡ word_of s → (more ≡ Some found → word ≡ word_of found) → word ≡ word_of found
tried true word name s found more test e names next =
    let same : s ≡ found = cc in (bytes_eq-Decides word name).0 test ∙ names ∙ ap word_of same
tried false word name s found more test e names next = next e

-- the setting that a word names has that word
named : (word : Word) (found : Setting) → setting_from word ≡ Some found → word ≡ word_of found
unfolding setting_from
named word found e =
    tried (bytes_eq word (codes "nodes")) word (codes "nodes") setting.Nodes found _ refl e refl (λ e.
    tried (bytes_eq word (codes "n")) word (codes "n") setting.N found _ refl e refl (λ e.
    tried (bytes_eq word (codes "k")) word (codes "k") setting.K found _ refl e refl (λ e.
    tried (bytes_eq word (codes "delta")) word (codes "delta") setting.Delta found _ refl e refl (λ e.
    tried (bytes_eq word (codes "mover")) word (codes "mover") setting.Mover found _ refl e refl (λ e.
    tried (bytes_eq word (codes "later")) word (codes "later") setting.Later found _ refl e refl (λ e.
    tried (bytes_eq word (codes "ticks")) word (codes "ticks") setting.Ticks found None refl e refl (λ e.
    absurd cc)))))))

-- settings with one place are one setting
abbrev at_place : ℕ → Setting
at_place zero = setting.Nodes
at_place (suc zero) = setting.N
at_place (suc (suc zero)) = setting.K
at_place (suc (suc (suc zero))) = setting.Delta
at_place (suc (suc (suc (suc zero)))) = setting.Mover
at_place (suc (suc (suc (suc (suc zero))))) = setting.Later
at_place (suc (suc (suc (suc (suc (suc n)))))) = setting.Ticks

at_its_place : (s : Setting) → at_place (order_of s) ≡ s
at_its_place setting.Nodes = refl
at_its_place setting.N = refl
at_its_place setting.K = refl
at_its_place setting.Delta = refl
at_its_place setting.Mover = refl
at_its_place setting.Later = refl
at_its_place setting.Ticks = refl

level : (a b : ℕ) (f g : Fault) (t u : Bool) → ltb a b ≡ t → ltb b a ≡ u → cond t (Some f) (cond u (Some g) None) ≡ None → a ≡ b
level a b f g true u ab ba e = absurd cc
level a b f g false true ab ba e = absurd cc
level a b f g false false ab ba e = let x = ltb-false _ _ ab in let y = ltb-false _ _ ba in omega arith

in_order : (due found : Setting) → order_fault due found ≡ None → found ≡ due
in_order due found e =
    sym (at_its_place found)
    ∙ ap at_place (level (order_of found) (order_of due) _ _ _ _ refl refl e)
    ∙ at_its_place due

-- a first word that is no fault is the word of the setting that is due
due_from : (due : Setting) (word : Word) (found : Option Setting) → setting_from word ≡ found → named_fault due found ≡ None
    → word ≡ word_of due
due_from due word None names e = absurd cc
due_from due word (Some found) names e = named word found names ∙ ap word_of (in_order due found e)

unless_ok : {X : Type 0} (line word : ℕ) (fault : Option Fault) (x y : X) → unless_at line word fault x ≡ Ok y
    → (fault ≡ None) × (x ≡ y)
unless_ok line word None x y e = let same : x ≡ y = cc in (refl, same)
unless_ok line word (Some fault) x y e = absurd cc

pub setting_ok : (due : Setting) (end : ℕ) (lines : List Line) (x : Line × List Line) → setting_at due end lines ≡ Ok x
    → map said lines ≡ (word_of due, x.0.values) ∷ map said x.1
unfolding setting_at
setting_ok due end [] x e = absurd cc
setting_ok due end (line ∷ rest) x e =
    let u = unless_ok line.number 1 (due_fault due line.name) (line, rest) x e in
    let name : x.0.name ≡ word_of due =
    ap (λ (p : Line × List Line). p.0.name) (sym u.1) ∙ due_from due line.name (setting_from line.name) refl u.0 in
    ap (λ (p : Line × List Line). said p.0 ∷ map said p.1) u.1
    ∙ ap (λ (w : Word). (w, x.0.values) ∷ map said x.1) name
