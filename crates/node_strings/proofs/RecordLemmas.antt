-- The record that is read is the record that was written, and what was written is read again.
use Rattle.std.proofs.Common.{◌≡◌, ℕ, ◌^◌, ◌-◌, List, [], ◌∷◌}
use Rattle.std.proofs.Common.{Option, Some, None, refl, ap, sym, ◌∙◌, subst, inl, inr, arith, IfSome}
use Rattle.std.specs.Prelude.{codes}
use Rattle.std.specs.Fmt.{decimal}
use Rattle.layout.specs.Layout.{Layout}
use Rattle.node_strings.specs.Layouts.{layout_string}
use Rattle.node_strings.specs.Strings.{Strings}
use Rattle.node_strings.specs.Parts.{then_read, number_or_none, layout_or_none, digest_or_none}
use Rattle.node_strings.specs.declared.record.Record.{Record}
use Rattle.node_strings.specs.declared.record.Record.TheVariants as kept
use Rattle.node_strings.specs.Record.{HasPartsInRange, record_strings, start_record, cluster_record, hear_record, move_record}
use Rattle.node_strings.specs.Record.{close_record}
use Rattle.node_strings.specs.Record.{record_from, record_at}
use Rattle.node_strings.proofs.PartLemmas.{some_is, bind_some, is_word, number_ok, number_again, layout_ok, layout_again}
use Rattle.node_strings.proofs.PartLemmas.{digest_ok, digest_again}

-- these strings are those of a record that has its ranges
abbrev pub AreStringsOfRecord : Strings → Record → Type 0
AreStringsOfRecord strings it = HasPartsInRange it × (strings ≡ record_strings it)

start_ok : (word : List ℕ) (rest : Strings) (it : Record) → word ≡ codes "start" → start_record rest ≡ Some it
    → AreStringsOfRecord (word ∷ rest) it
start_ok word [] it w e = subst (AreStringsOfRecord (word ∷ [])) (some_is kept.Start it e) (tt, ap (λ (s : List ℕ). s ∷ []) w)
start_ok word (string ∷ rest) it w e = absurd cc

cluster_ok : (word : List ℕ) (rest : Strings) (it : Record) → word ≡ codes "cluster" → cluster_record rest ≡ Some it
    → AreStringsOfRecord (word ∷ rest) it
unfolding cluster_record
cluster_ok word [] it w e = absurd cc
cluster_ok word (digest ∷ []) it w e = absurd cc
cluster_ok word (digest ∷ number ∷ []) it w e =
    let a = bind_some (digest_or_none digest) (λ d. then_read (number_or_none 255 number) (λ node. Some (kept.Cluster d node))) it e in
    let b = bind_some (number_or_none 255 number) (λ node. Some (kept.Cluster a.0 node)) it a.2 in
    let d = digest_ok digest a.0 a.1 in
    let n = number_ok 255 number b.0 (omega arith) (omega arith) b.1 in
    subst (AreStringsOfRecord (word ∷ digest ∷ number ∷ [])) (some_is (kept.Cluster a.0 b.0) it b.2) (
      (d.1, omega (arith, n.1)),
      ap (λ (s : List ℕ). s ∷ digest ∷ number ∷ []) w
          ∙ ap (λ (s : List ℕ). codes "cluster" ∷ s ∷ number ∷ []) d.0
          ∙ ap (λ (s : List ℕ). codes "cluster" ∷ a.0 ∷ s ∷ []) n.0,
    )
cluster_ok word (digest ∷ number ∷ more ∷ rest) it w e = absurd cc

move_ok : (word : List ℕ) (rest : Strings) (it : Record) → word ≡ codes "move" → move_record rest ≡ Some it
    → AreStringsOfRecord (word ∷ rest) it
unfolding move_record
move_ok word [] it w e = absurd cc
move_ok word (id ∷ []) it w e = absurd cc
move_ok word (id ∷ name ∷ []) it w e = absurd cc
move_ok word (id ∷ name ∷ layout ∷ []) it w e =
    let a = bind_some (number_or_none (2 ^ 64 - 1) id) (λ n. then_read (layout_or_none layout) (λ to. Some (kept.Move n name to))) it e in
    let b = bind_some (layout_or_none layout) (λ to. Some (kept.Move a.0 name to)) it a.2 in
    let n = number_ok (2 ^ 64 - 1) id a.0 (omega arith) (omega arith) a.1 in
    let l = layout_ok layout b.0 b.1 in
    subst (AreStringsOfRecord (word ∷ id ∷ name ∷ layout ∷ [])) (some_is (kept.Move a.0 name b.0) it b.2) (
      (omega (arith, n.1), l.0),
      ap (λ (s : List ℕ). s ∷ id ∷ name ∷ layout ∷ []) w
          ∙ ap (λ (s : List ℕ). codes "move" ∷ s ∷ name ∷ layout ∷ []) n.0
          ∙ ap (λ (s : List ℕ). codes "move" ∷ decimal a.0 ∷ name ∷ s ∷ []) l.1,
    )
move_ok word (id ∷ name ∷ layout ∷ more ∷ rest) it w e = absurd cc

hear_ok : (word : List ℕ) (rest : Strings) (it : Record) → word ≡ codes "hear" → hear_record rest ≡ Some it
    → AreStringsOfRecord (word ∷ rest) it
unfolding hear_record
hear_ok word [] it w e = absurd cc
hear_ok word (position ∷ []) it w e = absurd cc
hear_ok word (position ∷ name ∷ []) it w e = absurd cc
hear_ok word (position ∷ name ∷ layout ∷ []) it w e =
    let a = bind_some (number_or_none (2 ^ 32 - 1) position)
    (λ n. then_read (layout_or_none layout) (λ to. Some (kept.Hear n name to))) it e in
    let b = bind_some (layout_or_none layout) (λ to. Some (kept.Hear a.0 name to)) it a.2 in
    let n = number_ok (2 ^ 32 - 1) position a.0 (omega arith) (omega arith) a.1 in
    let l = layout_ok layout b.0 b.1 in
    subst (AreStringsOfRecord (word ∷ position ∷ name ∷ layout ∷ [])) (some_is (kept.Hear a.0 name b.0) it b.2) (
      (omega (arith, n.1), l.0),
      ap (λ (s : List ℕ). s ∷ position ∷ name ∷ layout ∷ []) w
          ∙ ap (λ (s : List ℕ). codes "hear" ∷ s ∷ name ∷ layout ∷ []) n.0
          ∙ ap (λ (s : List ℕ). codes "hear" ∷ decimal a.0 ∷ name ∷ s ∷ []) l.1,
    )
hear_ok word (position ∷ name ∷ layout ∷ more ∷ rest) it w e = absurd cc

close_ok : (word : List ℕ) (rest : Strings) (it : Record) → word ≡ codes "close" → close_record rest ≡ Some it
    → AreStringsOfRecord (word ∷ rest) it
unfolding close_record
close_ok word [] it w e = absurd cc
close_ok word (position ∷ []) it w e = absurd cc
close_ok word (position ∷ name ∷ []) it w e =
    let a = bind_some (number_or_none (2 ^ 32 - 1) position) (λ n. Some (kept.Close n name)) it e in
    let n = number_ok (2 ^ 32 - 1) position a.0 (omega arith) (omega arith) a.1 in
    subst (AreStringsOfRecord (word ∷ position ∷ name ∷ [])) (some_is (kept.Close a.0 name) it a.2) (
      omega (arith, n.1),
      ap (λ (s : List ℕ). s ∷ position ∷ name ∷ []) w
          ∙ ap (λ (s : List ℕ). codes "close" ∷ s ∷ name ∷ []) n.0,
    )
close_ok word (position ∷ name ∷ more ∷ rest) it w e = absurd cc

from_ok : (word : List ℕ) (rest : Strings) (it : Record) → record_from word rest ≡ Some it → AreStringsOfRecord (word ∷ rest) it
unfolding record_from
from_ok word rest it e =
    elim (is_word word (codes "serve") (Some (kept.Serve rest)) _ it e) [
      | inl h ↦ subst (AreStringsOfRecord (word ∷ rest)) (some_is (kept.Serve rest) it h.1) (tt, ap (λ (s : List ℕ). s ∷ rest) h.0)
      | inr e2 ↦ elim (is_word word (codes "take") (Some (kept.Take rest)) _ it e2) [
        | inl h ↦ subst (AreStringsOfRecord (word ∷ rest)) (some_is (kept.Take rest) it h.1) (tt, ap (λ (s : List ℕ). s ∷ rest) h.0)
        | inr e3 ↦ elim (is_word word (codes "start") (start_record rest) _ it e3) [
          | inl h ↦ start_ok word rest it h.0 h.1
          | inr e4 ↦ elim (is_word word (codes "cluster") (cluster_record rest) _ it e4) [
            | inl h ↦ cluster_ok word rest it h.0 h.1
            | inr e5 ↦ elim (is_word word (codes "move") (move_record rest) _ it e5) [
              | inl h ↦ move_ok word rest it h.0 h.1
              | inr e6 ↦ elim (is_word word (codes "hear") (hear_record rest) _ it e6) [
                | inl h ↦ hear_ok word rest it h.0 h.1
                | inr e7 ↦ elim (is_word word (codes "close") (close_record rest) None it e7) [
                  | inl h ↦ close_ok word rest it h.0 h.1
                  | inr e8 ↦ absurd cc
                ]
              ]
            ]
          ]
        ]
      ]
    ]

pub record_ok : (strings : Strings) (it : Record) → record_at strings ≡ Some it → AreStringsOfRecord strings it
unfolding record_at
record_ok [] it e = absurd cc
record_ok (word ∷ rest) it e = from_ok word rest it e

cluster_again : (digest : List ℕ) (node : ℕ) → HasPartsInRange (kept.Cluster digest node)
    → cluster_record (digest ∷ decimal node ∷ []) ≡ Some (kept.Cluster digest node)
unfolding cluster_record
cluster_again digest node is =
    rw (digest_again digest is.0, number_again 255 node (omega (arith, is.1)) (omega arith)) refl

move_again : (id : ℕ) (name : List ℕ) (layout : Layout) → HasPartsInRange (kept.Move id name layout)
    → move_record (decimal id ∷ name ∷ layout_string layout ∷ []) ≡ Some (kept.Move id name layout)
unfolding move_record
move_again id name layout is =
    rw (number_again (2 ^ 64 - 1) id (omega (arith, is.0)) (omega arith), layout_again layout is.1) refl

hear_again : (position : ℕ) (name : List ℕ) (layout : Layout) → HasPartsInRange (kept.Hear position name layout)
    → hear_record (decimal position ∷ name ∷ layout_string layout ∷ []) ≡ Some (kept.Hear position name layout)
unfolding hear_record
hear_again position name layout is =
    rw (number_again (2 ^ 32 - 1) position (omega (arith, is.0)) (omega arith), layout_again layout is.1) refl

close_again : (position : ℕ) (name : List ℕ) → HasPartsInRange (kept.Close position name)
    → close_record (decimal position ∷ name ∷ []) ≡ Some (kept.Close position name)
unfolding close_record
close_again position name is = rw (number_again (2 ^ 32 - 1) position (omega (arith, is)) (omega arith)) refl

pub record_again : (it : Record) → HasPartsInRange it → record_at (record_strings it) ≡ Some it
unfolding record_at record_from
record_again (kept.Cluster digest node) is = cluster_again digest node is
record_again kept.Start is = refl
record_again (kept.Serve frame) is = refl
record_again (kept.Take frame) is = refl
record_again (kept.Move id name layout) is = move_again id name layout is
record_again (kept.Hear position name layout) is = hear_again position name layout is
record_again (kept.Close position name) is = close_again position name is

-- ---- for the function's contract

pub is_found : (strings : Strings) (result : Option Record) → result ≡ record_at strings → IfSome result (AreStringsOfRecord strings)
is_found strings (Some it) e = record_ok strings it (sym e)
is_found strings None e = tt

pub is_only : (strings : Strings) (result : Option Record) → result ≡ record_at strings
    → (it : Record) → HasPartsInRange it → strings ≡ record_strings it → result ≡ Some it
is_only strings result e it is same = e ∙ ap record_at same ∙ record_again it is
