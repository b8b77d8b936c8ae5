-- The line of fragments grows by one piece.
use Rattle.std.proofs.Common.{◌≡◌, ℕ, zero, suc, ◌+◌, ◌<◌, List, [], ◌∷◌, ◌++◌, map, refl, ap, ap₂, sym, ◌∙◌, arith}
use Rattle.std.proofs.Common.{append_assoc}
use Rattle.std.specs.List.{join_with_byte, range_with_len}
use Rattle.std.proofs.lemmas.List.{map-append}
use Rattle.std.proofs.lemmas.List.FromFn.{map-range_with_len_more}
use Rattle.piece.specs.declared.piece.Piece.{Piece}
use Rattle.encoder.specs.Fragment.{piece_at_point}
use Rattle.encoder.specs.Coded.{Coding}
use Rattle.coding_commands.specs.Fragments.{fragments_text, piece_text, fragments_of_value}

-- one more list after one or more
pub join_with_byte-snoc : (c : ℕ) (x : List ℕ) (xs : List (List ℕ)) (y : List ℕ)
    → join_with_byte c ((x ∷ xs) ++ y ∷ []) ≡ join_with_byte c (x ∷ xs) ++ c ∷ y
join_with_byte-snoc c x [] y = refl
join_with_byte-snoc c x (z ∷ xs) y =
    ap (λ t. x ++ (c ∷ t)) (join_with_byte-snoc c z xs y) ∙ sym (append_assoc x (c ∷ join_with_byte c (z ∷ xs)) (c ∷ y))

-- the texts of the first pieces, and of one more
texts-more : (c : Coding) (i : ℕ) → map piece_text (fragments_of_value (record c { n = i + 1 }))
    ≡ map piece_text (fragments_of_value (record c { n = i })) ++ piece_text (piece_at_point c.value c.k i) ∷ []
texts-more c i =
    ap (map piece_text) (map-range_with_len_more (piece_at_point c.value c.k) 0 i i (omega arith))
    ∙ map-append piece_text (map (piece_at_point c.value c.k) (range_with_len 0 i)) (piece_at_point c.value c.k i ∷ [])

-- one more piece, after what parts it from those before it: nothing for the first, and else a space
pub fragments_text-more : (c : Coding) (i : ℕ) (separator : List ℕ) (p : Piece) → p ≡ piece_at_point c.value c.k i
    → (i ≡ 0 → separator ≡ []) → (0 < i → separator ≡ 32 ∷ [])
    → fragments_text (record c { n = i + 1 }) ≡ fragments_text (record c { n = i }) ++ (separator ++ piece_text p)
fragments_text-more c zero separator p is first more =
    ap (join_with_byte 32) (texts-more c zero) ∙ ap₂ (λ s q. s ++ piece_text q) (sym (first refl)) (sym is)
fragments_text-more c (suc i) separator p is first more =
    ap (join_with_byte 32) (texts-more c (suc i)) ∙ join_with_byte-snoc 32 _ _ _
    ∙ ap₂ (λ s q. fragments_text (record c { n = suc i }) ++ (s ++ piece_text q)) (sym (more (omega arith))) (sym is)
