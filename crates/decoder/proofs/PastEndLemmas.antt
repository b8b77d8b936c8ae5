-- Bytes past the value's end.
use Rattle.std.proofs.Common.{◌≡◌, ℕ, zero, suc, ◌+◌, ◌-◌, ◌<◌, ◌⊎◌, List, [], ◌∷◌, length, get_or, drop}
use Rattle.std.proofs.Common.{refl, sym, ap, ◌∙◌, inl, inr, arith, get_or-drop, length-drop}
use Rattle.std.proofs.lemmas.List.Elements.{All-from_get_or}
use Rattle.piece.specs.declared.piece.Piece.{Piece}
use Rattle.decoder.specs.Pieces.{AreLawful, AreOfBytes, HaveNoValue}
use Rattle.decoder.specs.Padding.{AreBlocks, HasBytePast}
use Rattle.decoder.proofs.WholeBlockLemmas.{blocks_of, blocks_of-only, IsInterpolated-blocks_of}
use Rattle.decoder.proofs.ValuePrefixLemmas.{padding-blocks_of, IsInterpolated-cut}

-- a number that is not zero, with its place
abbrev HasNonzero : List ℕ → Type 0
HasNonzero xs = (n : ℕ) × (n < length xs) × (get_or xs n 0 ≡ 0 → ⊥)

-- each is zero, or one is not
zeros_or : (xs : List ℕ) → ((n : ℕ) → n < length xs → get_or xs n 0 ≡ 0) ⊎ HasNonzero xs
zeros_or [] = inl (λ n h. absurd (omega arith))
zeros_or (suc x ∷ xs) = inr (0, omega arith, λ e. absurd (cc))
zeros_or (zero ∷ xs) = go (zeros_or xs)
  where
    go : ((n : ℕ) → n < length xs → get_or xs n 0 ≡ 0) ⊎ HasNonzero xs →
        ((n : ℕ) → n < length (0 ∷ xs) → get_or (0 ∷ xs) n 0 ≡ 0) ⊎ HasNonzero (0 ∷ xs)
    go (inl zeros) = inl at
      where
        at : (n : ℕ) → n < length (0 ∷ xs) → get_or (0 ∷ xs) n 0 ≡ 0
        at zero h = refl
        at (suc n) h = zeros n (omega arith)
    go (inr found) = inr (suc found.0, (let h = found.1 in omega arith), found.2)

module _ (k len : ℕ) (pieces : List Piece) (lawful : AreLawful k len pieces) (bytes : AreOfBytes pieces) where
  abbrev blocks : List ℕ
  blocks = blocks_of k len pieces

  pub are_blocks : AreBlocks k len pieces blocks
  are_blocks = record {
    interpolated = IsInterpolated-blocks_of k len pieces lawful bytes;
    only = λ other known. blocks_of-only k len pieces lawful bytes other known;
  }

  -- a byte past the end is not zero, where no value has the pieces
  pub byte_past : HaveNoValue k len pieces → HasBytePast len blocks
  byte_past none = go (zeros_or (drop len blocks))
    where
      go : ((n : ℕ) → n < length (drop len blocks) → get_or (drop len blocks) n 0 ≡ 0) ⊎ HasNonzero (drop len blocks) →
          HasBytePast len blocks
      go (inl zeros) =
          absurd (none _ (IsInterpolated-cut k len pieces lawful bytes (All-from_get_or (λ b. b ≡ 0) (drop len blocks) 0 zeros)))
      go (inr found) =
          let inside = found.1 in
          record {
            place = len + found.0;
            past = omega arith;
            within = omega (arith, length-drop len blocks);
            nonzero = λ e. found.2 (get_or-drop len blocks found.0 0 ∙ e);
          }

  -- and where one is not, no value has them
  pub none_by_byte : HasBytePast len blocks → HaveNoValue k len pieces
  none_by_byte has value known =
      let inside = has.within in
      let past = has.past in
      let place : len + (has.place - len) ≡ has.place = omega arith in
      has.nonzero (ap (λ n. get_or blocks n 0) (sym place) ∙ sym (get_or-drop len blocks (has.place - len) 0)
      ∙ padding-blocks_of k len pieces lawful bytes value known (has.place - len) 0 (omega (arith, length-drop len blocks)))
