-- The value of len bytes in the whole blocks: there is one where the bytes past len are zero.
use Rattle.std.proofs.Common.{◌≡◌, ℕ, ◌+◌, ◌-◌, ◌*◌, ◌<◌, ◌≤◌, List, length, get_or, take, drop, All, refl}
use Rattle.std.proofs.Common.{sym, ap, subst, ◌∙◌, arith, ⊎_elim, get_or-take, get_or-drop, length-take}
use Rattle.std.proofs.Common.{length-drop}
use Rattle.std.proofs.lemmas.Bool.{cases_lt}
use Rattle.std.proofs.lemmas.List.{get_or_past}
use Rattle.std.proofs.lemmas.List.Elements.{All-take}
use Rattle.std.proofs.lemmas.Grind.{same_number_lists, get_or_default_zero}
use Rattle.tag.specs.declared.limits.TheConstants.{LONGEST_VALUE}
use Rattle.encoder.specs.Fragment.{fragment_len}
use Rattle.piece.specs.declared.piece.Piece.{Piece}
use Rattle.encoder.proofs.ColumnLemmas.{fragment_same, length-fragment}
use Rattle.decoder.specs.Pieces.{AreLawful, AreOfBytes, ArePiecesOf, IsInterpolated}
use Rattle.decoder.proofs.WholeBlockLemmas.{blocks_of, byte_in_blocks, length-blocks_of, fragment_len-whole}
use Rattle.decoder.proofs.WholeBlockLemmas.{len_le_whole, IsInterpolated-blocks_of}

-- lawful pieces
module _ (k len : ℕ) (pieces : List Piece) (lawful : AreLawful k len pieces) (bytes : AreOfBytes pieces) where
  -- the blocks begin with a value that has these fragments
  pub value-blocks_of : (value : List ℕ) → IsInterpolated k len pieces value → value ≡ take len (blocks_of k len pieces)
  value-blocks_of value known =
      let whole = length-blocks_of k len pieces in
      let enough : len ≤ k * fragment_len k len = len_le_whole k len lawful.some in
      same_number_lists value (take len (blocks_of k len pieces)) (known.value_len ∙ sym (simp length-take (omega arith)))
      (λ n hn.
      let low : n < len = omega (arith, known.value_len) in
      byte_in_blocks k len pieces lawful bytes len value known refl n (omega arith)
      ∙ sym (get_or-take len (blocks_of k len pieces) n 0 low))

  -- so it is the only one
  pub value-only : (v w : List ℕ) → IsInterpolated k len pieces v → IsInterpolated k len pieces w → v ≡ w
  value-only v w first second = value-blocks_of v first ∙ sym (value-blocks_of w second)

  -- and have only zeros past it
  pub padding-blocks_of : (value : List ℕ) → IsInterpolated k len pieces value → All (λ b. b ≡ 0) (drop len (blocks_of k len pieces))
  padding-blocks_of value known n d hn =
      let blocks = blocks_of k len pieces in
      let whole = length-blocks_of k len pieces in
      let inside : len + n < length blocks = omega (arith, length-drop len blocks) in
      get_or-drop len blocks n d ∙ get_or_default_zero blocks (len + n) d inside
      ∙ sym (byte_in_blocks k len pieces lawful bytes len value known refl (len + n) (omega arith))
      ∙ get_or_past value (len + n) 0 (omega (arith, known.value_len))

  -- where they have only zeros past len, there is such a value
  pub IsInterpolated-cut : All (λ b. b ≡ 0) (drop len (blocks_of k len pieces)) →
      IsInterpolated k len pieces (take len (blocks_of k len pieces))
  IsInterpolated-cut zeros =
      let blocks = blocks_of k len pieces in
      let known = IsInterpolated-blocks_of k len pieces lawful bytes in
      let whole = length-blocks_of k len pieces in
      let enough : len ≤ k * fragment_len k len = len_le_whole k len lawful.some in
      let cut_len : length (take len blocks) ≡ len = simp length-take (omega arith) in
      let same_len : fragment_len k (length (take len blocks)) ≡ fragment_len k (length blocks) =
      ap (fragment_len k) cut_len ∙ sym (ap (fragment_len k) whole ∙ fragment_len-whole k len lawful.some) in
      record {
        bytes = All-take (λ x. x < 256) len blocks known.bytes;
        value_len = cut_len;
        fragments = λ i d hi.
            fragment_same (take len blocks) blocks k (get_or pieces i d).point same_len
            (λ n.
            ⊎_elim (λ low. get_or-take len blocks n 0 low)
            (λ high.
            get_or_past (take len blocks) n 0 (omega arith)
            ∙ sym (⊎_elim
            (λ inside.
            let place : len + (n - len) ≡ n = omega arith in
            ap (λ m. get_or blocks m 0) (sym place) ∙ sym (get_or-drop len blocks (n - len) 0)
            ∙ zeros (n - len) 0 (omega (arith, length-drop len blocks)))
            (λ past. get_or_past blocks n 0 past) (cases_lt n (length blocks))))
            (cases_lt n len))
            ∙ known.fragments i d hi;
      }

-- ---- k pieces of a value at distinct points

pub AreLawful-pieces_of : (value : List ℕ) (k len : ℕ) (pieces : List Piece) → length value ≡ len → ArePiecesOf value k pieces
    → AreLawful k len pieces
AreLawful-pieces_of value k len pieces same known = record {
  some = known.some;
  most = known.most;
  longest = subst (λ n. n ≤ LONGEST_VALUE) same known.longest;
  count = known.count;
  distinct = known.distinct;
  lens = λ i d hi. ap (λ (p : Piece). p.len) (known.pieces_of i d hi) ∙ same;
  fragment_lens = λ i d hi.
      ap (λ (p : Piece). length p.bytes) (known.pieces_of i d hi)
      ∙ length-fragment value k (get_or pieces i d).point ∙ ap (fragment_len k) same;
}

pub IsInterpolated-pieces_of : (value : List ℕ) (k len : ℕ) (pieces : List Piece) → length value ≡ len → ArePiecesOf value k pieces
    → IsInterpolated k len pieces value
IsInterpolated-pieces_of value k len pieces same known = record {
  bytes = known.bytes;
  value_len = same;
  fragments = λ i d hi. ap (λ (p : Piece). p.bytes) (sym (known.pieces_of i d hi));
}
