-- Pieces that are given as their points and their fragments, place by place.
use Rattle.std.proofs.Common.{◌≡◌, ℕ, ◌^◌, ◌<◌, ◌≤◌, List, [], length, get_or, All, refl, sym, ap, subst, ◌∙◌, arith}
use Rattle.std.proofs.Common.{take, get_or-take, length-take}
use Rattle.std.specs.Borrow.{Bor}
use Rattle.std.proofs.lemmas.List.{get_or-map, ext_get_or}
use Rattle.std.proofs.lemmas.List.FromFn.{length-map-range_with_len, get_or-map-range_with_len}
use Rattle.std.proofs.lemmas.List.Elements.{All-from_get_or}
use Rattle.std.proofs.lemmas.Grind.{same_number_lists}
use Rattle.tag.specs.declared.limits.TheConstants.{LONGEST_VALUE}
use Rattle.gf256.specs.Polynomial.{AreBytes, AreDistinct}
use Rattle.kernels.specs.Dot.{bytes_of}
use Rattle.kernels.proofs.LaneSumLemmas.{no_slice, bytes_at, length-bytes_of}
use Rattle.encoder.specs.Fragment.{fragment_len}
use Rattle.piece.specs.declared.piece.Piece.{Piece}
use Rattle.decoder.specs.Parts.{piece_at, pieces_at, AreLawfulParts}
use Rattle.decoder.specs.Pieces.{points_of, AreLawful, AreOfBytes}
use Rattle.decoder.proofs.WholeBlockLemmas.{no_piece, length-points_of}

module _ (len : ℕ) (points : List ℕ) (fragments : List (List ℕ)) where
  abbrev pieces : List Piece
  pieces = pieces_at len points fragments

  pub length-pieces_at : length pieces ≡ length points
  unfolding pieces_at
  length-pieces_at = length-map-range_with_len (piece_at len points fragments) 0 (length points)

  pub get_or-pieces_at : (i : ℕ) (d : Piece) → i < length points → get_or pieces i d ≡ piece_at len points fragments i
  unfolding pieces_at
  get_or-pieces_at i d hi = get_or-map-range_with_len (piece_at len points fragments) 0 (length points) i i d hi (omega arith)

  -- what holds of each piece holds of all
  all_at : (P : Piece → Type 0) → ((i : ℕ) → i < length points → P (piece_at len points fragments i)) → All P pieces
  all_at P holds =
      All-from_get_or P pieces no_piece
      (λ i hi.
      let inside : i < length points = omega (arith, length-pieces_at) in
      subst P (sym (get_or-pieces_at i no_piece inside)) (holds i inside))

  pub points-pieces_at : points_of pieces ≡ points
  unfolding piece_at
  points-pieces_at =
      same_number_lists (points_of pieces) points (length-points_of pieces ∙ length-pieces_at)
      (λ i hi.
      let within : i < length pieces = omega (arith, length-points_of pieces) in
      let inside : i < length points = omega (arith, length-pieces_at) in
      get_or-map (λ (q : Piece). q.point) pieces i no_piece 0 within
      ∙ ap (λ (q : Piece). q.point) (get_or-pieces_at i no_piece inside))

  -- lawful pieces by what holds of their parts
  pub AreLawfulParts-from : (k : ℕ) → (1 ≤ k) × (len ≤ LONGEST_VALUE) × (length points ≡ k) × (length fragments ≡ k) → k < 2 ^ 8
      → ((i : ℕ) → i < length fragments → length (get_or fragments i []) ≡ fragment_len k len) → AreDistinct points
      → AreLawfulParts k len points fragments
  unfolding piece_at
  AreLawfulParts-from k counts small lens distinct =
      let count = counts.2 in
      let other = counts.3 in
      record {
        as_many = other ∙ sym count;
        lawful = record {
          some = counts.0;
          most = omega arith;
          longest = counts.1;
          count = length-pieces_at ∙ count;
          distinct = subst AreDistinct (sym points-pieces_at) distinct;
          lens = all_at (λ p. p.len ≡ len) (λ i hi. refl);
          fragment_lens =
              all_at (λ p. length p.bytes ≡ fragment_len k len) (λ i hi. lens i (omega arith));
        };
      }

  pub AreOfBytes-from : AreBytes points → length fragments ≡ length points
      → ((i : ℕ) → i < length fragments → AreBytes (get_or fragments i [])) → AreOfBytes pieces
  unfolding piece_at
  AreOfBytes-from of_bytes as_many bytes = record {
    points = subst AreBytes (sym points-pieces_at) of_bytes;
    fragments = all_at (λ p. AreBytes p.bytes) (λ i hi. bytes i (omega arith));
  }

-- the parts of pieces make these pieces
same_piece : (p : Piece) (point len : ℕ) (bytes : List ℕ) → point ≡ p.point → len ≡ p.len → bytes ≡ p.bytes →
    (let made : Piece = record { point = point; len = len; bytes = bytes } in made) ≡ p
same_piece p point len bytes is_point is_len is_bytes =
    ap (λ (x : ℕ). let made : Piece = record { point = x; len = len; bytes = bytes } in made) is_point
    ∙ ap (λ (x : ℕ). let made : Piece = record { point = p.point; len = x; bytes = bytes } in made) is_len
    ∙ ap (λ (xs : List ℕ). let made : Piece = record { point = p.point; len = p.len; bytes = xs } in made) is_bytes

pub pieces_at-parts : (len : ℕ) (pieces : List Piece) (points : List ℕ) (fragments : List (List ℕ)) → points ≡ points_of pieces
    → ((i : ℕ) (d : Piece) → i < length pieces → get_or fragments i [] ≡ (get_or pieces i d).bytes)
    → All (λ p. p.len ≡ len) pieces → pieces_at len points fragments ≡ pieces
unfolding piece_at
pieces_at-parts len pieces points fragments are_points are_fragments lens =
    let count : length points ≡ length pieces = ap length are_points ∙ length-points_of pieces in
    ext_get_or no_piece (pieces_at len points fragments) pieces (length-pieces_at len points fragments ∙ count)
    (λ i hi.
    let inside : i < length points = omega (arith, length-pieces_at len points fragments) in
    let within : i < length pieces = omega arith in
    get_or-pieces_at len points fragments i no_piece inside
    ∙ same_piece (get_or pieces i no_piece) (get_or points i 0) len (get_or fragments i [])
    (ap (λ xs. get_or xs i 0) are_points ∙ get_or-map (λ (q : Piece). q.point) pieces i no_piece 0 within)
    (sym (lens i no_piece within)) (are_fragments i no_piece within))

-- as slices of them are taken, of which there may be more
pub pieces_at-slices : (k len : ℕ) (pieces : List Piece) (points : List ℕ) (slices : List (Bor (List ℕ))) → points ≡ points_of pieces
    → length pieces ≡ k → k ≤ length slices
    → ((i : ℕ) (d : Piece) → i < length pieces → get_or (bytes_of slices) i [] ≡ (get_or pieces i d).bytes)
    → All (λ p. p.len ≡ len) pieces → pieces_at len points (bytes_of (take k slices)) ≡ pieces
pieces_at-slices k len pieces points slices are_points count enough are_fragments lens =
    pieces_at-parts len pieces points (bytes_of (take k slices)) are_points
    (λ i d hi.
    let low : i < k = omega arith in
    sym (bytes_at (take k slices) i no_slice (omega (arith, length-take k slices)))
    ∙ ap (λ (s : Bor (List ℕ)). s.now) (get_or-take k slices i no_slice low)
    ∙ bytes_at slices i no_slice (omega arith) ∙ are_fragments i d hi)
    lens

-- and they are lawful as the pieces are
pub AreLawfulParts-slices : (k len : ℕ) (pieces : List Piece) (points : List ℕ) (slices : List (Bor (List ℕ))) → points ≡ points_of pieces
    → length pieces ≡ k → k ≤ length slices → pieces_at len points (bytes_of (take k slices)) ≡ pieces → AreLawful k len pieces
    → AreLawfulParts k len points (bytes_of (take k slices))
AreLawfulParts-slices k len pieces points slices are_points count enough same lawful = record {
  as_many =
      let other : length points ≡ length pieces = ap length are_points ∙ length-points_of pieces in
      length-bytes_of (take k slices) ∙ omega (arith, length-take k slices);
  lawful = subst (AreLawful k len) (sym same) lawful;
}

module _ (k len : ℕ) (points : List ℕ) (fragments : List (List ℕ)) (parts : AreLawfulParts k len points fragments) where
  pub count : length points ≡ k
  count = sym (length-pieces_at len points fragments) ∙ parts.lawful.count

  pub other_count : length fragments ≡ k
  other_count = parts.as_many ∙ count

  pub distinct_points : AreDistinct points
  distinct_points = subst AreDistinct (points-pieces_at len points fragments) parts.lawful.distinct

  pub fragment_at-len : (i : ℕ) → i < length fragments → length (get_or fragments i []) ≡ fragment_len k len
  unfolding piece_at
  fragment_at-len i hi =
      let inside : i < length points = omega (arith, parts.as_many) in
      ap (λ (p : Piece). length p.bytes) (sym (get_or-pieces_at len points fragments i no_piece inside))
      ∙ parts.lawful.fragment_lens i no_piece (omega (arith, length-pieces_at len points fragments))

  pub counts : (1 ≤ k) × (len ≤ LONGEST_VALUE) × (length points ≡ k) × (length fragments ≡ k)
  counts = (parts.lawful.some, parts.lawful.longest, count, other_count)
