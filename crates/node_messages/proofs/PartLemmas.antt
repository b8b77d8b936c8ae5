-- The strings of a message and the parts of its head: what was read of them was written, and is read again.
use Rattle.std.proofs.Common.{◌≡◌, ℕ, ◌≤◌, Bool, true, false, ltb, eqb, cond, List, [], ◌∷◌, ◌++◌}
use Rattle.std.proofs.Common.{length, take, drop}
use Rattle.std.proofs.Common.{Option, Some, None, Ok, Err, refl, sym, ap, subst, ◌∙◌, inl, inr, arith, drop_at, length-append}
use Rattle.std.proofs.Common.{take_all, take-append-drop}
use Rattle.std.specs.Prelude.{IfSome, is_some}
use Rattle.std.proofs.lemmas.Bool.{ltb-false, le-ltb, eqb-true, eq-eqb}
use Rattle.std.proofs.lemmas.List.{take-append-le, length-take-le}
use Rattle.tag.specs.declared.limits.TheConstants.{LONGEST_NAME}
use Rattle.piece.specs.declared.piece.Piece.{Piece}
use Rattle.mail.specs.declared.message.Message.{Message}
use Rattle.cluster_file.specs.declared.file.TheConstants.{DIGEST_LENGTH}
use Rattle.words.specs.Parts.{and_then}
use Rattle.words.proofs.PartLemmas.{bind_ok, chosen, guarded, guarded_above, ok_is}
use Rattle.node_strings.specs.Strings.{Strings}
use Rattle.node_messages.specs.declared.error.Fault.TheVariants.{OtherForm, NameTooLong}
use Rattle.node_messages.specs.declared.places.TheConstants.{FORM, NUMBERS_LENGTH, FORM_PLACE, PIECE_PLACE}
use Rattle.node_messages.specs.declared.said.Said.{Said}
use Rattle.node_messages.specs.declared.said_besides.SaidBesides.{SaidBesides}
use Rattle.node_messages.specs.Codes.{flag_from}
use Rattle.node_messages.specs.Head.{byte_in, number_bytes}
use Rattle.node_messages.specs.Message.{IsPiece}
use Rattle.node_messages.specs.Parts.{first_string, first_name, ending, split_bytes, parts_of, piece_in, piece_if, first_piece}
use Rattle.node_messages.specs.Strings.{piece_strings}
use Rattle.node_messages.proofs.NumberLemmas.{short_below, byte_below}
use Rattle.node_messages.proofs.BodyLemmas.{PieceSaid}
use Rattle.node_messages.proofs.ReadBodyLemmas.{HasPiece}

-- ---- strings and names

pub string_ok : (strings : Strings) (x : List ℕ × Strings) → first_string strings ≡ Ok x → strings ≡ x.0 ∷ x.1
unfolding first_string
string_ok [] x e = absurd cc
string_ok (s ∷ rest) x e = ap (λ (p : List ℕ × Strings). p.0 ∷ p.1) (ok_is (s, rest) x e)

pub name_ok : (strings : Strings) (x : List ℕ × Strings) → first_name strings ≡ Ok x → (strings ≡ x.0 ∷ x.1) × (length x.0 ≤ LONGEST_NAME)
unfolding first_name
name_ok strings x e =
    let a = bind_ok (first_string strings) (λ string. cond (ltb LONGEST_NAME (length string.0)) (Err NameTooLong) (Ok string)) x e in
    let g = guarded_above (ltb LONGEST_NAME (length a.0.0)) NameTooLong (Ok a.0) x a.2 in
    subst (λ (y : List ℕ × Strings). (strings ≡ y.0 ∷ y.1) × (length y.0 ≤ LONGEST_NAME)) (ok_is a.0 x g.1)
    (string_ok strings a.0 a.1, ltb-false LONGEST_NAME (length a.0.0) g.0)

pub name_again : (name : List ℕ) (rest : Strings) → length name ≤ LONGEST_NAME → first_name (name ∷ rest) ≡ Ok (name, rest)
unfolding first_name first_string
name_again name rest le =
    let short : ltb LONGEST_NAME (length name) ≡ false = le-ltb LONGEST_NAME (length name) le in
    rw short refl

-- ---- the parts of a head

abbrev Parts : Type 0
Parts = List ℕ × List ℕ × List ℕ

-- the first bytes, and those after them, have this length and are these bytes
abbrev IsSplit : ℕ → List ℕ → List ℕ × List ℕ → Type 0
IsSplit n bytes x = (bytes ≡ x.0 ++ x.1) × (length x.0 ≡ n)

split_ok : (n : ℕ) (bytes : List ℕ) (x : List ℕ × List ℕ) → split_bytes n bytes ≡ Ok x → IsSplit n bytes x
unfolding split_bytes
split_ok n bytes x e =
    let g = guarded_above (ltb (length bytes) n) OtherForm (Ok (take n bytes, drop n bytes)) x e in
    let enough : n ≤ length bytes = ltb-false (length bytes) n g.0 in
    subst (IsSplit n bytes) (ok_is (take n bytes, drop n bytes) x g.1) (sym (take-append-drop n bytes), length-take-le n bytes enough)

split_again : (n : ℕ) (a b : List ℕ) → length a ≡ n → split_bytes n (a ++ b) ≡ Ok (a, b)
unfolding split_bytes
split_again n a b e =
    let enough : ltb (length (a ++ b)) n ≡ false = le-ltb (length (a ++ b)) n (omega (arith, length-append a b)) in
    let front : take n (a ++ b) ≡ a = take-append-le n a b (omega arith) ∙ take_all n a (omega arith) in
    rw (enough, front, drop_at a b n e) refl

-- these are the parts of a head
abbrev pub AreParts : List ℕ → Parts → Type 0
AreParts head x = (head ≡ x.0 ++ (x.1 ++ x.2)) × (length x.1 ≡ DIGEST_LENGTH)

pub parts_ok : (head : List ℕ) (x : Parts) → parts_of head ≡ Ok x → AreParts head x
unfolding parts_of
parts_ok head x e =
    let a = bind_ok (split_bytes NUMBERS_LENGTH head) (λ numbers. and_then (split_bytes DIGEST_LENGTH numbers.1) (λ digest.
    cond (eqb (byte_in FORM_PLACE numbers.0) FORM) (Ok (numbers.0, digest.0, digest.1)) (Err OtherForm))) x e in
    let b = bind_ok (split_bytes DIGEST_LENGTH a.0.1) (λ digest.
    cond (eqb (byte_in FORM_PLACE a.0.0) FORM) (Ok (a.0.0, digest.0, digest.1)) (Err OtherForm)) x a.2 in
    let g = guarded (eqb (byte_in FORM_PLACE a.0.0) FORM) (Ok (a.0.0, b.0.0, b.0.1)) OtherForm x b.2 in
    let numbers = split_ok NUMBERS_LENGTH head a.0 a.1 in
    let digest = split_ok DIGEST_LENGTH a.0.1 b.0 b.1 in
    subst (AreParts head) (ok_is (a.0.0, b.0.0, b.0.1) x g.1)
    (numbers.0 ∙ ap (λ (r : List ℕ). a.0.0 ++ r) digest.0, digest.1)

parts_by : (numbers digest layouts : List ℕ) → length numbers ≡ NUMBERS_LENGTH → length digest ≡ DIGEST_LENGTH
    → byte_in FORM_PLACE numbers ≡ FORM → parts_of (numbers ++ (digest ++ layouts)) ≡ Ok (numbers, digest, layouts)
unfolding parts_of
parts_by numbers digest layouts n d form =
    rw (
      split_again NUMBERS_LENGTH numbers (digest ++ layouts) n,
      split_again DIGEST_LENGTH digest layouts d,
      eq-eqb (byte_in FORM_PLACE numbers) FORM form,
    ) refl

pub parts_again : (m : Message) (said : Said) (more : SaidBesides) (digest layouts : List ℕ) → length digest ≡ DIGEST_LENGTH
    → parts_of (number_bytes m said more ++ (digest ++ layouts)) ≡ Ok (number_bytes m said more, digest, layouts)
parts_again m said more digest layouts long = parts_by (number_bytes m said more) digest layouts refl long refl

-- ---- the piece

pub piece_fits : (numbers bytes : List ℕ) → IsPiece (piece_in numbers bytes)
piece_fits numbers bytes = (byte_below _, short_below _)

pub ended : {X : Type 0} (x : X) (rest : Strings) (y : X) → ending x rest ≡ Ok y → (rest ≡ []) × (x ≡ y)
ended x [] y e = (refl, ok_is x y e)
ended x (s ∷ rest) y e = absurd cc

-- whether the numbers say that there is a piece
abbrev pub flag : Option Piece → ℕ
flag None = 0
flag (Some piece) = 1

-- a piece that was read, and the strings after it
abbrev pub ReadPiece : Strings → Option Piece × Strings → Type 0
ReadPiece strings x = (strings ≡ piece_strings x.0 ++ x.1) × IfSome x.0 IsPiece

piece_if_ok : (is_piece : Bool) (numbers : List ℕ) (strings : Strings) (x : Option Piece × Strings)
    → piece_if is_piece numbers strings ≡ Ok x → ReadPiece strings x × (is_some x.0 ≡ is_piece)
unfolding piece_if
piece_if_ok true numbers strings x e =
    let a = bind_ok (first_string strings) (λ bytes. Ok (Some (piece_in numbers bytes.0), bytes.1)) x e in
    subst (λ (y : Option Piece × Strings). ReadPiece strings y × (is_some y.0 ≡ true))
    (ok_is (Some (piece_in numbers a.0.0), a.0.1) x a.2) ((string_ok strings a.0 a.1, piece_fits numbers a.0.0), refl)
piece_if_ok false numbers strings x e =
    subst (λ (y : Option Piece × Strings). ReadPiece strings y × (is_some y.0 ≡ false)) (ok_is (None, strings) x e)
    ((refl, tt), refl)

flag_ok : (code : ℕ) (b : Bool) → flag_from code ≡ Ok b → code ≡ cond b 1 0
unfolding flag_from
flag_ok code b e =
    elim (chosen (eqb code 0) (Ok false) _ b e) [
      | inl h ↦ eqb-true code 0 h.0 ∙ ap (λ b. cond b 1 0) (ok_is false b h.1)
      | inr e2 ↦ elim (chosen (eqb code 1) (Ok true) _ b e2) [
        | inl h ↦ eqb-true code 1 h.0 ∙ ap (λ b. cond b 1 0) (ok_is true b h.1)
        | inr e3 ↦ absurd cc
      ]
    ]

pub piece_ok : (numbers : List ℕ) (strings : Strings) (x : Option Piece × Strings) → first_piece numbers strings ≡ Ok x
    → ReadPiece strings x × (byte_in PIECE_PLACE numbers ≡ flag x.0)
unfolding first_piece
piece_ok numbers strings x e =
    let f = bind_ok (flag_from (byte_in PIECE_PLACE numbers)) (λ is_piece. piece_if is_piece numbers strings) x e in
    let p = piece_if_ok f.0 numbers strings x f.2 in
    (p.0, flag_ok (byte_in PIECE_PLACE numbers) f.0 f.1 ∙ ap (λ b. cond b 1 0) (sym p.1) ∙ of_some x.0)
  where
    of_some : (piece : Option Piece) → cond (is_some piece) 1 0 ≡ flag piece
    of_some None = refl
    of_some (Some piece) = refl

-- the body has the piece that was read, where the numbers say what they would say of the body
pub same_piece : (piece of_body : Option Piece) (numbers : List ℕ) (said : Said) → HasPiece piece of_body → PieceSaid said of_body
    → byte_in PIECE_PLACE numbers ≡ flag piece → byte_in PIECE_PLACE numbers ≡ said.is_piece → of_body ≡ piece
same_piece piece of_body numbers said (inl same) is read says = same
same_piece None of_body numbers said (inr none) is read says = none
same_piece (Some p) None numbers said (inr none) is read says = absurd (omega (arith, is, read, says))
same_piece (Some p) (Some q) numbers said (inr none) is read says = absurd cc
