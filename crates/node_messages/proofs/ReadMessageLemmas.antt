-- A message that is read of the parts of a head is the message that was written.
use Rattle.std.proofs.Common.{◌≡◌, ℕ, ◌<◌, ◌≤◌, Bool, true, false, ltb, cond, not, List, ◌∷◌, ◌++◌}
use Rattle.std.proofs.Common.{length}
use Rattle.std.proofs.Common.{Option, Ok, Err, refl, sym, ap, ap₂, subst, ◌∙◌}
use Rattle.std.specs.Prelude.{IfSome, is_some}
use Rattle.std.specs.Str.{bytes_eq}
use Rattle.std.proofs.lemmas.Bool.{ltb-true}
use Rattle.std.proofs.lemmas.Slice.Eq.{bytes_eq-Decides}
use Rattle.tag.specs.declared.limits.TheConstants.{LONGEST_NAME}
use Rattle.piece.specs.declared.piece.Piece.{Piece}
use Rattle.layout.specs.Layout.{IsLawful}
use Rattle.mail.specs.declared.message.Body.{Body}
use Rattle.mail.specs.Message.{names_next}
use Rattle.words.specs.Parts.{and_then}
use Rattle.words.proofs.PartLemmas.{bind_ok, guarded, guarded_above, ok_is}
use Rattle.node_strings.specs.Strings.{Strings}
use Rattle.node_messages.specs.declared.besides.Besides.{Besides}
use Rattle.node_messages.specs.declared.error.Fault.TheVariants.{NoMember, BadTelling, UnusedPlace}
use Rattle.node_messages.specs.declared.layouts.Layouts.{Layouts}
use Rattle.node_messages.specs.declared.message.NodeMessage.{NodeMessage}
use Rattle.node_messages.specs.declared.places.TheConstants.{PIECE_PLACE}
use Rattle.node_messages.specs.declared.said_besides.SaidBesides.{SaidBesides}
use Rattle.node_messages.specs.Besides.{last_besides}
use Rattle.node_messages.specs.Head.{byte_in, numbers_of, said_besides, said_of, head_of, layout_bytes, next_bytes, start_bytes}
use Rattle.node_messages.specs.Message.{fits_role, has_fitting_role, IsMessage, IsBody, IsStart}
use Rattle.node_messages.specs.Parts.{first_piece}
use Rattle.node_messages.specs.Layouts.{layouts_from}
use Rattle.node_messages.specs.Reading.{body_from, made_of, checked_places, message_of_parts}
use Rattle.node_messages.specs.Strings.{body_piece, piece_strings, strings_of, told_piece}
use Rattle.node_messages.proofs.NumberLemmas.{Says, numbers_say, body_said, long_below, short_below}
use Rattle.node_messages.proofs.BesidesLemmas.{besides_ok, IsRead}
use Rattle.node_messages.proofs.BodyLemmas.{piece_is_said}
use Rattle.node_messages.proofs.LayoutLemmas.{AreBytesOf, layouts_ok}
use Rattle.node_messages.proofs.PartLemmas.{AreParts, flag, ReadPiece}
use Rattle.node_messages.proofs.PartLemmas.{piece_ok, same_piece}
use Rattle.node_messages.proofs.ReadBodyLemmas.{HasPiece, body_ok}

not_false : (b : Bool) → not b ≡ false → b ≡ true
not_false true e = refl
not_false false e = absurd cc

-- the numbers are those of the message
abbrev pub of_message : NodeMessage → List ℕ
of_message m = numbers_of m.named.letter

checked_ok : (numbers : List ℕ) (m x : NodeMessage) → checked_places numbers m ≡ Ok x
    → (m.named.letter.message.member < length m.named.letter.layout.members) × (has_fitting_role m.named.letter ≡ true)
    × (of_message m ≡ numbers) × (m ≡ x)
unfolding checked_places
checked_ok numbers m x e =
    let has = ltb m.named.letter.message.member (length m.named.letter.layout.members) in
    let f = guarded_above (not has) NoMember (cond (not (has_fitting_role m.named.letter)) (Err BadTelling)
    (cond (bytes_eq (of_message m) numbers) (Ok m) (Err UnusedPlace))) x e in
    let g = guarded_above (not (has_fitting_role m.named.letter)) BadTelling
    (cond (bytes_eq (of_message m) numbers) (Ok m) (Err UnusedPlace)) x f.1 in
    let h = guarded (bytes_eq (of_message m) numbers) (Ok m) UnusedPlace x g.1 in (
      ltb-true m.named.letter.message.member (length m.named.letter.layout.members) (not_false has f.0),
      not_false (has_fitting_role m.named.letter) g.0,
      (bytes_eq-Decides (of_message m) numbers).0 h.0,
      ok_is m x h.1,
    )

-- a message that is made of parts whose numbers are its own
made_is : (numbers digest name : List ℕ) (piece : Option Piece) (found : Body) (layouts : Layouts) (besides : Besides)
    (head : List ℕ) (rest last told : Strings)
    → AreParts head (numbers, digest, layout_bytes layouts.layout ++ (next_bytes layouts.next ++ start_bytes layouts.start))
    → (rest ≡ name ∷ last) × (length name ≤ LONGEST_NAME)
    → ReadPiece last (piece, told) × (byte_in PIECE_PLACE numbers ≡ flag piece) → IsRead told besides
    → IsBody found × HasPiece piece (body_piece found)
    → IsLawful layouts.layout × (is_some layouts.next ≡ names_next found) × IfSome layouts.next IsLawful
    × IfSome layouts.start IsStart
    → byte_in PIECE_PLACE numbers ≡ (said_of found).is_piece
    → (made_of numbers digest name found layouts besides).named.letter.message.member < length layouts.layout.members
    → fits_role found besides.asks_piece besides.told ≡ true
    → of_message (made_of numbers digest name found layouts besides) ≡ numbers
    → IsMessage (made_of numbers digest name found layouts besides)
    × (head ∷ rest ≡ strings_of (made_of numbers digest name found layouts besides))
made_is numbers digest name piece found layouts besides head rest last told parts named read tells body lay says member role own =
    let m = made_of numbers digest name found layouts besides in
    let behind = digest ++ (layout_bytes layouts.layout ++ (next_bytes layouts.next ++ start_bytes layouts.start)) in
    let same = same_piece piece (body_piece found) numbers (said_of found) body.1 (piece_is_said found) read.1 says in
    let whole_head : head ≡ head_of m = parts.0 ∙ ap (λ (n : List ℕ). n ++ behind) (sym own) in
    let pieces : last ≡ piece_strings (body_piece found) ++ piece_strings (told_piece besides.told) =
    read.0.0 ∙ ap₂ (λ (p : Option Piece) (t : Strings). piece_strings p ++ t) (sym same) tells.0 in
    let whole_rest : rest ≡ name ∷ piece_strings (body_piece found) ++ piece_strings (told_piece besides.told) =
    named.0 ∙ ap (λ (r : Strings). name ∷ r) pieces in (
      record {
        digest = parts.1;
        name = named.1;
        layout = lay.0;
        call = long_below _;
        phase = short_below _;
        position = short_below _;
        member = member;
        body = body.0;
        named = lay.1;
        next = lay.2;
        start = lay.3;
        role = role;
        told = tells.1;
      },
      ap₂ (λ (h : List ℕ) (r : Strings). h ∷ r) whole_head whole_rest,
    )

-- what the head of a message says of what its letter asks and tells
abbrev pub more_of : NodeMessage → SaidBesides
more_of m = said_besides m.named.letter.asks_piece m.named.letter.told

-- the numbers of a message say its body
own_says : (m : NodeMessage) (numbers : List ℕ) → IsBody m.named.letter.message.body → of_message m ≡ numbers
    → Says numbers (said_of m.named.letter.message.body)
own_says m numbers fits own =
    subst (λ (n : List ℕ). Says n (said_of m.named.letter.message.body)) own
    (numbers_say m.named.letter.message (said_of m.named.letter.message.body) (more_of m) (body_said m.named.letter.message.body fits))

-- this message was read from a head of these parts, this name, and the strings after it
abbrev pub WasRead : (numbers digest layouts name : List ℕ) → Strings → NodeMessage → Type 0
WasRead numbers digest layouts name last m = (head : List ℕ) (rest : Strings) → AreParts head (numbers, digest, layouts)
    → (rest ≡ name ∷ last) × (length name ≤ LONGEST_NAME) → IsMessage m × (head ∷ rest ≡ strings_of m)

-- what was read of the parts, and is checked, is the message
checked_is : (numbers digest name : List ℕ) (piece : Option Piece) (found : Body) (layouts : Layouts) (besides : Besides)
    (layout_part : List ℕ) (last told : Strings) (m : NodeMessage)
    → ReadPiece last (piece, told) × (byte_in PIECE_PLACE numbers ≡ flag piece) → IsRead told besides
    → IsBody found × HasPiece piece (body_piece found) → AreBytesOf (names_next found) layout_part layouts
    → checked_places numbers (made_of numbers digest name found layouts besides) ≡ Ok m
    → WasRead numbers digest layout_part name last m
checked_is numbers digest name piece found layouts besides layout_part last told m read tells body lay e head rest parts named =
    let made = made_of numbers digest name found layouts besides in
    let checked = checked_ok numbers made m e in
    let says = own_says made numbers body.0 checked.2 in
    let whole = made_is numbers digest name piece found layouts besides head rest last told
    (parts.0 ∙ ap (λ (l : List ℕ). numbers ++ (digest ++ l)) lay.0, parts.1) named read tells body (lay.1, lay.2, lay.3, lay.4)
    says.is_piece checked.0 checked.1 checked.2 in
    subst (λ (y : NodeMessage). IsMessage y × (head ∷ rest ≡ strings_of y)) {x = made} checked.3 whole

pub of_parts_ok : (numbers digest layout_part name : List ℕ) (last : Strings) (m : NodeMessage)
    → message_of_parts numbers digest layout_part name last ≡ Ok m → WasRead numbers digest layout_part name last m
unfolding message_of_parts
of_parts_ok numbers digest layout_part name last m e =
    let d = bind_ok (first_piece numbers last) (λ piece. and_then (last_besides numbers piece.1) (λ besides.
    and_then (body_from numbers piece.0) (λ found. and_then (layouts_from (names_next found) layout_part) (λ layouts.
    checked_places numbers (made_of numbers digest name found layouts besides))))) m e in
    let t = bind_ok (last_besides numbers d.0.1) (λ besides. and_then (body_from numbers d.0.0) (λ found.
    and_then (layouts_from (names_next found) layout_part) (λ layouts.
    checked_places numbers (made_of numbers digest name found layouts besides)))) m d.2 in
    let f = bind_ok (body_from numbers d.0.0) (λ found. and_then (layouts_from (names_next found) layout_part) (λ layouts.
    checked_places numbers (made_of numbers digest name found layouts t.0))) m t.2 in
    let g = bind_ok (layouts_from (names_next f.0) layout_part) (λ layouts.
    checked_places numbers (made_of numbers digest name f.0 layouts t.0)) m f.2 in
    let read = piece_ok numbers last d.0 d.1 in
    checked_is numbers digest name d.0.0 f.0 g.0 t.0 layout_part last d.0.1 m read (besides_ok numbers d.0.1 t.0 t.1)
    (body_ok numbers d.0.0 f.0 read.0.1 f.1) (layouts_ok (names_next f.0) layout_part g.0 g.1) g.2
