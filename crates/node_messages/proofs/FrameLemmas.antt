-- Which messages have a frame.
use Rattle.std.proofs.Common.{◌≡◌, ℕ, ◌≤◌, Bool, true, false, not, cond, ltb, leb, List, [], ◌∷◌, ◌++◌, length}
use Rattle.std.proofs.Common.{Option, Some, None, Ok, Err, refl, sym, ap, arith, length-append}
use Rattle.std.specs.Prelude.{IfSome, is_some}
use Rattle.std.specs.Int.{w32, to_be_bytes}
use Rattle.std.specs.List.{AllByRecursion, list_all}
use Rattle.std.proofs.lemmas.Bool.{leb-true, le-leb, le-ltb, lt-ltb, and_parts, and_from}
use Rattle.frames.specs.Frame.{IsFrame, IsShort}
use Rattle.frames.specs.declared.limits.TheConstants.{LONGEST_STRING, MOST_STRINGS}
use Rattle.tag.specs.declared.limits.TheConstants.{LONGEST_NAME, MOST_MEMBERS}
use Rattle.layout.specs.Layout.{Layout, IsLawful}
use Rattle.letter.specs.declared.start.Start.{Start}
use Rattle.letter.specs.declared.telling.Telling.{Telling}
use Rattle.piece.specs.declared.piece.Piece.{Piece}
use Rattle.bank.specs.declared.reply.Answer.{Answer}
use Rattle.bank.specs.declared.reply.Answer.TheVariants as answer
use Rattle.bank.specs.declared.request.Request.TheVariants as request
use Rattle.bank.specs.Answer.{answer_bytes}
use Rattle.mail.specs.Message.{body_bytes, message_bytes, names_next}
use Rattle.mail.specs.declared.message.Body.{Body}
use Rattle.mail.specs.declared.message.Body.TheVariants as body
use Rattle.cluster_file.specs.declared.file.TheConstants.{DIGEST_LENGTH}
use Rattle.node_strings.specs.Strings.{Strings}
use Rattle.node_messages.specs.declared.error.Fault.TheVariants.{PieceTooLong}
use Rattle.node_messages.specs.declared.message.NodeMessage.{NodeMessage}
use Rattle.node_messages.specs.Head.{head_of, layout_bytes, next_bytes, numbers_of, start_bytes}
use Rattle.node_messages.specs.Laws.{ShortPiecesHaveFrames}
use Rattle.node_messages.specs.Message.{is_fitting, IsBody, IsMessage, IsStart}
use Rattle.node_messages.specs.Strings.{answer_piece, body_piece, piece_strings, strings_of, told_piece}
use Rattle.node_messages.specs.Writing.{same, is_frame, framed}

-- ---- the test of strings says whether they are those of a frame

short_ok : (ss : Strings) → list_all (λ s. leb (length s) LONGEST_STRING) ss ≡ true → AllByRecursion IsShort ss
short_ok [] e = tt
short_ok (s ∷ ss) e =
    let p = and_parts (leb (length s) LONGEST_STRING) (list_all (λ s. leb (length s) LONGEST_STRING) ss) e in
    (leb-true (length s) LONGEST_STRING p.0, short_ok ss p.1)

short_again : (ss : Strings) → AllByRecursion IsShort ss → list_all (λ s. leb (length s) LONGEST_STRING) ss ≡ true
short_again [] short = refl
short_again (s ∷ ss) short = and_from (leb (length s) LONGEST_STRING) _ (le-leb _ _ short.0) (short_again ss short.1)

frame_ok : (ss : Strings) → is_frame ss ≡ true → IsFrame ss
frame_ok ss e =
    let p = and_parts (leb (length ss) MOST_STRINGS) (list_all (λ s. leb (length s) LONGEST_STRING) ss) e in
    record { few = leb-true (length ss) MOST_STRINGS p.0; short = short_ok ss p.1 }

frame_again : (ss : Strings) → IsFrame ss → is_frame ss ≡ true
frame_again ss is = and_from (leb (length ss) MOST_STRINGS) _ (le-leb _ _ is.few) (short_again ss is.short)

pub frame_made : (ss made : Strings) → made ≡ ss → IsFrame ss → Ok made ≡ framed ss
frame_made ss made e is = rw (frame_again ss is) (ap (λ (s : Strings). Ok s) e)

refuses : (ss : Strings) (b : Bool) → (b ≡ true → ⊥) → Err PieceTooLong ≡ cond b (Ok ss) (Err PieceTooLong)
refuses ss true no_frame = absurd (no_frame refl)
refuses ss false no_frame = refl

pub frame_refused : (ss : Strings) → (IsFrame ss → ⊥) → Err PieceTooLong ≡ framed ss
frame_refused ss no_frame = refuses ss (is_frame ss) (λ e. no_frame (frame_ok ss e))

-- ---- the strings of a message are at most four, and short

most_members : (l : Layout) → IsLawful l → length (layout_bytes l) ≤ 257
most_members l lawful = let limit : MOST_MEMBERS ≡ 255 = refl in omega (arith, lawful.few)

next_length : (next : Option Layout) → IfSome next IsLawful → length (next_bytes next) ≤ 257
next_length None lawful = omega arith
next_length (Some l) lawful = most_members l lawful

start_length : (start : Option Start) → IfSome start IsStart → length (start_bytes start) ≤ 261
start_length None is = omega arith
start_length (Some s) is =
    let four : length (to_be_bytes w32 s.position) ≡ 4 = refl in
    omega (arith, length-append (to_be_bytes w32 s.position) (layout_bytes s.layout), four, most_members s.layout is.1)

-- a string of at most 1,000 bytes is short
small : (s : List ℕ) → length s ≤ 1000 → IsShort s
small s le = let limit : LONGEST_STRING ≡ 16842752 = refl in omega arith

joined : (numbers digest layout next start : List ℕ) → length numbers ≡ 74 → length digest ≡ 16 → length layout ≤ 257
    → length next ≤ 257 → length start ≤ 261 → IsShort (numbers ++ (digest ++ (layout ++ (next ++ start))))
joined numbers digest layout next start a b c d e =
    small (numbers ++ (digest ++ (layout ++ (next ++ start)))) (omega (
      arith,
      length-append numbers (digest ++ (layout ++ (next ++ start))),
      length-append digest (layout ++ (next ++ start)),
      length-append layout (next ++ start),
      length-append next start,
      a,
      b,
      c,
      d,
      e,
    ))

head_short : (m : NodeMessage) → IsMessage m → IsShort (head_of m)
head_short m is =
    let limit : DIGEST_LENGTH ≡ 16 = refl in
    joined (numbers_of m.named.letter) m.digest (layout_bytes m.named.letter.layout)
    (next_bytes m.named.letter.next) (start_bytes m.named.letter.start)
    refl (omega (arith, is.digest)) (most_members m.named.letter.layout is.layout) (next_length m.named.letter.next is.next)
    (start_length m.named.letter.start is.start)

-- these are the strings of a piece, of which there is at most one
record IsPieceString (ss : Strings) : Type 0 where
  few : length ss ≤ 1
  short : AllByRecursion IsShort ss

answer_short : (a : Answer) → answer_bytes a ≤ LONGEST_STRING → IsPieceString (piece_strings (answer_piece a))
answer_short answer.Done le = record { few = omega arith; short = tt }
answer_short (answer.Pointer s) le = record { few = omega arith; short = tt }
answer_short (answer.Greatest t) le = record { few = omega arith; short = tt }
answer_short (answer.Piece None) le = record { few = omega arith; short = tt }
answer_short (answer.Piece (Some p)) le = record { few = omega arith; short = (le, tt) }

piece_short : (b : Body) → body_bytes b ≤ LONGEST_STRING → IsPieceString (piece_strings (body_piece b))
piece_short (body.Request request.Next) le = record { few = omega arith; short = tt }
piece_short (body.Request (request.Spread s)) le = record { few = omega arith; short = tt }
piece_short (body.Request request.Query) le = record { few = omega arith; short = tt }
piece_short (body.Request (request.PreWrite t p)) le = record { few = omega arith; short = (le, tt) }
piece_short (body.Request (request.Finalize t)) le = record { few = omega arith; short = tt }
piece_short (body.Request (request.Fetch t)) le = record { few = omega arith; short = tt }
piece_short (body.Reply k r) le = answer_short r.answer le

-- the piece that is told is not longer than a string of a frame
abbrev IsShortTold : Option Telling → Type 0
IsShortTold told = IfSome (told_piece told) (λ piece. length piece.bytes ≤ LONGEST_STRING)

told_short : (piece : Option Piece) → IfSome piece (λ piece. length piece.bytes ≤ LONGEST_STRING) → IsPieceString (piece_strings piece)
told_short None le = record { few = omega arith; short = tt }
told_short (Some p) le = record { few = omega arith; short = (le, tt) }

-- the strings of two pieces
both_short : (xs ys : Strings) → AllByRecursion IsShort xs → AllByRecursion IsShort ys → AllByRecursion IsShort (xs ++ ys)
both_short [] ys a b = b
both_short (x ∷ xs) ys a b = (a.0, both_short xs ys a.1 b)

is_framed : (m : NodeMessage) → IsMessage m → message_bytes m.named.letter.message ≤ LONGEST_STRING → IsShortTold m.named.letter.told
    → IsFrame (strings_of m)
is_framed m is le told_le =
    let name : IsShort m.named.name = small m.named.name (let e : LONGEST_NAME ≡ 255 = refl in omega (arith, is.name)) in
    let piece = piece_short m.named.letter.message.body le in
    let told = told_short (told_piece m.named.letter.told) told_le in
    let strings = piece_strings (body_piece m.named.letter.message.body) in
    let told_strings = piece_strings (told_piece m.named.letter.told) in
    let most : MOST_STRINGS ≡ 1024 = refl in
    record {
      few = omega (arith, piece.few, told.few, length-append strings told_strings);
      short = (head_short m is, (name, both_short strings told_strings piece.short told.short));
    }

-- ---- a message has no other fault

fits_kind : (b : Body) → IsBody b → is_fitting b ≡ true
fits_kind (body.Request q) fits = refl
fits_kind (body.Reply k r) fits = fits.3

same_bools : (a b : Bool) → a ≡ b → same a b ≡ true
same_bools true b e = sym e
same_bools false b e = ap not (sym e)

pub short_piece_written : ShortPiecesHaveFrames
short_piece_written m is le told_le =
    let name : ltb LONGEST_NAME (length m.named.name) ≡ false = le-ltb LONGEST_NAME (length m.named.name) is.name in
    let member : ltb m.named.letter.message.member (length m.named.letter.layout.members) ≡ true =
    lt-ltb m.named.letter.message.member (length m.named.letter.layout.members) is.member in
    rw (
      name,
      member,
      fits_kind m.named.letter.message.body is.body,
      same_bools (is_some m.named.letter.next) (names_next m.named.letter.message.body) is.named,
      is.role,
      frame_again (strings_of m) (is_framed m is le told_le),
    ) refl
