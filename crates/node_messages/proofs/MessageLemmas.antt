-- A message that is read is the message that was written, and what was written is read again.
use Rattle.std.proofs.Common.{◌≡◌, ℕ, ◌<◌, ◌^◌, Bool, true, false, List, ◌∷◌, ◌++◌}
use Rattle.std.proofs.Common.{length}
use Rattle.std.proofs.Common.{Option, None, Some, Result, Ok, Err, refl, sym, ap, ap₂, subst, ◌∙◌, arith}
use Rattle.std.specs.Prelude.{IfOk}
use Rattle.std.proofs.lemmas.Bool.{lt-ltb}
use Rattle.std.proofs.lemmas.Slice.Eq.{bytes_eq-Decides}
use Rattle.tag.specs.declared.limits.TheConstants.{MOST_MEMBERS}
use Rattle.piece.specs.declared.piece.Piece.{Piece}
use Rattle.layout.specs.Layout.{Layout, IsLawful}
use Rattle.mail.specs.declared.message.Body.{Body}
use Rattle.mail.specs.declared.message.Body.TheVariants as body
use Rattle.mail.specs.Message.{names_next}
use Rattle.letter.specs.declared.telling.Telling.{Telling}
use Rattle.words.specs.Parts.{and_then}
use Rattle.words.proofs.PartLemmas.{bind_ok, ok_is}
use Rattle.node_strings.specs.Strings.{Strings}
use Rattle.node_messages.specs.declared.besides.Besides.{Besides}
use Rattle.node_messages.specs.declared.error.Fault.{Fault}
use Rattle.node_messages.specs.declared.error.MessageError.{MessageError}
use Rattle.node_messages.specs.declared.layouts.Layouts.{Layouts}
use Rattle.node_messages.specs.declared.message.NodeMessage.{NodeMessage}
use Rattle.node_messages.specs.declared.places.TheConstants.{POSITION_PLACE, MEMBER_PLACE}
use Rattle.node_messages.specs.Besides.{last_besides}
use Rattle.node_messages.specs.Gives.{Agrees}
use Rattle.node_messages.specs.Head.{byte_in, short_in, said_of, head_of, layout_bytes, next_bytes, start_bytes}
use Rattle.node_messages.specs.Laws.{WrittenMessageIsRead, ReadMessageWasWritten, StringsNameOneMessage}
use Rattle.node_messages.specs.Message.{fits_role, IsMessage}
use Rattle.node_messages.specs.Parts.{first_string, first_name, first_piece, parts_of}
use Rattle.node_messages.specs.Layouts.{layouts_from}
use Rattle.node_messages.specs.Reading.{body_from, made_of, checked_places, message_of_parts, message_from}
use Rattle.node_messages.specs.Strings.{body_piece, piece_strings, strings_of, told_piece}
use Rattle.node_messages.proofs.ReadMessageLemmas.{more_of, of_message, of_parts_ok}
use Rattle.node_messages.proofs.NumberLemmas.{numbers_say, body_said, call_again}
use Rattle.node_messages.proofs.NumberLemmas.{phase_again, position_again, member_again}
use Rattle.node_messages.proofs.BesidesLemmas.{AsksAlone, besides_again, besides_of, besides_said, numbers_say_besides}
use Rattle.node_messages.proofs.BodyLemmas.{piece_is_said, piece_again, body_again}
use Rattle.node_messages.proofs.LayoutLemmas.{layouts_again}
use Rattle.node_messages.proofs.PartLemmas.{string_ok, name_ok, name_again, parts_ok, parts_again}

checked_again : (m : NodeMessage) → IsMessage m → checked_places (of_message m) m ≡ Ok m
unfolding checked_places
checked_again m is =
    rw (
      lt-ltb m.named.letter.message.member (length m.named.letter.layout.members) is.member,
      is.role,
      (bytes_eq-Decides (of_message m) (of_message m)).1 refl,
    ) refl

pub message_ok : ReadMessageWasWritten
unfolding message_from
message_ok strings m e =
    let a = bind_ok (first_string strings) (λ head. and_then (parts_of head.0) (λ parts. and_then (first_name head.1) (λ name.
    message_of_parts parts.0 parts.1 parts.2 name.0 name.1))) m e in
    let b = bind_ok (parts_of a.0.0) (λ parts. and_then (first_name a.0.1) (λ name.
    message_of_parts parts.0 parts.1 parts.2 name.0 name.1)) m a.2 in
    let c = bind_ok (first_name a.0.1) (λ name. message_of_parts b.0.0 b.0.1 b.0.2 name.0 name.1) m b.2 in
    let whole = of_parts_ok b.0.0 b.0.1 b.0.2 c.0.0 c.0.1 m c.2 a.0.0 a.0.1 (parts_ok a.0.0 b.0 b.1) (name_ok a.0.1 c.0 c.1) in
    (whole.0, string_ok strings a.0 a.1 ∙ whole.1)

message_by : (strings rest : Strings) (head numbers digest layout_part : List ℕ) (name : List ℕ × Strings)
    (piece : Option Piece × Strings) (besides : Besides) (found : Body) (layouts : Layouts)
    → first_string strings ≡ Ok (head, rest) → parts_of head ≡ Ok (numbers, digest, layout_part)
    → first_name rest ≡ Ok name → first_piece numbers name.1 ≡ Ok piece → last_besides numbers piece.1 ≡ Ok besides
    → body_from numbers piece.0 ≡ Ok found → layouts_from (names_next found) layout_part ≡ Ok layouts
    → message_from strings ≡ checked_places numbers (made_of numbers digest name.0 found layouts besides)
unfolding message_from message_of_parts
message_by strings rest head numbers digest layout_part name piece besides found layouts a b c d t f g = rw (a, b, c, d, t, f, g) refl

-- this message with these numbers
abbrev with_numbers : NodeMessage → ℕ → ℕ → ℕ → ℕ → NodeMessage
with_numbers m call phase position member = record {
  digest = m.digest;
  named = record {
    name = m.named.name;
    letter = record {
      layout = m.named.letter.layout;
      next = m.named.letter.next;
      start = m.named.letter.start;
      asks_piece = m.named.letter.asks_piece;
      told = m.named.letter.told;
      message = record { call = call; phase = phase; position = position; member = member; body = m.named.letter.message.body };
    };
  };
}

few_members : (layout : Layout) (member : ℕ) → IsLawful layout → member < length layout.members → member < 2 ^ 8
few_members layout member lawful lt = let limit : MOST_MEMBERS ≡ 255 = refl in omega (arith, lawful.few)

-- the layouts of a message, and the start that it tells
abbrev layouts_in : NodeMessage → Layouts
layouts_in m = record { layout = m.named.letter.layout; next = m.named.letter.next; start = m.named.letter.start }

made_again : (m : NodeMessage) → IsMessage m
    → made_of (of_message m) m.digest m.named.name m.named.letter.message.body (layouts_in m)
    (besides_of m.named.letter.asks_piece m.named.letter.told) ≡ m
made_again m is =
    let x = m.named.letter.message in
    let said = said_of x.body in
    let more = more_of m in
    let small = few_members m.named.letter.layout x.member is.layout is.member in
    ap₂ (λ call phase. with_numbers m call phase (short_in POSITION_PLACE (of_message m)) (byte_in MEMBER_PLACE (of_message m)))
    (call_again x said more is.call) (phase_again x said more is.phase)
    ∙ ap₂ (λ position member. with_numbers m x.call x.phase position member)
    (position_again x said more is.position) (member_again x said more small)

first_again : (s : List ℕ) (rest : Strings) → first_string (s ∷ rest) ≡ Ok (s, rest)
unfolding first_string
first_again s rest = refl

asks_alone : (b : Body) (asks : Bool) (told : Option Telling) → fits_role b asks told ≡ true → AsksAlone asks told
asks_alone b asks None role = tt
asks_alone (body.Request q) asks (Some t) role = absurd cc
asks_alone (body.Reply k r) true (Some t) role = absurd cc
asks_alone (body.Reply k r) false (Some t) role = refl

pub message_again : WrittenMessageIsRead
message_again m is =
    let letter = m.named.letter in
    let x = letter.message in
    let said = said_of x.body in
    let more = more_of m in
    let numbers = of_message m in
    let piece = body_piece x.body in
    let told = piece_strings (told_piece letter.told) in
    let rest = piece_strings piece ++ told in
    let layout_part = layout_bytes letter.layout ++ (next_bytes letter.next ++ start_bytes letter.start) in
    let says = numbers_say x said more (body_said x.body is.body) in
    let says_more = numbers_say_besides x said more (besides_said letter.asks_piece letter.told is.told) in
    message_by (strings_of m) (m.named.name ∷ rest) (head_of m) numbers m.digest layout_part
    (m.named.name, rest) (piece, told) (besides_of letter.asks_piece letter.told) x.body (layouts_in m)
    (first_again (head_of m) (m.named.name ∷ rest)) (parts_again x said more m.digest layout_part is.digest)
    (name_again m.named.name rest is.name) (piece_again numbers said piece told says (piece_is_said x.body))
    (besides_again numbers letter.asks_piece letter.told (asks_alone x.body letter.asks_piece letter.told is.role) says_more)
    (body_again numbers x.body is.body says)
    (ap (λ b. layouts_from b layout_part) (sym is.named)
    ∙ layouts_again letter.layout letter.next letter.start is.layout is.next is.start)
    ∙ ap (checked_places numbers) (made_again m is)
    ∙ checked_again m is

abbrev read_as : NodeMessage → Result NodeMessage Fault
read_as m = Ok m

pub one_message : StringsNameOneMessage
one_message l m is_l is_m e =
    let same : read_as l ≡ read_as m = sym (message_again l is_l) ∙ ap message_from e ∙ message_again m is_m in
    ok_is l m same

-- ---- what the clauses of `read_message` say

pub is_found : (strings : Strings) (r : Result NodeMessage MessageError) → Agrees r (message_from strings)
    → IfOk r (λ m. IsMessage m × (strings ≡ strings_of m))
is_found strings (Ok m) given = message_ok strings m given
is_found strings (Err e) given = tt

pub is_only : (strings : Strings) (r : Result NodeMessage MessageError) → Agrees r (message_from strings)
    → (m : NodeMessage) → IsMessage m → strings ≡ strings_of m → Agrees r (read_as m)
is_only strings r given m is e = subst (λ read. Agrees r read) (ap message_from e ∙ message_again m is) given
