-- What a letter asks and tells besides its message: what is read of it was written, and what was written is read again.
use Rattle.std.proofs.Common.{◌≡◌, ◌==◌, ℕ, ◌<◌, ◌^◌, Bool, true, false, List, [], ◌∷◌, Option, Some, None, Result, Ok}
use Rattle.std.proofs.Common.{ap, ap₂, subst, ◌∙◌, inl, inr, arith}
use Rattle.std.specs.Prelude.{IfSome}
use Rattle.piece.specs.declared.piece.Piece.{Piece}
use Rattle.tag.specs.declared.tag.Tag.{Tag}
use Rattle.bank.specs.declared.status.Status.{Status}
use Rattle.mail.specs.declared.message.Message.{Message}
use Rattle.letter.specs.declared.telling.Telling.{Telling}
use Rattle.words.specs.Parts.{and_then}
use Rattle.words.proofs.PartLemmas.{bind_ok, chosen}
use Rattle.node_strings.specs.Strings.{Strings}
use Rattle.node_messages.specs.declared.besides.Besides.{Besides}
use Rattle.node_messages.specs.declared.error.Fault.{Fault}
use Rattle.node_messages.specs.declared.places.TheConstants.{MARK_PLACE, TOLD_STATUS_PLACE, TOLD_POINT_PLACE, TOLD_LEN_PLACE}
use Rattle.node_messages.specs.declared.said.Said.{Said}
use Rattle.node_messages.specs.declared.said_besides.SaidBesides.{SaidBesides}
use Rattle.node_messages.specs.Besides.{asking, besides_from, greatest_in, last_besides, telling, told_piece_in, told_status_in}
use Rattle.node_messages.specs.Besides.{told_with, told_with_string}
use Rattle.node_messages.specs.Codes.{status_code}
use Rattle.node_messages.specs.Head.{byte_in, number_bytes, said_besides, said_of_asking, said_of_facts, short_in, with_told_piece}
use Rattle.node_messages.specs.Message.{IsPiece, IsTag, IsTelling}
use Rattle.node_messages.specs.Parts.{ending, first_string}
use Rattle.node_messages.specs.Strings.{piece_strings, told_piece}
use Rattle.node_messages.proofs.BodyLemmas.{status_again}
use Rattle.node_messages.proofs.NumberLemmas.{byte_below, byte_same, long_again, long_below, no_tag, short_again, short_below}
use Rattle.node_messages.proofs.NumberLemmas.{status_small, tag_of}
use Rattle.node_messages.proofs.PartLemmas.{ended, string_ok}

-- ---- what a head says of it is within its bits, and is read at its places

-- what a head says of what a letter asks and tells is within its bits
pub record IsSaidBesides (said : SaidBesides) : Type 0 where
  pub mark : said.mark < 2 ^ 8
  pub status : said.status < 2 ^ 8
  pub greatest : IsTag said.greatest
  pub point : said.point < 2 ^ 8
  pub len : said.len < 2 ^ 32

-- the numbers of a head say this of what a letter asks and tells
pub record SaysBesides (numbers : List ℕ) (said : SaidBesides) : Type 0 where
  pub mark : byte_in MARK_PLACE numbers ≡ said.mark
  pub status : byte_in TOLD_STATUS_PLACE numbers ≡ said.status
  pub greatest : greatest_in numbers ≡ said.greatest
  pub point : byte_in TOLD_POINT_PLACE numbers ≡ said.point
  pub len : short_in TOLD_LEN_PLACE numbers ≡ said.len

pub numbers_say_besides : (m : Message) (said : Said) (more : SaidBesides) → IsSaidBesides more
    → SaysBesides (number_bytes m said more) more
numbers_say_besides m said more fits = record {
  mark = byte_same more.mark fits.mark;
  status = byte_same more.status fits.status;
  greatest = ap₂ tag_of (long_again more.greatest.number fits.greatest.0) (long_again more.greatest.call fits.greatest.1);
  point = byte_same more.point fits.point;
  len = short_again more.len fits.len;
}

asking_said : (asks : Bool) → IsSaidBesides (said_of_asking asks)
asking_said true = record {
  mark = omega arith;
  status = omega arith;
  greatest = no_tag;
  point = omega arith;
  len = omega arith;
}
asking_said false = record {
  mark = omega arith;
  status = omega arith;
  greatest = no_tag;
  point = omega arith;
  len = omega arith;
}

facts_said : (piece : Option Piece) (s : Status) (greatest : Tag) → IsTag greatest → IfSome piece IsPiece
    → IsSaidBesides (with_told_piece piece (said_of_facts s greatest))
facts_said None s greatest tag fits = record {
  mark = omega arith;
  status = status_small s;
  greatest = tag;
  point = omega arith;
  len = omega arith;
}
facts_said (Some piece) s greatest tag fits = record {
  mark = omega arith;
  status = status_small s;
  greatest = tag;
  point = fits.0;
  len = fits.1;
}

pub besides_said : (asks : Bool) (told : Option Telling) → IfSome told IsTelling → IsSaidBesides (said_besides asks told)
besides_said asks None fits = asking_said asks
besides_said asks (Some t) fits = facts_said t.piece t.status t.greatest fits.0 fits.1

-- ---- what is read was written

-- what was read has the piece whose bytes are these strings, and its numbers are within their bits
abbrev pub IsRead : Strings → Besides → Type 0
IsRead strings x = (strings ≡ piece_strings (told_piece x.told)) × IfSome x.told IsTelling

asking_ok : (asks : Bool) (strings : Strings) (x : Besides) → ending (asking asks) strings ≡ Ok x → IsRead strings x
asking_ok asks strings x e =
    let end = ended (asking asks) strings x e in subst (IsRead strings) end.1 (end.0, tt)

told_ok : (numbers : List ℕ) (piece : Option Piece) (rest : Strings) (x : Besides) → told_with numbers piece rest ≡ Ok x
    → (s : Status) × (rest ≡ []) × (telling s (greatest_in numbers) piece ≡ x)
unfolding told_with
told_ok numbers piece rest x e =
    let s = bind_ok (told_status_in numbers) (λ found. ending (telling found (greatest_in numbers) piece) rest) x e in
    let end = ended (telling s.0 (greatest_in numbers) piece) rest x s.2 in (s.0, end.0, end.1)

greatest_fits : (numbers : List ℕ) → IsTag (greatest_in numbers)
greatest_fits numbers = (long_below _, long_below _)

without_ok : (numbers : List ℕ) (strings : Strings) (x : Besides) → told_with numbers None strings ≡ Ok x → IsRead strings x
without_ok numbers strings x e =
    let t = told_ok numbers None strings x e in subst (IsRead strings) t.2 (t.1, (greatest_fits numbers, tt))

string_is_read : (numbers : List ℕ) (strings : Strings) (x : Besides) → told_with_string numbers strings ≡ Ok x → IsRead strings x
unfolding told_with_string
string_is_read numbers strings x e =
    let a = bind_ok (first_string strings) (λ bytes. told_with numbers (Some (told_piece_in numbers bytes.0)) bytes.1) x e in
    let piece : Option Piece = Some (told_piece_in numbers a.0.0) in
    let t = told_ok numbers piece a.0.1 x a.2 in
    let whole : strings ≡ a.0.0 ∷ [] = string_ok strings a.0 a.1 ∙ ap (λ (r : Strings). a.0.0 ∷ r) t.1 in
    subst (IsRead strings) t.2 (whole, (greatest_fits numbers, (byte_below _, short_below _)))

from_ok : (code : ℕ) (numbers : List ℕ) (strings : Strings) (x : Besides) → besides_from code numbers strings ≡ Ok x → IsRead strings x
unfolding besides_from
from_ok code numbers strings x e =
    elim (chosen (code == 0) (ending (asking false) strings) _ x e) [
      | inl h ↦ asking_ok false strings x h.1
      | inr e2 ↦ elim (chosen (code == 1) (ending (asking true) strings) _ x e2) [
        | inl h ↦ asking_ok true strings x h.1
        | inr e3 ↦ elim (chosen (code == 2) (told_with numbers None strings) _ x e3) [
          | inl h ↦ without_ok numbers strings x h.1
          | inr e4 ↦ elim (chosen (code == 3) (told_with_string numbers strings) _ x e4) [
            | inl h ↦ string_is_read numbers strings x h.1
            | inr e5 ↦ absurd cc
          ]
        ]
      ]
    ]

pub besides_ok : (numbers : List ℕ) (strings : Strings) (x : Besides) → last_besides numbers strings ≡ Ok x → IsRead strings x
besides_ok numbers strings x e = from_ok (byte_in MARK_PLACE numbers) numbers strings x e

-- ---- what was written is read again

abbrev pub besides_of : Bool → Option Telling → Besides
besides_of asks told = record { asks_piece = asks; told = told }

abbrev read_as : Besides → Result Besides Fault
read_as x = Ok x

by_code : (code other : ℕ) (numbers : List ℕ) (strings : Strings) → code ≡ other
    → besides_from code numbers strings ≡ besides_from other numbers strings
by_code code other numbers strings e = ap (λ (c : ℕ). besides_from c numbers strings) e

nothing_told : (numbers : List ℕ) (asks : Bool) → SaysBesides numbers (said_of_asking asks)
    → last_besides numbers [] ≡ read_as (asking asks)
unfolding besides_from
nothing_told numbers true says = by_code (byte_in MARK_PLACE numbers) 1 numbers [] says.mark
nothing_told numbers false says = by_code (byte_in MARK_PLACE numbers) 0 numbers [] says.mark

with_again : (numbers : List ℕ) (s : Status) (greatest : Tag) (piece : Option Piece)
    → byte_in TOLD_STATUS_PLACE numbers ≡ status_code s → greatest_in numbers ≡ greatest
    → told_with numbers piece [] ≡ read_as (telling s greatest piece)
unfolding told_with
with_again numbers s greatest piece status is =
    ap (λ r. and_then r (λ found. read_as (telling found (greatest_in numbers) piece)))
    (status_again (byte_in TOLD_STATUS_PLACE numbers) s status)
    ∙ ap (λ (g : Tag). read_as (telling s g piece)) is

abbrev piece_of : List ℕ → ℕ → ℕ → Option Piece
piece_of bytes point len = Some (record { point = point; len = len; bytes = bytes })

facts_told : (numbers : List ℕ) (s : Status) (greatest : Tag) (piece : Option Piece)
    → SaysBesides numbers (with_told_piece piece (said_of_facts s greatest))
    → last_besides numbers (piece_strings piece) ≡ read_as (telling s greatest piece)
unfolding besides_from told_with_string first_string
facts_told numbers s greatest None says =
    by_code (byte_in MARK_PLACE numbers) 2 numbers [] says.mark ∙ with_again numbers s greatest None says.status says.greatest
facts_told numbers s greatest (Some p) says =
    by_code (byte_in MARK_PLACE numbers) 3 numbers (p.bytes ∷ []) says.mark
    ∙ ap (λ (piece : Option Piece). told_with numbers piece []) (ap₂ (piece_of p.bytes) says.point says.len)
    ∙ with_again numbers s greatest (Some p) says.status says.greatest

-- only a letter that tells nothing asks for a piece
abbrev pub AsksAlone : Bool → Option Telling → Type 0
AsksAlone asks None = Unit {0}
AsksAlone asks (Some t) = asks ≡ false

pub besides_again : (numbers : List ℕ) (asks : Bool) (told : Option Telling) → AsksAlone asks told
    → SaysBesides numbers (said_besides asks told)
    → last_besides numbers (piece_strings (told_piece told)) ≡ Ok (besides_of asks told)
besides_again numbers asks None alone says = nothing_told numbers asks says
besides_again numbers false (Some t) alone says = facts_told numbers t.status t.greatest t.piece says
besides_again numbers true (Some t) alone says = absurd cc
