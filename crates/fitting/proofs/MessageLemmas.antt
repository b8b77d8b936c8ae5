-- A fit letter with a short name is a message, and its strings are a frame.
use Rattle.std.proofs.Common.{◌≡◌, ◌≤◌, ◌&&◌, Bool, true, [], ◌∷◌, length, leb, Option, Some, None, Ok, leb-true}
use Rattle.std.specs.List.{AllByRecursion, list_all}
use Rattle.std.specs.Prelude.{IfSome}
use Rattle.std.proofs.lemmas.Bool.{and_parts}
use Rattle.cluster_file.specs.declared.file.TheConstants.{DIGEST_LENGTH}
use Rattle.frames.specs.Frame.{IsFrame, IsShort}
use Rattle.frames.specs.declared.limits.TheConstants.{LONGEST_STRING, MOST_STRINGS}
use Rattle.layout.specs.Layout.{IsLawful, Layout}
use Rattle.letter.specs.declared.start.Start.{Start}
use Rattle.letter.specs.declared.telling.Telling.{Telling}
use Rattle.node_messages.specs.Message.{IsMessage, IsPiece, IsStart, IsTelling}
use Rattle.node_messages.specs.Strings.{strings_of, told_piece}
use Rattle.node_messages.specs.Writing.{checked, framed}
use Rattle.node_messages.specs.declared.error.Fault.TheVariants.{PieceTooLong}
use Rattle.node_messages.specs.declared.message.NodeMessage.{NodeMessage}
use Rattle.node_messages.proofs.FrameLemmas.{short_piece_written}
use Rattle.node_strings.specs.Strings.{Strings}
use Rattle.piece.specs.declared.piece.Piece.{Piece}
use Rattle.tag.specs.declared.limits.TheConstants.{LONGEST_NAME}
use Rattle.words.proofs.PartLemmas.{bind_ok, guarded}
use Rattle.fitting.specs.Laws.{FitLettersAreMessages}
use Rattle.fitting.specs.Letters.{IsFitLayout, IsFitLetter, IsFitPiece, IsFitStart, IsFitTelling}

lawful_if : (o : Option Layout) → IfSome o IsFitLayout → IfSome o IsLawful
lawful_if None fit = tt
lawful_if (Some layout) fit = fit.lawful

start_if : (o : Option Start) → IfSome o IsFitStart → IfSome o IsStart
start_if None fit = tt
start_if (Some start) fit = (fit.position, fit.layout.lawful)

telling_if : (o : Option Telling) → IfSome o IsFitTelling → IfSome o IsTelling
telling_if None fit = tt
telling_if (Some telling) fit = (fit.greatest, numbers telling.piece fit.piece)
  where
    numbers : (o : Option Piece) → IfSome o IsFitPiece → IfSome o IsPiece
    numbers None fit = tt
    numbers (Some piece) fit = fit.numbers

-- a piece that is told fits into a string
told_short : (o : Option Telling) → IfSome o IsFitTelling → IfSome (told_piece o) (λ (piece : Piece). length piece.bytes ≤ LONGEST_STRING)
told_short None fit = tt
told_short (Some telling) fit = short telling.piece fit.piece
  where
    short : (o : Option Piece) → IfSome o IsFitPiece → IfSome o (λ (piece : Piece). length piece.bytes ≤ LONGEST_STRING)
    short None fit = tt
    short (Some piece) fit = fit.bytes

is_message : (m : NodeMessage) → length m.digest ≡ DIGEST_LENGTH → length m.named.name ≤ LONGEST_NAME →
    IsFitLetter m.named.letter → IsMessage m
is_message m digest name fit = record {
  digest = digest;
  name = name;
  layout = fit.layout.lawful;
  call = fit.call;
  phase = fit.phase;
  position = fit.position;
  member = fit.member;
  body = fit.body;
  named = fit.named;
  next = lawful_if m.named.letter.next fit.next;
  start = start_if m.named.letter.start fit.start;
  role = fit.role;
  told = telling_if m.named.letter.told fit.told;
}

-- Strings

all_short : (ss : Strings) → list_all (λ s. leb (length s) LONGEST_STRING) ss ≡ true → AllByRecursion IsShort ss
all_short [] e = tt
all_short (s ∷ ss) e =
    let parts = and_parts (leb (length s) LONGEST_STRING) (list_all (λ s. leb (length s) LONGEST_STRING) ss) e in
    (leb-true (length s) LONGEST_STRING parts.0, all_short ss parts.1)

-- strings that were written are those of a frame
frame_written : (ss made : Strings) → framed ss ≡ Ok made → IsFrame ss
frame_written ss made e =
    let test : Bool = list_all (λ s. leb (length s) LONGEST_STRING) ss in
    let is = guarded (leb (length ss) MOST_STRINGS && test) (Ok ss) PieceTooLong made e in
    let parts = and_parts (leb (length ss) MOST_STRINGS) test is.0 in
    record { few = leb-true (length ss) MOST_STRINGS parts.0; short = all_short ss parts.1 }

pub message_fits : FitLettersAreMessages
message_fits m digest name fit =
    let is = is_message m digest name fit in
    let written = bind_ok (checked m) (λ _. framed (strings_of m)) (strings_of m)
    (short_piece_written m is fit.short (told_short m.named.letter.told fit.told)) in
    (is, frame_written (strings_of m) (strings_of m) written.2)
