-- What is read from a frame is a fit letter.
use Rattle.std.proofs.Common.{◌<◌, ◌≤◌, ◌^◌, List, [], ◌∷◌, ◌++◌, Option, Some, None, subst, arith}
use Rattle.std.specs.Int.{w32, to_be_bytes}
use Rattle.std.specs.List.{AllByRecursion}
use Rattle.std.specs.Prelude.{IfSome}
use Rattle.bank.specs.Answer.{answer_bytes}
use Rattle.bank.specs.declared.reply.Answer.{Answer}
use Rattle.bank.specs.declared.reply.Answer.TheVariants as answer
use Rattle.bank.specs.declared.request.Request.TheVariants as request
use Rattle.frames.specs.Frame.{IsShort}
use Rattle.frames.specs.declared.limits.TheConstants.{LONGEST_STRING}
use Rattle.layout.specs.Layout.{IsLawful, Layout}
use Rattle.letter.specs.declared.start.Start.{Start}
use Rattle.letter.specs.declared.telling.Telling.{Telling}
use Rattle.mail.specs.Message.{body_bytes}
use Rattle.mail.specs.declared.message.Body.{Body}
use Rattle.mail.specs.declared.message.Body.TheVariants as body
use Rattle.node_messages.specs.Head.{layout_bytes, next_bytes, numbers_of, start_bytes}
use Rattle.node_messages.specs.Message.{IsMessage, IsPiece, IsStart, IsTelling}
use Rattle.node_messages.specs.Strings.{answer_piece, body_piece, piece_strings, strings_of, told_piece}
use Rattle.node_messages.proofs.MessageLemmas.{message_ok}
use Rattle.node_strings.specs.Strings.{Strings}
use Rattle.piece.specs.declared.piece.Piece.{Piece}
use Rattle.fitting.specs.Letters.{IsFitLayout, IsFitPiece, IsFitStart, IsFitTelling}
use Rattle.fitting.specs.Reading.{IsOfBytes, ReadLettersAreFit}

all_behind : {X : Type 0} (P : X → Type 0) (xs ys : List X) → AllByRecursion P (xs ++ ys) → AllByRecursion P ys
all_behind P [] ys all = all
all_behind P (x ∷ xs) ys all = all_behind P xs ys all.1

all_front : {X : Type 0} (P : X → Type 0) (xs ys : List X) → AllByRecursion P (xs ++ ys) → AllByRecursion P xs
all_front P [] ys all = tt
all_front P (x ∷ xs) ys all = (all.0, all_front P xs ys all.1)

layout_fit : (layout : Layout) → IsLawful layout → IsOfBytes (layout_bytes layout) → IsFitLayout layout
layout_fit layout lawful bytes = record { lawful = lawful; members = bytes.1.1 }

start_fit : (o : Option Start) → IfSome o IsStart → IsOfBytes (start_bytes o) → IfSome o IsFitStart
start_fit None is bytes = tt
start_fit (Some start) is bytes =
    let position = to_be_bytes w32 start.position in record {
      position = is.0;
      layout = layout_fit start.layout is.1 (all_behind (λ byte. byte < 2 ^ 8) position (layout_bytes start.layout) bytes);
    }

next_fit : (o : Option Layout) → IfSome o IsLawful → IsOfBytes (next_bytes o) → IfSome o IsFitLayout
next_fit None lawful bytes = tt
next_fit (Some layout) lawful bytes = layout_fit layout lawful bytes

body_short : (b : Body) → AllByRecursion IsShort (piece_strings (body_piece b)) → body_bytes b ≤ LONGEST_STRING
body_short (body.Request request.Next) short = omega arith
body_short (body.Request (request.Spread said)) short = omega arith
body_short (body.Request request.Query) short = omega arith
body_short (body.Request (request.PreWrite tag piece)) short = short.0
body_short (body.Request (request.Finalize tag)) short = omega arith
body_short (body.Request (request.Fetch tag)) short = omega arith
body_short (body.Reply k made) short = go made.answer short
  where
    go : (a : Answer) → AllByRecursion IsShort (piece_strings (answer_piece a)) → answer_bytes a ≤ LONGEST_STRING
    go answer.Done short = omega arith
    go (answer.Pointer said) short = omega arith
    go (answer.Greatest tag) short = omega arith
    go (answer.Piece None) short = omega arith
    go (answer.Piece (Some piece)) short = short.0

-- what is told fits, if the piece in it is a string
told_fit : (o : Option Telling) → IfSome o IsTelling → AllByRecursion IsShort (piece_strings (told_piece o)) → IfSome o IsFitTelling
told_fit None is short = tt
told_fit (Some telling) is short = record { greatest = is.0; piece = go telling.piece is.1 short }
  where
    go : (o : Option Piece) → IfSome o IsPiece → AllByRecursion IsShort (piece_strings o) → IfSome o IsFitPiece
    go None is short = tt
    go (Some piece) is short = record { numbers = is; bytes = short.0 }

pub read_fit : ReadLettersAreFit
read_fit strings m read short bytes =
    let ok = message_ok strings m read in
    let is : IsMessage m = ok.0 in
    let all : AllByRecursion IsOfBytes (strings_of m) = subst (λ (ss : Strings). AllByRecursion IsOfBytes ss) ok.1 bytes in
    let few : AllByRecursion IsShort (strings_of m) = subst (λ (ss : Strings). AllByRecursion IsShort ss) ok.1 short in
    let numbers = numbers_of m.named.letter in
    let own = piece_strings (body_piece m.named.letter.message.body) in
    let told = piece_strings (told_piece m.named.letter.told) in
    let layout = layout_bytes m.named.letter.layout in
    let next = next_bytes m.named.letter.next in
    let start = start_bytes m.named.letter.start in
    let behind : IsOfBytes (layout ++ (next ++ start)) =
    all_behind (λ byte. byte < 2 ^ 8) m.digest (layout ++ (next ++ start))
    (all_behind (λ byte. byte < 2 ^ 8) numbers (m.digest ++ (layout ++ (next ++ start))) all.0) in
    let last : IsOfBytes (next ++ start) = all_behind (λ byte. byte < 2 ^ 8) layout (next ++ start) behind in (
      is.name,
      record {
        layout = layout_fit m.named.letter.layout is.layout (all_front (λ byte. byte < 2 ^ 8) layout (next ++ start) behind);
        call = is.call;
        phase = is.phase;
        position = is.position;
        member = is.member;
        body = is.body;
        named = is.named;
        next = next_fit m.named.letter.next is.next (all_front (λ byte. byte < 2 ^ 8) next start last);
        start = start_fit m.named.letter.start is.start (all_behind (λ byte. byte < 2 ^ 8) next start last);
        short = body_short m.named.letter.message.body (all_front IsShort own told few.1.1);
        role = is.role;
        told = told_fit m.named.letter.told is.told (all_behind IsShort own told few.1.1);
      },
    )
