-- The letters of a phase are fit.
use Rattle.std.proofs.Common.{◌≡◌, ℕ, suc, ◌+◌, ◌/◌, ◌%◌, ◌<◌, ◌≤◌, ◌^◌, Bool, true, List, [], ◌∷◌, length, map, min, Option, IsSome}
use Rattle.std.proofs.Common.{leb-true, refl, arith}
use Rattle.std.specs.List.{AllByRecursion}
use Rattle.std.specs.Prelude.{IfSome, is_some}
use Rattle.std.proofs.Math.Nat.{div-le_self, min-le_left}
use Rattle.bank.specs.declared.kind.Kind.{Kind}
use Rattle.bank.specs.declared.kind.Kind.TheVariants as kind
use Rattle.bank.specs.declared.status.Status.{Status}
use Rattle.bank.specs.declared.status.Status.TheVariants as status
use Rattle.encoder.specs.Fragment.{fragment, fragment_len}
use Rattle.encoder.proofs.ColumnLemmas.{length-fragment}
use Rattle.frames.specs.Frame.{IsShort}
use Rattle.frames.specs.declared.limits.TheConstants.{LONGEST_STRING}
use Rattle.layout.specs.Layout.{Layout}
use Rattle.local_object.specs.Coding.{call_value, is_sendable}
use Rattle.local_object.specs.Events.{pieces_here}
use Rattle.local_object.specs.Local.{LocalObject, layout_here, told_start}
use Rattle.local_object.specs.Outcomes.{if_pointed, letter_of, next_in_request}
use Rattle.local_object.specs.Taking.{knows_next, machine_of}
use Rattle.mail.specs.Message.{request_bytes, request_names_next, status_names_next}
use Rattle.node_messages.specs.Message.{IsKind, IsRequest}
use Rattle.open_calls.specs.OpenCalls.{NodeCall}
use Rattle.piece.specs.declared.piece.Piece.{Piece}
use Rattle.record.specs.Sending.{request_to, requests}
use Rattle.tag.specs.declared.limits.TheConstants.{LONGEST_VALUE, MOST_MEMBERS}
use Rattle.fitting.specs.Letters.{IsFitLayout, IsFitLetter, IsFitPiece, IsFitStart}
use Rattle.fitting.specs.Objects.{IsFitObject}
use Rattle.fitting.proofs.KnownLemmas.{known_fit, start_small, told_fit}

-- a piece fits, if a phase of this kind sends it
abbrev pub IsFitFor : Kind → Piece → Type 0
IsFitFor (kind.PreWrite tag) piece = IsFitPiece piece
IsFitFor kind.Next piece = Unit {0}
IsFitFor (kind.Spread said) piece = Unit {0}
IsFitFor kind.Query piece = Unit {0}
IsFitFor (kind.Finalize tag) piece = Unit {0}
IsFitFor (kind.Fetch tag) piece = Unit {0}

-- Requests

request_fit : (k : Kind) (piece : Piece) → IsKind k → IsFitFor k piece → IsRequest (request_to k piece)
request_fit kind.Next piece tag fit = tt
request_fit (kind.Spread said) piece tag fit = tt
request_fit kind.Query piece tag fit = tt
request_fit (kind.PreWrite tag) piece is fit = (is, fit.numbers)
request_fit (kind.Finalize tag) piece is fit = is
request_fit (kind.Fetch tag) piece is fit = is

request_short : (k : Kind) (piece : Piece) → IsFitFor k piece → request_bytes (request_to k piece) ≤ LONGEST_STRING
request_short kind.Next piece fit = omega arith
request_short (kind.Spread said) piece fit = omega arith
request_short kind.Query piece fit = omega arith
request_short (kind.PreWrite tag) piece fit = fit.bytes
request_short (kind.Finalize tag) piece fit = omega arith
request_short (kind.Fetch tag) piece fit = omega arith

pub pointed_there : (said : Status) (o : Option Layout) → (status_names_next said ≡ true → IsSome o) →
    is_some (if_pointed said o) ≡ status_names_next said
pointed_there status.Unset o known = refl
pointed_there status.Pending o known = known refl
pointed_there status.Final o known = known refl

pub pointed_fit : (said : Status) (o : Option Layout) → IfSome o IsFitLayout → IfSome (if_pointed said o) IsFitLayout
pointed_fit status.Unset o fit = tt
pointed_fit status.Pending o fit = fit
pointed_fit status.Final o fit = fit

-- the layouts that a node has heard of are fit, and the position of its start fits 32 bits
pub record KnowsFit (local : LocalObject) : Type 0 where
  pub layouts : (q : ℕ) → IfSome (layout_here local q) IsFitLayout
  pub start : local.start < 2 ^ 32

-- so it is for a fit object
pub knows_fit : (local : LocalObject) → IsFitObject local → KnowsFit local
knows_fit local fit = record { layouts = known_fit local fit; start = start_small local fit }

-- the start that a node tells is fit
pub starts_fit : (local : LocalObject) → KnowsFit local → IfSome (told_start local) IsFitStart
starts_fit local knows = told_fit local knows.start (knows.layouts local.start)

module _ (local : LocalObject) (fit : KnowsFit local) where
  next_named : (k : Kind) (q : ℕ) (piece : Piece) → knows_next local.places k q ≡ true →
      is_some (next_in_request (request_to k piece) (layout_here local (suc q))) ≡ request_names_next (request_to k piece)
  next_named kind.Next q piece known = refl
  next_named (kind.Spread status.Unset) q piece known = refl
  next_named (kind.Spread status.Pending) q piece known = known
  next_named (kind.Spread status.Final) q piece known = known
  next_named kind.Query q piece known = refl
  next_named (kind.PreWrite tag) q piece known = refl
  next_named (kind.Finalize tag) q piece known = refl
  next_named (kind.Fetch tag) q piece known = refl

  next_fit : (k : Kind) (q : ℕ) (piece : Piece) → IfSome (next_in_request (request_to k piece) (layout_here local (suc q))) IsFitLayout
  next_fit kind.Next q piece = tt
  next_fit (kind.Spread said) q piece = pointed_fit said (layout_here local (suc q)) (fit.layouts (suc q))
  next_fit kind.Query q piece = tt
  next_fit (kind.PreWrite tag) q piece = tt
  next_fit (kind.Finalize tag) q piece = tt
  next_fit (kind.Fetch tag) q piece = tt

  module _ (asks : Bool) (layout : Layout) (call number : ℕ) (k : Kind) (q : ℕ) (piece : ℕ → Piece) (lawful : IsFitLayout layout)
      (call_small : call < 2 ^ 64) (number_small : number < 2 ^ 32) (position_small : q < 2 ^ 32) (tag : IsKind k)
      (known : knows_next local.places k q ≡ true)
      (pieces : (m : ℕ) → m < length layout.members → IsFitFor k (piece m)) where
    some_fit : (members : List ℕ) (member : ℕ) → member + length members ≤ length layout.members →
        AllByRecursion IsFitLetter (map (letter_of local asks layout) (requests call number k q members member piece))
    some_fit [] member few = tt
    some_fit (server ∷ servers) member few =
        let within : member < length layout.members = omega (arith, few) in
        let fits = pieces member within in (
          record {
            layout = lawful;
            call = call_small;
            phase = number_small;
            position = position_small;
            member = within;
            body = request_fit k (piece member) tag fits;
            named = next_named k q (piece member) known;
            next = next_fit k q (piece member);
            start = starts_fit local fit;
            short = request_short k (piece member) fits;
            role = refl;
            told = tt;
          },
          some_fit servers (suc member) (omega (arith, few)),
        )

    -- the letters to all members
    pub requests_fit : AllByRecursion IsFitLetter (map (letter_of local asks layout) (requests call number k q layout.members 0 piece))
    requests_fit = some_fit layout.members 0 (omega arith)

-- Pieces

fragment_short : (value : List ℕ) (k member : ℕ) → length value ≤ LONGEST_VALUE → IsShort (fragment value k member)
fragment_short value k member short =
    let longest : LONGEST_STRING ≡ 16842752 = refl in
    let most : LONGEST_VALUE ≡ 16777216 = refl in
    let size = length-fragment value k member in
    let rounded : fragment_len k (length value) ≡ length value / k + min 1 (length value % k) = refl in
    let below = div-le_self (length value) k in
    let one = min-le_left 1 (length value % k) in
    omega (arith, longest, most, size, rounded, below, one, short)

pub pieces_fit : (layout : Layout) (call : NodeCall) (k : Kind) → IsFitLayout layout → is_sendable k (machine_of call) ≡ true →
    (m : ℕ) → m < length layout.members → IsFitFor k (pieces_here fragment layout call m)
pieces_fit layout call kind.Next lawful can m within = tt
pieces_fit layout call (kind.Spread said) lawful can m within = tt
pieces_fit layout call kind.Query lawful can m within = tt
pieces_fit layout call (kind.PreWrite tag) lawful can m within =
    let short = leb-true (length (call_value (machine_of call))) LONGEST_VALUE can in
    let most : LONGEST_VALUE ≡ 16777216 = refl in
    let members : MOST_MEMBERS ≡ 255 = refl in
    let few = lawful.lawful.few in
    record {
      numbers = (omega (arith, within, members, few), omega (arith, short, most));
      bytes = fragment_short (call_value (machine_of call)) layout.k m short;
    }
pieces_fit layout call (kind.Finalize tag) lawful can m within = tt
pieces_fit layout call (kind.Fetch tag) lawful can m within = tt
