-- The letters that a node sends were sent in the world.
use Rattle.std.proofs.Common.{◌≡◌, ℕ, suc, zero, Bool, List, [], ◌∷◌, ◌++◌, map, Option, None, Some}
use Rattle.std.proofs.Common.{refl, slice_get}
use Rattle.std.specs.List.{AllByRecursion}
use Rattle.layout.specs.Layout.{Layout}
use Rattle.piece.specs.declared.piece.Piece.{Piece}
use Rattle.bank.specs.declared.kind.Kind.{Kind}
use Rattle.bank.specs.declared.reply.Answer.{Answer}
use Rattle.bank.specs.declared.reply.Answer.TheVariants as answer
use Rattle.bank.specs.declared.request.Request.{Request}
use Rattle.bank.specs.declared.request.Request.TheVariants as request
use Rattle.bank.specs.declared.status.Status.{Status}
use Rattle.bank.specs.declared.status.Status.TheVariants.{Unset, Pending, Final}
use Rattle.mail.specs.declared.message.Body.{Body}
use Rattle.mail.specs.declared.message.Body.TheVariants as body
use Rattle.mail.specs.declared.message.Message.{Message}
use Rattle.record.specs.Sending.{requests}
use Rattle.network.specs.Worlds.{World, known_layouts}
use Rattle.network.specs.Premises.{WasSent}
use Rattle.letter.specs.declared.telling.Telling.{Telling}
use Rattle.local_object.specs.Local.{LocalObject, layout_here}
use Rattle.local_object.specs.Outcomes.{if_pointed, letter_of, next_in_answer, next_in_body, next_in_request}
use Rattle.starts.specs.Starts.{IsStart}
use Rattle.refinement.specs.Parts.{WasSentAs}
use Rattle.refinement.proofs.StartLemmas.{told_is_start}

pub in_front : {A : Type 0} (xs ys : List A) (i : ℕ) (x : A) → slice_get xs i ≡ Some x → slice_get (xs ++ ys) i ≡ Some x
in_front [] ys i x e = absurd (cc)
in_front (y ∷ xs) ys zero x e = e
in_front (y ∷ xs) ys (suc i) x e = in_front xs ys i x e

pub behind : {A : Type 0} (xs ys : List A) (i : ℕ) (x : A) → slice_get ys i ≡ Some x →
    (place : ℕ) × (slice_get (xs ++ ys) place ≡ Some x)
behind [] ys i x e = (i, e)
behind (y ∷ xs) ys i x e = let rest = behind xs ys i x e in (suc rest.0, rest.1)

pointed : (status : Status) (o : Option Layout) (layout : Layout) → if_pointed status o ≡ Some layout → o ≡ Some layout
pointed Unset o layout e = absurd (cc)
pointed Pending o layout e = e
pointed Final o layout e = e

in_request : (asked : Request) (o : Option Layout) (layout : Layout) → next_in_request asked o ≡ Some layout → o ≡ Some layout
in_request request.Next o layout e = absurd (cc)
in_request (request.Spread status) o layout e = pointed status o layout e
in_request request.Query o layout e = absurd (cc)
in_request (request.PreWrite tag piece) o layout e = absurd (cc)
in_request (request.Finalize tag) o layout e = absurd (cc)
in_request (request.Fetch tag) o layout e = absurd (cc)

in_answer : (made : Answer) (o : Option Layout) (layout : Layout) → next_in_answer made o ≡ Some layout → o ≡ Some layout
in_answer (answer.Pointer status) o layout e = pointed status o layout e
in_answer answer.Done o layout e = absurd (cc)
in_answer (answer.Greatest tag) o layout e = absurd (cc)
in_answer (answer.Piece piece) o layout e = absurd (cc)

in_body : (b : Body) (o : Option Layout) (layout : Layout) → next_in_body b o ≡ Some layout → o ≡ Some layout
in_body (body.Request asked) o layout e = in_request asked o layout e
in_body (body.Reply kind made) o layout e = in_answer made.answer o layout e

-- a message that was sent is a letter with the layouts of the position and the next, and with the node's start, whatever
-- it asks and tells
pub letter_was_sent : (world : World) (local : LocalObject) (asks : Bool) (told : Option Telling) (layout : Layout) (message : Message) →
    WasSent world message → slice_get (known_layouts world 0) message.position ≡ Some layout → IsStart world local.start →
    ((position : ℕ) (other : Layout) → layout_here local position ≡ Some other → slice_get (known_layouts world 0) position ≡ Some other) →
    WasSentAs world (record (letter_of local asks layout message) { told = told })
letter_was_sent world local asks told layout message sent at starts known = record {
  sent = sent;
  layout = at;
  next = λ other e. known (suc message.position) other (in_body message.body (layout_here local (suc message.position)) other e);
  start = told_is_start world local starts known;
}

pub letters_were_sent : (world : World) (local : LocalObject) (asks : Bool) (layout : Layout) (messages : List Message) →
    ((place : ℕ) (message : Message) → slice_get messages place ≡ Some message → WasSent world message) →
    AllByRecursion (λ message. slice_get (known_layouts world 0) message.position ≡ Some layout) messages → IsStart world local.start →
    ((position : ℕ) (other : Layout) → layout_here local position ≡ Some other → slice_get (known_layouts world 0) position ≡ Some other) →
    AllByRecursion (WasSentAs world) (map (letter_of local asks layout) messages)
letters_were_sent world local asks layout [] sent at starts known = tt
letters_were_sent world local asks layout (message ∷ messages) sent at starts known = (
  letter_was_sent world local asks None layout message (sent 0 message refl) at.0 starts known,
  letters_were_sent world local asks layout messages (λ place other is. sent (suc place) other is) at.1 starts known,
)

-- letters that were sent, were so whether or not they ask for pieces
pub sent_asking : (world : World) (local : LocalObject) (asks other : Bool) (layout : Layout) (messages : List Message) →
    AllByRecursion (WasSentAs world) (map (letter_of local asks layout) messages) →
    AllByRecursion (WasSentAs world) (map (letter_of local other layout) messages)
sent_asking world local asks other layout [] were = tt
sent_asking world local asks other layout (message ∷ messages) were = (
  record { sent = were.0.sent; layout = were.0.layout; next = were.0.next; start = were.0.start },
  sent_asking world local asks other layout messages were.1,
)

-- the requests of a phase speak of its position
pub requests_speak : (P : ℕ → Type 0) (call phase : ℕ) (kind : Kind) (position : ℕ) (servers : List ℕ) (member : ℕ) (piece : ℕ → Piece) →
    P position → AllByRecursion (λ message. P message.position) (requests call phase kind position servers member piece)
requests_speak P call phase kind position [] member piece p = tt
requests_speak P call phase kind position (server ∷ servers) member piece p =
    (p, requests_speak P call phase kind position servers (suc member) piece p)
