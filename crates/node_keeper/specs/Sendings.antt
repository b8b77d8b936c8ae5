-- Letters that go out, and where they go.
use Rattle.std.specs.Prelude.{◌≡◌, ◌⊎◌, ℕ, ◌==◌, Bool, true, false, if◌then◌else◌, List, [], ◌∷◌, map}
use Rattle.std.specs.Prelude.{Option, None, Some, slice_get}
use Rattle.bank.specs.declared.request.Request.{Request}
use Rattle.bank.specs.declared.request.Request.TheVariants as request
use Rattle.deeds.specs.Named.{NamedLetter as Named, IsOneOf}
use Rattle.letter.specs.declared.letter.Letter.{Letter}
use Rattle.letter.specs.declared.start.Start.{Start}
use Rattle.mail.specs.Message.{is_request}
use Rattle.mail.specs.declared.message.Body.{Body}
use Rattle.mail.specs.declared.message.Body.TheVariants as body
use Rattle.node_messages.specs.Message.{IsMessage}
use Rattle.node_messages.specs.Strings.{strings_of}
use Rattle.node_messages.specs.declared.message.NodeMessage.{NodeMessage}
use Rattle.node_strings.specs.Arrival.{node_address}
use Rattle.node_effects.specs.Seen.{named_of}
use Rattle.node_strings.specs.Strings.{Strings}
use Rattle.node_effects.specs.Work.{Growth, no_growth, send_all}
use Rattle.letter.specs.declared.letter.NamedLetter.{NamedLetter}

-- the message that has a letter, from a node whose cluster file has this digest
abbrev pub message_of : (digest : List ℕ) → NamedLetter → NodeMessage
message_of digest it = record { digest = digest; named = it }

-- these strings are those of the letter, as a message from a node whose cluster file has this digest
pub record IsFrameOf (digest : List ℕ) (it : NamedLetter) (frame : Strings) : Type 0 where
  pub message : IsMessage (message_of digest it)
  pub strings : frame ≡ strings_of (message_of digest it)

-- a letter that goes to the node of this number
pub record Sending : Type 0 where
  pub to : ℕ
  pub it : NamedLetter

-- the letters that go out
abbrev pub letters_of : List Sending → List Named
letters_of sends = map (λ send. named_of send.it) sends

-- the frame in which a letter goes to a node; its first string is the node's address
abbrev pub frame_to : (digest : List ℕ) → Sending → Strings
frame_to digest send = node_address send.to ∷ strings_of (message_of digest send.it)

-- the frames that the node of this number sends when these letters go out: none for a letter to itself
abbrev pub posted : (number : ℕ) → (digest : List ℕ) → List Sending → List Strings
posted number digest [] = []
posted number digest (send ∷ sends) =
    if send.to == number then posted number digest sends else frame_to digest send ∷ posted number digest sends

-- the letters that the node of this number sends to itself
abbrev pub to_itself : (number : ℕ) → List Sending → List NamedLetter
to_itself number [] = []
to_itself number (send ∷ sends) = if send.to == number then send.it ∷ to_itself number sends else to_itself number sends

-- what is added to the work of the node of this number when these letters go out
abbrev pub sent_growth : (number : ℕ) → (digest : List ℕ) → List Sending → Growth
sent_growth number digest sends =
    record no_growth { outputs = send_all (posted number digest sends); own = to_itself number sends }

-- the number in an option, or the given number if the option has none
abbrev pub one_or : ℕ → Option ℕ → ℕ
one_or other None = other
one_or other (Some one) = one

-- the node that is the member which a letter names, by the letter's layout; the node of this number if there is none
abbrev pub member_or : (number : ℕ) → Letter → ℕ
member_or number letter = one_or number (slice_get letter.layout.members letter.message.member)

-- a letter, to the node of this number
abbrev pub sending : (to : ℕ) → NamedLetter → Sending
sending to it = record { to = to; it = it }

-- one letter, to the node of this number
abbrev pub to_one : (to : ℕ) → NamedLetter → List Sending
to_one to it = sending to it ∷ []

-- letters about the object of a name, each with the node to which the function `to` sends it
abbrev pub going : (to : Letter → ℕ) → (name : List ℕ) → List Letter → List Sending
going to name letters = map (λ letter. sending (to letter) (record { name = name; letter = letter })) letters

-- letters about the object of a name, each to the node that it asks
abbrev pub asked : (number : ℕ) → (name : List ℕ) → List Letter → List Sending
asked number name letters = going (member_or number) name letters

-- a letter, to each of these nodes but the one of this number
abbrev pub to_others : (number : ℕ) → NamedLetter → (nodes : List ℕ) → List Sending
to_others number it [] = []
to_others number it (node ∷ nodes) =
    if node == number then to_others number it nodes else sending node it ∷ to_others number it nodes

-- letters about the object of a name, to the node that asked
abbrev pub reply_sendings : (asker : ℕ) → (name : List ℕ) → List Letter → List Sending
reply_sendings asker name letters = going (λ letter. asker) name letters

-- the node to which a letter goes: for a request the node that it asks, and for a reply the node that asked
abbrev pub addressee : (number asker : ℕ) → Letter → ℕ
addressee number asker letter = if is_request letter.message.body then member_or number letter else asker

-- the letter is one of these, but for the start that it tells
abbrev pub IsOneButStart : (got : List Named) → NamedLetter → Type 0
IsOneButStart got it =
    (start : Option Start)
    × IsOneOf got (record { name = it.name; letter = record it.letter { start = start } })

-- whether a request asks for the next position
abbrev pub is_for_next : Request → Bool
is_for_next request.Next = true
is_for_next asked = false

-- whether a letter with this body asks for the next position
abbrev pub asks_next : Body → Bool
asks_next (body.Request asked) = is_for_next asked
asks_next (body.Reply kind made) = false

-- the letter goes to the node to which it has to go; or it is one of these letters, which had come, but for the start
-- that it tells, and goes back to the node that asked; or it asks for the next position, and may go to any node
abbrev pub IsDirected : (number asker : ℕ) → (got : List Named) → Sending → Type 0
IsDirected number asker got send =
    (send.to ≡ addressee number asker send.it.letter)
    ⊎ ((IsOneButStart got send.it × (send.to ≡ asker)) ⊎ (asks_next send.it.letter.message.body ≡ true))
