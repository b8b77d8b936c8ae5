-- The contracts that docs/trusted.md lists do not depend on this file; other contracts and proofs do.
-- The lines of the waiting messages of an object.
use Rattle.std.specs.Prelude.{ℕ, List, [], ◌∷◌, ◌++◌, length, codes}
use Rattle.std.specs.Fmt.{decimal}
use Rattle.std.specs.List.{enumerate_from, flat_map}
use Rattle.mail.specs.declared.message.Body.{Body}
use Rattle.mail.specs.declared.message.Body.TheVariants as body
use Rattle.mail.specs.declared.message.Message.{Message}
use Rattle.mail.specs.Message.{body_kind}
use Rattle.printing.specs.Vocabulary.{word_of_kind}
use Rattle.printing.specs.Words.{in_words}

-- the word for a message: a request or a reply
abbrev pub word_of_body : Body → List ℕ
word_of_body (body.Request q) = codes "request"
word_of_body (body.Reply k r) = codes "reply"

-- a place and its message: request or reply, the call, the phase and what it asks, the position, and the member
abbrev pub message_text : (place : ℕ) → Message → List ℕ
message_text place m = in_words (
    decimal place ∷ word_of_body m.body ∷ decimal m.call ∷ decimal m.phase ∷ word_of_kind (body_kind m.body)
    ∷ decimal m.position ∷ decimal m.member ∷ [])

-- the text of a message with its line feed
abbrev pub message_line : ℕ × Message → List ℕ
message_line m = message_text m.0 m.1 ++ codes "\n"

-- the lines of a mail: how many messages wait, and then one line for each
abbrev pub mail_text : List Message → List ℕ
mail_text messages =
    in_words (codes "mail" ∷ decimal (length messages) ∷ []) ++ codes "\n"
    ++ flat_map message_line (enumerate_from 0 messages)
