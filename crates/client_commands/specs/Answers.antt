-- The bytes of an answer.
use Rattle.std.specs.Prelude.{ℕ, List, [], ◌∷◌, ◌++◌, length, codes}
use Rattle.frames.specs.Frame.{frame_bytes, header, line_end, string_bytes}
use Rattle.node_strings.specs.Strings.{Strings}
use Rattle.std.specs.Fmt.{decimal}
use Rattle.client_commands.specs.Texts.{error_code, error_text}
use Rattle.client_commands.specs.declared.answer.Answer.{Answer}
use Rattle.client_commands.specs.declared.answer.Answer.TheVariants as answer

-- `-`, a word such as `ERR`, a space, a text, and CR LF
abbrev pub error_line : (code text : List ℕ) → List ℕ
error_line code text = codes "-" ++ code ++ codes " " ++ text ++ line_end

-- The answer to a HELLO on the connection of this number, as RESP2 has it: a list of keys, each with its value behind
-- it. `greeting_rest` is what comes behind the number.
abbrev pub greeting_rest : List ℕ
greeting_rest = codes "\r\n$4\r\nmode\r\n$10\r\nstandalone\r\n$4\r\nrole\r\n$6\r\nmaster\r\n$7\r\nmodules\r\n*0\r\n"

abbrev pub greeting : (id : ℕ) → List ℕ
greeting id =
    codes "*14\r\n$6\r\nserver\r\n$4\r\ncasd\r\n$7\r\nversion\r\n$5\r\n1.0.0\r\n$5\r\nproto\r\n:2\r\n$2\r\nid\r\n:"
    ++ decimal id ++ greeting_rest

-- the answer to a SCAN: a list of the next cursor, whose digits are a bulk string, and of a list of names
abbrev pub page_bytes : (next : ℕ) → (names : Strings) → List ℕ
page_bytes next names = codes "*2\r\n" ++ (string_bytes (decimal next) ++ frame_bytes names)

-- the bytes that are sent for an answer: `+OK`, `+PONG`, a bulk string, `$-1`, `:NUMBER`, `*0`, the answer to a SCAN, a
-- greeting, or an error
abbrev pub sent_bytes : Answer → List ℕ
sent_bytes answer.Ok = codes "+OK" ++ line_end
sent_bytes answer.Pong = codes "+PONG" ++ line_end
sent_bytes (answer.Value value) = string_bytes value
sent_bytes answer.Nil = codes "$-1" ++ line_end
sent_bytes (answer.Number n) = header 58 n
sent_bytes answer.NoCommands = codes "*0" ++ line_end
sent_bytes (answer.Page next names) = page_bytes next names.items
sent_bytes (answer.Greeting id) = greeting id
sent_bytes (answer.Error error) = error_line (error_code error) (error_text error)

-- the strings in which these bytes are sent: a value is in one of its own
abbrev pub sent_strings : Answer → Strings
sent_strings answer.Ok = sent_bytes answer.Ok ∷ []
sent_strings answer.Pong = sent_bytes answer.Pong ∷ []
sent_strings (answer.Value value) = header 36 (length value) ∷ value ∷ line_end ∷ []
sent_strings answer.Nil = sent_bytes answer.Nil ∷ []
sent_strings (answer.Number n) = sent_bytes (answer.Number n) ∷ []
sent_strings answer.NoCommands = sent_bytes answer.NoCommands ∷ []
sent_strings (answer.Page next names) = sent_bytes (answer.Page next names) ∷ []
sent_strings (answer.Greeting id) = sent_bytes (answer.Greeting id) ∷ []
sent_strings (answer.Error error) = sent_bytes (answer.Error error) ∷ []
