-- The strings of an answer are its bytes, and with an address in front they are a frame.
use Rattle.std.proofs.Common.{◌≡◌, ℕ, ◌*◌, ◌^◌, ◌<◌, ◌≤◌, List, [], ◌∷◌, ◌++◌, length, length-append, refl, ap, ◌∙◌, arith}
use Rattle.std.specs.Fmt.{decimal}
use Rattle.std.specs.Prelude.{codes}
use Rattle.std.specs.List.{AllByRecursion, concat, flat_map}
use Rattle.std.proofs.lemmas.Fmt.{length-decimal-le}
use Rattle.std.proofs.lemmas.List.{append-nil}
use Rattle.std.proofs.lemmas.List.Folds.{concat-append}
use Rattle.frames.specs.Frame.{IsShort, IsFrame, frame_bytes, header, line_end, string_bytes}
use Rattle.frames.specs.declared.limits.TheConstants.{MOST_STRINGS, LONGEST_STRING}
use Rattle.client_commands.specs.Answers.{sent_bytes, sent_strings, error_line, greeting, greeting_rest, page_bytes}
use Rattle.client_commands.specs.Command.{IsShortName}
use Rattle.client_commands.specs.declared.scanning.TheConstants.{MOST_SCANNED}
use Rattle.tag.specs.declared.limits.TheConstants.{LONGEST_NAME}
use Rattle.client_commands.specs.Laws.{AnswersHaveFrames}
use Rattle.client_commands.specs.Texts.{error_code, error_text}
use Rattle.client_commands.specs.declared.answer.Answer.{Answer}
use Rattle.client_commands.specs.declared.answer.Answer.TheVariants as answer
use Rattle.client_commands.proofs.TextLemmas.{code_is_short, error_is_text}

joined : (a : Answer) → concat (sent_strings a) ≡ sent_bytes a
joined answer.Ok = refl
joined answer.Pong = refl
joined (answer.Value value) = refl
joined answer.Nil = refl
joined (answer.Number n) = append-nil (sent_bytes (answer.Number n))
joined answer.NoCommands = refl
joined (answer.Page next names) = append-nil (sent_bytes (answer.Page next names))
joined (answer.Greeting id) = append-nil (sent_bytes (answer.Greeting id))
joined (answer.Error e) = append-nil (sent_bytes (answer.Error e))

pub joined_behind : (old new : List (List ℕ)) (a : Answer) → new ≡ old ++ sent_strings a → concat new ≡ concat old ++ sent_bytes a
joined_behind old new a e =
    ap concat e ∙ concat-append old (sent_strings a) ∙ ap (λ (bytes : List ℕ). concat old ++ bytes) (joined a)

-- ---- frames

small : (string : List ℕ) → length string ≤ 200 → IsShort string
small string le = let limit : LONGEST_STRING ≡ 16842752 = refl in omega arith

header_short : (mark n : ℕ) → n < 2 ^ 64 → IsShort (header mark n)
header_short mark n lt =
    let digits : length (decimal n) ≤ 20 = length-decimal-le 20 n (omega arith) (omega arith) lt in
    small (header mark n) (omega (arith, length-append (decimal n) line_end))

all_short : (mark code space text end : List ℕ) → length mark ≤ 1 → length code ≤ 9 → length space ≤ 1 → length text ≤ 150
    → length end ≤ 2 → length (mark ++ code ++ space ++ text ++ end) ≤ 200
all_short mark code space text end a b c d e =
    omega (
      arith,
      length-append (mark ++ code ++ space ++ text) end,
      length-append (mark ++ code ++ space) text,
      length-append (mark ++ code) space,
      length-append mark code,
    )

line_short : (code text : List ℕ) → length code ≤ 9 → length text ≤ 150 → IsShort (error_line code text)
line_short code text few le =
    small (error_line code text) (all_short (codes "-") code (codes " ") text line_end (omega arith) few (omega arith) le (omega arith))

greeting_short : (id : ℕ) → id < 2 ^ 64 → IsShort (greeting id)
greeting_short id lt =
    let digits : length (decimal id) ≤ 20 = length-decimal-le 20 id (omega arith) (omega arith) lt in
    small (greeting id) (omega (arith, length-append (decimal id) greeting_rest))

one : (address string : List ℕ) → IsShort address → IsShort string → IsFrame (address ∷ string ∷ [])
one address string a s =
    let limit : MOST_STRINGS ≡ 1024 = refl in
    record { few = omega arith; short = (a, (s, tt)) }

three : (address line value : List ℕ) → IsShort address → IsShort line → IsShort value → IsFrame (address ∷ line ∷ value ∷ line_end ∷ [])
three address line value a l v =
    let limit : MOST_STRINGS ≡ 1024 = refl in
    record { few = omega arith; short = (a, (l, (v, (small line_end (omega arith), tt)))) }

-- the length of what is written of a name that has at most 255 bytes
name_short : (name : List ℕ) → IsShortName name → length (string_bytes name) ≤ 282
name_short name le =
    let limit : LONGEST_NAME ≡ 255 = refl in
    let small : length name < 2 ^ 64 = omega (arith, le) in
    let digits : length (decimal (length name)) ≤ 20 = length-decimal-le 20 (length name) (omega arith) (omega arith) small in
    omega (
      arith,
      le,
      length-append (header 36 (length name)) (name ++ line_end),
      length-append name line_end,
      length-append (decimal (length name)) line_end,
    )

-- the length of what is written of such names
names_short : (names : List (List ℕ)) → AllByRecursion IsShortName names → length (flat_map string_bytes names) ≤ 282 * length names
names_short [] all = omega arith
names_short (name ∷ names) all =
    let first = name_short name all.0 in
    let others = names_short names all.1 in
    omega (arith, length-append (string_bytes name) (flat_map string_bytes names))

-- a page of such names is short enough for a string of a frame
page_short : (next : ℕ) (names : List (List ℕ)) → next < 2 ^ 64 → length names ≤ MOST_SCANNED → AllByRecursion IsShortName names
    → IsShort (page_bytes next names)
page_short next names lt few all =
    let limit : LONGEST_STRING ≡ 16842752 = refl in
    let most : MOST_SCANNED ≡ 1000 = refl in
    let each = names_short names all in
    let cursor : length (decimal next) ≤ 20 = length-decimal-le 20 next (omega arith) (omega arith) lt in
    let size : length (decimal (length names)) ≤ 20 =
    length-decimal-le 20 (length names) (omega arith) (omega arith) (let few : length names ≤ MOST_SCANNED = few in omega arith) in
    let width : length (decimal (length (decimal next))) ≤ 20 =
    length-decimal-le 20 (length (decimal next)) (omega arith) (omega arith) (omega arith) in
    omega (
      arith,
      length-append (codes "*2\r\n") (string_bytes (decimal next) ++ frame_bytes names),
      length-append (string_bytes (decimal next)) (frame_bytes names),
      length-append (header 36 (length (decimal next))) (decimal next ++ line_end),
      length-append (decimal (length (decimal next))) line_end,
      length-append (decimal next) line_end,
      length-append (header 42 (length names)) (flat_map string_bytes names),
      length-append (decimal (length names)) line_end,
    )

pub framed : AnswersHaveFrames
framed address answer.Ok a fits = one address (sent_bytes answer.Ok) a (small (sent_bytes answer.Ok) (omega arith))
framed address answer.Pong a fits = one address (sent_bytes answer.Pong) a (small (sent_bytes answer.Pong) (omega arith))
framed address (answer.Value value) a fits =
    let limit : LONGEST_STRING ≡ 16842752 = refl in
    three address (header 36 (length value)) value a (header_short 36 (length value) (omega arith)) fits
framed address answer.Nil a fits = one address (sent_bytes answer.Nil) a (small (sent_bytes answer.Nil) (omega arith))
framed address (answer.Greeting id) a fits = one address (greeting id) a (greeting_short id fits)
framed address (answer.Number n) a fits = one address (header 58 n) a (header_short 58 n fits)
framed address answer.NoCommands a fits =
    one address (sent_bytes answer.NoCommands) a (small (sent_bytes answer.NoCommands) (omega arith))
framed address (answer.Page next names) a fits =
    one address (page_bytes next names.items) a (page_short next names.items fits.0 fits.1 fits.2)
framed address (answer.Error e) a fits =
    one address (error_line (error_code e) (error_text e)) a
    (line_short (error_code e) (error_text e) (code_is_short e) (error_is_text e fits).short)
