-- An entry that is cut short, also with zeros behind it, is the end of the log.
use Rattle.std.proofs.Common.{◌≡◌, ◌⊎◌, ℕ, ◌+◌, ◌-◌, ◌<◌, ◌≤◌, List, [], ◌∷◌, ◌++◌, length, take, drop, get_or, replicate, inl, inr}
use Rattle.std.proofs.Common.{refl, sym, ap, ◌∙◌, subst, append_assoc, append-nil, arith, length-append, ⊎_elim, Bool, true, false}
use Rattle.std.specs.List.{flat_map}
use Rattle.std.specs.Fmt.{decimal}
use Rattle.std.specs.Str.{bytes_eq}
use Rattle.std.proofs.lemmas.Bool.{cases_lt, cases_eq, true≢false}
use Rattle.std.proofs.lemmas.List.{get_or_append_left, get_or-drop, get_or_push, take-append-le}
use Rattle.std.proofs.lemmas.Slice.Eq.{bytes_eq-Decides}
use Rattle.frames.specs.Frame.{IsFrame, header, line_end, string_bytes, frame_bytes}
use Rattle.node_log.specs.Entry.{digest_behind, form, form_in, head_of, log_entry_bytes, IsHead, length_in}
use Rattle.node_log.specs.Reading.{HasLogEntry, body_length, IsEnd}
use Rattle.node_log.specs.Laws.{CutIsEnd}
use Rattle.node_log.proofs.HeadLemmas.{front, length-head, head_is_head, length_in_head}
use Rattle.node_log.proofs.EntryLemmas.{parts, frame_short}
use Rattle.node_log.proofs.ZeroLemmas.{zeros_put_behind}

-- ---- a frame ends with LF

abbrev EndsInLine : List ℕ → Type 0
EndsInLine bytes = (front : List ℕ) × (bytes ≡ front ++ 10 ∷ [])

behind_line : (xs ys : List ℕ) → EndsInLine ys → EndsInLine (xs ++ ys)
behind_line xs ys (front, is) = (xs ++ front, ap (λ (t : List ℕ). xs ++ t) is ∙ sym (append_assoc xs front (10 ∷ [])))

string_line : (string : List ℕ) → EndsInLine (string_bytes string)
string_line string =
    behind_line (header 36 (length string)) (string ++ line_end) (behind_line string line_end (13 ∷ [], refl))

strings_line : (xs : List ℕ) → EndsInLine xs → (strings : List (List ℕ)) → EndsInLine (xs ++ flat_map string_bytes strings)
strings_line xs ends [] = subst EndsInLine (sym (append-nil xs)) ends
strings_line xs ends (s ∷ strings) =
    subst EndsInLine (append_assoc xs (string_bytes s) (flat_map string_bytes strings))
    (strings_line (xs ++ string_bytes s) (behind_line xs (string_bytes s) (string_line s)) strings)

frame_line : (strings : List (List ℕ)) → EndsInLine (frame_bytes strings)
frame_line strings =
    let n = length strings in
    strings_line (header 42 n) (behind_line (42 ∷ decimal n) line_end (13 ∷ [], refl)) strings

last_is : (bytes : List ℕ) → EndsInLine bytes → get_or bytes (length bytes - 1) 0 ≡ 10
last_is bytes (front, is) =
    let len : length front ≡ length bytes - 1 = omega (arith, ap length is, length-append front (10 ∷ [])) in
    ap (λ (t : List ℕ). get_or t (length bytes - 1) 0) is ∙ get_or_push front 10 0 (length bytes - 1) len

has_bytes : (strings : List (List ℕ)) → 0 < length (frame_bytes strings)
has_bytes strings = omega arith

-- ---- the first byte and the last one of a body

first_byte : (chain : ℕ) (bytes : List ℕ) (strings : List (List ℕ)) (rest : List ℕ) → IsFrame strings
    → bytes ≡ log_entry_bytes chain strings ++ rest → get_or bytes 16 0 ≡ 42
first_byte chain bytes strings rest lawful is =
    let p = parts chain bytes strings rest lawful is in
    sym (get_or-drop 16 bytes 0 0) ∙ ap (λ (t : List ℕ). get_or t 0 0) p.behind

pub last_byte : (chain : ℕ) (bytes : List ℕ) (strings : List (List ℕ)) (rest : List ℕ) → IsFrame strings
    → bytes ≡ log_entry_bytes chain strings ++ rest → get_or bytes (16 + (body_length bytes - 1)) 0 ≡ 10
last_byte chain bytes strings rest lawful is =
    let p = parts chain bytes strings rest lawful is in
    let body = frame_bytes strings in
    let last = body_length bytes - 1 in
    let some = has_bytes strings in
    let long = p.long in
    let within : body_length bytes - 1 < length (frame_bytes strings) = omega arith in
    sym (get_or-drop 16 bytes last 0) ∙ ap (λ (t : List ℕ). get_or t last 0) p.behind
    ∙ get_or_append_left body rest 0 last within
    ∙ ap (λ (n : ℕ). get_or body (n - 1) 0) p.long ∙ last_is body (frame_line strings)

-- ---- whether there is a head

same_or_not : (xs ys : List ℕ) (test : Bool) → bytes_eq xs ys ≡ test → (xs ≡ ys) ⊎ (xs ≡ ys → ⊥)
same_or_not xs ys true e = inl ((bytes_eq-Decides xs ys).0 e)
same_or_not xs ys false e = inr (λ same. true≢false (sym ((bytes_eq-Decides xs ys).1 same) ∙ e))

head_or_not : (chain : ℕ) (head : List ℕ) → IsHead chain head ⊎ (IsHead chain head → ⊥)
head_or_not chain head =
    let digest = digest_behind chain (take 12 head) in
    ⊎_elim
    (λ whole. ⊎_elim
    (λ has. ⊎_elim (λ same. inl (record { whole = whole; has_form = has; digest = same })) (λ other. inr (λ is. other is.digest))
    (same_or_not digest (drop 12 head) (bytes_eq digest (drop 12 head)) refl))
    (λ none. inr (λ is. none is.has_form))
    (cases_eq (form_in head) form))
    (λ short. inr (λ is. short is.whole))
    (cases_eq (length head) 16)

-- ---- a front of an entry, and zeros

ends_in_head : (chain : ℕ) (front : List ℕ) (n : ℕ) → length front < 16 → IsEnd chain (front ++ replicate n 0)
ends_in_head chain front n short =
    let bytes = front ++ replicate n 0 in
    let none : HasLogEntry chain (front ++ replicate n 0) → ⊥ =
    λ (has : HasLogEntry chain (front ++ replicate n 0)).
    let star = first_byte chain bytes has.0 has.1 has.2 has.3 in
    let zero = zeros_put_behind front n 16 (omega arith) 16 (omega arith) in omega arith in
    ⊎_elim (λ is. (none, inr (is, zeros_put_behind front n (16 + (body_length bytes - 1)) (omega arith))))
    (λ no. (none, inl (no, zeros_put_behind front n 15 (omega arith))))
    (head_or_not chain (take 16 bytes))

ends_in_body : (chain : ℕ) (strings : List (List ℕ)) (begin back : List ℕ) (n : ℕ) → IsFrame strings
    → log_entry_bytes chain strings ≡ begin ++ back → 0 < length back → 16 ≤ length begin → IsEnd chain (begin ++ replicate n 0)
ends_in_body chain strings begin back n lawful is some long =
    let bytes = begin ++ replicate n 0 in
    let zeros : List ℕ = replicate n 0 in
    let body = frame_bytes strings in
    let small = frame_short strings lawful in
    let head = head_of chain (frame_bytes strings) in
    let first : take 16 (begin ++ replicate n 0) ≡ head_of chain (frame_bytes strings) =
    take-append-le 16 begin zeros long ∙ sym (take-append-le 16 begin back long) ∙ ap (take 16) (sym is)
    ∙ front 16 head body (length-head chain body) in
    let says : body_length (begin ++ replicate n 0) ≡ length (frame_bytes strings) =
    ap (λ (h : List ℕ). length_in h) first ∙ length_in_head chain body small in
    let some_body = has_bytes strings in
    let fits : length begin ≤ 16 + (body_length (begin ++ replicate n 0) - 1) =
    omega (arith, ap length is, length-append begin back, length-append head body, length-head chain body) in
    let none : HasLogEntry chain (begin ++ replicate n 0) → ⊥ =
    λ (has : HasLogEntry chain (begin ++ replicate n 0)).
    let line = last_byte chain bytes has.0 has.1 has.2 has.3 in
    let zero = zeros_put_behind begin n (16 + (body_length bytes - 1)) fits (16 + (body_length bytes - 1)) (omega arith) in
    omega arith in (
      none,
      inr (subst (IsHead chain) (sym first) (head_is_head chain body small), zeros_put_behind begin n (16 + (body_length bytes - 1)) fits),
    )

some_bytes : (back : List ℕ) → (back ≡ [] → ⊥) → 0 < length back
some_bytes [] some = absurd (some refl)
some_bytes (x ∷ back) some = omega arith

pub cut_entry : CutIsEnd
cut_entry chain strings begin back n lawful is some =
    ⊎_elim (λ short. ends_in_head chain begin n short)
    (λ long. ends_in_body chain strings begin back n lawful is (some_bytes back some) long)
    (cases_lt (length begin) 16)

pub no_end : (chain : ℕ) (strings : List (List ℕ)) (rest : List ℕ) → IsFrame strings
    → IsEnd chain (log_entry_bytes chain strings ++ rest) → ⊥
no_end chain strings rest lawful end = end.0 (strings, rest, lawful, refl)
