-- The parts of an entry's bytes, and what they are when they are read.
use Rattle.std.proofs.Common.{◌≡◌, ℕ, ◌+◌, ◌*◌, ◌<◌, ◌≤◌, ◌^◌, List, [], ◌∷◌, ◌++◌, length, take, drop}
use Rattle.std.proofs.Common.{refl, sym, ap, ◌∙◌, subst, append_assoc, append-nil, arith, length-append, Option, Some, Ok, Err}
use Rattle.std.specs.List.{flat_map, AllByRecursion}
use Rattle.std.specs.Fmt.{decimal}
use Rattle.std.proofs.lemmas.Fmt.{length-decimal-le_succ}
use Rattle.frames.specs.declared.limits.TheConstants.{MOST_STRINGS, LONGEST_STRING}
use Rattle.frames.specs.Frame.{IsFrame, IsShort, header, line_end, string_bytes, frame_bytes}
use Rattle.frames.specs.Reading.{frame_at}
use Rattle.frames.specs.declared.error.Fault.{Fault}
use Rattle.frames.proofs.ReadPartLemmas.{ok_is}
use Rattle.frames.proofs.FrameRoundTripLemmas.{one_frame, frame_again}
use Rattle.node_log.specs.Entry.{digest_of, head_of, digest_in, log_entry_bytes, IsHead}
use Rattle.node_log.specs.Reading.{HasHead, behind_head, body_length, body_at, IsDamaged, HasLogEntry, IsNoBody}
use Rattle.node_log.specs.Laws.{BeginsOneEntry}
use Rattle.node_log.specs.declared.error.Damage.{Damage}
use Rattle.node_log.specs.declared.error.Damage.TheVariants.{WrongHead, WrongDigest, NoFrame}
use Rattle.node_log.proofs.HeadLemmas.{front, behind, length-head, head_is_head, length_in_head, digest_in_head}

-- ---- how long a frame may be

limit_is : (n : ℕ) → n ≡ 16842752 → n < 2 ^ 25
limit_is n e = omega arith

most_is : (n : ℕ) → n ≡ 1024 → n ≤ 1024
most_is n e = omega arith

header_short : (mark n : ℕ) → n < 2 ^ 25 → length (header mark n) ≤ n + 4
header_short mark n small = omega (arith, length-append (decimal n) line_end, length-decimal-le_succ n (omega arith))

string_short : (string : List ℕ) → IsShort string → length (string_bytes string) ≤ 2 ^ 27
string_short string short =
    let n = length string in
    let within = limit_is LONGEST_STRING refl in
    omega (arith, length-append (header 36 n) (string ++ line_end), length-append string line_end, header_short 36 n (omega arith))

strings_short : (strings : List (List ℕ)) → AllByRecursion IsShort strings
    → length (flat_map string_bytes strings) ≤ length strings * 2 ^ 27
strings_short [] all = omega arith
strings_short (s ∷ strings) all =
    omega (arith, length-append (string_bytes s) (flat_map string_bytes strings), string_short s all.0, strings_short strings all.1)

pub frame_short : (strings : List (List ℕ)) → IsFrame strings → length (frame_bytes strings) < 2 ^ 56
frame_short strings lawful =
    let n = length strings in
    let few = lawful.few in
    let most = most_is MOST_STRINGS refl in
    omega (
      arith,
      length-append (header 42 n) (flat_map string_bytes strings),
      header_short 42 n (omega arith),
      strings_short strings lawful.short,
    )

-- ---- the parts of the bytes at whose front an entry stands

pub record EntryParts (chain : ℕ) (bytes : List ℕ) (strings : List (List ℕ)) (rest : List ℕ) : Type 0 where
  pub head : take 16 bytes ≡ head_of chain (frame_bytes strings)
  pub has_head : HasHead chain bytes
  pub long : body_length bytes ≡ length (frame_bytes strings)
  pub digest : digest_in (take 16 bytes) ≡ digest_of (frame_bytes strings)
  pub behind : behind_head bytes ≡ frame_bytes strings ++ rest
  pub body : body_at bytes ≡ frame_bytes strings

pub parts : (chain : ℕ) (bytes : List ℕ) (strings : List (List ℕ)) (rest : List ℕ) → IsFrame strings
    → bytes ≡ log_entry_bytes chain strings ++ rest → EntryParts chain bytes strings rest
parts chain bytes strings rest lawful is =
    let body = frame_bytes strings in
    let head = head_of chain (frame_bytes strings) in
    let small = frame_short strings lawful in
    let whole : bytes ≡ head_of chain (frame_bytes strings) ++ (frame_bytes strings ++ rest) = is ∙ append_assoc head body rest in
    let first : take 16 bytes ≡ head_of chain (frame_bytes strings) =
    ap (take 16) whole ∙ front 16 head (body ++ rest) (length-head chain body) in
    let left : behind_head bytes ≡ frame_bytes strings ++ rest =
    ap (drop 16) whole ∙ behind 16 head (body ++ rest) (length-head chain body) in
    let long : body_length bytes ≡ length (frame_bytes strings) =
    ap (λ (h : List ℕ). Rattle.node_log.specs.Entry.length_in h) first ∙ length_in_head chain body small in
    record {
      head = first;
      has_head = subst (IsHead chain) (sym first) (head_is_head chain body small);
      long = long;
      digest = ap digest_in first ∙ digest_in_head chain body;
      behind = left;
      body = ap (λ (n : ℕ). take n (behind_head bytes)) long ∙ ap (take (length body)) left ∙ front (length body) body rest refl;
    }

-- nothing is damaged where an entry stands
pub not_damaged : (chain : ℕ) (strings : List (List ℕ)) (rest : List ℕ) → IsFrame strings → (damage : Damage)
    → IsDamaged chain (log_entry_bytes chain strings ++ rest) damage → ⊥
not_damaged chain strings rest lawful WrongHead damaged = damaged.0 (parts chain _ strings rest lawful refl).has_head
not_damaged chain strings rest lawful WrongDigest damaged =
    let p = parts chain _ strings rest lawful refl in
    damaged.1 (ap digest_of p.body ∙ sym p.digest)
not_damaged chain strings rest lawful NoFrame damaged =
    let p = parts chain _ strings rest lawful refl in
    damaged.2 strings lawful p.body

pub one_entry : BeginsOneEntry
one_entry chain e f x y is_e is_f same =
    let p = parts chain _ e x is_e refl in
    let q = parts chain _ f y is_f same in
    one_frame e f x y is_e is_f (sym p.behind ∙ q.behind)

-- where an entry stands, a head and the body stand too
pub entry_is_whole : (chain : ℕ) (bytes : List ℕ) → HasLogEntry chain bytes
    → HasHead chain bytes × (16 + body_length bytes ≤ length bytes)
entry_is_whole chain bytes p =
    let (strings, rest, lawful, is) = p in
    let q = parts chain bytes strings rest lawful is in
    let body = frame_bytes strings in (
      q.has_head,
      omega (
        arith,
        q.long,
        ap length is,
        length-append (log_entry_bytes chain strings) rest,
        length-append (head_of chain body) body,
        length-head chain body,
      ),
    )

-- ---- bytes that are no frame

read_again : (bytes : List ℕ) (strings : List (List ℕ)) → IsFrame strings → bytes ≡ frame_bytes strings
    → frame_at bytes ≡ Ok (Some strings, [])
read_again bytes strings lawful is = ap frame_at (is ∙ sym (append-nil (frame_bytes strings))) ∙ frame_again strings [] lawful

pub left_over : (bytes rest : List ℕ) (frame : List (List ℕ)) → frame_at bytes ≡ Ok (Some frame, rest) → (rest ≡ [] → ⊥) → IsNoBody bytes
left_over bytes rest frame read some strings lawful is =
    some (ap (λ (p : Option (List (List ℕ)) × List ℕ). p.1)
    (ok_is (Some frame, rest) (Some strings, []) (sym read ∙ read_again bytes strings lawful is)))

pub faulty : (bytes rest : List ℕ) (fault : Fault) → frame_at bytes ≡ Err (fault, rest) → IsNoBody bytes
faulty bytes rest fault read strings lawful is = let again = read_again bytes strings lawful is in absurd cc
