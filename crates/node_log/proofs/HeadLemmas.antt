-- The parts of a head.
use Rattle.std.proofs.Common.{◌≡◌, ℕ, ◌+◌, ◌*◌, ◌/◌, ◌%◌, ◌<◌, ◌≤◌, ◌^◌, List, [], ◌∷◌, ◌++◌, length, take, drop, get_or, Bool, true, false}
use Rattle.std.proofs.Common.{refl, sym, ap, ap₂, ◌∙◌, subst, append_assoc, arith, drop_at, length-append, length-drop}
use Rattle.std.proofs.Common.{take-append-drop, take_all}
use Rattle.std.proofs.Math.Seq.{take-add}
use Rattle.std.proofs.lemmas.List.{take-append-le, get_or-take, get_or_past, length-take, length-take-le}
use Rattle.std.proofs.lemmas.Nat.{be_bytes_8, from_be_bytes-to_be_bytes_8}
use Rattle.std.proofs.lemmas.Bool.{cases_lt}
use Rattle.std.proofs.Common.{⊎_elim}
use Rattle.std.specs.Int.{w64, to_be_bytes, from_be_bytes}
use Rattle.std.specs.Str.{bytes_eq}
use Rattle.std.proofs.lemmas.Slice.Eq.{bytes_eq-Decides}
use Rattle.std.proofs.lemmas.Bool.{true≢false}
use Rattle.node_log.proofs.TableLemmas.{written_out}
use Rattle.node_log.specs.Entry.{digest_of, digest_behind, described, form, form_in, head_of, IsHead, IsOldHead, length_in, digest_in}

pub front : (n : ℕ) (a b : List ℕ) → length a ≡ n → take n (a ++ b) ≡ a
front n a b e = take-append-le n a b (omega arith) ∙ take_all n a (omega arith)

pub behind : (n : ℕ) (a b : List ℕ) → length a ≡ n → drop n (a ++ b) ≡ b
behind n a b e = drop_at a b n e

pub length-digest : (bytes : List ℕ) → length (digest_of bytes) ≡ 4
unfolding digest_of
length-digest bytes = refl

eight : (n : ℕ) → length (to_be_bytes w64 n) ≡ 8
eight n = refl

length-digest_behind : (chain : ℕ) (bytes : List ℕ) → length (digest_behind chain bytes) ≡ 4
unfolding digest_behind
length-digest_behind chain bytes = refl

-- the number that the first eight bytes of a head write
abbrev pub number_of : List ℕ → ℕ
number_of body = form * 2 ^ 56 + length body

pub length-described : (body : List ℕ) → length (described body) ≡ 12
unfolding described
length-described body =
    omega (arith, length-append (to_be_bytes w64 (number_of body)) (digest_of body), eight (number_of body), length-digest body)

pub length-head : (chain : ℕ) (body : List ℕ) → length (head_of chain body) ≡ 16
length-head chain body =
    let says = described body in
    omega (arith, length-append says (digest_behind chain says), length-described body, length-digest_behind chain says)

regrouped : (chain : ℕ) (body : List ℕ)
    → head_of chain body ≡ to_be_bytes w64 (number_of body) ++ (digest_of body ++ digest_behind chain (described body))
unfolding described
regrouped chain body = append_assoc (to_be_bytes w64 (number_of body)) (digest_of body) (digest_behind chain (described body))

number_in_head : (chain : ℕ) (body : List ℕ) → length body < 2 ^ 56
    → from_be_bytes w64 (take 8 (head_of chain body)) ≡ number_of body
number_in_head chain body small =
    let n = number_of body in
    let rest = digest_of body ++ digest_behind chain (described body) in
    ap (from_be_bytes w64) (ap (take 8) (regrouped chain body) ∙ front 8 (to_be_bytes w64 n) rest (eight n))
    ∙ from_be_bytes-to_be_bytes_8 n (omega arith)

form_of_number : (n : ℕ) → n < 2 ^ 56 → (form * 2 ^ 56 + n) / 2 ^ 56 ≡ form
form_of_number n small = omega arith

length_of_number : (n : ℕ) → n < 2 ^ 56 → (form * 2 ^ 56 + n) % 2 ^ 56 ≡ n
length_of_number n small = omega arith

pub length_in_head : (chain : ℕ) (body : List ℕ) → length body < 2 ^ 56 → length_in (head_of chain body) ≡ length body
length_in_head chain body small =
    ap (λ (v : ℕ). v % 2 ^ 56) (number_in_head chain body small) ∙ length_of_number (length body) small

-- what a head says, and its last bytes
pub says_of_head : (chain : ℕ) (body : List ℕ) → take 12 (head_of chain body) ≡ described body
says_of_head chain body = front 12 (described body) (digest_behind chain (described body)) (length-described body)

pub last_of_head : (chain : ℕ) (body : List ℕ) → drop 12 (head_of chain body) ≡ digest_behind chain (described body)
last_of_head chain body = behind 12 (described body) (digest_behind chain (described body)) (length-described body)

-- the head of a body is a head
pub head_is_head : (chain : ℕ) (body : List ℕ) → length body < 2 ^ 56 → IsHead chain (head_of chain body)
head_is_head chain body small = record {
  whole = length-head chain body;
  has_form = ap (λ (v : ℕ). v / 2 ^ 56) (number_in_head chain body small) ∙ form_of_number (length body) small;
  digest = ap (digest_behind chain) (says_of_head chain body) ∙ sym (last_of_head chain body);
}

pub digest_in_head : (chain : ℕ) (body : List ℕ) → digest_in (head_of chain body) ≡ digest_of body
digest_in_head chain body =
    let n = number_of body in
    let last = digest_behind chain (described body) in
    let rest = digest_of body ++ digest_behind chain (described body) in
    ap (take 4) (ap (drop 8) (regrouped chain body) ∙ behind 8 (to_be_bytes w64 n) rest (eight n))
    ∙ front 4 (digest_of body) last (length-digest body)

-- each of the first bytes is below 256
front_bytes : (n : ℕ) (xs : List ℕ) → ((i : ℕ) → get_or xs i 0 < 256) → (i : ℕ) → get_or (take n xs) i 0 < 256
front_bytes n xs all i =
    ⊎_elim (λ low. subst (λ (b : ℕ). b < 256) (sym (get_or-take n xs i 0 low)) (all i))
    (λ high. subst (λ (b : ℕ). b < 256) (sym (get_or_past (take n xs) i 0 (beyond high))) (omega arith))
    (cases_lt i n)
  where
    beyond : n ≤ i → length (take n xs) ≤ i
    beyond high = omega (arith, length-take n xs)

number_again : (v n : ℕ) → v / 2 ^ 56 ≡ form → n ≡ v % 2 ^ 56 → form * 2 ^ 56 + n ≡ v
number_again v n is_form is_length = omega arith

-- a head with the length and the digest of a body begins with the 12 bytes that describe this body
pub says_of : (chain : ℕ) (head body : List ℕ) → IsHead chain head → ((i : ℕ) → get_or head i 0 < 256)
    → length body ≡ length_in head → digest_of body ≡ digest_in head → take 12 head ≡ described body
unfolding described
says_of chain head body is bytes long same =
    let whole = is.whole in
    let len : length (take 8 head) ≡ 8 = length-take-le 8 head (omega arith) in
    take-add 8 4 head ∙ ap₂ (λ (a b : List ℕ). a ++ b)
    (sym (be_bytes_8 (take 8 head) (number_of body) len (front_bytes 8 head bytes)
    (number_again (from_be_bytes w64 (take 8 head)) (length body) is.has_form long))) (sym same)

-- a head with the length and the digest of a body is the head of this body
pub head_is_of : (chain : ℕ) (head body : List ℕ) → IsHead chain head → ((i : ℕ) → get_or head i 0 < 256)
    → length body ≡ length_in head → digest_of body ≡ digest_in head → head ≡ head_of chain body
head_is_of chain head body is bytes long same =
    let says = says_of chain head body is bytes long same in
    sym (take-append-drop 12 head) ∙ ap₂ (λ (a b : List ℕ). a ++ b) says (sym is.digest ∙ ap (digest_behind chain) says)

-- ---- the bytes of a head, one by one

abbrev pub first_eight : List ℕ → List ℕ
first_eight xs = get_or xs 0 0 ∷ get_or xs 1 0 ∷ get_or xs 2 0 ∷ get_or xs 3 0 ∷ get_or xs 4 0 ∷ get_or xs 5 0 ∷ get_or xs 6 0
    ∷ get_or xs 7 0 ∷ []

abbrev pub first_four : List ℕ → List ℕ
first_four xs = get_or xs 0 0 ∷ get_or xs 1 0 ∷ get_or xs 2 0 ∷ get_or xs 3 0 ∷ []

four : (xs : List ℕ) → length xs ≡ 4 → first_four xs ≡ xs
four (a ∷ b ∷ c ∷ d ∷ []) is = refl
four (a ∷ b ∷ c ∷ d ∷ e ∷ more) is = absurd (omega arith)
four [] is = absurd (omega arith)
four (a ∷ []) is = absurd (omega arith)
four (a ∷ b ∷ []) is = absurd (omega arith)
four (a ∷ b ∷ c ∷ []) is = absurd (omega arith)

abbrev pub first_twelve : List ℕ → List ℕ
first_twelve xs = get_or xs 0 0 ∷ get_or xs 1 0 ∷ get_or xs 2 0 ∷ get_or xs 3 0 ∷ get_or xs 4 0 ∷ get_or xs 5 0 ∷ get_or xs 6 0
    ∷ get_or xs 7 0 ∷ get_or xs 8 0 ∷ get_or xs 9 0 ∷ get_or xs 10 0 ∷ get_or xs 11 0 ∷ []

twelve : (xs : List ℕ) → length xs ≡ 12 → first_twelve xs ≡ xs
twelve (a ∷ b ∷ c ∷ d ∷ e ∷ f ∷ g ∷ h ∷ xs) is =
    ap (λ (t : List ℕ). a ∷ b ∷ c ∷ d ∷ e ∷ f ∷ g ∷ h ∷ t) (four xs (omega arith))
twelve [] is = absurd (omega arith)
twelve (a ∷ []) is = absurd (omega arith)
twelve (a ∷ b ∷ []) is = absurd (omega arith)
twelve (a ∷ b ∷ c ∷ []) is = absurd (omega arith)
twelve (a ∷ b ∷ c ∷ d ∷ []) is = absurd (omega arith)
twelve (a ∷ b ∷ c ∷ d ∷ e ∷ []) is = absurd (omega arith)
twelve (a ∷ b ∷ c ∷ d ∷ e ∷ f ∷ []) is = absurd (omega arith)
twelve (a ∷ b ∷ c ∷ d ∷ e ∷ f ∷ g ∷ []) is = absurd (omega arith)

-- the bytes that describe a body
pub described_is : (body number digest : List ℕ) → number ≡ to_be_bytes w64 (number_of body) → digest ≡ digest_of body
    → first_eight number ++ first_four digest ≡ described body
unfolding described
described_is body number digest is_number is_digest =
    ap₂ (λ (a b : List ℕ). a ++ b)
    (sym (written_out number (ap length is_number ∙ eight (number_of body))) ∙ is_number)
    (four digest (ap length is_digest ∙ length-digest body) ∙ is_digest)

-- the bytes of a head, of what it says and of its digest
pub assembled : (chain : ℕ) (says digest : List ℕ) → length says ≡ 12 → digest ≡ digest_behind chain says
    → first_twelve says ++ first_four digest ≡ says ++ digest_behind chain says
assembled chain says digest whole is =
    ap₂ (λ (a b : List ℕ). a ++ b) (twelve says whole) (four digest (ap length is ∙ length-digest_behind chain says) ∙ is)

-- ---- the test of a head's own digest

tail_of : (head tail : List ℕ) → length head ≡ 16 → tail ≡ take 4 (drop 12 head) → tail ≡ drop 12 head
tail_of head tail whole is = is ∙ take_all 4 (drop 12 head) (omega (arith, length-drop 12 head))

-- the digest that was computed is that of the last bytes
right : (head digest wanted tail : List ℕ) (test : Bool) → length head ≡ 16 → digest ≡ wanted
    → tail ≡ take 4 (drop 12 head) → test ≡ bytes_eq digest tail → test ≡ true → wanted ≡ drop 12 head
right head digest wanted tail test whole computed is tested holds =
    sym computed ∙ (bytes_eq-Decides digest tail).0 (sym tested ∙ holds) ∙ tail_of head tail whole is

-- if the test fails, the digest that was wanted is not that of the last bytes
wrong : (head digest wanted tail : List ℕ) (test : Bool) → length head ≡ 16 → digest ≡ wanted
    → tail ≡ take 4 (drop 12 head) → test ≡ bytes_eq digest tail → test ≡ false → wanted ≡ drop 12 head → ⊥
wrong head digest wanted tail test whole computed is tested fails same =
    true≢false (sym ((bytes_eq-Decides digest tail).1 (computed ∙ same ∙ sym (tail_of head tail whole is))) ∙ sym tested ∙ fails)

pub is_head : (chain : ℕ) (head digest tail : List ℕ) (test : Bool) → length head ≡ 16 → form_in head ≡ form
    → digest ≡ digest_behind chain (take 12 head) → tail ≡ take 4 (drop 12 head) → test ≡ bytes_eq digest tail → test ≡ true
    → IsHead chain head
is_head chain head digest tail test whole has computed is tested holds = record {
  whole = whole;
  has_form = has;
  digest = right head digest (digest_behind chain (take 12 head)) tail test whole computed is tested holds;
}

pub is_no_head : (chain : ℕ) (head digest tail : List ℕ) (test : Bool) → length head ≡ 16
    → digest ≡ digest_behind chain (take 12 head) → tail ≡ take 4 (drop 12 head) → test ≡ bytes_eq digest tail → test ≡ false
    → IsHead chain head → ⊥
is_no_head chain head digest tail test whole computed is tested fails head_is =
    wrong head digest (digest_behind chain (take 12 head)) tail test whole computed is tested fails head_is.digest

pub is_old : (head digest tail : List ℕ) (test : Bool) → length head ≡ 16 → form_in head < form → digest ≡ digest_of (take 12 head)
    → tail ≡ take 4 (drop 12 head) → test ≡ bytes_eq digest tail → test ≡ true → IsOldHead head
is_old head digest tail test whole has computed is tested holds = record {
  whole = whole;
  has_form = has;
  digest = right head digest (digest_of (take 12 head)) tail test whole computed is tested holds;
}

pub old_is_tested : (head digest tail : List ℕ) (test : Bool) → length head ≡ 16 → digest ≡ digest_of (take 12 head)
    → tail ≡ take 4 (drop 12 head) → test ≡ bytes_eq digest tail → IsOldHead head → test ≡ true
old_is_tested head digest tail test whole computed is tested old =
    tested ∙ (bytes_eq-Decides digest tail).1 (computed ∙ old.digest ∙ sym (tail_of head tail whole is))
