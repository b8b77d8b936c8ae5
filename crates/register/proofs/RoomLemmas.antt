-- Room for phases and messages.
use Rattle.std.proofs.Common.{◌≡◌, ℕ, suc, ◌+◌, ◌<◌, ◌≤◌, ◌&&◌, nat_lt, nat_le, true, false, cond, List, [], ◌∷◌, ◌++◌, length, Option}
use Rattle.std.proofs.Common.{Some, None, Result, Ok, Err, IsErrAnd, Bool, not, sym, ap, subst, ◌∙◌, inr, refl, arith}
use Rattle.std.proofs.lemmas.Bool.Decides.{nat_tests}
use Rattle.tag.specs.Cause.{IsRefusalBy}
use Rattle.tag.specs.declared.limits.TheConstants.{MOST_BYTES, MOST_MESSAGES, MOST_PHASES, MOST_STEPS}
use Rattle.tag.specs.declared.refusal.Refusal.{Refusal}
use Rattle.tag.specs.declared.refusal.Refusal.TheVariants.{Full, NoMemory}
use Rattle.tag.specs.Refusal.{IsByCause}
use Rattle.piece.specs.declared.piece.Piece.{Piece}
use Rattle.bank.specs.declared.kind.Kind.{Kind}
use Rattle.mail.specs.declared.message.Message.{Message}
use Rattle.mail.specs.Mail.{mail_bytes, mail_cause}
use Rattle.record.specs.Sending.{requests}
use Rattle.register.specs.Causes.{unless, if_step}
use Rattle.register.specs.Kept.{HasRoomIfFew}

pub is_lt : (n m : ℕ) → n < m → nat_lt n m ≡ true
is_lt n m below = grind (arith, nat_tests, below)

pub lt_of : (n m : ℕ) → nat_lt n m ≡ true → n < m
lt_of n m is = grind (arith, nat_tests, is)

pub not_lt : (n m : ℕ) → m ≤ n → nat_lt n m ≡ false
not_lt n m most = grind (arith, nat_tests, most)

pub is_le : (n m : ℕ) → n ≤ m → nat_le n m ≡ true
is_le n m most = grind (arith, nat_tests, most)

pub le_of : (n m : ℕ) → nat_le n m ≡ true → n ≤ m
le_of n m is = grind (arith, nat_tests, is)

pub not_le : (n m : ℕ) → m < n → nat_le n m ≡ false
not_le n m more = grind (arith, nat_tests, more)

pub not_true : (b : Bool) → not b ≡ true → b ≡ false
not_true true e = absurd (cc)
not_true false e = refl

-- where nothing refuses, the condition holds, and no later cause refuses
pub passed : (holds : Bool) (refusal : Refusal) (later : Option Refusal) → unless holds refusal later ≡ None
    → (holds ≡ true) × (later ≡ None)
passed true refusal later none = (refl, none)
passed false refusal later none = absurd (cc)

-- a step within the limit of steps is refused for what comes after that
pub step_within : (now : ℕ) (later : Option Refusal) → now ≤ MOST_STEPS → if_step now later ≡ later
step_within now later most = ap (λ b. unless b Full later) (is_le now MOST_STEPS most)

-- a step past the limit of steps is refused as full
pub step_past : (now : ℕ) (later : Option Refusal) → MOST_STEPS < now → if_step now later ≡ Some Full
step_past now later past = ap (λ b. unless b Full later) (not_le now MOST_STEPS past)

pub length_requests : (call phase : ℕ) (kind : Kind) (position : ℕ) (servers : List ℕ) (member : ℕ) (piece : ℕ → Piece)
    → length (requests call phase kind position servers member piece) ≡ length servers
length_requests call phase kind position [] member piece = refl
length_requests call phase kind position (s ∷ ss) member piece = ap suc (length_requests call phase kind position ss (suc member) piece)

pub length_append : {X : Type 0} (xs ys : List X) → length (xs ++ ys) ≡ length xs + length ys
length_append [] ys = omega arith
length_append (x ∷ xs) ys = let rest = length_append xs ys in omega (arith, rest)

-- where few messages have room, their number alone decides
pub few_room : (messages : List Message) → HasRoomIfFew messages → nat_le (length messages) MOST_MESSAGES ≡ true
    → mail_cause messages ≡ None
few_room messages room few =
    let bytes = is_le (mail_bytes messages) MOST_BYTES (room (le_of (length messages) MOST_MESSAGES few)) in
    ap (λ b. cond (b && nat_le (mail_bytes messages) MOST_BYTES) None (Some Full)) few ∙ ap (λ b. cond b None (Some Full)) bytes

pub many_full : (messages : List Message) → nat_le (length messages) MOST_MESSAGES ≡ false → mail_cause messages ≡ Some Full
many_full messages many = ap (λ b. cond (b && nat_le (mail_bytes messages) MOST_BYTES) None (Some Full)) many

-- a refusal for want of memory, where there is no cause
pub for_memory : {T : Type 0} (cause : Option Refusal) (r : Result T Refusal) → cause ≡ None → IsErrAnd r (λ e. e ≡ NoMemory)
    → IsByCause cause r
for_memory cause (Ok x) none refused = absurd refused
for_memory cause (Err e) none refused = inr (none, refused)

-- if there is no cause of refusal, a result that hands on a refusal for want of memory follows from the cause
pub handed_on : {T : Type 0} (cause : Option Refusal) (r : Result T Refusal) (refusal : Refusal) → cause ≡ None
    → IsErrAnd r (λ e. e ≡ refusal) → refusal ≡ NoMemory → IsByCause cause r
handed_on cause (Ok x) refusal none refused is = absurd refused
handed_on cause (Err e) refusal none refused is = inr (none, refused ∙ is)

-- what a refusal that is handed on was for
pub same_cause : {T : Type 0} (cause : Option Refusal) (r : Result T Refusal) (refusal : Refusal) → IsErrAnd r (λ e. e ≡ refusal)
    → IsRefusalBy cause refusal → IsByCause cause r
same_cause cause (Ok x) refusal refused by = absurd refused
same_cause cause (Err e) refusal refused by = subst (λ (e : Refusal). IsRefusalBy cause e) (sym refused) by

-- a refusal by a cause is a refusal by each equal cause
pub by_cause : {a b : Option Refusal} {r : Refusal} → a ≡ b → IsRefusalBy b r
    → IsRefusalBy a r
by_cause {r = r} e by = subst (λ (cause : Option Refusal). IsRefusalBy cause r) (sym e) by

-- whether messages with a request to each server have room
pub sum_few : (mail : List Message) (call phase : ℕ) (kind : Kind) (position : ℕ) (servers : List ℕ) (piece : ℕ → Piece) (count : ℕ)
    (b : Bool)
    → count ≡ length servers → b ≡ nat_le (length mail + count) MOST_MESSAGES
    → nat_le (length (mail ++ requests call phase kind position servers 0 piece)) MOST_MESSAGES ≡ b
sum_few mail call phase kind position servers piece count b is room =
    cc (length_append mail (requests call phase kind position servers 0 piece), length_requests call phase kind position servers 0 piece)

-- whether messages with these have room
pub more_few : (mail more : List Message) (count : ℕ) (b : Bool) → count ≡ length more → b ≡ nat_le (length mail + count) MOST_MESSAGES
    → nat_le (length (mail ++ more)) MOST_MESSAGES ≡ b
more_few mail more count b is room =
    ap (λ n. nat_le n MOST_MESSAGES) (length_append mail more ∙ ap (λ n. length mail + n) (sym is)) ∙ sym room

-- messages that have room if they are few
pub fits_by : (messages : List Message) (b : Bool) → HasRoomIfFew messages → nat_le (length messages) MOST_MESSAGES ≡ b
    → mail_cause messages ≡ unless b Full None
fits_by messages true room few = few_room messages room few
fits_by messages false room many = many_full messages many

pub room_by : (few fits b : Bool) (messages : List Message) → HasRoomIfFew messages → nat_le (length messages) MOST_MESSAGES ≡ fits
    → b ≡ (few && fits) → unless few Full (mail_cause messages) ≡ unless b Full None
room_by true fits b messages room tested is = fits_by messages fits room tested ∙ ap (λ x. unless x Full None) (sym is)
room_by false fits b messages room tested is = ap (λ x. unless x Full None) (sym is)

-- whether a phase may begin, by the tests of `can_begin`: on the number of phases, and on that of messages
pub begin_by : (phases : ℕ) (mail : List Message) (call phase : ℕ) (kind : Kind) (position : ℕ) (servers : List ℕ) (piece : ℕ → Piece)
    (count : ℕ) (b : Bool) → HasRoomIfFew (mail ++ requests call phase kind position servers 0 piece) → count ≡ length servers
    → b ≡ (nat_lt phases MOST_PHASES && nat_le (length mail + count) MOST_MESSAGES)
    → unless (nat_lt phases MOST_PHASES) Full (mail_cause (mail ++ requests call phase kind position servers 0 piece)) ≡ unless b Full None
begin_by phases mail call phase kind position servers piece count b room is tested =
    room_by (nat_lt phases MOST_PHASES) (nat_le (length mail + count) MOST_MESSAGES) b _ room
    (sum_few mail call phase kind position servers piece count (nat_le (length mail + count) MOST_MESSAGES) is refl) tested
