-- Lists that a loop over the members makes.
use Rattle.std.proofs.Common.{◌≡◌, ◌≢◌, ℕ, zero, suc, ◌+◌, ◌==◌, ◌&&◌, ◌||◌, Bool, true, false, cond, List, [], ◌∷◌, ◌++◌, length}
use Rattle.std.proofs.Common.{drop, slice_get, Option, Some, sym, ap, ◌∙◌, refl, arith}
use Rattle.std.proofs.lemmas.Bool.{eqb-true}
use Rattle.piece.specs.declared.piece.Piece.{Piece}
use Rattle.bank.specs.declared.kind.Kind.{Kind}
use Rattle.bank.specs.Bank.{Bank, opened_bank}
use Rattle.layout.specs.Quorum.{has}
use Rattle.mail.specs.Bounds.{AreOthers}
use Rattle.mail.specs.declared.message.Message.{Message}
use Rattle.mail.specs.declared.phase.Taken.{Taken}
use Rattle.mail.specs.Phase.{has_taken, members_of}
use Rattle.call.proofs.MemberListLemmas.{first_of, each_from, each_from-zero, append_none, request_for, requests_for}
use Rattle.register.proofs.ListLemmas.{same_some}
use Rattle.record.specs.Steps.{opened_banks}
use Rattle.record.specs.Sending.{requests, waits, missing}

-- Banks

abbrev pub bank_for : (delta : Option ℕ) → (now : ℕ) → (member : ℕ) → List Bank
bank_for delta now member = opened_bank member delta now ∷ []

opened_from : (ss : List ℕ) (member : ℕ) (delta : Option ℕ) (now : ℕ)
    → opened_banks ss member delta now ≡ each_from (bank_for delta now) ss member
opened_from [] member delta now = refl
opened_from (s ∷ ss) member delta now = ap (λ bs. opened_bank member delta now ∷ bs) (opened_from ss (suc member) delta now)

pub opened_first : (ss : List ℕ) (delta : Option ℕ) (now : ℕ) → opened_banks ss 0 delta now ≡ first_of (bank_for delta now) (length ss)
opened_first ss delta now = opened_from ss 0 delta now ∙ each_from-zero (bank_for delta now) ss

-- Requests that go out again

-- whether a request to this member does not go out again
abbrev pub is_there : (mail : List Message) → List Taken → (call phase member : ℕ) → Bool
is_there mail replies call phase member = has (members_of replies) member || waits mail call phase member

abbrev pub missing_for : (mail : List Message) → List Taken → (call phase : ℕ) → Kind → (position : ℕ) → (ℕ → Piece) → (member : ℕ)
    → List Message
missing_for mail replies call phase kind position piece member =
    cond (is_there mail replies call phase member) [] (requests_for call phase kind position piece member)

cond_append : {X : Type 0} (b : Bool) (x : X) (xs : List X) → cond b xs (x ∷ xs) ≡ cond b [] (x ∷ []) ++ xs
cond_append true x xs = refl
cond_append false x xs = refl

missing_from : (mail : List Message) (replies : List Taken) (call phase : ℕ) (kind : Kind) (position : ℕ) (ss : List ℕ) (member : ℕ)
    (piece : ℕ → Piece)
    → missing mail (members_of replies) (requests call phase kind position ss member piece)
    ≡ each_from (missing_for mail replies call phase kind position piece) ss member
missing_from mail replies call phase kind position [] member piece = refl
missing_from mail replies call phase kind position (s ∷ ss) member piece =
    let rest = missing_from mail replies call phase kind position ss (suc member) piece in
    ap (λ ms. cond (is_there mail replies call phase member) ms (request_for call phase kind position piece member ∷ ms)) rest
    ∙ cond_append (is_there mail replies call phase member) (request_for call phase kind position piece member)
    (each_from (missing_for mail replies call phase kind position piece) ss (suc member))

pub missing_first : (mail : List Message) (replies : List Taken) (call phase : ℕ) (kind : Kind) (position : ℕ) (ss : List ℕ)
    (piece : ℕ → Piece)
    → missing mail (members_of replies) (requests call phase kind position ss 0 piece)
    ≡ first_of (missing_for mail replies call phase kind position piece) (length ss)
missing_first mail replies call phase kind position ss piece =
    missing_from mail replies call phase kind position ss 0 piece
    ∙ each_from-zero (missing_for mail replies call phase kind position piece) ss

pub has_replied : (replies : List Taken) (member : ℕ) → has (members_of replies) member ≡ has_taken replies member
has_replied [] member = refl
has_replied (t ∷ ts) member = ap (λ b. (t.member == member) || b) (has_replied ts member)

-- the list that a loop over the members makes, once it has seen one more
pub missing_next : (mail : List Message) (replies : List Taken) (call phase : ℕ) (kind : Kind) (position : ℕ) (piece : ℕ → Piece)
    (member : ℕ) (there : Bool) (items : List Message)
    → is_there mail replies call phase member ≡ there → items ≡ first_of (missing_for mail replies call phase kind position piece) member
    → cond there items (items ++ request_for call phase kind position piece member ∷ [])
    ≡ first_of (missing_for mail replies call phase kind position piece) (member + 1)
missing_next mail replies call phase kind position piece member there items is so_far =
    go there ∙ ap (λ xs. xs ++ cond there [] (requests_for call phase kind position piece member)) so_far
    ∙ ap (λ b. first_of each member ++ cond b [] (requests_for call phase kind position piece member)) (sym is) ∙ ap (first_of each) more
  where
    each : ℕ → List Message
    each = missing_for mail replies call phase kind position piece

    more : suc member ≡ member + 1
    more = omega arith

    go : (b : Bool) → cond b items (items ++ request_for call phase kind position piece member ∷ [])
        ≡ items ++ cond b [] (requests_for call phase kind position piece member)
    go true = sym (append_none items)
    go false = refl

length_one_more : {X : Type 0} (xs : List X) (x : X) → length (xs ++ x ∷ []) ≡ length xs + 1
length_one_more [] x = refl
length_one_more (y ∷ ys) x = let rest = length_one_more ys x in omega (arith, rest)

-- how many they are
pub missing_more : (mail : List Message) (replies : List Taken) (call phase : ℕ) (kind : Kind) (position : ℕ) (piece : ℕ → Piece)
    (member : ℕ) (there : Bool) (count : ℕ)
    → is_there mail replies call phase member ≡ there
    → count ≡ length (first_of (missing_for mail replies call phase kind position piece) member)
    → cond there count (count + 1) ≡ length (first_of (missing_for mail replies call phase kind position piece) (member + 1))
missing_more mail replies call phase kind position piece member there count is so_far =
    go there ∙ ap length (missing_next mail replies call phase kind position piece member there items is refl)
  where
    items : List Message
    items = first_of (missing_for mail replies call phase kind position piece) member

    go : (b : Bool) → cond b count (count + 1) ≡ length (cond b items (items ++ request_for call phase kind position piece member ∷ []))
    go true = so_far
    go false = ap (λ n. n + 1) so_far ∙ sym (length_one_more items (request_for call phase kind position piece member))

-- Waiting

-- whether a message is of this phase and member
abbrev pub is_of : (call phase member : ℕ) → Message → Bool
is_of call phase member message = message.call == call && (message.phase == phase && message.member == member)

pub waits_here : (mail : List Message) (call phase member place : ℕ) (m : Message) → slice_get mail place ≡ Some m
    → waits (drop place mail) call phase member ≡ (is_of call phase member m || waits (drop (place + 1) mail) call phase member)
waits_here [] call phase member place m at = absurd (cc)
waits_here (x ∷ xs) call phase member zero m at = ap (λ (y : Message). is_of call phase member y || waits xs call phase member)
    (same_some x m at)
waits_here (x ∷ xs) call phase member (suc place) m at =
    let more : suc place + 1 ≡ suc (place + 1) = omega arith in
    waits_here xs call phase member place m at ∙ ap (λ n. is_of call phase member m || waits (drop n (x ∷ xs)) call phase member) (sym more)

not_of : (call phase member : ℕ) (m : Message) → m.call ≢ call → is_of call phase member m ≡ false
not_of call phase member m other = go (m.call == call) refl
  where
    go : (b : Bool) → (m.call == call) ≡ b → (b && (m.phase == phase && m.member == member)) ≡ false
    go true e = absurd (other (eqb-true m.call call e))
    go false e = refl

-- none waits among messages of other calls
pub waits_behind : (call phase member from : ℕ) (mail : List Message) → AreOthers call from mail
    → waits mail call phase member ≡ waits (drop from mail) call phase member
waits_behind call phase member zero mail others = refl
waits_behind call phase member (suc from) [] others = absurd others
waits_behind call phase member (suc from) (m ∷ mail) others =
    cc (not_of call phase member m others.0, waits_behind call phase member from mail others.1)

-- the same requests, by the numbers that a phase has
pub same_requests : (mail : List Message) (replies : List Taken) (call : ℕ) (n m : ℕ) (j k : Kind) (p q : ℕ) (servers : List ℕ)
    (piece : ℕ → Piece) → n ≡ m → j ≡ k → p ≡ q
    → missing mail (members_of replies) (requests call n j p servers 0 piece)
    ≡ missing mail (members_of replies) (requests call m k q servers 0 piece)
same_requests mail replies call n m j k p q servers piece number kind position = cc
