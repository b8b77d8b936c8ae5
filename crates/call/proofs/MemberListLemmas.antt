-- Lists that a loop over the members makes.
use Rattle.std.proofs.Common.{◌≡◌, ℕ, zero, suc, ◌+◌, List, [], ◌∷◌, ◌++◌, length, sym, ap, ◌∙◌, refl, arith}
use Rattle.piece.specs.declared.piece.Piece.{Piece}
use Rattle.bank.specs.declared.kind.Kind.{Kind}
use Rattle.mail.specs.declared.message.Message.{Message}
use Rattle.mail.specs.declared.message.Body.TheVariants as body
use Rattle.record.specs.Sending.{request_to, requests}

-- f 0, f 1, .. as many as `count`
abbrev pub first_of : {X : Type 0} → (ℕ → List X) → (count : ℕ) → List X
first_of f zero = []
first_of f (suc n) = first_of f n ++ f n

-- f of each number from `start` on, one for each element
abbrev pub each_from : {X : Type 0} → (ℕ → List X) → List ℕ → (start : ℕ) → List X
each_from f [] start = []
each_from f (s ∷ ss) start = f start ++ each_from f ss (suc start)

pub append_none : {X : Type 0} (xs : List X) → xs ++ [] ≡ xs
append_none [] = refl
append_none (x ∷ xs) = ap (λ ys. x ∷ ys) (append_none xs)

append_append : {X : Type 0} (xs ys zs : List X) → (xs ++ ys) ++ zs ≡ xs ++ (ys ++ zs)
append_append [] ys zs = refl
append_append (x ∷ xs) ys zs = ap (λ ws. x ∷ ws) (append_append xs ys zs)

first_of-each : {X : Type 0} (f : ℕ → List X) (ss : List ℕ) (start : ℕ)
    → first_of f start ++ each_from f ss start ≡ first_of f (start + length ss)
first_of-each f [] start = let same : start ≡ start + 0 = omega arith in append_none (first_of f start) ∙ ap (first_of f) same
first_of-each f (s ∷ ss) start =
    let same : suc start + length ss ≡ start + length (s ∷ ss) = omega arith in
    sym (append_append (first_of f start) (f start) (each_from f ss (suc start))) ∙ first_of-each f ss (suc start) ∙ ap (first_of f) same

pub each_from-zero : {X : Type 0} (f : ℕ → List X) (ss : List ℕ) → each_from f ss 0 ≡ first_of f (length ss)
each_from-zero f ss = let same : 0 + length ss ≡ length ss = omega arith in first_of-each f ss 0 ∙ ap (first_of f) same

abbrev pub request_for : (call phase : ℕ) → Kind → (position : ℕ) → (ℕ → Piece) → (member : ℕ) → Message
request_for call phase kind position piece member =
    record { call = call; phase = phase; position = position; member = member; body = body.Request (request_to kind (piece member)) }

abbrev pub requests_for : (call phase : ℕ) → Kind → (position : ℕ) → (ℕ → Piece) → (member : ℕ) → List Message
requests_for call phase kind position piece member = request_for call phase kind position piece member ∷ []

requests_from : (call phase : ℕ) (kind : Kind) (position : ℕ) (ss : List ℕ) (member : ℕ) (piece : ℕ → Piece)
    → requests call phase kind position ss member piece ≡ each_from (requests_for call phase kind position piece) ss member
requests_from call phase kind position [] member piece = refl
requests_from call phase kind position (s ∷ ss) member piece =
    ap (λ ms. request_for call phase kind position piece member ∷ ms) (requests_from call phase kind position ss (suc member) piece)

pub requests_first : (call phase : ℕ) (kind : Kind) (position : ℕ) (ss : List ℕ) (piece : ℕ → Piece)
    → requests call phase kind position ss 0 piece ≡ first_of (requests_for call phase kind position piece) (length ss)
requests_first call phase kind position ss piece =
    requests_from call phase kind position ss 0 piece ∙ each_from-zero (requests_for call phase kind position piece) ss
