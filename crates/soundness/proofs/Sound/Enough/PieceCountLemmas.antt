-- The members whose pieces a phase took: as many as the replies that bring a piece.
use Rattle.std.proofs.Common.{nat_eq, ◌≡◌, ℕ, zero, suc, ◌+◌, ◌≤◌, Bool, true, false, cond, nat_lt, List, [], ◌∷◌}
use Rattle.std.proofs.Common.{length, Some, IsSome, refl, sym, subst, ap, ◌∙◌, arith, eqb-true, slice_get}
use Rattle.std.specs.List.{AllByRecursion, IsDistinct, list_any}
use Rattle.std.proofs.lemmas.Bool.Decides.{nat_tests}
use Rattle.std.proofs.lemmas.List.Recursion.{is_count_by}
use Rattle.std.proofs.lemmas.Map.Keys.{IsDistinct-tail}
use Rattle.std.proofs.lemmas.Map.Made.{length-le_from_is_member}
use Rattle.std.proofs.lemmas.Option.{same_Some}
use Rattle.std.specs.Cmp.{nat_eq_equiv}
use Rattle.layout.proofs.DistinctMemberLemmas.{distinct_cons, has-head}
use Rattle.layout.specs.Quorum.{has}
use Rattle.bank.specs.declared.reply.Answer.{Answer}
use Rattle.bank.specs.declared.reply.Answer.TheVariants as answer
use Rattle.mail.specs.declared.phase.Taken.{Taken}
use Rattle.mail.specs.Phase.{Phase, has_piece, pieces_in, members_of, lacks_pieces}
use Rattle.record.specs.Records.{Object}
use Rattle.record.specs.Knowledge.{IsTruePhase}
use Rattle.record.specs.Fragments.{Code, answer_piece, TookPiece, HasEnough, HasPieces}
use Rattle.soundness.proofs.ListLemmas.{all_weaker}

abbrev brings : Taken → Bool
brings reply = has_piece reply.reply.answer

-- the members of the replies that bring a piece
abbrev holders : List Taken → List ℕ
holders [] = []
holders (reply ∷ replies) = cond (brings reply) (reply.member ∷ holders replies) (holders replies)

holders_counted : (replies : List Taken) → length (holders replies) ≡ pieces_in replies
holders_counted replies = is_count_by (λ rs. length (holders rs)) brings refl each replies
  where
    each : (reply : Taken) (rs : List Taken) →
        length (holders (reply ∷ rs)) ≡ cond (brings reply) (1 + length (holders rs)) (length (holders rs))
    each reply rs = go (brings reply)
      where
        go : (b : Bool) → length (cond b (reply.member ∷ holders rs) (holders rs)) ≡ cond b (1 + length (holders rs)) (length (holders rs))
        go true = omega arith
        go false = refl

piece_brought : (answer : Answer) → IsSome (answer_piece answer) → has_piece answer ≡ true
piece_brought answer some = grind arith

brought_piece : (answer : Answer) → has_piece answer ≡ true → IsSome (answer_piece answer)
brought_piece answer e = grind arith

-- the test may compare either way round
has_flipped : (xs : List ℕ) (x : ℕ) → list_any (nat_eq x) xs ≡ has xs x
has_flipped xs x = grind (arith, nat_tests)

-- a member whose piece was taken is one of them
held_at : (replies : List Taken) (place : ℕ) (reply : Taken) → slice_get replies place ≡ Some reply →
    IsSome (answer_piece reply.reply.answer) → has (holders replies) reply.member ≡ true
held_at [] place reply at some = absurd (cc)
held_at (first ∷ replies) zero reply at some =
    let same = same_Some first reply at in
    let brought : brings first ≡ true = ap brings same ∙ piece_brought reply.reply.answer some in
    let member : first.member ≡ reply.member = ap (λ (r : Taken). r.member) same in
    subst (λ b. has (cond b (first.member ∷ holders replies) (holders replies)) reply.member ≡ true) (sym brought)
    (grind (arith, nat_tests, member))
held_at (first ∷ replies) (suc place) reply at some = go (brings first) (held_at replies place reply at some)
  where
    go : (b : Bool) → has (holders replies) reply.member ≡ true →
        has (cond b (first.member ∷ holders replies) (holders replies)) reply.member ≡ true
    go true rest = grind (arith, nat_tests, rest)
    go false rest = rest

held : (phase : Phase) (members : List ℕ) → AllByRecursion (TookPiece phase) members → (q : ℕ) →
    list_any (nat_eq q) members ≡ true → list_any (nat_eq q) (holders phase.replies) ≡ true
held phase [] all q there = absurd (cc)
held phase (member ∷ members) all q there = go (nat_eq q member) refl there (held phase members all.1 q)
  where
    go : (b : Bool) → nat_eq q member ≡ b → list_any (nat_eq q) (member ∷ members) ≡ true →
        (list_any (nat_eq q) members ≡ true → list_any (nat_eq q) (holders phase.replies) ≡ true) →
        list_any (nat_eq q) (holders phase.replies) ≡ true
    go true same h rest =
        let took = all.0 in
        let here : took.reply.member ≡ q = took.same_member ∙ sym (eqb-true q member same) in
        has_flipped (holders phase.replies) q
        ∙ subst (λ m. has (holders phase.replies) m ≡ true) here
        (held_at phase.replies took.place took.reply took.within took.some_piece)
    go false other h rest = rest (grind (arith, nat_tests, h, other))

-- as many members as a phase took pieces of, it has replies that bring one
pub counted : (phase : Phase) (members : List ℕ) → IsDistinct nat_eq members → AllByRecursion (TookPiece phase) members →
    length members ≤ pieces_in phase.replies
counted phase members distinct all =
    subst (λ n. length members ≤ n) (holders_counted phase.replies)
    (length-le_from_is_member nat_eq_equiv members (holders phase.replies) distinct (λ q there. held phase members all q there))

not_short : (n k : ℕ) → k ≤ n → nat_lt n k ≡ false
not_short n k h = grind (arith, nat_tests)

-- a phase with pieces of k members lacks none
pub enough_not_lacking : (object : Object) (phase : Phase) → IsTruePhase object phase → HasEnough object phase →
    lacks_pieces phase ≡ false
enough_not_lacking object phase truth has = grind (arith, counted, not_short)

pub pieces_not_lacking : (fragment : Code) (object : Object) (phase : Phase) (value : List ℕ) → IsTruePhase object phase →
    HasPieces fragment object phase value → lacks_pieces phase ≡ false
pieces_not_lacking fragment object phase value truth has = grind (arith, all_weaker, enough_not_lacking)

-- and one that lacks none has pieces of k members

not_held : (replies : List Taken) (member : ℕ) → has (members_of replies) member ≡ false → has (holders replies) member ≡ false
not_held [] member none = refl
not_held (reply ∷ replies) member none =
    go (brings reply) (not_held replies member (grind (arith, nat_tests)))
  where
    go : (b : Bool) → has (holders replies) member ≡ false →
        has (cond b (reply.member ∷ holders replies) (holders replies)) member ≡ false
    go true rest = grind (arith, nat_tests, rest, none)
    go false rest = rest

holders_distinct : (replies : List Taken) → IsDistinct nat_eq (members_of replies) → IsDistinct nat_eq (holders replies)
holders_distinct [] distinct = distinct
holders_distinct (reply ∷ replies) distinct =
    go (brings reply) (holders_distinct replies (IsDistinct-tail nat_eq reply.member (members_of replies) distinct))
  where
    go : (b : Bool) → IsDistinct nat_eq (holders replies) →
        IsDistinct nat_eq (cond b (reply.member ∷ holders replies) (holders replies))
    go true rest =
        distinct_cons reply.member (holders replies)
        (not_held replies reply.member (has-head reply.member (members_of replies) distinct)) rest
    go false rest = rest

-- a reply of these brings a piece of the member
record Brings (replies : List Taken) (member : ℕ) : Type 0 where
  place : ℕ
  reply : Taken
  within : slice_get replies place ≡ Some reply
  same_member : reply.member ≡ member
  some_piece : IsSome (answer_piece reply.reply.answer)

holders_bring : (replies : List Taken) → AllByRecursion (Brings replies) (holders replies)
holders_bring [] = tt
holders_bring (reply ∷ replies) = go (brings reply) refl (all_weaker (Brings replies) (Brings (reply ∷ replies))
    (λ member b. record {
      place = suc b.place;
      reply = b.reply;
      within = b.within;
      same_member = b.same_member;
      some_piece = b.some_piece;
    }) (holders replies) (holders_bring replies))
  where
    go : (b : Bool) → brings reply ≡ b → AllByRecursion (Brings (reply ∷ replies)) (holders replies) →
        AllByRecursion (Brings (reply ∷ replies)) (cond b (reply.member ∷ holders replies) (holders replies))
    go true brought rest = (
      record {
        place = 0;
        reply = reply;
        within = refl;
        same_member = refl;
        some_piece = brought_piece reply.reply.answer brought;
      },
      rest,
    )
    go false brought rest = rest

enough_counted : (n k : ℕ) → nat_lt n k ≡ false → k ≤ n
enough_counted n k e = grind (arith, nat_tests)

pub not_lacking_enough : (object : Object) (phase : Phase) → IsTruePhase object phase → lacks_pieces phase ≡ false →
    HasEnough object phase
not_lacking_enough object phase truth has =
    grind (arith, all_weaker, enough_counted, holders, holders_bring, holders_counted, holders_distinct)
