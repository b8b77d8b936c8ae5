-- Recorded pieces, and what a call wants that is to settle a value.
use Rattle.std.proofs.Common.{◌≡◌, ℕ, suc, ◌&&◌, ◌||◌, Bool, true, false, cond, is_some, List, [], ◌∷◌}
use Rattle.std.proofs.Common.{slice_get, Option, Some, None, sym, ap, subst, ◌∙◌, refl, arith}
use Rattle.std.proofs.lemmas.Option.{same_Some}
use Rattle.std.specs.List.{All, AllByRecursion}
use Rattle.std.specs.Cmp.Lexicographic.{same_text}
use Rattle.std.proofs.lemmas.Bool.{eqb-true}
use Rattle.tag.specs.declared.tag.Tag.{Tag}
use Rattle.bank.specs.declared.kind.Kind.{Kind}
use Rattle.bank.specs.declared.kind.Kind.TheVariants.{Fetch}
use Rattle.bank.specs.declared.reply.Answer.{Answer}
use Rattle.bank.specs.declared.reply.Answer.TheVariants as answer
use Rattle.encoder.specs.Fragment.{fragment}
use Rattle.piece.specs.declared.piece.Piece.{Piece}
use Rattle.mail.specs.declared.phase.Taken.{Taken}
use Rattle.mail.specs.Phase.{Phase, lacks_pieces}
use Rattle.record.specs.Records.{Call, Object, layout_at}
use Rattle.record.specs.Fragments.{answer_piece, answer_tag, IfCoded}
use Rattle.record.specs.Legal.{due_of}
use Rattle.record.specs.declared.stage.Want.{Want}
use Rattle.record.specs.Wants.{current_phase, is_fetch, value_len, want_for, want_after, want_of}
use Rattle.record.specs.declared.stage.Want.TheVariants as want
use Rattle.soundness.proofs.Sound.WantCaseLemmas.{Unsettled}
use Rattle.register.specs.Coding.{is_recorded, has_same_piece, same_piece}

-- by index, and by recursion
pub all_by : {X : Type 0} (P : X → Type 0) (xs : List X) → All P xs → AllByRecursion P xs
all_by P [] all = tt
all_by P (x ∷ xs) all = (all 0 x (omega arith), all_by P xs (λ i d h. all (suc i) d (omega (arith, h))))

pub both_left : (a b : Bool) → (a && b) ≡ true → a ≡ true
both_left true b e = refl
both_left false b e = absurd (cc)

pub both_right : (a b : Bool) → (a && b) ≡ true → b ≡ true
both_right true b e = e
both_right false b e = absurd (cc)

-- a piece that passes the test is the other one
pub piece_same : (p q : Piece) → same_piece p q ≡ true → p ≡ q
piece_same p q e =
    let point = eqb-true p.point q.point (both_left _ _ e) in
    let rest = both_right _ _ e in
    let len = eqb-true p.len q.len (both_left _ _ rest) in
    let bytes = same_text p.bytes q.bytes (sym (both_right _ _ rest)) in
    λ j. record { point = point j; len = len j; bytes = bytes j }

-- where a piece was recorded
pub record IsTaken (replies : List Taken) (piece : Piece) : Type 0 where
  pub place : ℕ
  pub reply : Taken
  pub within : slice_get replies place ≡ Some reply
  pub brought : answer_piece reply.reply.answer ≡ Some piece

brings : (o : Option Piece) (piece : Piece) → has_same_piece piece o ≡ true → o ≡ Some piece
brings None piece e = absurd (cc)
brings (Some other) piece e = ap Some (sym (piece_same piece other e))

pub taken_of : (replies : List Taken) (piece : Piece) → is_recorded replies piece ≡ true → IsTaken replies piece
taken_of [] piece e = absurd (cc)
taken_of (t ∷ replies) piece e = go (λ r. taken_of replies piece r) (has_same_piece piece (answer_piece t.reply.answer)) refl
  where
    go : (is_recorded replies piece ≡ true → IsTaken replies piece) → (b : Bool) → has_same_piece piece (answer_piece t.reply.answer) ≡ b
        → IsTaken (t ∷ replies) piece
    go rest_of true is = record { place = 0; reply = t; within = refl; brought = brings (answer_piece t.reply.answer) piece is }
    go rest_of false is =
        let rest = rest_of (sym (ap (λ b. b || is_recorded replies piece) is) ∙ e) in
        record { place = suc rest.place; reply = rest.reply; within = rest.within; brought = rest.brought }

pub is_answer : (a : Answer) (piece : Piece) → answer_piece a ≡ Some piece → a ≡ answer.Piece (Some piece)
is_answer (answer.Piece o) piece e = ap answer.Piece e
is_answer _ piece e = absurd (cc)

-- the point of a recorded piece of a fetch is its member
pub point_is : (object : Object) (position member : ℕ) (tag : Tag) (kind : Kind) (a : Answer) (piece : Piece) → kind ≡ Fetch tag
    → a ≡ answer.Piece (Some piece)
    → IfCoded fragment object position member (answer_tag kind a) (answer_piece a) → piece.point ≡ member
point_is object position member tag kind a piece fetch is coded =
    let here : IfCoded fragment object position member (Some tag) (Some piece) =
    subst (λ a. IfCoded fragment object position member (answer_tag (Fetch tag) a) (answer_piece a)) is
    (subst (λ k. IfCoded fragment object position member (answer_tag k a) (answer_piece a)) fetch coded) in
    (here.fits piece refl).point

pub settle_k : (a b c d : ℕ) → want.Settle a b ≡ want.Settle c d → a ≡ c
settle_k a b c d e = cc

-- what a call wants that is to settle a value
settles_is : (object : Object) (index : ℕ) (call : Call) (u : Unsettled call false)
    → want_of object index call ≡ want.Settle (layout_at object u.phase.position).k (value_len u.phase.replies)
settles_is object index call u =
    ap (λ a. cond (is_some a) want.Done (want_after object next call.settled (current_phase call.phases))) u.open_call
    ∙ ap (λ p. want_after object next call.settled p) u.current
    ∙ ap (λ e. cond (is_some e) (cond (is_fetch u.phase.kind) (cond (is_some call.settled) (want_for object next) fetched)
    (want_for object next)) want.Replies) u.ended
    ∙ ap (λ k. cond (is_fetch k) (cond (is_some call.settled) (want_for object next) fetched) (want_for object next)) u.fetch.1
    ∙ ap (λ s. cond (is_some s) (want_for object next) fetched) u.none
    ∙ ap (λ b. cond b want.Again settle) u.lacking
  where
    next : Option (Kind × ℕ)
    next = due_of object index call

    settle : Want
    settle = want.Settle (layout_at object u.phase.position).k (value_len u.phase.replies)

    fetched : Want
    fetched = cond (lacks_pieces u.phase) want.Again settle

pub settles_with : (object : Object) (index : ℕ) (call : Call) (phase : Phase) → current_phase call.phases ≡ Some phase
    → (u : Unsettled call false)
    → want_of object index call ≡ want.Settle (layout_at object phase.position).k (value_len phase.replies)
settles_with object index call phase current u = cc (settles_is object index call u, same_Some u.phase phase (sym u.current ∙ current))
