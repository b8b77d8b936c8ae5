-- What a call fetched is what it is to settle.
use Rattle.std.proofs.Common.{◌≡◌, ℕ, zero, suc, pred, ◌≤◌, ◌==◌, ◌&&◌, ◌||◌, Bool, true, false, cond, List, [], ◌∷◌, ◌++◌}
use Rattle.std.proofs.Common.{length, take, Option, Some, None, sym, ap, ◌∙◌, refl}
use Rattle.std.specs.List.{list_all}
use Rattle.std.proofs.lemmas.Bool.{eq-eqb}
use Rattle.tag.specs.declared.limits.TheConstants.{MOST_STEPS}
use Rattle.tag.specs.declared.refusal.Refusal.TheVariants.{WrongCode}
use Rattle.layout.specs.Layout.{Layout}
use Rattle.piece.specs.declared.piece.Piece.{Piece}
use Rattle.decoder.specs.Decoded.{Decoding}
use Rattle.mail.specs.declared.phase.Taken.{Taken}
use Rattle.record.specs.Records.{Object, layout_at}
use Rattle.record.specs.Fragments.{answer_piece}
use Rattle.record.specs.Wants.{current_phase, value_len, want_of}
use Rattle.record.specs.declared.stage.Want.TheVariants as want
use Rattle.soundness.proofs.Sound.WantCaseLemmas.{Unsettled}
use Rattle.soundness.proofs.Sound.WantPreconditionLemmas.{unsettled_of}
use Rattle.register.specs.Causes.{if_call, if_step, unless, if_settle, is_decoded_in}
use Rattle.register.specs.Causes.{settle_cause}
use Rattle.register.specs.Coding.{same_piece, has_same_piece, is_recorded, piece_by, piece_list}
use Rattle.register.specs.Coding.{pieces_below, least_of}
use Rattle.register.specs.View.{want_at, fetched_pieces, pieces_of}
use Rattle.register.proofs.RoomLemmas.{step_within}
use Rattle.driver.specs.Coding.{settling_cause}
use Rattle.driver.proofs.WantLemmas.{WantsAt, wants_at}
use Rattle.driver.proofs.CompleteFetchLemmas.{settles_is, settle_parts}
use Rattle.driver.proofs.SuppliedValueLemmas.{bytes_same, all_three}

same_self : (p : Piece) → same_piece p p ≡ true
same_self p = all_three _ _ _ (eq-eqb p.point p.point refl) (eq-eqb p.len p.len refl) (bytes_same p.bytes)

or_right : (a b : Bool) → b ≡ true → (a || b) ≡ true
or_right true b e = refl
or_right false b e = e

recorded : (replies : List Taken) (member : ℕ) (p : Piece) → piece_by replies member ≡ Some p → is_recorded replies p ≡ true
recorded [] member p e = absurd (cc)
recorded (t ∷ replies) member p e = go (recorded replies member p) (t.member == member) refl
  where
    go : (piece_by replies member ≡ Some p → is_recorded replies p ≡ true) → (b : Bool) → (t.member == member) ≡ b
        → is_recorded (t ∷ replies) p ≡ true
    go rest true is = cc (e, same_self p)
    go rest false is =
        or_right (has_same_piece p (answer_piece t.reply.answer)) (is_recorded replies p)
        (rest (sym (ap (λ b. cond b (answer_piece t.reply.answer) (piece_by replies member)) is) ∙ e))

all_both : (test : Piece → Bool) (xs ys : List Piece) → list_all test xs ≡ true → list_all test ys ≡ true → list_all test (xs ++ ys) ≡ true
all_both test [] ys a b = b
all_both test (x ∷ xs) ys a b = go (all_both test xs ys) (test x) refl a
  where
    go : (list_all test xs ≡ true → list_all test ys ≡ true → list_all test (xs ++ ys) ≡ true) → (t : Bool) → test x ≡ t
        → (t && list_all test xs) ≡ true
        → (t && list_all test (xs ++ ys)) ≡ true
    go rest true is a = rest a b
    go rest false is a = absurd (cc)

all_take : (test : Piece → Bool) (k : ℕ) (xs : List Piece) → list_all test xs ≡ true → list_all test (take k xs) ≡ true
all_take test (suc k) (x ∷ xs) a = go (all_take test k xs) (test x) a
  where
    go : (list_all test xs ≡ true → list_all test (take k xs) ≡ true) → (t : Bool) → (t && list_all test xs) ≡ true
        → (t && list_all test (take k xs)) ≡ true
    go rest true a = rest a
    go rest false a = absurd (cc)
all_take test _ _ a = refl

all_listed : (test : Piece → Bool) (o : Option Piece) → ((p : Piece) → o ≡ Some p → test p ≡ true) → list_all test (piece_list o) ≡ true
all_listed test None each = refl
all_listed test (Some p) each = ap (λ b. b && true) (each p refl)

all_recorded : (replies : List Taken) (n : ℕ) → list_all (is_recorded replies) (pieces_below replies n) ≡ true
all_recorded replies zero = refl
all_recorded replies (suc n) =
    all_both (is_recorded replies) (pieces_below replies n) (piece_list (piece_by replies n)) (all_recorded replies n)
    (all_listed (is_recorded replies) (piece_by replies n) (λ p e. recorded replies n p e))

both_true : (a b : Bool) → a ≡ true → b ≡ true → (a && b) ≡ true
both_true true b p q = q
both_true false b p q = absurd (cc)

pub settle_is : (object : Object) (number k len now : ℕ) (decoded : Decoding) → want_at object number ≡ Some (want.Settle k len)
    → decoded.k ≡ k
    → decoded.pieces ≡ fetched_pieces object number → settle_cause now object number decoded ≡ settling_cause now object number
settle_is object number k len now decoded e same_k same_pieces =
    ap (λ o. if_call o (λ call. if_settle (want_of object (pred number) call)
    (unless (is_decoded_in object (current_phase call.phases) decoded) WrongCode (if_step now None)))) w.at
    ∙ ap (λ b. if_settle (want_of object (pred number) w.call) (unless b WrongCode (if_step now None))) right
    ∙ sym (ap (λ o. if_call o (λ call. if_settle (want_of object (pred number) call) (if_step now None))) w.at)
  where
    w : WantsAt object number (want.Settle k len)
    w = wants_at object number (want.Settle k len) e

    u : Unsettled w.call false
    u = unsettled_of object (pred number) w.call k len w.wants

    here : Layout
    here = layout_at object u.phase.position

    k_is : decoded.k ≡ here.k
    k_is = same_k ∙ (settle_parts k len here.k (value_len u.phase.replies) (sym w.wants ∙ settles_is object (pred number) w.call u)).0

    pieces_is : decoded.pieces ≡ take here.k (pieces_below u.phase.replies (length here.members))
    pieces_is = same_pieces ∙ ap (pieces_of object) w.at ∙ ap (least_of object) u.current

    right : is_decoded_in object (current_phase w.call.phases) decoded ≡ true
    right =
        ap (λ p. is_decoded_in object p decoded) u.current
        ∙ both_true _ _ (eq-eqb decoded.k here.k k_is)
        (ap (list_all (is_recorded u.phase.replies)) pieces_is
        ∙ all_take (is_recorded u.phase.replies) here.k (pieces_below u.phase.replies (length here.members))
        (all_recorded u.phase.replies (length here.members)))

-- it is not past the limit of steps
pub settling_none : (object : Object) (number k len now : ℕ) → want_at object number ≡ Some (want.Settle k len) → now ≤ MOST_STEPS
    → settling_cause now object number ≡ None
settling_none object number k len now e within =
    let w = wants_at object number (want.Settle k len) e in
    cc (w.at, w.wants, step_within now None within)
