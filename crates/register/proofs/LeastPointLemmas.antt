-- Of the pieces that a phase took, those of least points.
use Rattle.std.proofs.Common.{◌≡◌, ℕ, zero, suc, ◌<◌, ◌≤◌, List, [], ◌∷◌, ◌++◌, length, take, Some, None, sym, ap, subst, ◌∙◌, refl}
use Rattle.std.proofs.Common.{arith}
use Rattle.piece.specs.declared.piece.Piece.{Piece}
use Rattle.mail.specs.declared.phase.Taken.{Taken}
use Rattle.mail.specs.Phase.{Phase}
use Rattle.record.specs.Wants.{current_phase}
use Rattle.record.specs.declared.stage.Want.{Want}
use Rattle.record.specs.declared.stage.Want.TheVariants as want
use Rattle.register.specs.Causes.{pieces_cause, if_settle}
use Rattle.register.specs.Coding.{piece_by, piece_list, pieces_below}
use Rattle.register.specs.State.{Contents, state_of}
use Rattle.register.specs.Tracked.{Tracked}
use Rattle.register.specs.View.{fetched_pieces}
use Rattle.register.proofs.CallViewLemmas.{truth}
use Rattle.register.proofs.FoundCallLemmas.{IsWanting, at_number, caused}
use Rattle.register.proofs.SettleLemmas.{k_is}

pub take_none : {X : Type 0} (k : ℕ) (none : List X) → none ≡ [] → take k none ≡ []
take_none (suc k) (x ∷ xs) e = absurd (cc)
take_none _ _ e = refl

pub take_push : {X : Type 0} (k : ℕ) (xs : List X) (x : X) → length (take k xs) < k → take k (xs ++ x ∷ []) ≡ take k xs ++ x ∷ []
take_push zero xs x less = absurd (omega (arith, less))
take_push (suc k) [] x less = ap (λ ys. x ∷ ys) (take_none k [] refl)
take_push (suc k) (y ∷ ys) x less = ap (λ zs. y ∷ zs) (take_push k ys x (omega (arith, less)))

pub take_full : {X : Type 0} (k : ℕ) (xs ys : List X) → k ≤ length (take k xs) → take k (xs ++ ys) ≡ take k xs
take_full zero xs ys full = refl
take_full (suc k) [] ys full = absurd (omega (arith, full))
take_full (suc k) (x ∷ xs) ys full = ap (λ zs. x ∷ zs) (take_full k xs ys (omega (arith, full)))

-- one more member
pub least_pushed : (k member : ℕ) (replies : List Taken) (items : List Piece) (piece : Piece) → items ≡ take k (pieces_below replies member)
    → length items < k
    → Some piece ≡ piece_by replies member → items ++ piece ∷ [] ≡ take k (pieces_below replies (suc member))
least_pushed k member replies items piece is less by =
    cc (take_push k (pieces_below replies member) piece (subst (λ (xs : List Piece). length xs < k) is less))

pub least_full : (k member : ℕ) (replies : List Taken) (items : List Piece) → items ≡ take k (pieces_below replies member)
    → k ≤ length items
    → items ≡ take k (pieces_below replies (suc member))
least_full k member replies items is full =
    is ∙ sym (take_full k (pieces_below replies member) (piece_list (piece_by replies member))
    (subst (λ (xs : List Piece). k ≤ length xs) is full))

pub pieces_cause_is : {c : Contents} {number index : ℕ} {t : Tracked} {w : Want} → IsWanting c number index t w
    → pieces_cause (state_of c).object number ≡ if_settle w None
pieces_cause_is wanted = caused wanted.found _ ∙ ap (λ v. if_settle v None) wanted.wants

pub pieces_are : {c : Contents} {number index : ℕ} {t : Tracked} {k len : ℕ} {phase : Phase}
    → IsWanting c number index t (want.Settle k len)
    → current_phase t.call.phases ≡ Some phase
    → fetched_pieces (state_of c).object number ≡ take k (pieces_below phase.replies phase.members)
pieces_are {c = c} {t = t} {k = k} {phase = phase} wanted current =
    cc (at_number wanted.found, k_is wanted current, (truth wanted.found current).sized.members)
