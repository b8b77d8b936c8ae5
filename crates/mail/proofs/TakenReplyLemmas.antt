-- What one more reply makes of a phase.
use Rattle.std.proofs.Common.{◌≡◌, ℕ, ◌+◌, ◌<◌, Bool, true, false, not, nat_lt, nat_eq, List, [], ◌∷◌, ◌++◌, length, Option, Some, None}
use Rattle.std.proofs.Common.{◌-◌, suc, is_some, slice_get, sym, ap, ◌∙◌, subst, refl, arith}
use Rattle.std.specs.Prelude.{if◌then◌else◌}
use Rattle.std.specs.List.{IsDistinct}
use Rattle.std.proofs.lemmas.Bool.Decides.{nat_tests}
use Rattle.std.proofs.lemmas.List.{map_push, length_push}
use Rattle.layout.specs.Quorum.{has}
use Rattle.layout.proofs.DistinctMemberLemmas.{distinct_push}
use Rattle.mail.specs.declared.phase.Taken.{Taken}
use Rattle.mail.specs.Phase.{Phase, IsRecord, end_of, has_taken, last_step, members_of, with_reply}

-- the test on the replies is one on their members
has-members_of : (replies : List Taken) (member : ℕ) → has (members_of replies) member ≡ has_taken replies member
has-members_of [] member = refl
has-members_of (t ∷ ts) member = grind (arith, nat_tests, has-members_of ts member)

pub is_some-if : (b : Bool) (now : ℕ) → is_some (if b then Some now else None) ≡ b
is_some-if true now = refl
is_some-if false now = refl

-- an open phase that records one more member, and ends where that makes the quorum
pub record_more : (members quorum : ℕ) (replies : List Taken) (end now_end : Option ℕ) (t : Taken) → IsRecord members quorum replies end →
    is_some end ≡ false → has_taken replies t.member ≡ false → is_some now_end ≡ not (nat_lt (length replies + 1) quorum) →
    IsRecord members quorum (replies ++ t ∷ []) now_end
record_more members quorum replies end now_end t kept unended missing ended =
    let below : length replies < quorum = grind (arith, nat_tests, kept.ended) in
    let apart = distinct_push (members_of replies) t.member (has-members_of replies t.member ∙ missing) kept.distinct in
    record {
      distinct = subst (IsDistinct nat_eq) (sym (map_push (λ (t : Taken). t.member) replies t)) apart;
      room = kept.room;
      within = omega (arith, length_push replies t);
      ended = ended ∙ ap (λ n. not (nat_lt n quorum)) (sym (length_push replies t));
    }

-- The step of the last reply

last_pushed : (replies : List Taken) (t : Taken) → last_step (replies ++ t ∷ []) ≡ Some t.step
last_pushed [] t = refl
last_pushed (r ∷ []) t = refl
last_pushed (r ∷ s ∷ replies) t = last_pushed (s ∷ replies) t

unless : (b : Bool) (o p : Option ℕ) → (if b then o else p) ≡ (if not b then p else o)
unless true o p = refl
unless false o p = refl

-- one more reply ends a phase where that makes the quorum
pub end_pushed : (quorum : ℕ) (replies : List Taken) (t : Taken)
    → end_of quorum (replies ++ t ∷ []) ≡ (if not (nat_lt (length replies + 1) quorum) then Some t.step else None)
end_pushed quorum replies t =
    ap (λ n. if nat_lt n quorum then None else last_step (replies ++ t ∷ [])) (length_push replies t)
    ∙ ap (λ o. if nat_lt (length replies + 1) quorum then None else o) (last_pushed replies t)
    ∙ unless (nat_lt (length replies + 1) quorum) None (Some t.step)

pub ended_pushed : (quorum : ℕ) (replies : List Taken) (t : Taken)
    → is_some (end_of quorum (replies ++ t ∷ [])) ≡ not (nat_lt (length replies + 1) quorum)
ended_pushed quorum replies t =
    ap is_some (end_pushed quorum replies t) ∙ is_some-if (not (nat_lt (length replies + 1) quorum)) t.step

-- the phase with one more reply
pub recorded : (p : Phase) (t : Taken) (replies : List Taken) → replies ≡ p.replies ++ t ∷ []
    → record p { replies = replies; end = end_of p.quorum replies } ≡ with_reply p t.member t.reply t.step
recorded p t replies is =
    ap (λ (r : List Taken). record p { replies = r; end = end_of p.quorum r }) is
    ∙ ap (λ (e : Option ℕ). record p { replies = p.replies ++ t ∷ []; end = e }) (end_pushed p.quorum p.replies t)

same_some : (x y : Taken) → Some x ≡ Some y → x ≡ y
same_some x y e = cc

-- the last reply is the one at the end
pub last_at : (replies : List Taken) (t : Taken) → slice_get replies (length replies - 1) ≡ Some t → last_step replies ≡ Some t.step
last_at [] t at = absurd (cc)
last_at (r ∷ []) t at = ap (λ (x : Taken). Some x.step) (same_some r t at)
last_at (r ∷ s ∷ replies) t at =
    let e : length (r ∷ s ∷ replies) - 1 ≡ suc (length (s ∷ replies) - 1) = omega arith in
    last_at (s ∷ replies) t (ap (slice_get (r ∷ s ∷ replies)) (sym e) ∙ at)

-- a phase that ended, ended with its last reply
pub end_last : (quorum : ℕ) (replies : List Taken) (t : Taken) → is_some (end_of quorum replies) ≡ true
    → slice_get replies (length replies - 1) ≡ Some t → end_of quorum replies ≡ Some t.step
end_last quorum replies t ended at = go (nat_lt (length replies) quorum) ended
  where
    go : (b : Bool) → is_some (if b then None else last_step replies) ≡ true → (if b then None else last_step replies) ≡ Some t.step
    go true e = absurd (cc)
    go false e = last_at replies t at
