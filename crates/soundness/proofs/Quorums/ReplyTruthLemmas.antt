-- What the replies of a phase tell of the banks that made them.
use Rattle.std.proofs.lemmas.Grind.{common_steps}
use Rattle.std.proofs.Common.{◌≡◌, ℕ, ◌<◌, ◌≤◌, ◌⊎◌, Bool, true, cond, eqb, List, [], ◌∷◌}
use Rattle.std.proofs.Common.{length, Option, get_or, subst, inl, inr, arith, le_trans, eqb-true}
use Rattle.std.proofs.lemmas.Bool.{or_cases}
use Rattle.std.specs.List.{AllByRecursion}
use Rattle.tag.specs.declared.tag.Tag.{Tag}
use Rattle.tag.specs.Tag.{later_tag}
use Rattle.layout.specs.Quorum.{has}
use Rattle.bank.specs.declared.status.Status.{Status}
use Rattle.bank.specs.Bank.{Bank}
use Rattle.bank.specs.declared.reply.Answer.{Answer}
use Rattle.mail.specs.declared.phase.Taken.{Taken}
use Rattle.mail.specs.Phase.{members_of}
use Rattle.bank.specs.declared.status.Status.TheVariants.{Final}
use Rattle.bank.specs.declared.kind.Kind.TheVariants.{Next, Spread, Query, Finalize, Fetch}
use Rattle.bank.specs.Knowledge.{came_by, HasFinalized, pointer_at, IsTrueAnswer}
use Rattle.record.specs.PhaseOrder.{shown_status, shown_tag, greatest_status, greatest_tag}
use Rattle.bank.specs.declared.reply.Answer.TheVariants as answer
use Rattle.soundness.proofs.StatusOrderLemmas.{rank, rank-later_left, rank-later_right}
use Rattle.record.proofs.TagOrderLemmas.{IsAtMost, at_most_trans, later_tag-left, later_tag-right}

-- knowledge lasts

pub came_by_later : (o : Option ℕ) (s u : ℕ) → s ≤ u → came_by o s ≡ true → came_by o u ≡ true
came_by_later o s u h e = grind arith

pub pointer_later : (bank : Bank) (s u : ℕ) → s ≤ u → rank (pointer_at bank s) ≤ rank (pointer_at bank u)
pointer_later bank s u h = grind arith

-- members and their replies

pub all_at : (P : ℕ → Type 0) (xs : List ℕ) (i : ℕ) → AllByRecursion P xs → has xs i ≡ true → P i
all_at P [] i all h = absurd (cc)
all_at P (x ∷ xs) i all h = go (or_cases (eqb x i) (has xs i) h) (all_at P xs i all.1)
  where
    go : (eqb x i ≡ true) ⊎ (has xs i ≡ true) → (has xs i ≡ true → P i) → P i
    go (inl e) rest = subst P (eqb-true x i e) all.0
    go (inr e) rest = rest e

pub all_get_or : {A : Type 0} (P : A → Type 0) (xs : List A) (i : ℕ) (d : A) → i < length xs →
    AllByRecursion P xs → P (get_or xs i d)
all_get_or P xs i d h all = grind (arith, common_steps)

pub all_members : (Q : ℕ → Type 0) (replies : List Taken) → AllByRecursion (λ reply. Q reply.member) replies →
    AllByRecursion Q (members_of replies)
all_members Q [] all = tt
all_members Q (reply ∷ replies) all = (all.0, all_members Q replies all.1)

pub reply_at : (P : Taken → Type 0) (replies : List Taken) (i : ℕ) → AllByRecursion P replies →
    has (members_of replies) i ≡ true → (reply : Taken) × P reply × (reply.member ≡ i)
reply_at P [] i all h = absurd (cc)
reply_at P (reply ∷ replies) i all h = go (or_cases (eqb reply.member i) (has (members_of replies) i) h) (reply_at P replies i all.1)
  where
    go : (eqb reply.member i ≡ true) ⊎ (has (members_of replies) i ≡ true) →
        (has (members_of replies) i ≡ true → (r : Taken) × P r × (r.member ≡ i)) → (r : Taken) × P r × (r.member ≡ i)
    go (inl e) rest = (reply, all.0, eqb-true reply.member i e)
    go (inr e) rest = rest e

-- what true answers say

pub true_next : (bank : Bank) (made : ℕ) (answer : Answer) → IsTrueAnswer bank made Next answer →
    pointer_at bank made ≡ shown_status answer
true_next bank made answer h = grind arith

pub true_spread : (status : Status) (bank : Bank) (made : ℕ) (answer : Answer) → IsTrueAnswer bank made (Spread status) answer →
    rank status ≤ rank (pointer_at bank made)
true_spread status bank made answer h = grind arith

pub true_query : (bank : Bank) (made : ℕ) (answer : Answer) → IsTrueAnswer bank made Query answer → (tag : Tag) →
    HasFinalized bank tag made → IsAtMost tag (shown_tag answer)
true_query bank made answer h = grind arith

pub true_fin : (tag : Tag) (bank : Bank) (made : ℕ) (answer : Answer) → IsTrueAnswer bank made (Finalize tag) answer →
    HasFinalized bank tag made
true_fin tag bank made answer h = grind arith

pub true_fetch : (tag : Tag) (bank : Bank) (made : ℕ) (answer : Answer) → IsTrueAnswer bank made (Fetch tag) answer →
    HasFinalized bank tag made
true_fetch tag bank made answer h = grind arith

-- the greatest of the replies

pub statuses_below : (top : ℕ) (replies : List Taken) → rank (greatest_status replies) ≤ top →
    AllByRecursion (λ reply. rank (shown_status reply.reply.answer) ≤ top) replies
statuses_below top [] h = tt
statuses_below top (reply ∷ replies) h =
    let shown = shown_status reply.reply.answer in
    let others = greatest_status replies in
    (le_trans (rank-later_left shown others) h, statuses_below top replies (le_trans (rank-later_right shown others) h))

pub tags_below : (top : Tag) (replies : List Taken) → IsAtMost (greatest_tag replies) top →
    AllByRecursion (λ reply. IsAtMost (shown_tag reply.reply.answer) top) replies
tags_below top [] h = tt
tags_below top (reply ∷ replies) h =
    let a = shown_tag reply.reply.answer in
    let b = greatest_tag replies in (
      at_most_trans a (later_tag a b) top (later_tag-left a b) h,
      tags_below top replies (at_most_trans b (later_tag a b) top (later_tag-right a b) h),
    )

status_of_cond : (b : Bool) (s u : Status) → cond b s u ≡ Final → (s ≡ Final) ⊎ (u ≡ Final)
status_of_cond b s u e = grind arith

pub final_shown : (P : Taken → Type 0) (replies : List Taken) → greatest_status replies ≡ Final → AllByRecursion P replies →
    (reply : Taken) × P reply × (shown_status reply.reply.answer ≡ Final)
final_shown P [] e all = absurd (cc)
final_shown P (reply ∷ replies) e all = go (status_of_cond _ _ _ e) (λ h. final_shown P replies h all.1)
  where
    go : (greatest_status replies ≡ Final) ⊎ (shown_status reply.reply.answer ≡ Final) →
        (greatest_status replies ≡ Final → (r : Taken) × P r × (shown_status r.reply.answer ≡ Final)) →
        (r : Taken) × P r × (shown_status r.reply.answer ≡ Final)
    go (inl h) rest = rest h
    go (inr h) rest = (reply, all.0, h)
