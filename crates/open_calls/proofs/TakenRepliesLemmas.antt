-- A phase takes one reply of each of distinct members, one after another.
use Rattle.std.proofs.Common.{◌≡◌, ℕ, ◌+◌, ◌<◌, ◌≤◌, ◌&&◌, ◌||◌, Bool, true, false, cond, eqb, not, nat_eq, nat_lt}
use Rattle.std.proofs.Common.{List, [], ◌∷◌, ◌++◌, length, map, Option, Some, None, is_some, refl, sym, ap, ◌∙◌, subst, eq-eqb, arith}
use Rattle.std.specs.List.{AllByRecursion, IsDistinct}
use Rattle.std.proofs.lemmas.Bool.Decides.{nat_tests}
use Rattle.std.proofs.lemmas.List.{append_assoc, length-append, length_push}
use Rattle.std.proofs.lemmas.List.Folds.{list_any-append}
use Rattle.std.proofs.lemmas.Map.Keys.{IsDistinct-head, IsDistinct-tail}
use Rattle.bank.specs.declared.kind.Kind.{Kind}
use Rattle.bank.specs.declared.reply.Answer.TheVariants as answer
use Rattle.bank.specs.declared.status.Status.TheVariants as status
use Rattle.mail.specs.declared.message.Body.TheVariants as body
use Rattle.mail.specs.declared.message.Message.{Message}
use Rattle.mail.specs.declared.phase.Taken.{Taken}
use Rattle.mail.specs.Phase.{Phase, after_take, has_taken, is_current, members_of, with_reply}
use Rattle.open_calls.specs.Queries.{ToldTag, taken_tag, telling_members}

-- The messages, and the phase after them

-- the message by which a member of a position replies so to the request of this call and phase number
abbrev pub reply_message : (call number : ℕ) → Kind → (position : ℕ) → Taken → Message
reply_message call number kind position taken = record {
  call = call;
  phase = number;
  position = position;
  member = taken.member;
  body = body.Reply kind taken.reply;
}

-- the phase after it takes these messages, one after another
abbrev pub taking : Phase → List Message → Phase
taking phase [] = phase
taking phase (message ∷ messages) = taking (after_take phase message 0) messages

-- when a phase ended whose steps are all step 0: not with fewer replies than a quorum
abbrev pub end_unless : (fewer : Bool) → Option ℕ
end_unless fewer = cond fewer None (Some 0)

-- the phase with these replies, which ended if they are of a quorum
abbrev pub with_taken : Phase → List Taken → Phase
with_taken phase replies =
    record phase { replies = replies; end = end_unless (nat_lt (length replies) phase.quorum) }

-- a reply is taken at step 0
abbrev pub IsNow : Taken → Type 0
IsNow taken = taken.step ≡ 0

-- none of these replies is of a member whose reply was taken
abbrev pub AreNew : (before : List Taken) → List Taken → Type 0
AreNew before replies = AllByRecursion (λ t. has_taken before t.member ≡ false) replies

-- One reply

below : (n quorum : ℕ) → n < quorum → nat_lt n quorum ≡ true
below n quorum less = grind (arith, nat_tests)

reversed : (b : Bool) → cond (not b) (Some 0) None ≡ end_unless b
reversed true = refl
reversed false = refl

pub takes_one : (phase : Phase) (kind : Kind) (position : ℕ) (before : List Taken) (taken : Taken) → length before < phase.quorum →
    has_taken before taken.member ≡ false → IsNow taken →
    after_take (with_taken phase before) (reply_message phase.call phase.number kind position taken) 0
    ≡ with_taken phase (before ++ taken ∷ [])
takes_one phase kind position before taken few apart now =
    ap (λ c. cond c (cond (has_taken before taken.member) old (with_reply old taken.member taken.reply 0)) old) current
    ∙ ap (λ c. cond c old (with_reply old taken.member taken.reply 0)) apart
    ∙ ap (λ s. let t : Taken = record { member = taken.member; reply = taken.reply; step = s } in
    let p : Phase = record phase {
      replies = before ++ t ∷ [];
      end = cond (not (nat_lt (length before + 1) phase.quorum)) (Some 0) None;
    } in p) (sym now)
    ∙ ap (λ (e : Option ℕ). let p : Phase = record phase { replies = before ++ taken ∷ []; end = e } in p) end
  where
    old : Phase
    old = with_taken phase before

    current : is_current old phase.call phase.number ≡ true
    current =
        ap (λ b. b && (eqb phase.number phase.number && not (is_some old.end))) (eq-eqb phase.call phase.call refl)
        ∙ ap (λ b. b && not (is_some old.end)) (eq-eqb phase.number phase.number refl)
        ∙ ap (λ b. not (is_some (end_unless b))) (below (length before) phase.quorum few)

    end : cond (not (nat_lt (length before + 1) phase.quorum)) (Some 0) None
        ≡ end_unless (nat_lt (length (before ++ taken ∷ [])) phase.quorum)
    end = reversed (nat_lt (length before + 1) phase.quorum)
        ∙ ap (λ n. end_unless (nat_lt n phase.quorum)) (sym (length_push before taken))

-- Several replies

-- those of other members are new after one more reply
pub still_new : (before : List Taken) (taken : Taken) (replies : List Taken) → AreNew before replies →
    AllByRecursion (λ m. nat_eq taken.member m ≡ false) (members_of replies) → AreNew (before ++ taken ∷ []) replies
still_new before taken [] new others = tt
still_new before taken (next ∷ replies) new others = (
  list_any-append (λ (t : Taken). nat_eq t.member next.member) before (taken ∷ [])
      ∙ ap (λ b. b || (nat_eq taken.member next.member || false)) new.0
      ∙ ap (λ b. b || false) others.0,
  still_new before taken replies new.1 others.1,
)

pub takes_more : (phase : Phase) (kind : Kind) (position : ℕ) (before replies : List Taken) →
    length (before ++ replies) ≤ phase.quorum → IsDistinct nat_eq (members_of replies) → AreNew before replies →
    AllByRecursion IsNow replies →
    taking (with_taken phase before) (map (reply_message phase.call phase.number kind position) replies)
    ≡ with_taken phase (before ++ replies)
takes_more phase kind position before [] few distinct new now = ap (with_taken phase) (sym (append_nothing before))
  where
    append_nothing : (ts : List Taken) → ts ++ [] ≡ ts
    append_nothing [] = refl
    append_nothing (t ∷ ts) = ap (λ l. t ∷ l) (append_nothing ts)
takes_more phase kind position before (taken ∷ replies) few distinct new now =
    ap (λ p. taking p (map (reply_message phase.call phase.number kind position) replies))
    (takes_one phase kind position before taken room new.0 now.0)
    ∙ takes_more phase kind position (before ++ taken ∷ []) replies
    (subst (λ l. length l ≤ phase.quorum) (sym (append_assoc before (taken ∷ []) replies)) few)
    (IsDistinct-tail nat_eq taken.member (members_of replies) distinct)
    (still_new before taken replies new.1 (IsDistinct-head nat_eq taken.member (members_of replies) distinct)) now.1
    ∙ ap (with_taken phase) (append_assoc before (taken ∷ []) replies)
  where
    room : length before < phase.quorum
    room = let e = length-append before (taken ∷ replies) in omega (arith, e, few)

pub none_before : (replies : List Taken) → AreNew [] replies
none_before [] = tt
none_before (taken ∷ replies) = (refl, none_before replies)

-- a phase that has begun and taken nothing
begun_is : (phase : Phase) → phase.replies ≡ [] → phase.end ≡ None → 0 < phase.quorum → with_taken phase [] ≡ phase
begun_is phase none unended some =
    ap (λ b. let p : Phase = record phase { replies = []; end = end_unless b } in p) (below 0 phase.quorum some)
    ∙ ap (λ (r : List Taken). let p : Phase = record phase { replies = r; end = None } in p) (sym none)
    ∙ ap (λ (e : Option ℕ). let p : Phase = record phase { end = e } in p) (sym unended)

-- a phase that has begun takes replies of distinct members, at most as many as are a quorum
pub takes_replies : (phase : Phase) (kind : Kind) (position : ℕ) (replies : List Taken) → phase.replies ≡ [] →
    phase.end ≡ None → 0 < phase.quorum → length replies ≤ phase.quorum → IsDistinct nat_eq (members_of replies) →
    AllByRecursion IsNow replies →
    taking phase (map (reply_message phase.call phase.number kind position) replies) ≡ with_taken phase replies
takes_replies phase kind position replies none unended some few distinct now =
    ap (λ p. taking p (map (reply_message phase.call phase.number kind position) replies))
    (sym (begun_is phase none unended some))
    ∙ takes_more phase kind position [] replies few distinct (none_before replies) now

-- with fewer replies than a quorum it has not ended, and with a quorum it has
pub fewer_taken : (phase : Phase) (replies : List Taken) → length replies < phase.quorum →
    with_taken phase replies ≡ record phase { replies = replies; end = None }
fewer_taken phase replies few =
    ap (λ b. let p : Phase = record phase { replies = replies; end = end_unless b } in p)
    (below (length replies) phase.quorum few)

pub enough_taken : (phase : Phase) (replies : List Taken) → length replies ≡ phase.quorum →
    with_taken phase replies ≡ record phase { replies = replies; end = Some 0 }
enough_taken phase replies enough =
    ap (λ b. let p : Phase = record phase { replies = replies; end = end_unless b } in p) no_less
  where
    no_less : nat_lt (length replies) phase.quorum ≡ false
    no_less = grind (arith, nat_tests, enough)

-- a phase that has begun and takes replies of a quorum ends with them
pub takes_quorum : (phase : Phase) (kind : Kind) (position : ℕ) (replies : List Taken) → phase.replies ≡ [] →
    phase.end ≡ None → 0 < phase.quorum → length replies ≡ phase.quorum → IsDistinct nat_eq (members_of replies) →
    AllByRecursion IsNow replies →
    taking phase (map (reply_message phase.call phase.number kind position) replies)
    ≡ record phase { replies = replies; end = Some 0 }
takes_quorum phase kind position replies none unended some enough distinct now =
    takes_replies phase kind position replies none unended some (omega (arith, enough)) distinct now
    ∙ enough_taken phase replies enough

-- Replies that tell tags, or unset pointers

pub tag_members : (told : List ToldTag) → members_of (map taken_tag told) ≡ telling_members told
tag_members [] = refl
tag_members (one ∷ told) = ap (λ ms. one.member ∷ ms) (tag_members told)

pub tags_now : (told : List ToldTag) → AllByRecursion IsNow (map taken_tag told)
tags_now [] = tt
tags_now (one ∷ told) = (refl, tags_now told)

-- the member's reply that its pointer is unset
abbrev pub unset_reply : (member : ℕ) → Taken
unset_reply member =
    record { member = member; reply = record { step = 0; answer = answer.Pointer status.Unset }; step = 0 }

pub unset_members : (members : List ℕ) → members_of (map unset_reply members) ≡ members
unset_members [] = refl
unset_members (m ∷ members) = ap (λ ms. m ∷ ms) (unset_members members)

pub unset_now : (members : List ℕ) → AllByRecursion IsNow (map unset_reply members)
unset_now [] = tt
unset_now (m ∷ members) = (refl, unset_now members)
