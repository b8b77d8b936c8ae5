-- A phase without stamps takes a message as the phase does.
use Rattle.std.proofs.Common.{◌≡◌, ℕ, suc, ◌+◌, Bool, true, false, cond, ◌||◌, not, eqb, nat_lt, List, [], ◌∷◌, ◌++◌, length, map}
use Rattle.std.proofs.Common.{Option, Some, None, is_some, refl, ap, arith}
use Rattle.std.proofs.lemmas.List.{map-append}
use Rattle.bank.specs.declared.reply.Reply.{Reply}
use Rattle.mail.specs.declared.message.Body.{Body}
use Rattle.mail.specs.declared.message.Body.TheVariants as body
use Rattle.mail.specs.declared.message.Message.{Message}
use Rattle.mail.specs.Message.{body_kind}
use Rattle.mail.specs.declared.phase.Taken.{Taken}
use Rattle.mail.specs.Phase.{Phase, after_body, after_reply, after_take, has_taken, makes_quorum, with_reply}
use Rattle.record.specs.Steps.{taking_phases}
use Rattle.network.specs.Unstamped.{unstamped, unstamped_body, unstamped_message, unstamped_phase, unstamped_reply, unstamped_taken}

step-bare : (o : Option ℕ) → is_some (unstamped o) ≡ is_some o
step-bare None = refl
step-bare (Some step) = refl

taken-bare : (replies : List Taken) (member : ℕ) → has_taken (map unstamped_taken replies) member ≡ has_taken replies member
taken-bare [] member = refl
taken-bare (t ∷ ts) member = ap (λ b. eqb t.member member || b) (taken-bare ts member)

length-bare : (replies : List Taken) → length (map unstamped_taken replies) ≡ length replies
length-bare [] = refl
length-bare (t ∷ ts) = ap suc (length-bare ts)

quorum-bare : (p : Phase) → makes_quorum (unstamped_phase p) ≡ makes_quorum p
quorum-bare p = ap (λ n. not (nat_lt (n + 1) p.quorum)) (length-bare p.replies)

end-bare : (b : Bool) (now : ℕ) → unstamped (cond b (Some now) None) ≡ cond b (Some 0) None
end-bare true now = refl
end-bare false now = refl

-- a phase with these replies and this end
abbrev replied : Phase → List Taken → Option ℕ → Phase
replied p replies end = record p { start = 0; replies = replies; end = end }

with-bare : (p : Phase) (member : ℕ) (r : Reply) (now : ℕ) →
    with_reply (unstamped_phase p) member (unstamped_reply r) 0 ≡ unstamped_phase (with_reply p member r now)
with-bare p member r now = grind (arith, end-bare, map-append, quorum-bare, replied)

choice-bare : (current doubled : Bool) (p with : Phase) →
    cond current (cond doubled (unstamped_phase p) (unstamped_phase with)) (unstamped_phase p)
    ≡ unstamped_phase (cond current (cond doubled p with) p)
choice-bare true true p with = refl
choice-bare _ _ p with = refl

reply-bare : (p : Phase) (call number member : ℕ) (r : Reply) (now : ℕ) →
    after_reply (unstamped_phase p) call number member (unstamped_reply r) 0 ≡ unstamped_phase (after_reply p call number member r now)
reply-bare p call number member r now = grind (arith, choice-bare, step-bare, taken-bare, with-bare)

body-bare : (p : Phase) (call number member : ℕ) (b : Body) (now : ℕ) →
    after_body (unstamped_phase p) call number member (unstamped_body b) 0 ≡ unstamped_phase (after_body p call number member b now)
body-bare p call number member (body.Request asked) now = refl
body-bare p call number member (body.Reply kind made) now = reply-bare p call number member made now

-- the phase after a take, without stamps
pub take-bare : (p : Phase) (m : Message) (now : ℕ) →
    after_take (unstamped_phase p) (unstamped_message m) 0 ≡ unstamped_phase (after_take p m now)
take-bare p m now = body-bare p m.call m.phase m.member m.body now

-- the kind of a message does not depend on its stamp
pub kind-bare : (b : Body) → body_kind (unstamped_body b) ≡ body_kind b
kind-bare (body.Request asked) = refl
kind-bare (body.Reply kind made) = refl

position_body : (p : Phase) (call number member : ℕ) (b : Body) (now : ℕ) → (after_body p call number member b now).position ≡ p.position
position_body p call number member b now = grind arith

-- a take leaves the position of a phase
pub position_kept : (p : Phase) (m : Message) (now : ℕ) → (after_take p m now).position ≡ p.position
position_kept p m now = position_body p m.call m.phase m.member m.body now

-- of several phases the last takes the message
pub taking_last : (earlier : List Phase) (last : Phase) (m : Message) (now : ℕ) →
    taking_phases (earlier ++ last ∷ []) m now ≡ earlier ++ after_take last m now ∷ []
taking_last (p ∷ q ∷ later) last m now = ap (λ l. p ∷ l) (taking_last (q ∷ later) last m now)
taking_last _ last m now = refl
