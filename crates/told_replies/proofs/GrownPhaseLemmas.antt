-- The phases of a call later on: those before the last are as they were, the last may have taken more replies, and others
-- may follow it.
use Rattle.std.proofs.Common.{◌≡◌, ℕ, zero, suc, Bool, true, false, cond, List, [], ◌∷◌, ◌++◌, Some, slice_get, refl, sym, subst, ap, ◌∙◌}
use Rattle.std.proofs.lemmas.Option.{same_Some}
use Rattle.bank.specs.declared.reply.Reply.{Reply}
use Rattle.mail.specs.declared.message.Body.{Body}
use Rattle.mail.specs.declared.message.Body.TheVariants as body
use Rattle.mail.specs.declared.message.Message.{Message}
use Rattle.mail.specs.declared.phase.Taken.{Taken}
use Rattle.mail.specs.Phase.{Phase, after_body, after_reply, after_take, has_taken, is_current, with_reply}
use Rattle.record.specs.Steps.{taking_phases}

-- the phase asks the same of the same position since the same step, and took the replies of the old one first
pub record IsLaterOf (old new : Phase) : Type 0 where
  pub same_kind : new.kind ≡ old.kind
  pub same_position : new.position ≡ old.position
  pub same_start : new.start ≡ old.start
  pub more : List Taken
  pub replies : new.replies ≡ old.replies ++ more

pub nothing_after : {A : Type 0} (xs : List A) → xs ≡ xs ++ []
nothing_after [] = refl
nothing_after (x ∷ xs) = ap (λ l. x ∷ l) (nothing_after xs)

pub append_twice : {A : Type 0} (xs ys zs : List A) → (xs ++ ys) ++ zs ≡ xs ++ (ys ++ zs)
append_twice [] ys zs = refl
append_twice (x ∷ xs) ys zs = ap (λ l. x ∷ l) (append_twice xs ys zs)

pub later_same : (phase : Phase) → IsLaterOf phase phase
later_same phase = record {
  same_kind = refl;
  same_position = refl;
  same_start = refl;
  more = [];
  replies = nothing_after phase.replies;
}

later_twice : (a b c : Phase) → IsLaterOf a b → IsLaterOf b c → IsLaterOf a c
later_twice a b c first second = record {
  same_kind = second.same_kind ∙ first.same_kind;
  same_position = second.same_position ∙ first.same_position;
  same_start = second.same_start ∙ first.same_start;
  more = first.more ++ second.more;
  replies = second.replies ∙ ap (λ l. l ++ second.more) first.replies ∙ append_twice a.replies first.more second.more;
}

-- these phases grew to those
abbrev pub PhasesGrow : List Phase → List Phase → Type 0
PhasesGrow [] new = Unit {0}
PhasesGrow (phase ∷ []) [] = ⊥
PhasesGrow (phase ∷ []) (other ∷ later) = IsLaterOf phase other
PhasesGrow (phase ∷ next ∷ phases) [] = ⊥
PhasesGrow (phase ∷ next ∷ phases) (other ∷ later) = (other ≡ phase) × PhasesGrow (next ∷ phases) later

pub phases_same : (phases : List Phase) → PhasesGrow phases phases
phases_same [] = tt
phases_same (phase ∷ []) = later_same phase
phases_same (phase ∷ next ∷ phases) = (refl, phases_same (next ∷ phases))

pub phases_more : (phases more : List Phase) → PhasesGrow phases (phases ++ more)
phases_more [] more = tt
phases_more (phase ∷ []) more = later_same phase
phases_more (phase ∷ next ∷ phases) more = (refl, phases_more (next ∷ phases) more)

pub phases_twice : (a b c : List Phase) → PhasesGrow a b → PhasesGrow b c → PhasesGrow a c
phases_twice [] b c first second = tt
phases_twice (p ∷ []) (q ∷ []) (r ∷ rs) first second = later_twice p q r first second
phases_twice (p ∷ []) (q ∷ q2 ∷ qs) (r ∷ rs) first second = subst (IsLaterOf p) (sym second.0) first
phases_twice (p ∷ p2 ∷ ps) (q ∷ q2 ∷ qs) (r ∷ rs) first second =
    (second.0 ∙ first.0, phases_twice (p2 ∷ ps) (q2 ∷ qs) rs first.1 second.1)
phases_twice (p ∷ []) [] c first second = absurd first
phases_twice (p ∷ []) (q ∷ []) [] first second = absurd second
phases_twice (p ∷ []) (q ∷ q2 ∷ qs) [] first second = absurd second
phases_twice (p ∷ p2 ∷ []) (q ∷ []) c first second = absurd first.1
phases_twice (p ∷ p2 ∷ p3 ∷ ps) (q ∷ []) c first second = absurd first.1
phases_twice (p ∷ p2 ∷ ps) [] c first second = absurd first
phases_twice (p ∷ p2 ∷ ps) (q ∷ q2 ∷ qs) [] first second = absurd second

-- Taking a message

took_reply : (phase : Phase) (call number member : ℕ) (made : Reply) (now : ℕ) →
    IsLaterOf phase (after_reply phase call number member made now)
took_reply phase call number member made now = go (is_current phase call number) (has_taken phase.replies member)
  where
    go : (current taken : Bool) → IsLaterOf phase (cond current (cond taken phase (with_reply phase member made now)) phase)
    go true true = later_same phase
    go true false = record {
      same_kind = refl;
      same_position = refl;
      same_start = refl;
      more = record { member = member; reply = made; step = now } ∷ [];
      replies = refl;
    }
    go false taken = later_same phase

pub took_message : (phase : Phase) (message : Message) (now : ℕ) → IsLaterOf phase (after_take phase message now)
took_message phase message now = go message.body
  where
    go : (b : Body) → IsLaterOf phase (after_body phase message.call message.phase message.member b now)
    go (body.Request asked) = later_same phase
    go (body.Reply kind made) = took_reply phase message.call message.phase message.member made now

pub phases_taking : (phases : List Phase) (message : Message) (now : ℕ) → PhasesGrow phases (taking_phases phases message now)
phases_taking [] message now = tt
phases_taking (phase ∷ []) message now = took_message phase message now
phases_taking (phase ∷ next ∷ later) message now = (refl, phases_taking (next ∷ later) message now)

-- The last phase, later on

-- where the last phase of a call is later on
pub record IsLaterLast (earlier : List Phase) (last : Phase) (new : List Phase) : Type 0 where
  pub phase : Phase
  pub later : List Phase
  pub phases : new ≡ earlier ++ phase ∷ later
  pub is_later : IsLaterOf last phase

pub last_later : (earlier : List Phase) (last : Phase) (new : List Phase) → PhasesGrow (earlier ++ last ∷ []) new →
    IsLaterLast earlier last new
last_later [] last [] grows = absurd grows
last_later [] last (phase ∷ later) grows = record { phase = phase; later = later; phases = refl; is_later = grows }
last_later (first ∷ []) last [] grows = absurd grows
last_later (first ∷ next ∷ earlier) last [] grows = absurd grows
last_later (first ∷ []) last (other ∷ new) grows = one_more first other last [] new grows.0 (last_later [] last new grows.1)
  where
    one_more : (first other last : Phase) (earlier new : List Phase) → other ≡ first → IsLaterLast earlier last new →
        IsLaterLast (first ∷ earlier) last (other ∷ new)
    one_more first other last earlier new same rest = record {
      phase = rest.phase;
      later = rest.later;
      phases = ap (λ p. p ∷ new) same ∙ ap (λ l. first ∷ l) rest.phases;
      is_later = rest.is_later;
    }
last_later (first ∷ next ∷ earlier) last (other ∷ new) grows =
    let rest = last_later (next ∷ earlier) last new grows.1 in record {
      phase = rest.phase;
      later = rest.later;
      phases = ap (λ p. p ∷ new) grows.0 ∙ ap (λ l. first ∷ l) rest.phases;
      is_later = rest.is_later;
    }

-- the phase at each place
pub grown_at : (old new : List Phase) (place : ℕ) (phase : Phase) → PhasesGrow old new → slice_get old place ≡ Some phase →
    (later : Phase) × (slice_get new place ≡ Some later) × IsLaterOf phase later
grown_at [] new place phase grows at = absurd (cc)
grown_at (p ∷ []) [] place phase grows at = absurd grows
grown_at (p ∷ []) (q ∷ later) zero phase grows at = (q, refl, subst (λ x. IsLaterOf x q) (same_Some p phase at) grows)
grown_at (p ∷ []) (q ∷ later) (suc place) phase grows at = absurd (cc)
grown_at (p ∷ p2 ∷ ps) [] place phase grows at = absurd grows
grown_at (p ∷ p2 ∷ ps) (q ∷ later) zero phase grows at =
    (q, refl, subst (λ x. IsLaterOf x q) (grows.0 ∙ same_Some p phase at) (later_same q))
grown_at (p ∷ p2 ∷ ps) (q ∷ later) (suc place) phase grows at = grown_at (p2 ∷ ps) later place phase grows.1 at
