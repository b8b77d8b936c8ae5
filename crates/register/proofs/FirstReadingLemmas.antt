-- A first reading that has not begun, and the base at which it will begin.
use Rattle.std.proofs.Common.{◌≡◌, ℕ, zero, suc, ◌+◌, ◌<◌, ◌≤◌, ◌^◌, Bool, true, false, cond, is_some, List, [], ◌∷◌, ◌++◌, get_or, set}
use Rattle.std.proofs.Common.{slice_get, Option, Some, None, IfSome, refl, sym, ap, ◌∙◌, arith}
use Rattle.tag.specs.declared.limits.TheConstants.{MOST_POSITIONS}
use Rattle.bank.specs.Bank.{Bank}
use Rattle.bank.specs.declared.kind.Kind.{Kind}
use Rattle.bank.specs.declared.kind.Kind.TheVariants.{Next}
use Rattle.mail.specs.declared.message.Message.{Message}
use Rattle.mail.specs.declared.message.Body.{Body}
use Rattle.mail.specs.declared.message.Body.TheVariants as body
use Rattle.mail.specs.Phase.{Phase, after_body, after_take, has_taken, is_current, lacks_pieces, with_reply}
use Rattle.record.specs.declared.stage.Stage.{Stage}
use Rattle.record.specs.declared.stage.Stage.TheVariants.{ReadBegin}
use Rattle.record.specs.declared.stage.Want.{Want}
use Rattle.record.specs.declared.stage.Want.TheVariants as want
use Rattle.record.specs.PhaseOrder.{begun_at, due}
use Rattle.record.specs.Records.{Object, layout_at, no_bank, retired_first}
use Rattle.record.specs.Wants.{is_fetch, value_len, want_after}
use Rattle.call.specs.StageLimits.{IsBelowLimit}
use Rattle.register.specs.Coding.{pieces_position}
use Rattle.register.proofs.ListLemmas.{same_some}

-- what a call wants does not depend on the position at which its first reading begins
pub begun_want : (object : Object) (stage : Stage) (position : ℕ) (settled : Option (List ℕ)) (phase : Option Phase)
    → want_after object (due stage) settled phase ≡ want_after object (due (begun_at stage position)) settled phase
begun_want object ReadBegin position settled None = refl
begun_want object _ position settled _ = refl

-- the position to which a call sends pieces does not depend on where its first reading begins, which sends none
pub begun_pieces : (object : Object) (answered : Bool) (stage : Stage) (position : ℕ) (settled : Option (List ℕ)) (phase : Option Phase)
    → pieces_position (cond answered want.Done (want_after object (due stage) settled phase)) (due stage) phase
    ≡ pieces_position (cond answered want.Done (want_after object (due (begun_at stage position)) settled phase))
    (due (begun_at stage position)) phase
begun_pieces object false ReadBegin position settled (Some phase) =
    go (is_some phase.end) (is_fetch phase.kind) (is_some settled) (lacks_pieces phase)
  where
    -- what is wanted of this phase, by what is known of it
    wanted : (ended fetches settles lacks : Bool) → Want
    wanted ended fetches settles lacks =
        cond ended (cond fetches (cond settles want.Advance (cond lacks want.Again
        (want.Settle (layout_at object phase.position).k (value_len phase.replies)))) want.Advance) want.Replies

    go : (ended fetches settles lacks : Bool)
        → pieces_position (wanted ended fetches settles lacks) (Some (Next, 0)) (Some phase)
        ≡ pieces_position (wanted ended fetches settles lacks) (Some (Next, position)) (Some phase)
    go false fetches settles lacks = refl
    go true false settles lacks = refl
    go true true true lacks = refl
    go true true false true = refl
    go true true false false = refl
begun_pieces object _ _ position settled _ = refl

-- what is due is below a count of positions, wherever it begins
pub begun_below : (count : ℕ) (stage : Stage) (position : ℕ) → 0 < count
    → IfSome (due (begun_at stage position)) (λ asked. asked.1 < count) → IfSome (due stage) (λ asked. asked.1 < count)
begun_below count ReadBegin position some below = some
begun_below count _ position some below = below

-- and has a next position in the machine's numbers, where it begins at one that is there
pub begun_near : (count : ℕ) (stage : Stage) (position : ℕ) → position < count → count ≤ MOST_POSITIONS
    → IfSome (due stage) (λ asked. asked.1 < count) → IsBelowLimit (begun_at stage position)
begun_near count stage position there few below = near (due (begun_at stage position)) (go stage below)
  where
    near : (next : Option (Kind × ℕ)) → IfSome next (λ asked. asked.1 < count) → IfSome next (λ asked. asked.1 + 1 < 2 ^ 32)
    near None b = tt
    near (Some asked) b = omega (arith, b, few)

    go : (stage : Stage) → IfSome (due stage) (λ asked. asked.1 < count)
        → IfSome (due (begun_at stage position)) (λ asked. asked.1 < count)
    go ReadBegin b = there
    go _ b = b

-- a phase stays at its position
pub take_position : (p : Phase) (m : Message) (now : ℕ) → (after_take p m now).position ≡ p.position
take_position p m now = of m.body
  where
    of : (b : Body) → (after_body p m.call m.phase m.member b now).position ≡ p.position
    of (body.Request q) = refl
    of (body.Reply k r) = go (is_current p m.call m.phase) (has_taken p.replies m.member)
      where
        go : (mine taken : Bool) → (cond mine (cond taken p (with_reply p m.member r now)) p).position ≡ p.position
        go false taken = refl
        go true true = refl
        go true false = refl

-- where another phase is due than the first of a reading, it is so wherever that would begin
pub begun_due : (stage : Stage) (position : ℕ) → ((p : ℕ) → due (begun_at stage position) ≡ Some (Next, p) → ⊥)
    → due stage ≡ due (begun_at stage position)
begun_due ReadBegin position other = absurd (other position refl)
begun_due _ position other = refl

-- The base where banks change

-- one more position, whose first bank is not retired
pub first_push : (banks : List (List Bank)) (fresh : List Bank) → (get_or fresh 0 no_bank).retired ≡ None
    → retired_first (banks ++ fresh ∷ []) ≡ retired_first banks
first_push [] fresh none = ap (λ (o : Option ℕ). cond (is_some o) (suc 0) 0) none
first_push (first ∷ banks) fresh none =
    ap (λ n. cond (is_some (get_or first 0 no_bank).retired) (suc n) 0) (first_push banks fresh none)

-- other banks at a position, of which the first is retired as before
pub first_set : (banks : List (List Bank)) (position : ℕ) (old fresh : List Bank) → slice_get banks position ≡ Some old
    → (get_or fresh 0 no_bank).retired ≡ (get_or old 0 no_bank).retired → retired_first (set banks position fresh) ≡ retired_first banks
first_set [] position old fresh at same = absurd (cc)
first_set (first ∷ banks) zero old fresh at same = cc (same_some first old at)
first_set (first ∷ banks) (suc position) old fresh at same =
    ap (λ n. cond (is_some (get_or first 0 no_bank).retired) (suc n) 0) (first_set banks position old fresh at same)

-- another bank of a member, which is retired as before
pub member_set : (banks : List Bank) (member : ℕ) (old fresh : Bank) → slice_get banks member ≡ Some old → fresh.retired ≡ old.retired
    → (get_or (set banks member fresh) 0 no_bank).retired ≡ (get_or banks 0 no_bank).retired
member_set [] member old fresh at same = absurd (cc)
member_set (bank ∷ banks) zero old fresh at same = same ∙ sym (ap (λ (b : Bank). b.retired) (same_some bank old at))
member_set (bank ∷ banks) (suc member) old fresh at same = refl
