-- What a call does next, and what is so of the call then.
use Rattle.std.proofs.Common.{◌≡◌, ℕ, ◌&&◌, not, Bool, true, false, cond, is_some, IsSome, Option, Some, None, refl, ap, ◌∙◌}
use Rattle.bank.specs.declared.kind.Kind.{Kind}
use Rattle.bank.specs.declared.kind.Kind.TheVariants.{Next, Spread, Query, PreWrite, Finalize, Fetch}
use Rattle.mail.specs.Phase.{lacks_pieces}
use Rattle.record.specs.Fragments.{IsFetch}
use Rattle.record.specs.PhaseOrder.{begun_at, due}
use Rattle.record.specs.Wants.{is_fetch}
use Rattle.record.specs.declared.stage.Stage.{Stage}
use Rattle.record.specs.declared.stage.Stage.TheVariants as stage
use Rattle.call.specs.declared.next.Next.{Next as Step}
use Rattle.call.specs.declared.next.Next.TheVariants as next
use Rattle.call.specs.Call.{OpenCall as Machine, reached}
use Rattle.call.specs.Limits.{is_within_limits}
use Rattle.call.specs.Next.{is_unsettled, leads_back, leads_to}
use Rattle.open_calls.specs.OpenCalls.{IsLacking, IsReady}
use Rattle.local_object.specs.Codes.{at_node}
use Rattle.local_object.specs.Going.{next_here, unless_again, unless_unsettled}

-- the phase that is due does not depend on where a first reading begins
pub due_begun : (s : Stage) → due (begun_at s 0) ≡ due s
due_begun stage.ReadBegin = refl
due_begun (stage.ReadNext position finalized) = refl
due_begun (stage.ReadSpread position finalized status) = refl
due_begun (stage.QueryFrom position last greatest shown_at) = refl
due_begun (stage.FetchAt shown_at last tag) = refl
due_begun (stage.PreWriteAt last tag) = refl
due_begun (stage.FinalizeAt last tag) = refl
due_begun (stage.AgainNext last position tag) = refl
due_begun (stage.AgainSpread last position tag status) = refl
due_begun (stage.MoveSpread position) = refl
due_begun (stage.MoveQuery position) = refl
due_begun (stage.MoveFetch position tag) = refl
due_begun (stage.MovePreWrite position tag) = refl
due_begun (stage.MoveFinalize position tag) = refl
due_begun (stage.MoveFinal position tag) = refl
due_begun (stage.Ended last tag) = refl
due_begun (stage.Moved position tag) = refl

never_begin : (b : Bool) (k : Kind) (p : ℕ) → cond b next.Wait next.Answer ≡ next.Begin k p → ⊥
never_begin true k p e = cc
never_begin false k p e = cc

never_restart : (b : Bool) (k : Kind) (p : ℕ) → cond b next.Wait next.Answer ≡ next.Restart k p → ⊥
never_restart true k p e = cc
never_restart false k p e = cc

never_settle : (b : Bool) → cond b next.Wait next.Answer ≡ next.Settle → ⊥
never_settle true e = cc
never_settle false e = cc

unless_true : (b : Bool) → cond b next.Wait next.Answer ≡ next.Answer → b ≡ false
unless_true true e = absurd (cc)
unless_true false e = refl

-- the pair of a kind and a position
pub pair_is : (asked : Kind × ℕ) (k : Kind) (p : ℕ) → asked.0 ≡ k → asked.1 ≡ p → asked ≡ (k, p)
pair_is asked k p kind position = λ j. (kind j, position j)

begin_kind : (a k : Kind) (b p : ℕ) → next.Begin a b ≡ next.Begin k p → a ≡ k
begin_kind a k b p e = cc

begin_position : (a k : Kind) (b p : ℕ) → next.Begin a b ≡ next.Begin k p → b ≡ p
begin_position a k b p e = cc

restart_kind : (a k : Kind) (b p : ℕ) → next.Restart a b ≡ next.Restart k p → a ≡ k
restart_kind a k b p e = cc

restart_position : (a k : Kind) (b p : ℕ) → next.Restart a b ≡ next.Restart k p → b ≡ p
restart_position a k b p e = cc

-- the current phase is complete, this is due, and this is whether a fetch is to be settled
pub record IsComplete (call : Machine) (asked : Option (Kind × ℕ)) (unsettled : Bool) : Type 0 where
  pub complete : IsSome call.phase.end
  pub due : due (reached call) ≡ asked
  pub settling : is_unsettled call ≡ unsettled

-- the current phase is a complete fetch that is to be settled
pub record IsSettling (call : Machine) (lacks : Bool) : Type 0 where
  pub complete : IsSome call.phase.end
  pub settling : is_unsettled call ≡ true
  pub lacking : lacks_pieces call.phase ≡ lacks

module _ (call : Machine) where
  abbrev shape : (w e u l : Bool) → Option (Kind × ℕ) → Step
  shape w e u l d =
      cond w (unless_unsettled call (cond e (cond u (cond l (leads_back d) next.Settle) (leads_to d)) next.Wait)) next.Wait

  pub begin_of : (k : Kind) (p : ℕ) → next_here call ≡ next.Begin k p → IsComplete call (Some (k, p)) false
  begin_of k p e = go (is_within_limits call) (is_some call.phase.end) refl (is_unsettled call) refl (lacks_pieces call.phase)
      (due (reached call)) refl e
    where
      go : (w x : Bool) → is_some call.phase.end ≡ x → (u : Bool) → is_unsettled call ≡ u → (l : Bool) → (d : Option (Kind × ℕ))
          → due (reached call) ≡ d → shape w x u l d ≡ next.Begin k p → IsComplete call (Some (k, p)) false
      go false x hx u hu l d hd e = absurd (cc)
      go true false hx u hu l d hd e = absurd (cc)
      go true true hx true hu true None hd e = absurd (never_begin (is_unsettled call) k p e)
      go true true hx true hu true (Some a) hd e = absurd (cc)
      go true true hx true hu false d hd e = absurd (cc)
      go true true hx false hu l None hd e = absurd (never_begin (is_unsettled call) k p e)
      go true true hx false hu l (Some a) hd e = record {
        complete = hx;
        due = hd ∙ ap Some (pair_is a k p (begin_kind a.0 k a.1 p e) (begin_position a.0 k a.1 p e));
        settling = hu;
      }

  pub restart_of : (k : Kind) (p : ℕ) → next_here call ≡ next.Restart k p
      → IsComplete call (Some (k, p)) true × IsSettling call true
  restart_of k p e = go (is_within_limits call) (is_some call.phase.end) refl (is_unsettled call) refl (lacks_pieces call.phase) refl
      (due (reached call)) refl e
    where
      go : (w x : Bool) → is_some call.phase.end ≡ x → (u : Bool) → is_unsettled call ≡ u → (l : Bool) → lacks_pieces call.phase ≡ l
          → (d : Option (Kind × ℕ)) → due (reached call) ≡ d → shape w x u l d ≡ next.Restart k p
          → IsComplete call (Some (k, p)) true × IsSettling call true
      go false x hx u hu l hl d hd e = absurd (cc)
      go true false hx u hu l hl d hd e = absurd (cc)
      go true true hx true hu true hl None hd e = absurd (never_restart (is_unsettled call) k p e)
      go true true hx true hu true hl (Some a) hd e = (
        record {
          complete = hx;
          due = hd ∙ ap Some (pair_is a k p (restart_kind a.0 k a.1 p e) (restart_position a.0 k a.1 p e));
          settling = hu;
        },
        record { complete = hx; settling = hu; lacking = hl },
      )
      go true true hx true hu false hl d hd e = absurd (cc)
      go true true hx false hu l hl None hd e = absurd (never_restart (is_unsettled call) k p e)
      go true true hx false hu l hl (Some a) hd e = absurd (cc)

  pub settle_of : next_here call ≡ next.Settle → IsSettling call false
  settle_of e = go (is_within_limits call) (is_some call.phase.end) refl (is_unsettled call) refl (lacks_pieces call.phase) refl
      (due (reached call)) e
    where
      go : (w x : Bool) → is_some call.phase.end ≡ x → (u : Bool) → is_unsettled call ≡ u → (l : Bool) → lacks_pieces call.phase ≡ l
          → (d : Option (Kind × ℕ)) → shape w x u l d ≡ next.Settle → IsSettling call false
      go false x hx u hu l hl d e = absurd (cc)
      go true false hx u hu l hl d e = absurd (cc)
      go true true hx true hu true hl None e = absurd (never_settle (is_unsettled call) e)
      go true true hx true hu true hl (Some a) e = absurd (cc)
      go true true hx true hu false hl d e = record { complete = hx; settling = hu; lacking = hl }
      go true true hx false hu l hl None e = absurd (never_settle (is_unsettled call) e)
      go true true hx false hu l hl (Some a) e = absurd (cc)

  pub answer_of : next_here call ≡ next.Answer → IsComplete call None false
  answer_of e = go (is_within_limits call) (is_some call.phase.end) refl (is_unsettled call) refl (lacks_pieces call.phase)
      (due (reached call)) refl e
    where
      go : (w x : Bool) → is_some call.phase.end ≡ x → (u : Bool) → is_unsettled call ≡ u → (l : Bool) → (d : Option (Kind × ℕ))
          → due (reached call) ≡ d → shape w x u l d ≡ next.Answer → IsComplete call None false
      go false x hx u hu l d hd e = absurd (cc)
      go true false hx u hu l d hd e = absurd (cc)
      go true true hx true hu true None hd e = record { complete = hx; due = hd; settling = unless_true (is_unsettled call) e }
      go true true hx true hu true (Some a) hd e = absurd (cc)
      go true true hx true hu false d hd e = absurd (cc)
      go true true hx false hu l None hd e = record { complete = hx; due = hd; settling = hu }
      go true true hx false hu l (Some a) hd e = absurd (cc)

-- what a call does next, if it begins anew only if it may

pub again_restart : (again : Bool) (n : Step) (k : Kind) (p : ℕ) → unless_again again n ≡ next.Restart k p → n ≡ next.Restart k p
again_restart again next.Wait k p e = absurd (cc)
again_restart again next.Settle k p e = absurd (cc)
again_restart true (next.Restart kind position) k p e = e
again_restart false (next.Restart kind position) k p e = absurd (cc)
again_restart again (next.Begin kind position) k p e = absurd (cc)
again_restart again next.Answer k p e = absurd (cc)

pub again_begin : (again : Bool) (n : Step) (k : Kind) (p : ℕ) → unless_again again n ≡ next.Begin k p → n ≡ next.Begin k p
again_begin again next.Wait k p e = absurd (cc)
again_begin again next.Settle k p e = absurd (cc)
again_begin true (next.Restart kind position) k p e = absurd (cc)
again_begin false (next.Restart kind position) k p e = absurd (cc)
again_begin again (next.Begin kind position) k p e = e
again_begin again next.Answer k p e = absurd (cc)

pub again_answer : (again : Bool) (n : Step) → unless_again again n ≡ next.Answer → n ≡ next.Answer
again_answer again next.Wait e = absurd (cc)
again_answer again next.Settle e = absurd (cc)
again_answer true (next.Restart kind position) e = absurd (cc)
again_answer false (next.Restart kind position) e = absurd (cc)
again_answer again (next.Begin kind position) e = absurd (cc)
again_answer again next.Answer e = refl

-- fetches

fetch_true : (k : Kind) → IsFetch k → is_fetch k ≡ true
fetch_true k fetch = ap is_fetch fetch.1

fetch_of : (k : Kind) → is_fetch k ≡ true → IsFetch k
fetch_of Next e = absurd (cc)
fetch_of (Spread s) e = absurd (cc)
fetch_of Query e = absurd (cc)
fetch_of (PreWrite tag) e = absurd (cc)
fetch_of (Finalize tag) e = absurd (cc)
fetch_of (Fetch tag) e = (tag, refl)

settled_by : (f s : Bool) → (f && not s) ≡ false → f ≡ true → s ≡ true
settled_by true true e h = refl
settled_by true false e h = absurd (cc)
settled_by false s e h = absurd (cc)

unsettled_by : (f s : Bool) → (f && not s) ≡ true → (f ≡ true) × (s ≡ false)
unsettled_by true true e = absurd (cc)
unsettled_by true false e = (refl, refl)
unsettled_by false s e = absurd (cc)

pub none_of : {X : Type 0} (o : Option X) → is_some o ≡ false → o ≡ None
none_of None e = refl
none_of (Some x) e = absurd (cc)

pub ready_of : (node : ℕ) (call : Machine) (asked : Option (Kind × ℕ)) → IsComplete call asked false → IsReady (at_node node call)
ready_of node call asked is = record {
  complete = is.complete;
  fetched = λ fetch. settled_by (is_fetch call.phase.kind) (is_some call.settled) is.settling (fetch_true call.phase.kind fetch);
}

pub fetching_of : (call : Machine) (lacks : Bool) → IsSettling call lacks → IsFetch call.phase.kind × (call.settled ≡ None)
fetching_of call lacks is =
    let both = unsettled_by (is_fetch call.phase.kind) (is_some call.settled) is.settling in
    (fetch_of call.phase.kind both.0, none_of call.settled both.1)

pub lacking_of : (node : ℕ) (call : Machine) → IsSettling call true → IsLacking (at_node node call)
lacking_of node call is =
    let both = fetching_of call true is in
    record { complete = is.complete; fetch = both.0; unsettled = both.1; lacks = is.lacking }
