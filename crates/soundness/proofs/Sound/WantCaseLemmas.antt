-- What a call wants says how far it is: where its current phase is, and what is due.
use Rattle.std.proofs.Common.{◌≡◌, ℕ, suc, ◌<◌, Bool, true, false, cond, List, [], ◌∷◌, length}
use Rattle.std.proofs.Common.{Option, Some, None, IsSome, is_some, refl, sym, ap, ◌∙◌, arith, slice_get}
use Rattle.std.proofs.lemmas.Option.{same_Some}
use Rattle.tag.specs.declared.tag.Tag.{Tag}
use Rattle.bank.specs.declared.kind.Kind.{Kind}
use Rattle.mail.specs.Phase.{Phase, lacks_pieces}
use Rattle.record.specs.Records.{Call, Object, layout_at}
use Rattle.bank.specs.declared.kind.Kind.TheVariants.{Next, Spread, Query, PreWrite, Finalize, Fetch}
use Rattle.record.specs.PhaseOrder.{EndsBefore}
use Rattle.record.specs.Legal.{due_of}
use Rattle.record.specs.Fragments.{IsFetch}
use Rattle.record.specs.declared.stage.Want.{Want}
use Rattle.record.specs.Wants.{current_phase, is_fetch, value_len, want_for, want_of_fetch, want_after, want_of}
use Rattle.record.specs.declared.stage.Want.TheVariants as wants

-- where the current phase stands
pub record LastAt (phases : List Phase) (phase : Phase) : Type 0 where
  pub place : ℕ
  pub within : slice_get phases place ≡ Some phase
  pub last : suc place ≡ length phases

pub last_at : (phases : List Phase) (phase : Phase) → current_phase phases ≡ Some phase → LastAt phases phase
last_at [] phase e = absurd (cc)
last_at (first ∷ []) phase e = record { place = 0; within = e; last = refl }
last_at (first ∷ next ∷ later) phase e =
    let rest = last_at (next ∷ later) phase e in
    record { place = suc rest.place; within = rest.within; last = (let l = rest.last in omega arith) }

pub ends_before : (phases : List Phase) (phase : Phase) (end now : ℕ) → current_phase phases ≡ Some phase →
    phase.end ≡ Some end → end < now → EndsBefore phases now
ends_before [] phase end now e d less = absurd (cc)
ends_before (first ∷ []) phase end now e d less = (end, ap (λ (p : Phase). p.end) (same_Some first phase e) ∙ d, less)
ends_before (first ∷ next ∷ later) phase end now e d less = ends_before (next ∷ later) phase end now e d less

-- a call that is not answered, whose current phase is complete
pub record PhaseEnded (call : Call) : Type 0 where
  pub open_call : call.answered ≡ None
  pub phase : Phase
  pub current : current_phase call.phases ≡ Some phase
  pub end : ℕ
  pub ended : phase.end ≡ Some end

-- a call that may begin its next phase or be answered
pub record Ready (call : Call) : Type 0 where
  pub last : PhaseEnded call
  pub open last use *
  pub settled : IsFetch phase.kind → IsSome call.settled

-- a call whose current phase is a complete fetch of which nothing is settled, and that lacks pieces or not
pub record Unsettled (call : Call) (lacks : Bool) : Type 0 where
  pub last : PhaseEnded call
  pub open last use *
  pub fetch : IsFetch phase.kind
  pub none : call.settled ≡ None
  pub lacking : lacks_pieces phase ≡ lacks

-- a call whose current phase lacks a quorum
pub record Waiting (call : Call) : Type 0 where
  pub open_call : call.answered ≡ None
  pub unended : (phase : Phase) → current_phase call.phases ≡ Some phase → phase.end ≡ None

-- a phase that is due and sends no pieces
pub record Plain (next : Option (Kind × ℕ)) : Type 0 where
  pub kind : Kind
  pub position : ℕ
  pub is_due : next ≡ Some (kind, position)
  pub not_pre : (tag : Tag) → kind ≡ PreWrite tag → ⊥

-- a phase that is due and sends pieces, so many for the layout of its position
pub record Sending (object : Object) (next : Option (Kind × ℕ)) (k n : ℕ) : Type 0 where
  pub tag : Tag
  pub position : ℕ
  pub is_due : next ≡ Some (PreWrite tag, position)
  pub pieces : k ≡ (layout_at object position).k
  pub members : n ≡ length (layout_at object position).members

-- what each want says of the call, of which `next` is due
abbrev pub Says : Object → Call → (next : Option (Kind × ℕ)) → Want → Type 0
Says object call next wants.Done = Unit {0}
Says object call next wants.Replies = Waiting call
Says object call next wants.Again = Unsettled call true
Says object call next (wants.Settle k len) = Unsettled call false
Says object call next wants.Advance = Ready call × Plain next
Says object call next (wants.Supply k n) = Ready call × Sending object next k n
Says object call next wants.Answer = Ready call × (next ≡ None)

pub fetch_is : (kind : Kind) → is_fetch kind ≡ true → IsFetch kind
fetch_is kind e = grind arith

is_fetch_of : (kind : Kind) → IsFetch kind → is_fetch kind ≡ true
is_fetch_of kind fetch = rw fetch.1 refl

module _ (object : Object) (call : Call) (next : Option (Kind × ℕ)) where
  due_says : (due : Option (Kind × ℕ)) → next ≡ due → Ready call → Says object call next (want_for object due)
  due_says None e ready = (ready, e)
  due_says (Some (PreWrite tag, p)) e ready = (ready, record { tag = tag; position = p; is_due = e; pieces = refl; members = refl })
  due_says (Some (Next, p)) e ready = (ready, record { kind = Next; position = p; is_due = e; not_pre = λ tag k. absurd (cc) })
  due_says (Some (Spread s, p)) e ready = (ready, record { kind = Spread s; position = p; is_due = e; not_pre = λ tag k. absurd (cc) })
  due_says (Some (Query, p)) e ready = (ready, record { kind = Query; position = p; is_due = e; not_pre = λ tag k. absurd (cc) })
  due_says (Some (Finalize t, p)) e ready = (ready, record { kind = Finalize t; position = p; is_due = e; not_pre = λ tag k. absurd (cc) })
  due_says (Some (Fetch t, p)) e ready = (ready, record { kind = Fetch t; position = p; is_due = e; not_pre = λ tag k. absurd (cc) })

  lacking_says : (last : PhaseEnded call) → IsFetch last.phase.kind → call.settled ≡ None → (b : Bool) → lacks_pieces last.phase ≡ b →
      Says object call next (cond b wants.Again (wants.Settle (layout_at object last.phase.position).k (value_len last.phase.replies)))
  lacking_says last fetch none true lacking = record { last = last; fetch = fetch; none = none; lacking = lacking }
  lacking_says last fetch none false lacking = record { last = last; fetch = fetch; none = none; lacking = lacking }

  settled_says : (last : PhaseEnded call) → IsFetch last.phase.kind → (s : Option (List ℕ)) → call.settled ≡ s →
      Says object call next (cond (is_some s) (want_for object next) (want_of_fetch object last.phase))
  settled_says last fetch s is = grind (arith, due_says, lacking_says)

  ended_says : (last : PhaseEnded call) → (f : Bool) → is_fetch last.phase.kind ≡ f → Says object call next
      (cond f (cond (is_some call.settled) (want_for object next) (want_of_fetch object last.phase)) (want_for object next))
  ended_says last true f = settled_says last (fetch_is last.phase.kind f) call.settled refl
  ended_says last false f = due_says next refl (record {
    last = last;
    settled = λ fetch. absurd (let no : false ≡ true = sym f ∙ is_fetch_of last.phase.kind fetch in cc);
  })

  phase_says : call.answered ≡ None → (phase : Phase) → current_phase call.phases ≡ Some phase → (o : Option ℕ) → phase.end ≡ o →
      Says object call next (cond (is_some o) (cond (is_fetch phase.kind)
      (cond (is_some call.settled) (want_for object next) (want_of_fetch object phase)) (want_for object next)) wants.Replies)
  phase_says unanswered phase current None o = record {
    open_call = unanswered;
    unended = λ other c. ap (λ (p : Phase). p.end) (sym (same_Some phase other (sym current ∙ c))) ∙ o;
  }
  phase_says unanswered phase current (Some end) o =
      ended_says (record { open_call = unanswered; phase = phase; current = current; end = end; ended = o }) (is_fetch phase.kind) refl

  current_says : call.answered ≡ None → (p : Option Phase) → current_phase call.phases ≡ p →
      Says object call next (want_after object next call.settled p)
  current_says unanswered p is = grind (arith, phase_says)

  want_says : (a : Option ℕ) → call.answered ≡ a →
      Says object call next (cond (is_some a) wants.Done (want_after object next call.settled (current_phase call.phases)))
  want_says a is = grind (arith, current_says)

pub says : (object : Object) (index : ℕ) (call : Call) (want : Want) → want_of object index call ≡ want →
    Says object call (due_of object index call) want
says object index call want e = grind (arith, want_says)
