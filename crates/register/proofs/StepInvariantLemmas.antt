-- What each step keeps of a register, from the laws of sound records.
use Rattle.std.proofs.Common.{◌≡◌, ℕ, zero, suc, ◌<◌, ◌≤◌, ◌⊎◌, ◌&&◌, not, is_some, Bool, List, [], ◌∷◌, length, set, take, slice_get}
use Rattle.std.proofs.Common.{Option, Some, None, IfSome, sym, ap, subst, ◌∙◌, inl, inr, refl, arith}
use Rattle.std.proofs.lemmas.Option.{slice_get_within}
use Rattle.std.specs.List.{AllByRecursion}
use Rattle.tag.specs.declared.limits.TheConstants.{MOST_CALLS, MOST_PHASES, MOST_POSITIONS}
use Rattle.bank.specs.declared.kind.Kind.{Kind}
use Rattle.encoder.specs.Fragment.{fragment}
use Rattle.mail.specs.declared.message.Message.{Message}
use Rattle.mail.specs.Phase.{Phase}
use Rattle.record.specs.Records.{Call, IsNewId}
use Rattle.record.specs.PhaseOrder.{begun_at, due}
use Rattle.record.specs.Knowledge.{IsTruePhase}
use Rattle.record.specs.Legal.{due_of, is_move, moves_in, stage_of}
use Rattle.record.specs.Preconditions.{MayStep}
use Rattle.soundness.specs.Sound.{IsSound}
use Rattle.record.specs.Steps.{Step}
use Rattle.record.specs.Wants.{current_phase}
use Rattle.soundness.proofs.Sound.DuePositionLemmas.{base_there, due_there}
use Rattle.soundness.proofs.ListLemmas.{get_set, all_get, all_set}
use Rattle.soundness.proofs.Sound.ChangedCallLemmas.{moves_set}
use Rattle.soundness.proofs.Sound.RunSoundLemmas.{step_sound}
use Rattle.register.specs.Position.{Position}
use Rattle.register.specs.declared.register.Register.TheInside.{Inside}
use Rattle.register.specs.Tracked.{Tracked, calls_of, HasPositionsBelow}
use Rattle.register.specs.State.{Contents, next_id, object_of, state_of, made}
use Rattle.register.specs.Kept.{IsKept, AreStaged, is_open_move, has_open_move}
use Rattle.register.proofs.FragmentCodeLemmas.{fragments_are_code}
use Rattle.register.proofs.FirstReadingLemmas.{begun_below}
use Rattle.std.proofs.lemmas.List.{map-set, length-set}
use Rattle.register.proofs.ListLemmas.{found_map, length_map, any_put}

-- what a register holds, by its fields
abbrev pub contents_of : Inside → Contents
contents_of r = record {
  delta = r.delta;
  positions = r.positions.items;
  base = r.base;
  mail = r.mail;
  calls = r.calls.items;
  is_moving = r.is_moving;
  stored = r.stored;
  last = r.last;
}

-- a step that may be made leaves a sound record
pub steps_on : (c : Contents) (now : ℕ) (step : Step) → c.last < now → IsKept c → MayStep fragment (state_of c).object step
    → IsSound fragment (made step now (state_of c)).object now
steps_on c now step after kept may = step_sound fragment (state_of c).object c.last now fragments_are_code after kept.sound step may

-- a call of a register is one of the record
pub call_found : (calls : List Tracked) (index : ℕ) (t : Tracked) → slice_get calls index ≡ Some t
    → slice_get (calls_of calls) index ≡ Some t.call
call_found calls index t at = found_map (λ (t : Tracked). t.call) calls index t at

-- a step that changes the mail alone
pub mail_kept : (c : Contents) (mail : List Message) (now : ℕ) → IsKept c
    → IsSound fragment (object_of c.delta c.positions mail c.calls) now
    → IsKept (record c { mail = mail; last = now })
mail_kept c mail now kept sound = record {
  sound = sound;
  limits = record {
    positions = kept.limits.positions;
    calls = kept.limits.calls;
    phases = kept.limits.phases;
    stored = kept.limits.stored;
  };
  based = kept.based;
  numbered = kept.numbered;
  staged = kept.staged;
  moving = kept.moving;
  stored = kept.stored;
}

-- a call that is changed leaves the stages of the others
pub staged_set : (delta : Option ℕ) (layouts : List Position) (mail later : List Message) (calls : List Tracked)
    (index : ℕ) (t new : Tracked)
    → slice_get calls index ≡ Some t → new.call.kind ≡ t.call.kind
    → AreStaged (object_of delta layouts mail calls) calls → new.stage ≡ stage_of (object_of delta layouts mail calls) index new.call
    → AreStaged (object_of delta layouts later (set calls index new)) (set calls index new)
staged_set delta layouts mail later calls index t new at same staged stage j u e = go (get_set calls index j t new u at e)
  where
    sources : (n : ℕ) → moves_in (take n (calls_of (set calls index new))) ≡ moves_in (take n (calls_of calls))
    sources n = ap (λ cs. moves_in (take n cs)) (map-set (λ (t : Tracked). t.call) calls index new)
        ∙ moves_set (calls_of calls) index n t.call new.call (call_found calls index t at) same

    moved : (j : ℕ) (u : Call) → stage_of (object_of delta layouts mail calls) j u
        ≡ stage_of (object_of delta layouts later (set calls index new)) j u
    moved j u = ap (λ m. Rattle.record.specs.PhaseOrder.stage_after u.kind u.id
        (Rattle.record.specs.Legal.first_stage u.kind m) u.phases) (sym (sources j))

    go : ((j ≡ index) × (new ≡ u)) ⊎ (slice_get calls j ≡ Some u)
        → u.stage ≡ stage_of (object_of delta layouts later (set calls index new)) j u.call
    go (inl here) = subst (λ (u : Tracked). u.stage ≡ stage_of (object_of delta layouts later (set calls index new)) j u.call) here.1
        (subst (λ j. new.stage ≡ stage_of (object_of delta layouts later (set calls index new)) j new.call) (sym here.0)
        (stage ∙ moved index new.call))
    go (inr there) = staged j u there ∙ moved j u.call

-- a call that is changed and keeps its id
numbered_set : (calls : List Call) (index : ℕ) (old new : Call) → slice_get calls index ≡ Some old → new.id ≡ old.id
    → ((i : ℕ) (call : Call) → slice_get calls i ≡ Some call → call.id ≡ suc i)
    → (i : ℕ) (call : Call) → slice_get (set calls index new) i ≡ Some call → call.id ≡ suc i
numbered_set calls index old new at same numbered i call e = go (get_set calls index i old new call at e)
  where
    go : ((i ≡ index) × (new ≡ call)) ⊎ (slice_get calls i ≡ Some call) → call.id ≡ suc i
    go (inl here) = sym (ap (λ (d : Call). d.id) here.1) ∙ same ∙ numbered index old at ∙ ap suc (sym here.0)
    go (inr there) = numbered i call there

-- the id of the next call is new
pub next_is_new : (c : Contents) → IsKept c → IsNewId (state_of c).object (next_id (state_of c).object)
next_is_new c kept i call at same =
    let id = kept.numbered i call at in
    let within = slice_get_within (state_of c).object.calls i call at in
    absurd (omega (arith, id, within, same))

-- a step that changes one call, and the mail
pub call_kept : (c : Contents) (index now : ℕ) (t new : Tracked) (mail : List Message) (is_moving : Bool) → IsKept c
    → slice_get c.calls index ≡ Some t
    → new.call.id ≡ t.call.id → new.call.kind ≡ t.call.kind → new.stage ≡ stage_of (state_of c).object index new.call
    → length new.call.phases ≤ MOST_PHASES
    → is_moving ≡ has_open_move (calls_of (set c.calls index new))
    → IsSound fragment (object_of c.delta c.positions mail (set c.calls index new)) now
    → IsKept (record c { mail = mail; calls = set c.calls index new; is_moving = is_moving; last = now })
call_kept c index now t new mail is_moving kept at id kind stage few moving sound = record {
  sound = sound;
  limits = record {
    positions = kept.limits.positions;
    calls = subst (λ n. n ≤ MOST_CALLS) (sym (ap length as_set ∙ length-set (calls_of c.calls) index new.call)) kept.limits.calls;
    phases = subst (λ cs. AllByRecursion (λ (call : Call). length call.phases ≤ MOST_PHASES) cs) (sym as_set)
        (all_set (λ (call : Call). length call.phases ≤ MOST_PHASES) (calls_of c.calls) index new.call kept.limits.phases few);
    stored = kept.limits.stored;
  };
  based = kept.based;
  numbered = λ i call e. numbered_set (calls_of c.calls) index t.call new.call (call_found c.calls index t at) id kept.numbered i call
      (subst (λ cs. slice_get cs i ≡ Some call) as_set e);
  staged = staged_set c.delta c.positions c.mail mail c.calls index t new at kind kept.staged stage;
  moving = moving;
  stored = kept.stored;
}
  where
    as_set : calls_of (set c.calls index new) ≡ set (calls_of c.calls) index new.call
    as_set = map-set (λ (t : Tracked). t.call) c.calls index new

-- a call that keeps its kind, and is answered no more than before, is an open move as before
pub open_moves_set : (calls : List Tracked) (index : ℕ) (t new : Tracked) → slice_get calls index ≡ Some t → new.call.kind ≡ t.call.kind
    → new.call.answered ≡ t.call.answered → has_open_move (calls_of (set calls index new)) ≡ has_open_move (calls_of calls)
open_moves_set calls index t new at kind answered =
    ap has_open_move (map-set (λ (t : Tracked). t.call) calls index new)
    ∙ any_put is_open_move (calls_of calls) index t.call new.call (call_found calls index t at)
    (ap (λ k. is_move k && not (is_some new.call.answered)) kind ∙ ap (λ a. is_move t.call.kind && not (is_some a)) answered)

-- Positions

-- the current phase of a call, by its place
pub current_found : (phases : List Phase) (phase : Phase) → current_phase phases ≡ Some phase
    → (place : ℕ) × (slice_get phases place ≡ Some phase)
current_found [] phase e = absurd (cc)
current_found (p ∷ []) phase e = (zero, e)
current_found (p ∷ q ∷ ps) phase e = let rest = current_found (q ∷ ps) phase e in (suc rest.0, rest.1)

-- there is a position, and the base is there
pub base_within : (c : Contents) → IsKept c → c.base < length c.positions
base_within c kept =
    let there = base_there (state_of c).object kept.sound.legal kept.sound.shape in
    let count : length (state_of c).object.layouts ≡ length c.positions = length_map (λ (p : Position). p.layout) c.positions in
    omega (arith, there, count, kept.based)

-- the phase that is due, by the stage and the base that are kept
pub due_now : (c : Contents) → IsKept c → (index : ℕ) (t : Tracked) → slice_get c.calls index ≡ Some t
    → due (begun_at t.stage c.base) ≡ due_of (state_of c).object index t.call
due_now c kept index t at = cc (kept.staged index t at, kept.based)

-- it is at a position that is there
pub due_placed : (c : Contents) → IsKept c → (index : ℕ) (t : Tracked) → slice_get c.calls index ≡ Some t
    → IfSome (due_of (state_of c).object index t.call) (λ asked. asked.1 < length c.positions)
due_placed c kept index t at = when (due_of (state_of c).object index t.call) refl
  where
    here : slice_get (state_of c).object.calls index ≡ Some t.call
    here = call_found c.calls index t at

    when : (o : Option (Kind × ℕ)) → due_of (state_of c).object index t.call ≡ o → IfSome o (λ asked. asked.1 < length c.positions)
    when None e = tt
    when (Some asked) e = subst (λ n. asked.1 < n) (length_map (λ (p : Position). p.layout) c.positions)
        (due_there (state_of c).object kept.sound.legal kept.sound.shape index t.call here asked.0 asked.1 e)

-- the current phase of each call, and the one that is due, are at positions that are there
pub is_below : (c : Contents) → IsKept c → (index : ℕ) (t : Tracked) → slice_get c.calls index ≡ Some t →
    HasPositionsBelow (length c.positions) t
is_below c kept index t at = record {
  current = λ phase e.
      let found = current_found t.call.phases phase e in
      let truth : IsTruePhase (state_of c).object phase =
      all_get (IsTruePhase (state_of c).object) t.call.phases found.0 phase
      ((kept.sound.legal.calls index t.call here).phases) found.1 in
      subst (λ n. phase.position < n) count truth.placed;
  due = begun_below (length c.positions) t.stage c.base (let within = base_within c kept in omega (arith, within))
      (subst (λ next. IfSome next (λ asked. asked.1 < length c.positions)) (sym (due_now c kept index t at))
      (due_placed c kept index t at));
}
  where
    here : slice_get (state_of c).object.calls index ≡ Some t.call
    here = call_found c.calls index t at

    count : length (state_of c).object.layouts ≡ length c.positions
    count = length_map (λ (p : Position). p.layout) c.positions

-- there are not too many positions
pub few_positions : (c : Contents) → IsKept c → length c.positions ≤ MOST_POSITIONS
few_positions c kept = subst (λ n. n ≤ MOST_POSITIONS) (length_map (λ (p : Position). p.layout) c.positions) kept.limits.positions
