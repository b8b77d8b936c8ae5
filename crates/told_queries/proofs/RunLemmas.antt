-- Events of a run, and then more events; worlds beside each other are the same but for the call.
use Rattle.std.proofs.Common.{◌≡◌, ℕ, Bool, true, false, cond, eqb, eqb-true, List, [], ◌∷◌, ◌++◌, None, Some}
use Rattle.std.proofs.Common.{refl, sym, subst, ap, ◌∙◌}
use Rattle.record.specs.Fragments.{Code}
use Rattle.open_calls.specs.OpenCalls.{NodeCall, open_call, with_open}
use Rattle.network.specs.Worlds.{World, opened_world}
use Rattle.network.specs.Events.{Event, happens, world_after}
use Rattle.network.specs.Laws.{IsReached}
use Rattle.network.specs.Premises.{MayHappenInTurn}
use Rattle.told_queries.proofs.BesideLemmas.{IsBeside}
use Rattle.told_queries.proofs.ReplayLemmas.{IsSameBut}

-- Events in turn

pub run_append : (fragment : Code) (first second : List Event) (world : World) →
    world_after fragment (first ++ second) world ≡ world_after fragment second (world_after fragment first world)
run_append fragment [] second world = refl
run_append fragment (event ∷ first) second world = run_append fragment first second (happens fragment world event)

pub may_append : (fragment : Code) (first second : List Event) (world : World) → MayHappenInTurn fragment first world →
    MayHappenInTurn fragment second (world_after fragment first world) → MayHappenInTurn fragment (first ++ second) world
may_append fragment [] second world a b = b
may_append fragment (event ∷ first) second world a b =
    (a.0, a.1, may_append fragment first second (happens fragment world event) a.2 b)

pub may_first : (fragment : Code) (first second : List Event) (world : World) → MayHappenInTurn fragment (first ++ second) world →
    MayHappenInTurn fragment first world
may_first fragment [] second world may = tt
may_first fragment (event ∷ first) second world may =
    (may.0, may.1, may_first fragment first second (happens fragment world event) may.2)

pub may_second : (fragment : Code) (first second : List Event) (world : World) → MayHappenInTurn fragment (first ++ second) world →
    MayHappenInTurn fragment second (world_after fragment first world)
may_second fragment [] second world may = may
may_second fragment (event ∷ first) second world may = may_second fragment first second (happens fragment world event) may.2

-- a world that is reached leads to such worlds
pub reached_later : (fragment : Code) (world : World) (events : List Event) → IsReached fragment world →
    MayHappenInTurn fragment events world → IsReached fragment (world_after fragment events world)
reached_later fragment world events reached may = record {
  files = reached.files;
  one = reached.one;
  lawful = reached.lawful;
  events = reached.events ++ events;
  may = may_append fragment reached.events events (opened_world reached.files) reached.may
      (subst (MayHappenInTurn fragment events) (sym reached.result) may);
  result = run_append fragment reached.events events (opened_world reached.files)
      ∙ ap (world_after fragment events) reached.result;
}

-- Worlds beside each other

pub not_the_same : (a b : ℕ) → (a ≡ b → ⊥) → eqb a b ≡ false
not_the_same a b apart = go (eqb a b) refl
  where
    go : (found : Bool) → eqb a b ≡ found → eqb a b ≡ false
    go true e = absurd (apart (eqb-true a b e))
    go false e = e

-- another call is found as before
open_one : (asking call : NodeCall) (calls : List NodeCall) (other : ℕ) → (other ≡ asking.id → ⊥) →
    open_call (with_open asking calls) other ≡ open_call calls other → (b : Bool) → eqb call.id asking.id ≡ b →
    open_call (cond b asking call ∷ with_open asking calls) other ≡ open_call (call ∷ calls) other
open_one asking call calls other apart rest false e = ap (λ o. cond (eqb call.id other) (Some call) o) rest
open_one asking call calls other apart rest true e =
    let hidden = not_the_same asking.id other (λ same. apart (sym same)) in
    let same : call.id ≡ asking.id = eqb-true call.id asking.id e in
    let hidden_too = not_the_same call.id other (λ is. apart (sym is ∙ same)) in
    ap (λ b. cond b (Some asking) (open_call (with_open asking calls) other)) hidden
    ∙ rest ∙ sym (ap (λ b. cond b (Some call) (open_call calls other)) hidden_too)

pub open_other : (asking : NodeCall) (calls : List NodeCall) (other : ℕ) → (other ≡ asking.id → ⊥) →
    open_call (with_open asking calls) other ≡ open_call calls other
open_other asking [] other apart = refl
open_other asking (call ∷ calls) other apart =
    open_one asking call calls other apart (open_other asking calls other apart) (eqb call.id asking.id) refl

-- what is not open stays so
closed_one : (asking call : NodeCall) (calls : List NodeCall) (other : ℕ) → eqb call.id other ≡ false →
    open_call (with_open asking calls) other ≡ None → (c : Bool) → eqb call.id asking.id ≡ c →
    open_call (cond c asking call ∷ with_open asking calls) other ≡ None
closed_one asking call calls other e rest false f =
    ap (λ b. cond b (Some call) (open_call (with_open asking calls) other)) e ∙ rest
closed_one asking call calls other e rest true f =
    let same : call.id ≡ asking.id = eqb-true call.id asking.id f in
    let hidden : eqb asking.id other ≡ false = subst (λ n. eqb n other ≡ false) same e in
    ap (λ b. cond b (Some asking) (open_call (with_open asking calls) other)) hidden ∙ rest

-- the first of some calls that are not open is another, and the others are not open either
none_first : (call : NodeCall) (calls : List NodeCall) (other : ℕ) → open_call (call ∷ calls) other ≡ None →
    (eqb call.id other ≡ false) × (open_call calls other ≡ None)
none_first call calls other none = go (eqb call.id other) refl
  where
    go : (b : Bool) → eqb call.id other ≡ b → (eqb call.id other ≡ false) × (open_call calls other ≡ None)
    go true e = absurd (let wrong : Some call ≡ None = sym (ap (λ b. cond b (Some call) (open_call calls other)) e) ∙ none in cc)
    go false e = (e, sym (ap (λ b. cond b (Some call) (open_call calls other)) e) ∙ none)

pub closed_other : (asking : NodeCall) (calls : List NodeCall) (other : ℕ) → open_call calls other ≡ None →
    open_call (with_open asking calls) other ≡ None
closed_other asking [] other none = refl
closed_other asking (call ∷ calls) other none =
    let it = none_first call calls other none in
    closed_one asking call calls other it.0 (closed_other asking calls other it.1) (eqb call.id asking.id) refl

pub same_but : (asking : NodeCall) (world other : World) → IsBeside asking world other → IsSameBut asking.id world other
same_but asking world other beside = record {
  files = beside.files;
  later = beside.later;
  banks = beside.banks;
  history = beside.history;
  now = beside.now;
  others = λ id apart. ap (λ calls. open_call calls id) beside.calls ∙ open_other asking world.calls id apart;
  closed = λ id none. ap (λ calls. open_call calls id) beside.calls ∙ closed_other asking world.calls id none;
  sent = beside.sent;
}
