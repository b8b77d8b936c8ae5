-- An act of the object that a look-up found: what the cluster keeps, and by what it is refused.
use Rattle.std.proofs.Common.{◌≡◌, ℕ, pred, ◌+◌, ◌≤◌, Bool, true, false, List}
use Rattle.std.proofs.Common.{length, Option, Some, None, Result, Ok, Err, IsErrAnd, inl, refl, sym, subst, arith}
use Rattle.std.proofs.lemmas.Result.{err_from_is_err_and}
use Rattle.tag.specs.declared.limits.TheConstants.{MOST_STEPS}
use Rattle.tag.specs.declared.refusal.Refusal.{Refusal}
use Rattle.indexmap.specs.IndexMap.{set_value_at}
use Rattle.layout.specs.Layout.{Layout}
use Rattle.record.specs.Accounts as of
use Rattle.record.specs.Records.{Object}
use Rattle.record.specs.Steps.{Step}
use Rattle.register.specs.Act.{IsActCause, IsCausedBy, act_cause, step_of, takes_memory}
use Rattle.register.specs.State.{State, made, next_id}
use Rattle.register.specs.declared.act.Act.{Act}
use Rattle.register.specs.declared.act.Act.TheVariants as act
use Rattle.cluster.specs.Acts.{ServersAllow, begun_by}
use Rattle.cluster.specs.Cluster.{Cluster}
use Rattle.cluster.specs.Kept.{IsKeptCluster}
use Rattle.cluster.proofs.LookupLemmas.{Entry, IsAt}
use Rattle.cluster.proofs.ObjectStepLemmas.{cluster_of, call_at, move_at, quiet_at}
use Rattle.cluster.proofs.StepEffectLemmas.{read_called, write_called, move_moved, advance_quiet, again_quiet, supply_quiet}
use Rattle.cluster.proofs.StepEffectLemmas.{post_quiet, settle_quiet, answer_quiet}
use Rattle.cluster.proofs.StepEffectLemmas.{take_quiet, lose_quiet, repeat_quiet}
use Rattle.cluster.proofs.StepLimitLemmas.{act_few}

-- an act that was made has no cause of refusal
none_by : {T : Type 0} {cause : Option Refusal} (answer : T) (memory : Bool) → IsCausedBy memory cause (Ok answer) → cause ≡ None
none_by answer true none = none
none_by answer false none = none

pub act_none : {T : Type 0} {cause : Option Refusal} (answer : T) (a : Act) → IsActCause a cause (Ok answer) → cause ≡ None
act_none answer a none = none_by answer (takes_memory a) none

ok_by : {T : Type 0} {cause : Option Refusal} (answer : T) (memory : Bool) → cause ≡ None → IsCausedBy memory cause (Ok answer)
ok_by answer true none = none
ok_by answer false none = none

-- if the cause of an act allows that the act succeeds with one result, it allows success with any other result
pub act_ok : {T U : Type 0} (cause : Option Refusal) (answer : T) (other : U) (a : Act) → IsActCause a cause (Ok answer)
    → IsActCause a cause (Ok other)
act_ok cause answer other a by = ok_by other (takes_memory a) (act_none answer a by)

err_by : (T U : Type 0) (cause : Option Refusal) (r : Refusal) (memory : Bool) → IsCausedBy {T = T} memory cause (Err r)
    → IsCausedBy {T = U} memory cause (Err r)
err_by T U cause r true by = by
err_by T U cause r false by = by

-- an act that was refused, where the refusal is handed on
pub act_err : {U : Type 0} (T : Type 0) (cause : Option Refusal) (r : Refusal) (a : Act) (answer : Result U Refusal)
    → IsErrAnd answer (λ e. e ≡ r) → IsActCause {T = T} a cause (Err r) → IsActCause a cause answer
act_err {U} T cause r a answer refused by =
    let p = err_from_is_err_and answer refused in rw (p.1, p.2) (err_by T U cause r (takes_memory a) by)

-- what refuses it before it is made
some_by : (T : Type 0) {cause : Option Refusal} {r : Refusal} (memory : Bool) → cause ≡ Some r →
    IsCausedBy {T = T} memory cause (Err r)
some_by T true some = inl some
some_by T false some = some

pub act_some : (T : Type 0) {cause : Option Refusal} {r : Refusal} (a : Act) → cause ≡ Some r → IsActCause {T = T} a cause (Err r)
act_some T a some = some_by T (takes_memory a) some

-- by an equal cause
pub act_by : {T : Type 0} {cause own : Option Refusal} (answer : Result T Refusal) (a : Act) → cause ≡ own → IsActCause a own answer
    → IsActCause a cause answer
act_by answer a same by = subst (λ c. IsActCause a c answer) (sym same) by

-- no server stores more, or less
pub no_more : (servers number : ℕ) (object : Object) (a : Act) → ServersAllow servers a → (server : ℕ) →
    of.stored_by object (step_of number a) server ≡ 0
no_more servers number object (act.Serve place) ready server = absurd ready
no_more servers number object _ ready server = refl

pub no_less : (servers number : ℕ) (object : Object) (a : Act) → ServersAllow servers a → (now server : ℕ) →
    of.freed_by object (step_of number a) now server ≡ 0
no_less servers number object (act.Serve place) ready now server = absurd ready
no_less servers number object _ ready now server = refl

no_call : {cluster : Cluster} {bytes count : ℕ} → IsKeptCluster cluster bytes count → IsKeptCluster cluster bytes (count + 0)
no_call {cluster} {bytes} {count} kept = subst (λ n. IsKeptCluster cluster bytes n) (omega arith) kept

-- what the cluster keeps
module _ {servers : List Bool} {layouts : List Layout} {counter : ℕ} {entries : List Entry} {name : List ℕ}
    {place : ℕ} {old : State} where
  kept_at : {bytes count : ℕ} {new : State} → IsKeptCluster (cluster_of servers layouts entries counter) bytes count →
      IsAt entries name place old → (a : Act) → ServersAllow (length servers) a →
      new ≡ made (step_of (next_id old.object) a) (counter + 1) old → counter + 1 ≤ MOST_STEPS →
      IsKeptCluster (cluster_of servers layouts (set_value_at entries place new) (counter + 1)) bytes (count + begun_by a)
  kept_at kept at act.CallRead ready is few = call_at kept at (Step.CallRead (next_id old.object)) is few (read_called (next_id old.object))
  kept_at kept at (act.CallWrite v) ready is few =
      call_at kept at (Step.CallWrite (next_id old.object) v) is few (write_called (next_id old.object) v)
  kept_at kept at (act.CallMove l) ready is few =
      move_at kept at (next_id old.object) l is few (move_moved (next_id old.object) l) ready
  kept_at kept at (act.Advance n) ready is few = no_call (quiet_at kept at (Step.Advance (pred n)) is few (advance_quiet (pred n)))
  kept_at kept at (act.Again n) ready is few = no_call (quiet_at kept at (Step.Again (pred n)) is few (again_quiet (pred n)))
  kept_at kept at (act.Supply n coded) ready is few = no_call (quiet_at kept at (Step.Supply (pred n)) is few (supply_quiet (pred n)))
  kept_at kept at (act.Post n) ready is few = no_call (quiet_at kept at (Step.Post (pred n)) is few (post_quiet (pred n)))
  kept_at kept at (act.Settle n decoded) ready is few =
      no_call (quiet_at kept at (Step.Settle (pred n) decoded.value) is few (settle_quiet (pred n) decoded.value))
  kept_at kept at (act.Answer n) ready is few = no_call (quiet_at kept at (Step.AnswerCall (pred n)) is few (answer_quiet (pred n)))
  kept_at kept at (act.Serve p) ready is few = absurd ready
  kept_at kept at (act.Take p) ready is few = no_call (quiet_at kept at (Step.Take p) is few (take_quiet p))
  kept_at kept at (act.Lose p) ready is few = no_call (quiet_at kept at (Step.Lose p) is few (lose_quiet p))
  kept_at kept at (act.Repeat p) ready is few = no_call (quiet_at kept at (Step.Repeat p) is few (repeat_quiet p))

  pub act_at : {bytes count begun : ℕ} {new : State} → IsKeptCluster (cluster_of servers layouts entries counter) bytes count →
      IsAt entries name place old → (a : Act) → ServersAllow (length servers) a →
      new ≡ made (step_of (next_id old.object) a) (counter + 1) old → act_cause a (counter + 1) old.object ≡ None → begun ≡ begun_by a →
      IsKeptCluster (cluster_of servers layouts (set_value_at entries place new) (counter + 1)) bytes (count + begun)
  act_at {bytes} {count} {begun} {new} kept at a ready is none all =
      subst (λ n. IsKeptCluster (cluster_of servers layouts (set_value_at entries place new) (counter + 1)) bytes (count + n)) (sym all)
      (kept_at kept at a ready is (act_few (counter + 1) old.object a none))
