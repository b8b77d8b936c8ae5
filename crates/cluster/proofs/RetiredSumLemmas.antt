-- What a retired position makes of the running sums.
use Rattle.std.proofs.Common.{◌≡◌, ◌≢◌, ℕ, suc, ◌+◌, ◌-◌, ◌*◌, ◌≤◌, ◌<◌, ◌==◌, Bool, true, false, List, [], length, map, get_or}
use Rattle.std.proofs.Common.{slice_set, None, refl, sym, ap, subst, ◌∙◌, arith, add-one}
use Rattle.std.proofs.lemmas.Bool.Decides.{nat_tests}
use Rattle.std.proofs.lemmas.List.{get_or-set_same, get_or-set_other, length-set}
use Rattle.std.proofs.lemmas.List.Sums.{sum_by-set}
use Rattle.tag.specs.declared.limits.TheConstants.{LONGEST_VALUE, MOST_BYTES, MOST_MESSAGES, MOST_STEPS}
use Rattle.indexmap.specs.IndexMap.{set_value_at}
use Rattle.layout.specs.Layout.{Layout}
use Rattle.encoder.specs.Fragment.{fragment}
use Rattle.bank.specs.Collect.{retired_bank}
use Rattle.record.specs.Accounts.{base_bytes, base_bytes_of}
use Rattle.record.specs.Accounts as of
use Rattle.record.specs.Records.{Object, base_of}
use Rattle.soundness.specs.Sound.{IsSound}
use Rattle.record.specs.Steps.{Step, stepped}
use Rattle.soundness.proofs.Accounting.StoredChangeLemmas.{stored-changed}
use Rattle.soundness.proofs.Sound.DuePositionLemmas.{base_there}
use Rattle.tag.specs.declared.refusal.Refusal.TheVariants.{NotNow}
use Rattle.register.specs.Causes.{if_step}
use Rattle.register.specs.Retiring.{is_retirable, retire_cause}
use Rattle.register.specs.Position.{banks_bytes, all_bytes}
use Rattle.register.specs.State.{State, made}
use Rattle.register.proofs.RetireLemmas.{none_stored}
use Rattle.cluster.specs.Accounts.{stored_all}
use Rattle.cluster.specs.Cluster.{Cluster}
use Rattle.cluster.specs.Kept.{IsKeptCluster}
use Rattle.cluster.specs.Summed.{IsCounted}
use Rattle.cluster.proofs.ChangedObjectLemmas.{all_named}
use Rattle.cluster.proofs.LookupLemmas.{Entry, objects_of, IsAt, named_at}
use Rattle.cluster.proofs.ObjectStepLemmas.{cluster_of, serve_at}
use Rattle.cluster.proofs.RunningSumLemmas.{loaded_at}
use Rattle.cluster.proofs.ServedBytesLemmas.{part_at, part_named}
use Rattle.cluster.proofs.ServerTotalLemmas.{objects_total}
use Rattle.cluster.proofs.StepEffectLemmas.{retire_served}
use Rattle.cluster.proofs.StepLimitLemmas.{past_step, past_unless}
use Rattle.cluster.proofs.SumBoundLemmas.{stored_part}

-- where nothing refuses it, the step is within the limit
pub past_retired : (now position : ℕ) (object : Object) → retire_cause now object position ≡ None → now ≤ MOST_STEPS
past_retired now position object none = past_step now None (past_unless (is_retirable object position) NotNow (if_step now None) none)

-- all banks store less by what the base's do
pub retired_total : (object : Object) (last now : ℕ) → IsSound fragment object last
    → all_bytes (stepped fragment Step.Retire now object).banks + base_bytes object ≡ all_bytes object.banks
retired_total object last now sound =
    let row = get_or object.banks (base_of object) [] in
    let below = base_there object sound.legal sound.shape in
    let rows = sound.shape.banks in
    let put = sum_by-set banks_bytes object.banks (base_of object) (map (λ bank. retired_bank bank now) row) []
    (omega (arith, below, rows)) in
    omega (arith, put, none_stored row now)

-- and each server by what it stores there
retired_part : (object : Object) (last now server : ℕ) → IsSound fragment object last
    → of.stored (stepped fragment Step.Retire now object) server + base_bytes_of object server ≡ of.stored object server
retired_part object last now server sound =
    omega (arith, stored-changed fragment object last now Step.Retire server sound)

-- the servers before one no longer store what the base does there, and the others store what they did
pub record IsUnloaded (first loads : List ℕ) (server : ℕ) (base : ℕ → ℕ) : Type 0 where
  pub count : length loads ≡ length first
  pub freed : (other : ℕ) → other < server → get_or loads other 0 + base other ≡ get_or first other 0
  pub others : (other : ℕ) → server ≤ other → get_or loads other 0 ≡ get_or first other 0

pub unload_next : (first loads new : List ℕ) (server bytes : ℕ) (base : ℕ → ℕ) → IsUnloaded first loads server base
    → server < length first → base server ≤ get_or first server 0 → bytes ≡ base server
    → new ≡ slice_set loads server (get_or loads server 0 + 0 - bytes) → IsUnloaded first new (server + 1) base
unload_next first loads new server bytes base before there part is written = record {
  count = ap length written ∙ length-set loads server (get_or loads server 0 + 0 - bytes) ∙ before.count;
  freed = λ other less. by_server other less (server == other) refl;
  others = λ other low. apart other (λ e. omega (arith, low, e)) ∙ before.others other (omega (arith, low));
}
  where
    within : server < length loads
    within = let count = before.count in omega (arith, there, count)

    apart : (other : ℕ) → other ≢ server → get_or new other 0 ≡ get_or loads other 0
    apart other differ = cc (written, get_or-set_other loads server other (get_or loads server 0 + 0 - bytes) 0 differ)

    here : get_or new server 0 + base server ≡ get_or first server 0
    here =
        let now : get_or new server 0 ≡ get_or loads server 0 + 0 - bytes =
        ap (λ (ls : List ℕ). get_or ls server 0) written
        ∙ get_or-set_same loads server (get_or loads server 0 + 0 - bytes) 0 within in
        let same = before.others server (omega arith) in
        omega (arith, now, same, part, is)

    by_server : (other : ℕ) → other < server + 1 → (b : Bool) → (server == other) ≡ b
        → get_or new other 0 + base other ≡ get_or first other 0
    by_server other less true e =
        let same : server ≡ other = grind (arith, nat_tests, e) in
        subst (λ n. get_or new n 0 + base n ≡ get_or first n 0) same here
    by_server other less false e =
        let below : other < server = grind (arith, nat_tests, e, less) in
        ap (λ n. n + base other) (apart other (λ e. omega (arith, below, e))) ∙ before.freed other below

module _ {servers : List Bool} {layouts : List Layout} {counter : ℕ} {entries : List Entry} {name : List ℕ} {place : ℕ} {old : State}
    {bytes count waiting : ℕ} {loads : List ℕ}
    (counted : IsCounted (cluster_of servers layouts entries counter) bytes count waiting loads)
    (at : IsAt entries name place old) (sound : IsSound fragment old.object old.last) where
  -- what the base stores at a server is a part of its load
  pub part_loaded : (server : ℕ) → server < length loads → base_bytes_of old.object server ≤ get_or loads server 0
  part_loaded server there =
      let lengths = counted.summed.servers in
      let load = counted.summed.stored server (omega (arith, there, lengths)) in
      let part = part_named (λ s. of.stored s.object server) name old (objects_of entries) (named_at at) in
      omega (arith, load, part, retired_part old.object old.last (suc counter) server sound)

  pub load_within : (server : ℕ) → server < length loads → get_or loads server 0 ≤ MOST_BYTES
  load_within server there =
      let lengths = counted.summed.servers in
      let below : server < length servers = omega (arith, there, lengths) in
      let load = counted.summed.stored server below in
      omega (arith, load, stored_part counted.kept server below, counted.kept.within)

  -- what is freed is a part of what all banks store
  pub part_freed : {freed : ℕ} → freed ≡ base_bytes old.object → freed ≤ bytes
  part_freed is =
      omega (arith, is, retired_total old.object old.last (suc counter) sound, part_at counted.kept at)

  module _ {new : State} (is : new ≡ made Step.Retire (counter + 1) old) (few : counter + 1 ≤ MOST_STEPS) {freed : ℕ}
      (freed_is : freed ≡ base_bytes old.object) where
    retire_kept : IsKeptCluster (cluster_of servers layouts (set_value_at entries place new) (counter + 1)) (bytes - freed) count
    retire_kept =
        let total = retired_total old.object old.last (suc counter) sound in
        let all = part_at counted.kept at in
        let most = counted.kept.within in
        let banks : all_bytes new.object.banks ≡ all_bytes (stepped fragment Step.Retire (suc counter) old.object).banks =
        ap (λ (s : State). all_bytes s.object.banks) (is ∙ ap (λ n. made Step.Retire n old) (add-one counter)) in
        serve_at counted.kept at Step.Retire is few (λ object now. retire_served object now) (bytes - freed)
        (omega (arith, total, all, banks, freed_is)) (omega (arith, most))

    -- what the cluster keeps, where each server stores less by what it stored at the base
    pub retire_counted : (more : List ℕ) → length more ≡ length loads → ((server : ℕ) → server < length loads
        → get_or more server 0 + base_bytes_of old.object server ≡ get_or loads server 0)
        → IsCounted (cluster_of servers layouts (set_value_at entries place new) (counter + 1)) (bytes - freed) count waiting more
    retire_counted more same_length fallen =
        let mail : of.mailed new.object ≡ of.mailed old.object = ap (λ (s : State). of.mailed s.object) is in
        let waits = all_named name (λ s. s) old (λ o. of.mailed o.state.object ≤ MOST_MESSAGES * LONGEST_VALUE) (objects_of entries)
        (named_at at) counted.summed.few in
        record {
          kept = retire_kept;
          summed = loaded_at counted.summed at sound Step.Retire is (of.mailed old.object) (of.mailed old.object) waiting refl (sym mail)
              waits.1 refl more same_length
              (λ server there.
              let lengths = counted.summed.servers in
              let less = fallen server (omega (arith, there, lengths)) in
              omega (arith, less));
        }

    -- what is told is what all servers store less
    pub freed_exactly : {now : Cluster} → cluster_of servers layouts entries counter ≡ now
        → stored_all (cluster_of servers layouts (set_value_at entries place new) (counter + 1)) + freed ≡ stored_all now
    freed_exactly view =
        let before = objects_total (length servers) counter (objects_of entries) counted.kept.objects in
        let after = objects_total (length servers) (counter + 1) (objects_of (set_value_at entries place new)) retire_kept.objects in
        let was = counted.kept.stored in
        omega (arith, before, after, was, retire_kept.stored, part_freed freed_is, ap stored_all view)
