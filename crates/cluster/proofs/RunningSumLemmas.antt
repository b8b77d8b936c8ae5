-- The running sums over a step of one object, and over one more object.
use Rattle.std.proofs.Common.{◌≡◌, ℕ, zero, suc, ◌+◌, ◌*◌, ◌≤◌, ◌<◌, Bool, List, []}
use Rattle.std.proofs.Common.{◌∷◌, length, get_or, Option, Some, refl, sym, ap, subst, ◌∙◌, arith, add-one}
use Rattle.std.specs.List.{AllByRecursion}
use Rattle.tag.specs.declared.limits.TheConstants.{LONGEST_VALUE, MOST_BYTES, MOST_MESSAGES, MOST_OBJECTS}
use Rattle.indexmap.specs.IndexMap.{set_value_at}
use Rattle.layout.specs.Layout.{Layout}
use Rattle.encoder.specs.Fragment.{fragment}
use Rattle.record.specs.Accounts as of
use Rattle.soundness.specs.Sound.{IsSound}
use Rattle.record.specs.Steps.{Step, opened_object}
use Rattle.soundness.proofs.Accounting.MailAfterStepLemmas.{stored-opened}
use Rattle.soundness.proofs.Accounting.StoredChangeLemmas.{stored-changed}
use Rattle.register.specs.State.{State, made}
use Rattle.soundness.proofs.ListLemmas.{all_push}
use Rattle.cluster.specs.Accounts.{object_sum}
use Rattle.cluster.specs.Cluster.{Named, Cluster, all_up, named}
use Rattle.cluster.specs.Steps.{with_step, with_object}
use Rattle.cluster.specs.Summed.{AreSummed, IsCounted, all_none}
use Rattle.cluster.proofs.ChangedObjectLemmas.{sum_changed, all_changed}
use Rattle.cluster.proofs.CreationInvariantLemmas.{sum_pushed}
use Rattle.cluster.proofs.LookupLemmas.{Entry, objects_of, IsAt, named_at}
use Rattle.cluster.proofs.ObjectStepLemmas.{cluster_of, step_at, unchanged_at}
use Rattle.cluster.proofs.ServedBytesLemmas.{part_named}

-- a sum of parts that are no more than `most` each
sum_few : (f : Named → ℕ) (most : ℕ) (objects : List Named) → AllByRecursion (λ o. f o ≤ most) objects →
    object_sum f objects ≤ length objects * most
sum_few f most [] few = omega arith
sum_few f most (o ∷ objects) few =
    let rest = sum_few f most objects few.1 in
    let first = few.0 in
    let all : (1 + length objects) * most ≡ most + length objects * most = omega arith in
    omega (arith, rest, first, all)

-- all that waits is within its limit
pub waiting_within : {cluster : Cluster} {bytes count waiting : ℕ} {loads : List ℕ} → IsCounted cluster bytes count waiting loads
    → waiting ≤ MOST_OBJECTS * (MOST_MESSAGES * LONGEST_VALUE)
waiting_within {cluster} counted =
    let all = sum_few (λ o. of.mailed o.state.object) (MOST_MESSAGES * LONGEST_VALUE) cluster.objects counted.summed.few in
    omega (arith, all, counted.summed.mailed, counted.kept.few_objects)

-- The sums over a step of the object of this name, which has these loads more
module _ (cluster : Cluster) (waiting : ℕ) (loads : List ℕ) (name : List ℕ) (step : Step) (old : State)
    (summed : AreSummed cluster waiting loads)
    (here : named cluster.objects name ≡ Some old) (sound : IsSound fragment old.object old.last) where
  abbrev new : State
  new = made step (suc cluster.counter) old

  pub step_summed : (later : ℕ) → later + of.mailed old.object ≡ waiting + of.mailed new.object →
      of.mailed new.object ≤ MOST_MESSAGES * LONGEST_VALUE → (more : List ℕ) → length more ≡ length loads → ((server : ℕ) →
      server < length cluster.servers → get_or more server 0 + of.freed_by old.object step (suc cluster.counter) server
      ≡ get_or loads server 0 + of.stored_by old.object step server) →
      AreSummed (with_step cluster name step) later more
  step_summed later same few more servers grown = record {
    mailed = let all = sum_changed name (made step (suc cluster.counter)) old (λ s. of.mailed s.object) cluster.objects here in
        omega (arith, all, summed.mailed, same);
    few = all_changed name (made step (suc cluster.counter)) old
        (λ o. of.mailed o.state.object ≤ MOST_MESSAGES * LONGEST_VALUE) cluster.objects here
        (λ n p. few) summed.few;
    servers = servers ∙ summed.servers;
    stored = λ server there.
        let all = sum_changed name (made step (suc cluster.counter)) old (λ s. of.stored s.object server) cluster.objects here in
        let own = stored-changed fragment old.object old.last (suc cluster.counter) step server sound in
        omega (arith, all, own, summed.stored server there, grown server there);
  }

module _ {servers : List Bool} {layouts : List Layout} {counter : ℕ} {entries : List Entry} {name : List ℕ}
    {place : ℕ} {old : State} where
  -- what waits for an object is part of all that waits, and has room for what waits then
  pub part_mailed : {bytes count waiting : ℕ} {loads : List ℕ} →
      IsCounted (cluster_of servers layouts entries counter) bytes count waiting loads → IsAt entries name place old →
      (before after : ℕ) → before ≡ of.mailed old.object → after ≤ MOST_MESSAGES * LONGEST_VALUE →
      (before ≤ waiting) × (waiting + after ≤ MOST_BYTES + before)
  part_mailed counted at before after is few =
      let part = part_named (λ s. of.mailed s.object) name old (objects_of entries) (named_at at) in
      let all = counted.summed.mailed in
      let within = waiting_within counted in
      (omega (arith, part, all, is), omega (arith, within, few))

  -- the sums once the step is written back
  pub loaded_at : {new : State} {waiting : ℕ} {loads : List ℕ} →
      AreSummed (cluster_of servers layouts entries counter) waiting loads → IsAt entries name place old →
      IsSound fragment old.object old.last → (step : Step) → new ≡ made step (counter + 1) old → (before after later : ℕ) →
      before ≡ of.mailed old.object → after ≡ of.mailed new.object → after ≤ MOST_MESSAGES * LONGEST_VALUE →
      later + before ≡ waiting + after → (more : List ℕ) → length more ≡ length loads → ((server : ℕ) →
      server < length servers → get_or more server 0 + of.freed_by old.object step (suc counter) server
      ≡ get_or loads server 0 + of.stored_by old.object step server) →
      AreSummed (cluster_of servers layouts (set_value_at entries place new) (counter + 1)) later more
  loaded_at {new} {waiting} {loads} summed at sound step is before after later was now few same more all grown =
      let own : of.mailed new.object ≡ of.mailed (made step (suc counter) old).object =
      ap (λ (s : State). of.mailed s.object) is ∙ ap (λ n. of.mailed (made step n old).object) (add-one counter) in
      subst (λ k. AreSummed k later more) (sym (step_at at step is))
      (step_summed (cluster_of servers layouts entries counter) waiting loads name step old summed (named_at at) sound later
      (omega (arith, same, was, now, own)) (omega (arith, few, now, own)) more all grown)

  -- where no server stores more, or less
  pub summed_at : {new : State} {waiting : ℕ} {loads : List ℕ} →
      AreSummed (cluster_of servers layouts entries counter) waiting loads → IsAt entries name place old →
      IsSound fragment old.object old.last → (step : Step) → ((server : ℕ) → of.stored_by old.object step server ≡ 0) →
      ((server : ℕ) → of.freed_by old.object step (suc counter) server ≡ 0) →
      new ≡ made step (counter + 1) old → (before after later : ℕ) → before ≡ of.mailed old.object →
      after ≡ of.mailed new.object → after ≤ MOST_MESSAGES * LONGEST_VALUE → later + before ≡ waiting + after →
      AreSummed (cluster_of servers layouts (set_value_at entries place new) (counter + 1)) later loads
  summed_at {loads = loads} summed at sound step none no_less is before after later was now few same =
      loaded_at summed at sound step is before after later was now few same loads refl
      (λ server there. let zero_more = none server in let zero_less = no_less server in omega (arith, zero_more, zero_less))

  -- where the step is refused
  pub refused_counted : {bytes count waiting : ℕ} {loads : List ℕ} {new : State}
      → IsCounted (cluster_of servers layouts entries counter) bytes count waiting loads → IsAt entries name place old → new ≡ old
      → IsCounted (cluster_of servers layouts (set_value_at entries place new) counter) bytes count waiting loads
  refused_counted {bytes} {count} {waiting} {loads} counted at is =
      subst (λ k. IsCounted k bytes count waiting loads) (sym (unchanged_at at is)) counted

-- One more object, which was just opened
pub object_summed : (cluster : Cluster) (waiting : ℕ) (loads : List ℕ) (name : List ℕ) (layout : Layout) (delta : Option ℕ) →
    AreSummed cluster waiting loads → AreSummed (with_object cluster name layout delta) waiting loads
object_summed cluster waiting loads name layout delta summed =
    let object : Named =
    record { name = name; state = record { object = opened_object layout delta (suc cluster.counter); last = suc cluster.counter } } in
    record {
      mailed = let all = sum_pushed (λ o. of.mailed o.state.object) cluster.objects object in
          let before = summed.mailed in
          let none : of.mailed object.state.object ≡ 0 = refl in
          omega (arith, all, before, none);
      few = all_push (λ o. of.mailed o.state.object ≤ MOST_MESSAGES * LONGEST_VALUE) cluster.objects object summed.few (omega arith);
      servers = summed.servers;
      stored = λ server there.
          let all = sum_pushed (λ o. of.stored o.state.object server) cluster.objects object in
          let before = summed.stored server there in
          omega (arith, all, before, stored-opened layout delta (suc cluster.counter) server);
    }

-- A cluster without objects
none_at : (count server : ℕ) → get_or (all_none count) server 0 ≡ 0
none_at (suc count) (suc server) = none_at count server
none_at _ _ = refl

none_length : (count : ℕ) → length (all_none count) ≡ length (all_up count)
none_length zero = refl
none_length (suc count) = ap suc (none_length count)

pub new_counted : {servers : List Bool} {layouts : List Layout} {entries : List Entry} {loads : List ℕ} (count : ℕ) →
    servers ≡ all_up count → layouts ≡ [] → entries ≡ [] → loads ≡ all_none count →
    IsCounted (cluster_of servers layouts entries 0) 0 0 0 loads
new_counted {servers} {layouts} {entries} {loads} count up no_layouts no_entries none =
    subst (λ (ls : List Layout). IsCounted (cluster_of servers ls entries 0) 0 0 0 loads) (sym no_layouts)
    (subst (λ (es : List Entry). IsCounted (cluster_of servers [] es 0) 0 0 0 loads) (sym no_entries) (record {
      kept = record {
        layouts = tt;
        objects = tt;
        apart = tt;
        few_objects = omega arith;
        few_steps = omega arith;
        stored = refl;
        within = omega arith;
        called = refl;
        past = omega arith;
      };
      summed = record {
        mailed = refl;
        few = tt;
        servers = ap (λ (xs : List ℕ). length xs) none ∙ none_length count ∙ sym (ap (λ (xs : List Bool). length xs) up);
        stored = λ server there. ap (λ (xs : List ℕ). get_or xs server 0) none ∙ none_at count server;
      };
    }))
