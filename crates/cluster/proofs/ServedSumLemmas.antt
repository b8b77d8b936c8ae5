-- What a served request makes of the running sums.
use Rattle.std.proofs.Common.{◌≡◌, ℕ, zero, suc, ◌+◌, ◌-◌, ◌*◌, ◌≤◌, ◌<◌, ◌==◌}
use Rattle.std.proofs.Common.{true, false, if◌then◌else◌, Bool, List, [], ◌∷◌, length, get_or}
use Rattle.std.proofs.Common.{slice_get, slice_set, Some, refl, sym, ap, subst, ◌∙◌, arith, add-one}
use Rattle.std.specs.List.{AllByRecursion}
use Rattle.std.proofs.lemmas.Bool.Decides.{nat_tests}
use Rattle.tag.specs.declared.limits.TheConstants.{LONGEST_VALUE, MOST_BYTES, MOST_MESSAGES, MOST_STEPS}
use Rattle.indexmap.specs.IndexMap.{set_value_at}
use Rattle.layout.specs.Layout.{Layout}
use Rattle.encoder.specs.Fragment.{fragment}
use Rattle.bank.specs.Bytes.{added_bytes}
use Rattle.bank.specs.Serve.{freed_bytes}
use Rattle.record.specs.Accounts.{stored_by, freed_by}
use Rattle.record.specs.Accounts as of
use Rattle.record.specs.Records.{Object, layout_at, bank_at, no_layout}
use Rattle.soundness.specs.Sound.{IsSound}
use Rattle.record.specs.Steps.{Step, stepped}
use Rattle.soundness.proofs.Accounting.StoredChangeLemmas.{stored-changed}
use Rattle.register.specs.Position.{all_bytes}
use Rattle.register.specs.State.{State, made}
use Rattle.soundness.proofs.ListLemmas.{all_get}
use Rattle.cluster.specs.Cluster.{Cluster}
use Rattle.cluster.specs.Kept.{HasMembersBelow, AreBanked}
use Rattle.cluster.specs.Serving.{GoesTo}
use Rattle.cluster.specs.Summed.{IsCounted}
use Rattle.cluster.proofs.LookupLemmas.{Entry, objects_of, IsAt, named_at}
use Rattle.cluster.proofs.ObjectStepLemmas.{cluster_of, serve_at}
use Rattle.cluster.proofs.RequestRoomLemmas.{HasRoom}
use Rattle.cluster.proofs.RunningSumLemmas.{loaded_at}
use Rattle.cluster.proofs.ServedBytesLemmas.{served_most, part_named, part_at}
use Rattle.cluster.proofs.ServerTotalLemmas.{sum_same, sum_added, sum_one, chosen, object_total}
use Rattle.cluster.proofs.StepEffectLemmas.{serve_served}
use Rattle.cluster.proofs.StepInvariantLemmas.{placed}
use Rattle.std.proofs.lemmas.Option.{get_or_from_slice_get}
use Rattle.std.proofs.lemmas.List.{length-set}
use Rattle.cluster.proofs.SumBoundLemmas.{stored_part}

member_below : (servers : ℕ) (layouts : List Layout) (position member server : ℕ) → AllByRecursion (HasMembersBelow servers) layouts
    → slice_get (get_or layouts position no_layout).members member ≡ Some server → server < servers
member_below servers [] position member server below is = absurd (cc)
member_below servers (l ∷ layouts) zero member server below is = all_get (λ m. m < servers) l.members member server below.0 is
member_below servers (l ∷ layouts) (suc position) member server below is = member_below servers layouts position member server below.1 is

same_suc : (a b : ℕ) → (suc a == suc b) ≡ (a == b)
same_suc a b = pick (a == b) refl
  where
    pick : (c : Bool) → (a == b) ≡ c → (suc a == suc b) ≡ c
    pick true e = grind (arith, nat_tests, e)
    pick false e = grind (arith, nat_tests, e)

-- one element in place of another
chosen_other : (b : Bool) (x y : ℕ) → b ≡ false → y ≡ (if b then x else y)
chosen_other true x y e = absurd (cc)
chosen_other false x y e = refl

load_set : (loads : List ℕ) (server x other : ℕ) → server < length loads →
    get_or (slice_set loads server x) other 0 ≡ (if server == other then x else get_or loads other 0)
load_set [] server x other there = absurd (omega (arith, there))
load_set (y ∷ loads) zero x zero there = refl
load_set (y ∷ loads) zero x (suc other) there = chosen_other (zero == suc other) x (get_or loads other 0) (grind (arith, nat_tests))
load_set (y ∷ loads) (suc server) x zero there = chosen_other (suc server == zero) x y (grind (arith, nat_tests))
load_set (y ∷ loads) (suc server) x (suc other) there =
    load_set loads server x other (omega (arith, there))
    ∙ ap (λ b. if b then x else get_or loads other 0) (sym (same_suc server other))

-- one part of what a server stores is exchanged
load_exchanged : (loads : List ℕ) (server other before after freed added : ℕ) → server < length loads →
    before ≤ get_or loads server 0 + after → after + freed ≡ before + added →
    get_or (slice_set loads server (get_or loads server 0 + after - before)) other 0 + (if server == other then freed else 0)
    ≡ get_or loads other 0 + (if server == other then added else 0)
load_exchanged loads server other before after freed added there part same =
    ap (λ n. n + (if server == other then freed else 0)) (load_set loads server (get_or loads server 0 + after - before) other there)
    ∙ pick (server == other) refl
  where
    pick : (b : Bool) → (server == other) ≡ b →
        (if b then get_or loads server 0 + after - before else get_or loads other 0) + (if b then freed else 0)
        ≡ get_or loads other 0 + (if b then added else 0)
    pick true e =
        let is : server ≡ other = grind (arith, nat_tests, e) in
        let own : get_or loads server 0 ≡ get_or loads other 0 = ap (λ n. get_or loads n 0) is in
        omega (arith, own, part, same)
    pick false e = refl

module _ {cluster : Cluster} {place : ℕ} {object : Object} (room : HasRoom cluster place object) (server : ℕ)
    (goes : GoesTo object place server) where
  -- the bytes that its bank gains, and those that it then no longer keeps
  abbrev pub added : ℕ
  added = added_bytes (bank_at object room.message.position room.message.member) room.asked

  abbrev pub freed : (now : ℕ) → ℕ
  freed now = freed_bytes (bank_at object room.message.position room.message.member) room.asked now

  pub served_there : (servers : ℕ) → AllByRecursion (HasMembersBelow servers) object.layouts → server < servers
  served_there servers below =
      member_below servers object.layouts room.message.position room.message.member server below (goes room.message room.waits)

  to_server : get_or (layout_at object room.message.position).members room.message.member 0 ≡ server
  to_server =
      get_or_from_slice_get (layout_at object room.message.position).members room.message.member server 0 (goes room.message room.waits)

  pub served_by_one : (other : ℕ) → stored_by object (Step.Serve place) other ≡ (if server == other then added else 0)
  served_by_one other = cc (room.waits, room.is, to_server)

  pub freed_by_one : (now other : ℕ) → freed_by object (Step.Serve place) now other ≡ (if server == other then freed now else 0)
  freed_by_one now other = cc (room.waits, room.is, to_server)

  -- what one server stores of it
  pub served_part : (last now other : ℕ) → IsSound fragment object last →
      of.stored (stepped fragment (Step.Serve place) now object) other + (if server == other then freed now else 0)
      ≡ of.stored object other + (if server == other then added else 0)
  served_part last now other sound =
      cc (freed_by_one now other, stored-changed fragment object last now (Step.Serve place) other sound, served_by_one other)

  -- what all banks store
  pub served_total : (servers last now : ℕ) → IsSound fragment object last → AllByRecursion (HasMembersBelow servers) object.layouts
      → AreBanked object.layouts object.banks
      → all_bytes (stepped fragment (Step.Serve place) now object).banks + freed now ≡ all_bytes object.banks + added
  served_total servers last now sound below banked =
      let later : Object = stepped fragment (Step.Serve place) now object in
      let parts = serve_served place object now in
      let before = object_total servers object.layouts object.banks below banked in
      let after = object_total servers later.layouts later.banks
      (subst (AllByRecursion (HasMembersBelow servers)) (sym parts.layouts) below) (parts.banked banked) in
      let each = sum_same (λ s. of.stored later s + (if server == s then freed now else 0))
      (λ s. of.stored object s + (if server == s then added else 0)) 0 servers (λ s. served_part last now s sound) in
      let more = sum_added (λ s. of.stored object s) (λ s. if server == s then added else 0) 0 servers in
      let less = sum_added (λ s. of.stored later s) (λ s. if server == s then freed now else 0) 0 servers in
      let there = served_there servers below in
      let one = sum_one server added 0 servers (omega arith) (omega (arith, there)) in
      let gone = sum_one server (freed now) 0 servers (omega arith) (omega (arith, there)) in
      omega (arith, before, after, each, more, less, one, gone)

module _ {servers : List Bool} {layouts : List Layout} {counter : ℕ} {entries : List Entry} {name : List ℕ} {index : ℕ}
    {old : State} {place : ℕ}
    {bytes count waiting : ℕ} {loads : List ℕ}
    (counted : IsCounted (cluster_of servers layouts entries counter) bytes count waiting loads)
    (at : IsAt entries name index old) (room : HasRoom (cluster_of servers layouts entries counter) place old.object) (server : ℕ)
    (goes : GoesTo old.object place server) (sound : IsSound fragment old.object old.last) where
  -- what the object stores before and after
  pub record Exchanges (before after : ℕ) : Type 0 where
    pub same : after + freed room server goes (suc counter) ≡ before + added room server goes
    pub within : (before ≤ bytes) × (bytes + after ≤ MOST_BYTES + before)
    pub there : server < length loads
    pub part : before ≤ get_or loads server 0 + after
    pub load : get_or loads server 0 + after ≤ 2 * MOST_BYTES

  pub served_exchanges : (new : State) → new ≡ made (Step.Serve place) (counter + 1) old → (before after : ℕ) →
      before ≡ all_bytes old.object.banks → after ≡ all_bytes new.object.banks → Exchanges before after
  served_exchanges new is before after was now =
      let own = placed name old counted.kept (named_at at) in
      let total = served_total room server goes (length servers) old.last (suc counter) sound own.1.layouts own.1.banked in
      let new_is : all_bytes new.object.banks ≡ all_bytes (stepped fragment (Step.Serve place) (suc counter) old.object).banks =
      ap (λ (s : State). all_bytes s.object.banks) (is ∙ ap (λ n. made (Step.Serve place) n old) (add-one counter)) in
      let all = counted.kept.stored in
      let fits = room.fits in
      let most = served_most room (suc counter) in
      let below = served_there room server goes (length servers) own.1.layouts in
      let lengths = counted.summed.servers in
      let load = counted.summed.stored server below in
      let loaded = stored_part counted.kept server below in
      let mine = served_part room server goes old.last (suc counter) server sound in
      let itself : (server == server) ≡ true = grind (arith, nat_tests) in
      let gone = chosen (server == server) (freed room server goes (suc counter)) itself in
      let come = chosen (server == server) (added room server goes) itself in
      let of_load = part_named (λ s. of.stored s.object server) name old (objects_of entries) (named_at at) in
      let of_all = part_at counted.kept at in
      record {
        same = omega (arith, was, now, total, new_is);
        within = (omega (arith, was, of_all), omega (arith, was, now, most, new_is, fits, all));
        there = omega (arith, below, lengths);
        part = omega (arith, load, was, now, total, new_is, mine, gone, come, of_load);
        load = omega (arith, load, loaded, was, now, most, new_is, fits, all, of_all);
      }

  -- what the cluster keeps once the request is served
  pub serve_counted : (new : State) → new ≡ made (Step.Serve place) (counter + 1) old → counter + 1 ≤ MOST_STEPS →
      (before after : ℕ) → before ≡ all_bytes old.object.banks → after ≡ all_bytes new.object.banks →
      (stored : ℕ) → stored + before ≡ bytes + after →
      (more : List ℕ) → more ≡ slice_set loads server (get_or loads server 0 + after - before) →
      (waited waits later : ℕ) → waited ≡ of.mailed old.object → waits ≡ of.mailed new.object →
      waits ≤ MOST_MESSAGES * LONGEST_VALUE → later + waited ≡ waiting + waits →
      IsCounted (cluster_of servers layouts (set_value_at entries index new) (counter + 1)) stored count later more
  serve_counted new is few before after was now stored exchanged more loaded waited waits later wait_was wait_now wait_few wait_same =
      let sums = served_exchanges new is before after was now in
      let within = sums.within.1 in
      record {
        kept = serve_at counted.kept at (Step.Serve place) is few (serve_served place)
            stored (omega (arith, was, now, exchanged)) (omega (arith, exchanged, within));
        summed = loaded_at counted.summed at sound (Step.Serve place) is waited waits later wait_was wait_now wait_few wait_same more
            (ap (λ (xs : List ℕ). length xs) loaded ∙ length-set loads server _)
            (λ other below.
            ap (λ (xs : List ℕ). get_or xs other 0 + freed_by old.object (Step.Serve place) (suc counter) other) loaded
            ∙ ap (λ n. get_or (slice_set loads server (get_or loads server 0 + after - before)) other 0 + n)
            (freed_by_one room server goes (suc counter) other)
            ∙ load_exchanged loads server other before after (freed room server goes (suc counter)) (added room server goes)
            sums.there sums.part sums.same
            ∙ ap (λ n. get_or loads other 0 + n) (sym (served_by_one room server goes other)));
      }
