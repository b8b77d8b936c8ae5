-- How many bytes a served request adds to what all banks store.
use Rattle.std.proofs.Common.{◌≡◌, ℕ, zero, suc, ◌+◌, ◌≤◌, Bool, true, false, if◌then◌else◌, List, []}
use Rattle.std.proofs.Common.{◌∷◌, get_or, slice_set, Option, Some, bytes_eq, sum_by, sym, ap, subst, ◌∙◌, arith}
use Rattle.std.proofs.lemmas.List.Sums.{sum_by-cons}
use Rattle.layout.specs.Layout.{Layout}
use Rattle.encoder.specs.Fragment.{fragment}
use Rattle.bank.specs.Bytes.{bank_bytes}
use Rattle.bank.specs.Serve.{served_bank}
use Rattle.mail.specs.declared.message.Message.{Message}
use Rattle.mail.specs.Message.{request_bytes}
use Rattle.record.specs.Records.{Object, bank_at, no_bank}
use Rattle.record.specs.Steps.{Step, stepped, on_message, served_by}
use Rattle.register.specs.Position.{banks_bytes, all_bytes}
use Rattle.register.specs.State.{State}
use Rattle.register.proofs.ListLemmas.{same_some}
use Rattle.register.proofs.ServeRequestLemmas.{served_few}
use Rattle.cluster.specs.Accounts.{object_sum}
use Rattle.cluster.specs.Cluster.{Named, Cluster, named}
use Rattle.cluster.specs.Kept.{IsKeptCluster}
use Rattle.cluster.proofs.LookupLemmas.{Entry, objects_of, IsAt, named_at}
use Rattle.cluster.proofs.ObjectStepLemmas.{cluster_of}
use Rattle.cluster.proofs.RequestRoomLemmas.{HasRoom}

-- a sum with one element put in place of another
sum_most : {X : Type 0} (f : X → ℕ) (xs : List X) (i : ℕ) (y d : X) (n : ℕ) → f y ≤ f (get_or xs i d) + n →
    sum_by f (slice_set xs i y) ≤ sum_by f xs + n
sum_most f [] i y d n more = omega arith
sum_most f (x ∷ xs) zero y d n more = omega (arith, more, sum_by-cons f y xs, sum_by-cons f x xs)
sum_most f (x ∷ xs) (suc i) y d n more =
    omega (arith, sum_most f xs i y d n more, sum_by-cons f x (slice_set xs i y), sum_by-cons f x xs)

-- all banks store no more than before with the piece that the request brings
pub served_most : {cluster : Cluster} {place : ℕ} {object : Object} → (room : HasRoom cluster place object) → (now : ℕ)
    → all_bytes (stepped fragment (Step.Serve place) now object).banks ≤ all_bytes object.banks + request_bytes room.asked
served_most {cluster} {place} {object} room now =
    let m = room.message in
    let asked = room.asked in
    let bank = bank_at object m.position m.member in
    let is : stepped fragment (Step.Serve place) now object ≡ served_by object place m m.body now =
    ap (λ (found : Option Message). on_message object found (λ message. served_by object place message message.body now)) room.waits in
    let inner = sum_most bank_bytes (get_or object.banks m.position []) m.member (served_bank bank asked now) no_bank (request_bytes asked)
    (served_few bank asked now) in
    let outer = sum_most banks_bytes object.banks m.position
    (slice_set (get_or object.banks m.position []) m.member (served_bank bank asked now)) [] (request_bytes asked) inner in
    subst (λ (o : Object). all_bytes o.banks ≤ all_bytes object.banks + request_bytes asked)
    (sym (is ∙ ap (λ b. served_by object place m b now) room.is)) outer

-- one object is part of the sum
pub part_named : (g : State → ℕ) (name : List ℕ) (old : State) (objects : List Named) → named objects name ≡ Some old
    → g old ≤ object_sum (λ o. g o.state) objects
part_named g name old [] here = absurd (cc)
part_named g name old (o ∷ os) here = pick (bytes_eq name o.name) (λ h. part_named g name old os h) here
  where
    pick : (b : Bool) → (named os name ≡ Some old → g old ≤ object_sum (λ o. g o.state) os) →
        (if b then Some o.state else named os name) ≡ Some old → g old ≤ g o.state + object_sum (λ o. g o.state) os
    pick true later here = let same : g o.state ≡ g old = ap g (same_some o.state old here) in omega (arith, same)
    pick false later here = let rest = later here in omega (arith, rest)

pub part_at : {servers : List Bool} {layouts : List Layout} {counter : ℕ} {entries : List Entry} {name : List
    ℕ} {place : ℕ} {old : State} {bytes count : ℕ} → IsKeptCluster (cluster_of servers layouts entries counter) bytes count →
    IsAt entries name place old → all_bytes old.object.banks ≤ bytes
part_at {entries = entries} {name = name} {old = old} kept at =
    let part = part_named (λ s. all_bytes s.object.banks) name old (objects_of entries) (named_at at) in
    omega (arith, part, kept.stored)
