-- The contracts that docs/trusted.md lists do not depend on this file; other contracts and proofs do.
-- The accounts of a cluster, added up again from its banks and mail.
use Rattle.std.specs.Prelude.{◌≡◌, ℕ, ◌+◌, ◌<◌, ◌==◌, if◌then◌else◌, length, Option, Some, None}
use Rattle.std.specs.Prelude.{slice_get, codes}
use Rattle.bank.specs.Bank.{Bank}
use Rattle.bank.specs.Bytes.{bank_bytes}
use Rattle.record.specs.Accounts as of
use Rattle.record.specs.Accounts.{member_sum}
use Rattle.record.specs.Records.{Object, layout_at}
use Rattle.register.specs.State.{State}
use Rattle.register.specs.View.{bank_there}
use Rattle.cluster.specs.Accounts as all
use Rattle.cluster.specs.Causes.{object_cause}
use Rattle.cluster.specs.Cluster.{Cluster, named}
use Rattle.tag.specs.declared.refusal.Refusal.{Refusal}

-- how many bytes a bank stores if its member is this server, and 0 if it is not or there is no bank
abbrev pub bytes_if : (server : ℕ) → (member : Option ℕ) → Option Bank → ℕ
bytes_if server None bank = 0
bytes_if server (Some member) None = 0
bytes_if server (Some member) (Some bank) = if member == server then bank_bytes bank else 0

-- how many bytes this server stores in the bank of this member of this position
abbrev pub bank_bytes_at : Object → (server position member : ℕ) → ℕ
bank_bytes_at object server position member =
    bytes_if server (slice_get (layout_at object position).members member) (bank_there object position member)

-- the number that is read from an object; 0 if there is no object
abbrev pub of_object : Option State → (Object → ℕ) → ℕ
of_object None read = 0
of_object (Some state) read = read state.object

-- the sum of what is read from the objects `a` and `b`
abbrev pub of_both : Cluster → (Object → ℕ) → ℕ
of_both cluster read =
    of_object (named cluster.objects (codes "a")) read + of_object (named cluster.objects (codes "b")) read

-- each account equals the sum over the banks or the mail of the objects `a` and `b`
pub record AreAccounted (cluster : Cluster) : Type 0 where
  pub servers : (server : ℕ) → server < length cluster.servers
      → all.server_bytes cluster server ≡ of_both cluster (λ o. of.stored o server)
  pub together : all.stored_all cluster ≡ member_sum (λ server. of_both cluster (λ o. of.stored o server)) 0
      (length cluster.servers)
  pub mailed : all.waiting_bytes cluster ≡ of_both cluster of.mailed

-- each account equals the sum over the banks or the mail of these two objects
abbrev pub AreAdded : Cluster → (one other : Object) → Type 0
AreAdded cluster one other =
    ((server : ℕ) → server < length cluster.servers
    → all.server_bytes cluster server ≡ of.stored one server + of.stored other server)
    × (all.stored_all cluster ≡ member_sum (λ s. of.stored one s + of.stored other s) 0 (length cluster.servers))
    × (all.waiting_bytes cluster ≡ of.mailed one + of.mailed other)

-- `NoObject` if no object has the name `a`, or none has the name `b`
abbrev pub missing_cause : Cluster → Option Refusal
missing_cause cluster = object_cause cluster (codes "a") (λ _. object_cause cluster (codes "b") (λ _. None))
