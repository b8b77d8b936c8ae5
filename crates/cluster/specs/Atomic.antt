-- What holds for every cluster, whatever steps made it.
use Rattle.std.specs.Prelude.{◌≡◌, ◌<◌, ◌≤◌, ◌+◌, ◌⊎◌, ℕ, List, Some, length, map, slice_get}
use Rattle.std.specs.List.{AllByRecursion, range_with_len}
use Rattle.tag.specs.declared.tag.Tag.{Tag}
use Rattle.encoder.specs.Fragment.{fragment}
use Rattle.bank.specs.Collect.{final_pieces}
use Rattle.mail.specs.Phase.{Phase}
use Rattle.atomicity.specs.Atomic.{IsAtomic}
use Rattle.record.specs.Fragments.{AreCoded, HasDropped, HasEnough, IsFetch, kind_tag}
use Rattle.atomicity.specs.Lacking.{IsLackingFetch, IsOverlapped}
use Rattle.record.specs.Journals.{entries, IsJournaled, ReadsJournaled}
use Rattle.record.specs.Records.{Call, IsRetiredBy, Object, bank_at, layout_at}
use Rattle.soundness.specs.Sound.{IsSound}
use Rattle.register.specs.Kept.{IsWithinLimits}
use Rattle.cluster.specs.Accounts as of
use Rattle.cluster.specs.Cluster.{Cluster}
use Rattle.cluster.specs.declared.cluster.accounts.Accounts.{Accounts}

-- the record of each object is sound: it is legal, its messages are true, and none of its steps is in the future
abbrev pub AreSound : Cluster → Type 0
AreSound cluster = AllByRecursion (λ o. IsSound fragment o.state.object o.state.last) cluster.objects

-- the record of each object is within the limits of `tag`
abbrev pub AreWithinLimits : Cluster → Type 0
AreWithinLimits cluster = AllByRecursion (λ o. IsWithinLimits o.state.object) cluster.objects

-- each tag in a bank, a message or a taken reply is in its object's journal, and each piece is its member's fragment of
-- the journal's value
abbrev pub AreFragments : Cluster → Type 0
AreFragments cluster = AllByRecursion (λ o. AreCoded fragment o.state.object) cluster.objects

-- the answered reads and writes of each object, with some unanswered
-- writes, follow one register in an order that keeps answer before call
abbrev pub AreAtomic : Cluster → Type 0
AreAtomic cluster = AllByRecursion (λ o. IsAtomic (entries o.state.object)) cluster.objects

-- each complete fetch has pieces of at least k distinct members, or one of its replies was made by a member that had
-- dropped the pieces of the tag
abbrev pub FetchesHaveEnough : Object → Type 0
FetchesHaveEnough object =
    (index place end : ℕ) (call : Call) (phase : Phase) → slice_get object.calls index ≡ Some call →
    slice_get call.phases place ≡ Some phase → (fetch : IsFetch phase.kind) → phase.end ≡ Some end →
    HasEnough object phase ⊎ HasDropped object phase fetch.0

-- each tag that a phase carries, in a pre-write, a finalize or a fetch, is in the journal, even if no reply has come
abbrev pub CarriesJournaled : Object → Type 0
CarriesJournaled object =
    (index place : ℕ) (call : Call) (phase : Phase) (tag : Tag) → slice_get object.calls index ≡ Some call →
    slice_get call.phases place ≡ Some phase → kind_tag phase.kind ≡ Some tag →
    (value : List ℕ) × IsJournaled object tag value

-- the journal has one value for a tag
abbrev pub HasOneValue : Object → Type 0
HasOneValue object = (tag : Tag) (v w : List ℕ) → IsJournaled object tag v → IsJournaled object tag w → v ≡ w

-- each bank of an object with delta holds at most delta + 1 pieces of finalized tags
abbrev pub KeepsFew : Object → Type 0
KeepsFew object =
    (position member delta : ℕ) → position < length object.layouts →
    member < length (layout_at object position).members → object.delta ≡ Some delta →
    final_pieces (bank_at object position member) ≤ delta + 1

-- a read's complete fetch lacks pieces only if its position was retired by its end, or at least delta + 1 writes with
-- greater tags were called before that end and not answered before the read last began
abbrev pub LacksWhereOvertaken : Object → Type 0
LacksWhereOvertaken object =
    (index place end : ℕ) (call : Call) (phase : Phase) (tag : Tag) →
    IsLackingFetch object index place call phase tag end →
    IsRetiredBy object phase.position end ⊎ IsOverlapped object call place tag end

-- each complete fetch of each object has enough pieces, or met a member that had dropped its own
abbrev pub HaveEnough : Cluster → Type 0
HaveEnough cluster = AllByRecursion (λ o. FetchesHaveEnough o.state.object) cluster.objects

-- each bank of each object with delta holds at most delta + 1 pieces of finalized tags
abbrev pub KeepFew : Cluster → Type 0
KeepFew cluster = AllByRecursion (λ o. KeepsFew o.state.object) cluster.objects

-- a read of any object lacks pieces only if its position was retired, or at least delta + 1 newer writes overlap it
abbrev pub LackWhereOvertaken : Cluster → Type 0
LackWhereOvertaken cluster = AllByRecursion (λ o. LacksWhereOvertaken o.state.object) cluster.objects

-- each answered read of each object returns the journal's value of its tag
abbrev pub AreJournaled : Cluster → Type 0
AreJournaled cluster = AllByRecursion (λ o. ReadsJournaled o.state.object) cluster.objects

-- each tag that a phase of any object carries is in that object's journal
abbrev pub CarryJournaled : Cluster → Type 0
CarryJournaled cluster = AllByRecursion (λ o. CarriesJournaled o.state.object) cluster.objects

-- the journal of each object has one value for a tag
abbrev pub HaveOneValue : Cluster → Type 0
HaveOneValue cluster = AllByRecursion (λ o. HasOneValue o.state.object) cluster.objects

-- these accounts are the sums of the pieces' bytes: in the banks of each server, in all banks, and in all messages
pub record AreSums (cluster : Cluster) (told : Accounts) : Type 0 where
  pub servers : told.servers.items ≡ map (of.server_bytes cluster) (range_with_len 0 (length cluster.servers))
  pub all : told.stored ≡ of.banks_all cluster.objects
  pub together : told.stored ≡ of.stored_all cluster
  pub mail : told.mailed ≡ of.waiting_bytes cluster
