-- What a node program does when it starts, and when it writes its log anew, as events of its process.
use Rattle.std.specs.Prelude.{◌≡◌, ◌⊎◌, ◌≤◌, ℕ, List, [], length, take, Option, None, Some, Ok}
use Rattle.std.specs.Io.KnownBytes.{Appends}
use Rattle.recoveries.specs.Records.{IsStarted}
use Rattle.deeds.specs.Kept.{FileOfNames}
use Rattle.node_clients.specs.Desk.{NoneWaits}
use Rattle.node_keeper.specs.Keeping.{kept_of}
use Rattle.node_log.specs.Entry.{chain_behind, first_chain}
use Rattle.node_strings.specs.Strings.{Strings}
use Rattle.node.specs.Anew.{AreAnew}
use Rattle.node.specs.Recovering.{CarriesOutEntry}
use Rattle.node.specs.Starts.{CanBeNamed, HasMoreEpochs, start_entries}
use Rattle.node.specs.declared.node.Node.{Node}
use Rattle.node_store.specs.Laws.{IsLeft}
use Rattle.node_store.specs.Outputs.{AppendsFront}
use Rattle.node_store.specs.Recovery.{HasRecovered, log_bytes}
use Rattle.node_store.specs.Rewriting.{Becomes, IsEndOf, KeepsOrBecomes}
use Rattle.node_store.specs.Steps.{IsFront}
use Rattle.node_store.specs.declared.end.LogEnd.{LogEnd}
use Rattle.processes.specs.Events.{AreAnewIf, IsNewNode}
use Rattle.processes.specs.Loops.{HaveEvents, IsBetweenRounds}
use Rattle.processes.specs.Processes.{Processes}
use Rattle.processes.specs.Runs.{AreReached}

-- a new node of this number, as `Node::new` makes it: on its connections, no command waits that may be carried out
pub record IsNewAndIdle (names : FileOfNames) (number : ℕ) (node : Node) : Type 0 where
  pub new : IsNewNode names number node
  pub idle : NoneWaits node.desk.clients []

-- the log, which kept these bytes up to this end, was written anew with these entries, if there are some, and then
-- keeps those bytes up to that end
abbrev pub IsRewrittenIf : Option (List Strings) → (old : Option (List ℕ)) → LogEnd → (new : Option (List ℕ)) → LogEnd →
    Type 0
IsRewrittenIf None old end new then = (new ≡ old) × (then ≡ end)
IsRewrittenIf (Some entries) old end new then =
    Becomes old new (Some (log_bytes first_chain entries)) × IsEndOf entries then

-- The log of this node, which kept these bytes up to the one end, was perhaps written anew, with entries that give the
-- node back. It then keeps those bytes up to the other end.
abbrev pub IsPerhapsRewritten : Node → (old : Option (List ℕ)) → LogEnd → (new : Option (List ℕ)) → LogEnd → Type 0
IsPerhapsRewritten node old end new then =
    (anew : Option (List Strings)) × AreAnewIf node anew × IsRewrittenIf anew old end new then

-- the log of this node was to be written anew, with entries that give the node back, and it is not known whether it
-- keeps these or what it kept before
abbrev pub IsHalfRewritten : Node → (old new : Option (List ℕ)) → Type 0
IsHalfRewritten node old new =
    (entries : List Strings) × AreAnew node entries
    × KeepsOrBecomes old new (Some (log_bytes first_chain entries))

-- the node was started, which changed nothing at its desk, and its log, which ended behind the one chain, got the
-- entries of the start and ends behind the other chain
pub record IsBegun (old new : Node) (chain then : ℕ) (kept keeps : Option (List ℕ)) : Type 0 where
  pub named : CanBeNamed old
  pub started : IsStarted (kept_of old.keeper) (kept_of new.keeper)
  pub desk : new.desk ≡ old.desk
  pub appended : Appends kept keeps (log_bytes chain (start_entries old))
  pub chained : then ≡ chain_behind chain (start_entries old)

-- What a start of the program is that returns, by the contracts of `Node::new`, `recover_machine`, `entries_anew`,
-- `rewrite_log`, `Node::start`, `push_entries` and `append_bytes`. These bytes were found. A new node carried out the
-- entries in them, and the file was cut where these end. The log was perhaps written anew. The node was started, and
-- the log got the entries of the start, behind which it has this chain and keeps these bytes.
pub record IsStart (names : FileOfNames) (number : ℕ) (disk : List ℕ) (node : Node) (chain : ℕ)
    (keeps : Option (List ℕ)) : Type 0 where
  pub new : Node
  pub copy : Node
  pub end : LogEnd
  pub then : LogEnd
  pub anew : Option (List Strings)
  pub kept : Option (List ℕ)
  pub is_new : IsNewAndIdle names number new
  pub recovered : HasRecovered CarriesOutEntry new copy (Some disk) (Ok end)
  pub renewed : AreAnewIf copy anew
  pub rewritten : IsRewrittenIf anew (Some (take end.length disk)) end kept then
  pub named : CanBeNamed copy
  pub started : IsStarted (kept_of copy.keeper) (kept_of node.keeper)
  pub desk : node.desk ≡ copy.desk
  pub appended : Appends kept keeps (log_bytes then.chain.state (start_entries copy))
  pub chained : chain ≡ chain_behind then.chain.state (start_entries copy)

-- What a start leaves that fails

-- how far a start of the program has come when it fails:
-- - it reads its log, which it has not changed;
-- - it cuts its log, and syncs it;
-- - it asks its node whether there is one more epoch, with which it can start;
-- - it puts a log that is written anew in the place of the old one;
-- - it starts its node;
-- - it appends the entries of the start.
pub data StartStage : Type 0 where
  Reading : StartStage
  Cutting : StartStage
  Asking : StartStage
  Exchanging : StartStage
  Starting : StartStage
  Appending : StartStage

-- in these bytes, a new node found entries up to this end, and carried them out
pub record IsReadLog (names : FileOfNames) (number : ℕ) (disk : List ℕ) (copy : Node) (end : LogEnd) : Type 0 where
  pub new : Node
  pub is_new : IsNewAndIdle names number new
  pub recovered : HasRecovered CarriesOutEntry new copy (Some disk) (Ok end)

-- A log in which these bytes were found, and which kept those, was to be cut behind so many bytes. Bytes that begin
-- with those found, and with those that were kept, begin with those that it keeps now: at least so many, or at least as
-- many as it kept before.
abbrev pub IsPartlyCut : (count : ℕ) → (disk : List ℕ) → (kept keeps : Option (List ℕ)) → Type 0
IsPartlyCut count disk kept keeps =
    (old whole : List ℕ) → kept ≡ Some old → IsFront old whole → IsFront disk whole →
    (now : List ℕ) × (keeps ≡ Some now) × IsFront now whole × ((count ≤ length now) ⊎ (length old ≤ length now))

-- the node was started, which changed nothing at its desk, and its log, which ended behind this chain, perhaps got a
-- front of the entries of the start
pub record IsPartlyBegun (old new : Node) (chain : ℕ) (kept keeps : Option (List ℕ)) : Type 0 where
  pub named : CanBeNamed old
  pub started : IsStarted (kept_of old.keeper) (kept_of new.keeper)
  pub desk : new.desk ≡ old.desk
  pub appended : AppendsFront kept keeps (log_bytes chain (start_entries old))

-- What the log keeps if a start fails that has come so far. These bytes were found in it, and those were kept when it
-- was opened. A node that carried out the entries that were found, up to an end, is there from the cut on. If it has no
-- more epoch, the start fails as it asks; so from then on, it has one.
abbrev pub IsStoppedAt : StartStage → FileOfNames → (number : ℕ) → (disk : List ℕ) → (kept keeps : Option (List ℕ)) →
    Type 0
IsStoppedAt StartStage.Reading names number disk kept keeps = keeps ≡ kept
IsStoppedAt StartStage.Cutting names number disk kept keeps = (copy : Node) × (end : LogEnd)
    × IsReadLog names number disk copy end × IsPartlyCut end.length disk kept keeps
IsStoppedAt StartStage.Asking names number disk kept keeps = (copy : Node) × (end : LogEnd)
    × IsReadLog names number disk copy end × (HasMoreEpochs copy.keeper.ids → ⊥) × (keeps ≡ Some (take end.length disk))
IsStoppedAt StartStage.Exchanging names number disk kept keeps = (copy : Node) × (end : LogEnd)
    × IsReadLog names number disk copy end × HasMoreEpochs copy.keeper.ids
    × IsHalfRewritten copy (Some (take end.length disk)) keeps
IsStoppedAt StartStage.Starting names number disk kept keeps = (copy : Node) × (end then : LogEnd)
    × IsReadLog names number disk copy end × HasMoreEpochs copy.keeper.ids
    × IsPerhapsRewritten copy (Some (take end.length disk)) end keeps then
IsStoppedAt StartStage.Appending names number disk kept keeps = (copy node : Node) × (end then : LogEnd)
    × (between : Option (List ℕ)) × IsReadLog names number disk copy end
    × IsPerhapsRewritten copy (Some (take end.length disk)) end between then
    × IsPartlyBegun copy node then.chain.state between keeps

-- what the log keeps if a start fails, however far it has come
abbrev pub IsStoppedStart : FileOfNames → (number : ℕ) → (disk : List ℕ) → (kept keeps : Option (List ℕ)) → Type 0
IsStoppedStart names number disk kept keeps =
    (stage : StartStage) × IsStoppedAt stage names number disk kept keeps

-- The laws

-- a start, at bytes that a stop may have left, is a list of events of the process, which write nothing and end between
-- two rounds
abbrev pub StartsAreEvents : Type 0
StartsAreEvents = (processes : Processes) (reached : AreReached processes) (number : ℕ) (disk : List ℕ) (node : Node)
    (chain : ℕ) (keeps : Option (List ℕ)) →
    (processes.at number).running ≡ None → IsLeft (processes.at number).log (processes.at number).synced disk →
    IsStart reached.names number disk node chain keeps →
    HaveEvents reached.names number processes
    (λ written process. (written ≡ []) × IsBetweenRounds process node chain keeps)

-- so is a rewriting of the log between two rounds
abbrev pub RewritesAreEvents : Type 0
RewritesAreEvents = (names : FileOfNames) (number : ℕ) (processes : Processes) (node : Node) (chain : ℕ)
    (kept keeps : Option (List ℕ)) (entries : List Strings) (end : LogEnd) →
    IsBetweenRounds (processes.at number) node chain kept → AreAnew node entries →
    Becomes kept keeps (Some (log_bytes first_chain entries)) → IsEndOf entries end →
    HaveEvents names number processes
    (λ written process. (written ≡ []) × IsBetweenRounds process node end.chain.state keeps)
