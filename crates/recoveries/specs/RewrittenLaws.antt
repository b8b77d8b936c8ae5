-- The contracts that docs/trusted.md lists do not depend on this file; other contracts and proofs do.
-- The laws: a log that is written anew records what the node keeps, and all objects of a node are its own.
use Rattle.std.specs.Prelude.{ℕ, List}
use Rattle.std.specs.List.{AllByRecursion}
use Rattle.encoder.specs.Fragment.{fragment}
use Rattle.layout.specs.Layout.{IsLawful}
use Rattle.deeds.specs.Deeds.{Notice}
use Rattle.deeds.specs.Handled.{IsHandled}
use Rattle.deeds.specs.Kept.{FileOfNames, KeptNode, new_node}
use Rattle.deeds.specs.Named.{NamedLetter}
use Rattle.object_letters.specs.Rebuildable.{HasLawfulLayouts}
use Rattle.recoveries.specs.Copies.{IsRecorded}
use Rattle.recoveries.specs.Records.{IsSame, IsStarted, LogRecord, Recovers}
use Rattle.recoveries.specs.RewrittenRecords.{rewritten_records}
use Rattle.recoveries.specs.RewritingNodes.{AreHeardNames, CanBeWrittenAnew, HasDistinctCalls, HasOwnObjects}

-- the records of a log written anew record what the node keeps
abbrev pub RewrittenLogsRecord : Type 0
RewrittenLogsRecord = (node : KeptNode) (names : List (List ℕ)) → AreHeardNames node names → CanBeWrittenAnew node →
    HasOwnObjects node → HasDistinctCalls node →
    IsRecorded (new_node node.file node.ids.node) (rewritten_records node names) node

-- all objects of a new node are its own, where its cluster file gives lawful layouts
abbrev pub NewNodesHaveOwn : Type 0
NewNodesHaveOwn = (file : FileOfNames) (number : ℕ) → ((name : List ℕ) → IsLawful (file.first name)) →
    HasOwnObjects (new_node file number)

-- the layouts in a letter with a name are lawful
abbrev pub IsLawfulLetter : NamedLetter → Type 0
IsLawfulLetter it = HasLawfulLayouts it.letter

-- if all objects of a node are its own, they still are after it handles letters with lawful layouts
abbrev pub HandlingKeepsOwn : Type 0
HandlingKeepsOwn = (old new : KeptNode) (got sent : List NamedLetter) (notices : List Notice) →
    AllByRecursion IsLawfulLetter got → IsHandled fragment old got new sent notices → HasOwnObjects old →
    HasOwnObjects new

-- the layouts in the letter of a record are lawful, if it has one
abbrev pub HasLawfulLetter : LogRecord → Type 0
HasLawfulLetter (LogRecord.Serves name letter) = HasLawfulLayouts letter
HasLawfulLetter (LogRecord.Takes name letter) = HasLawfulLayouts letter
HasLawfulLetter it = Unit {0}

-- if all objects of a node are its own, they still are after it carries out records with lawful layouts again
abbrev pub RecoveringKeepsOwn : Type 0
RecoveringKeepsOwn = (old new : KeptNode) (records : List LogRecord) → AllByRecursion HasLawfulLetter records →
    Recovers records old new → HasOwnObjects old → HasOwnObjects new

-- if all objects of a node are its own, they still are if nothing happens to them, and after an epoch begins
abbrev pub StartsKeepOwn : Type 0
StartsKeepOwn = (old new : KeptNode) → HasOwnObjects old →
    (IsSame old new → HasOwnObjects new) × (IsStarted old new → HasOwnObjects new)
