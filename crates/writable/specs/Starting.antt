-- The contracts that docs/trusted.md lists do not depend on this file; other contracts and proofs do.
-- The laws: what a new node keeps is fit, and stays so as the node carries out the records of its log again.
use Rattle.std.specs.Prelude.{◌≡◌, ◌<◌, ◌^◌, ◌++◌, ⊤, ℕ, List, length, None}
use Rattle.std.specs.List.{AllByRecursion}
use Rattle.cluster_file.specs.File.{FileContents, IsLawfulFile}
use Rattle.cluster_file.specs.declared.file.TheConstants.{DIGEST_LENGTH}
use Rattle.deeds.specs.Kept.{KeptNode, new_node}
use Rattle.fitting.specs.Letters.{IsFitLayout, IsFitLetter}
use Rattle.fitting.specs.Objects.{IsFitObject}
use Rattle.fitting.specs.Reading.{IsOfBytes}
use Rattle.frames.specs.Frame.{IsShort}
use Rattle.local_object.specs.Doing.{move_refusal}
use Rattle.node_keeper.specs.Keeping.{kept_of, names_of}
use Rattle.node_keeper.specs.Logging.{records_in}
use Rattle.node_keeper.specs.declared.keeper.Keeper.{Keeper}
use Rattle.node_strings.specs.Strings.{Strings}
use Rattle.recoveries.specs.Records.{LogRecord, RecoversOne}
use Rattle.writable.specs.Keepers.{AreBytes, IsFitKeeper}

-- what a new node keeps is fit, if its number and those of the nodes in its cluster file are bytes
abbrev pub NewKeepersAreFit : Type 0
NewKeepersAreFit = (keeper : Keeper) (file : FileContents) (number : ℕ) → IsLawfulFile file →
    AreBytes file.fixed.nodes → AreBytes (keeper.file.fixed.nodes ++ keeper.file.later) → number < 2 ^ 8 →
    length keeper.digest ≡ DIGEST_LENGTH → kept_of keeper ≡ new_node (names_of file) number → IsFitKeeper keeper

-- all objects of a node are fit
abbrev pub HasFitObjects : KeptNode → Type 0
HasFitObjects node = (name : List ℕ) → IsFitObject (node.objects name)

-- the parts of a record are fit: its letter or its layout is, and its numbers are within their bits
abbrev pub HasFitParts : LogRecord → Type 0
HasFitParts LogRecord.Starts = ⊤
HasFitParts (LogRecord.Serves name letter) = IsFitLetter letter
HasFitParts (LogRecord.Takes name letter) = IsFitLetter letter
HasFitParts (LogRecord.Moves name id layout) = (id < 2 ^ 64) × IsFitLayout layout
HasFitParts (LogRecord.Hears name position layout) = (position < 2 ^ 32) × IsFitLayout layout
HasFitParts (LogRecord.Closes name position) = ⊤

-- if the record is a move, its object does not refuse it
abbrev pub IsUnrefused : KeptNode → LogRecord → Type 0
IsUnrefused node (LogRecord.Moves name id layout) = move_refusal (node.objects name) id ≡ None
IsUnrefused node it = ⊤

-- what is read from an entry of bytes is a record with fit parts, if it is a record
abbrev pub ReadRecordsAreFit : Type 0
ReadRecordsAreFit = (strings : Strings) → AllByRecursion IsShort strings → AllByRecursion IsOfBytes strings →
    AllByRecursion HasFitParts (records_in strings)

-- the objects of a node stay fit as it carries out a record with fit parts again, if it is no move that is refused
abbrev pub RecoveredObjectsAreFit : Type 0
RecoveredObjectsAreFit = (old new : KeptNode) (it : LogRecord) → HasFitObjects old → HasFitParts it →
    IsUnrefused old it → RecoversOne it old new → HasFitObjects new
