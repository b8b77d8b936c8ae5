-- The contracts that docs/trusted.md lists do not depend on this file; other contracts and proofs do.
-- The records of a node's log that is written anew.
use Rattle.std.specs.Prelude.{ℕ, List}
use Rattle.node_keeper.specs.Objects.{heard_names, objects_of}
use Rattle.recoveries.specs.Records.{LogRecord}
use Rattle.recoveries.specs.RewrittenRecords.{object_records, records_of_name, rewritten_records}
use Rattle.node_keeper.specs.Keeping.{kept_of}
use Rattle.node_keeper.specs.declared.keeper.Keeper.{Keeper}

-- the records that lead a new object to the object of this name
abbrev pub name_records : (name : List ℕ) → Keeper → List LogRecord
name_records name keeper = records_of_name keeper.ids.node name (objects_of keeper.objects name)

-- the records that lead new objects to all objects in the node's map
abbrev pub object_records_of : Keeper → List LogRecord
object_records_of keeper = object_records (kept_of keeper) (heard_names keeper.objects)

-- the records of a log that is written anew: one for each epoch of the node, and then those of its objects
abbrev pub anew_records : Keeper → List LogRecord
anew_records keeper = rewritten_records (kept_of keeper) (heard_names keeper.objects)
