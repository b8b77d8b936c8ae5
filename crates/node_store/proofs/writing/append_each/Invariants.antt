-- The parts so far were appended, and no sync and no other call failed meanwhile.
use Rattle.std.proofs.Common.{◌≡◌, take}
use Rattle.std.specs.Prelude.{IsTrue}
use Rattle.std.specs.List.{flat_map}
use Rattle.std.specs.Io.KnownBytes.{Appends}
use Rattle.frames.proofs.WriteSequenceLemmas.{as_it_is}
use Rattle.node_store.specs.Logs.{Grows}
use Rattle.node_store.proofs.writing.append_each.Given as goal

abbrev pub invariant-loop-part : goal.invariant-loop-part
invariant-loop-part g l =
    Appends (g.L.Log.written l.fn.log) (g.L.Log.written l.log) (flat_map as_it_is (take l.part-index l.parts))
    × Grows (g.L.Log.kept l.fn.log) (g.L.Log.kept l.log)
    × (IsTrue (g.L.Log.sound l.fn.log) → Grows (g.L.Log.kept l.fn.log) (g.L.Log.written l.fn.log)
    → Grows (g.L.Log.kept l.log) (g.L.Log.written l.log))
    × (g.L.Log.sound l.log ≡ g.L.Log.sound l.fn.log)
    × (g.L.Log.failed l.log ≡ g.L.Log.failed l.fn.log)
