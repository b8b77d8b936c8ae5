-- The lines so far and those of the texts that are left are all lines.
use Rattle.std.proofs.Common.{◌≡◌, ◌+◌, ◌++◌, map, drop}
use Rattle.cluster_file.specs.Gives.{seen}
use Rattle.cluster_file.specs.Lines.{lines_from}
use Rattle.cluster_file.proofs.LineLemmas.{texts_of}
use Rattle.cluster_file.proofs.lines.lines_of.Given as goal

abbrev pub invariant-loop-index : goal.invariant-loop-index
invariant-loop-index l =
    map seen l.lines.items ++ lines_from (l.index + 1) (texts_of (drop l.index l.texts)) ≡ lines_from 1 (texts_of l.texts)
