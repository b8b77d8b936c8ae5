-- Reading the words that are left gives what reading all words gives, and the nodes so far are apart.
use Rattle.std.proofs.Common.{◌≡◌, [], drop}
use Rattle.cluster_file.specs.File.{AreApart}
use Rattle.cluster_file.specs.Reading.{nodes_from}
use Rattle.cluster_file.proofs.LineLemmas.{texts_of}
use Rattle.cluster_file.proofs.nodes.nodes_of.Given as goal

abbrev pub invariant-loop-word : goal.invariant-loop-word
invariant-loop-word l =
    (nodes_from l.others l.nodes.items l.line (texts_of (drop l.word-index l.words)) ≡ nodes_from l.others [] l.line (texts_of l.words))
    × AreApart l.others l.nodes.items
