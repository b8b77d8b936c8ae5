-- The strings of the frame so far stand behind those that were there.
use Rattle.std.proofs.Common.{◌≡◌, ◌++◌, take}
use Rattle.node_strings.proofs.writing.push_all.Given as goal

abbrev pub invariant-loop-string : goal.invariant-loop-string
invariant-loop-string l = l.strings.items ≡ l.fn.strings.items ++ take l.string-index l.frame
