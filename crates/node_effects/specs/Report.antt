-- The contracts that docs/trusted.md lists do not depend on this file; other contracts and proofs do.
-- The text of what an operator should know.
use Rattle.std.specs.Prelude.{ℕ, List, [], ◌∷◌, codes}
use Rattle.std.specs.Fmt.{decimal}
use Rattle.std.specs.List.{concat}
use Rattle.words.specs.Hexadecimal.{hexadecimal_text}
use Rattle.node_effects.specs.declared.report.Report.{Report}

-- the text that tells of a node with another cluster file
abbrev pub report_text : Report → List ℕ
report_text report = concat (
    codes "node " ∷ decimal report.node ∷ codes " has another cluster file: the digest of that file is "
    ∷ hexadecimal_text report.digest ∷ codes ", and that of this node's file is " ∷ hexadecimal_text report.own
    ∷ codes "; its messages are dropped" ∷ [])
