-- The contracts that docs/trusted.md lists do not depend on this file; other contracts and proofs do.
-- The line that tells how far a soak has come.
use Rattle.std.specs.Prelude.{ℕ, List, ◌++◌, codes}
use Rattle.std.specs.Fmt.{decimal}
use Rattle.soak_plan.specs.declared.progress.Progress.{Progress}

-- a word, and how many of how many are done
abbrev pub part : (word : List ℕ) (count all : ℕ) → List ℕ
part word count all = word ++ decimal count ++ codes " of " ++ decimal all ++ codes ", "

-- the line: the calls, the moves and the seconds
abbrev pub progress_text : Progress → List ℕ
progress_text p = part (codes "calls ") p.calls p.all_calls ++ part (codes "moves ") p.moves p.all_moves
    ++ decimal p.seconds ++ codes " s"
