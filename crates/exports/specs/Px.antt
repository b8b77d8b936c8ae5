-- The contracts that docs/trusted.md lists do not depend on this file; other contracts and proofs do.
-- Lengths on the page, in tenths of a pixel.
use Rattle.std.specs.Prelude.{ℕ, ◌/◌, ◌%◌, ◌==◌, List, ◌++◌, codes, if◌then◌else◌}
use Rattle.std.specs.Fmt.{decimal}

-- a length in pixels, with one decimal if it is not whole
abbrev pub px_text : (tenths : ℕ) → List ℕ
px_text tenths =
    if tenths % 10 == 0 then decimal (tenths / 10)
    else (decimal (tenths / 10) ++ (codes "." ++ decimal (tenths % 10)))
