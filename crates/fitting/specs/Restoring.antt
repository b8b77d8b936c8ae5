-- The contracts that docs/trusted.md lists do not depend on this file; other contracts and proofs do.
-- The laws: letters that a node writes to its log for a fit object, though none of them came to it, are fit, too.
use Rattle.std.specs.Prelude.{ℕ, IfSome}
use Rattle.std.specs.List.{AllByRecursion}
use Rattle.local_object.specs.Local.{LocalObject}
use Rattle.object_letters.specs.Letters.{letters_as}
use Rattle.object_letters.specs.Raising.{raising_letter}
use Rattle.fitting.specs.Letters.{IsFitLetter}
use Rattle.fitting.specs.Objects.{IsFitObject}

-- the letter with which a node asks itself to raise a pointer is fit, if there is one
abbrev pub RaisingLettersAreFit : Type 0
RaisingLettersAreFit = (local : LocalObject) (position : ℕ) → IsFitObject local →
    IfSome (raising_letter local position) IsFitLetter

-- the letters of a rewritten log that lead to the banks of an object are fit
abbrev pub RestoringLettersAreFit : Type 0
RestoringLettersAreFit = (node : ℕ) (local : LocalObject) → IsFitObject local →
    AllByRecursion IsFitLetter (letters_as node local)
