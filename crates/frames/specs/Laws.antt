-- The contracts that docs/trusted.md lists do not depend on this file; other contracts and proofs do.
-- What is written is read back, and nothing else is read.
use Rattle.std.specs.Prelude.{◌≡◌, ◌++◌, ℕ, List, [], Some, Ok, Err}
use Rattle.frames.specs.declared.error.Fault.TheVariants.{UnexpectedEnd}
use Rattle.frames.specs.Frame.{IsFrame, frame_bytes}
use Rattle.frames.specs.Reading.{frame_at}

-- a frame that was written is read back, and exactly what comes after it is left
abbrev pub WrittenIsRead : Type 0
WrittenIsRead = (strings : List (List ℕ)) (rest : List ℕ) → IsFrame strings
    → frame_at (frame_bytes strings ++ rest) ≡ Ok (Some strings, rest)

-- what is read as a frame is one, and was there as it is written
abbrev pub ReadWasWritten : Type 0
ReadWasWritten = (bytes : List ℕ) (strings : List (List ℕ)) (rest : List ℕ) → frame_at bytes ≡ Ok (Some strings, rest)
    → IsFrame strings × (bytes ≡ frame_bytes strings ++ rest)

-- if two frames begin the same bytes, they are the same frame, and the same bytes are left after both
abbrev pub BeginsOneFrame : Type 0
BeginsOneFrame = (f g : List (List ℕ)) (x y : List ℕ) → IsFrame f → IsFrame g
    → frame_bytes f ++ x ≡ frame_bytes g ++ y → (f ≡ g) × (x ≡ y)

-- if the bytes of a frame are cut, and some are left, they are read as bytes that end within a frame
abbrev pub CutEndsEarly : Type 0
CutEndsEarly = (strings : List (List ℕ)) (front back : List ℕ) → IsFrame strings → frame_bytes strings ≡ front ++ back
    → (front ≡ [] → ⊥) → (back ≡ [] → ⊥) → frame_at front ≡ Err (UnexpectedEnd, [])
