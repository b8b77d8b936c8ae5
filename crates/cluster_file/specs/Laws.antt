-- The contracts that docs/trusted.md lists do not depend on this file; other contracts and proofs do.
-- What holds for every file.
use Rattle.std.specs.Prelude.{◌≡◌, ℕ, List}
use Rattle.layout.specs.Layout.{IsLawful as IsLawfulLayout}
use Rattle.cluster_file.specs.Placement.{placed}
use Rattle.cluster_file.specs.File.{Fixed, FileContents, IsLawfulFile, placement_of}
use Rattle.cluster_file.specs.Written.{IsDelta}
use Rattle.cluster_file.specs.Digest.{hashed_fixed}

-- if the same bytes are hashed for two files, their fixed settings are the same
abbrev pub HashedBytesDiffer : Type 0
HashedBytesDiffer = (a b : Fixed) → IsDelta a.delta → IsDelta b.delta → hashed_fixed a ≡ hashed_fixed b → a ≡ b

-- the nodes of a lawful file give each name a lawful layout
abbrev pub PlacedLayoutsAreLawful : Type 0
PlacedLayoutsAreLawful =
    (file : FileContents) (name : List ℕ) → IsLawfulFile file → IsLawfulLayout (placed (placement_of file.fixed) name)
