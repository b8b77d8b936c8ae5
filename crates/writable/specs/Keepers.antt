-- The contracts that docs/trusted.md lists do not depend on this file; other contracts and proofs do.
-- What a node keeps if it can write all letters and records that it has to.
use Rattle.std.specs.Prelude.{◌≡◌, ◌<◌, ◌≤◌, ◌^◌, ◌++◌, ℕ, List, length}
use Rattle.std.specs.List.{AllByRecursion}
use Rattle.cluster_file.specs.declared.file.TheConstants.{DIGEST_LENGTH}
use Rattle.deeds.specs.CallId.{HasRanges}
use Rattle.fitting.specs.Letters.{IsFitLetter}
use Rattle.fitting.specs.Objects.{IsFitObject}
use Rattle.letter.specs.declared.letter.NamedLetter.{NamedLetter}
use Rattle.node_effects.specs.declared.work.Work.{Work}
use Rattle.node_keeper.specs.Objects.{objects_of}
use Rattle.node_keeper.specs.declared.keeper.Keeper.{Keeper}
use Rattle.tag.specs.declared.limits.TheConstants.{LONGEST_NAME}

-- a name is not too long
abbrev pub IsShortName : List ℕ → Type 0
IsShortName name = length name ≤ LONGEST_NAME

-- a letter with the name of its object is one that a message can carry
pub record IsFitNamed (it : NamedLetter) : Type 0 where
  pub name : IsShortName it.name
  pub letter : IsFitLetter it.letter

-- each of these numbers of nodes is a byte
abbrev pub AreBytes : List ℕ → Type 0
AreBytes nodes = AllByRecursion (λ node. node < 2 ^ 8) nodes

-- what a node keeps is fit: the node's number and those of the nodes in its cluster file are bytes, its ids are within
-- their ranges, the digest of its cluster file has the length of one, and each object is fit
pub record IsFitKeeper (keeper : Keeper) : Type 0 where
  pub node : keeper.ids.node < 2 ^ 8
  pub nodes : AreBytes (keeper.file.fixed.nodes ++ keeper.file.later)
  pub ids : HasRanges keeper.ids
  pub digest : length keeper.digest ≡ DIGEST_LENGTH
  pub objects : (name : List ℕ) → IsFitObject (objects_of keeper.objects name)

-- the letters of a node to itself that wait in its work are such that a message can carry them
abbrev pub HasFitOwn : Work → Type 0
HasFitOwn work = AllByRecursion IsFitNamed work.own.items

-- what the node keeps now is fit, and so are the letters to itself that wait, if they were so before
pub record IsLeftFit (before : Work) (now : Keeper) (after : Work) : Type 0 where
  pub keeper : IsFitKeeper now
  pub own : HasFitOwn before → HasFitOwn after
