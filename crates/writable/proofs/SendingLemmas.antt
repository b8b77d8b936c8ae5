-- The requests of a call are fit, also those to all nodes.
use Rattle.std.proofs.Common.{◌++◌, ℕ, Bool, true, false, cond, List, [], ◌∷◌, Option, Some, None}
use Rattle.std.specs.List.{AllByRecursion}
use Rattle.std.specs.Prelude.{IfSome}
use Rattle.cluster_file.specs.File.{FileContents}
use Rattle.fitting.specs.Letters.{IsFitLetter}
use Rattle.letter.specs.declared.letter.Letter.{Letter}
use Rattle.node_keeper.specs.Resending.{first_for_all, if_next, sendings_of, to_all}
use Rattle.node_keeper.specs.Sendings.{asked, asks_next}
use Rattle.node_keeper.specs.declared.keeper.Keeper.{Keeper}
use Rattle.open_calls.proofs.ListLemmas.{all_append}
use Rattle.writable.specs.Keepers.{AreBytes, IsFitKeeper, IsShortName}
use Rattle.writable.proofs.SendableLemmas.{IsFitSending, asked_fit, others_fit}

next_fit : (letter : Letter) → IsFitLetter letter → IfSome (if_next letter) IsFitLetter
next_fit letter fit = go (asks_next letter.message.body)
  where
    go : (b : Bool) → IfSome (cond b (Some letter) None) IsFitLetter
    go true = fit
    go false = tt

first_fit : (asks_all : Bool) (letters : List Letter) → AllByRecursion IsFitLetter letters →
    IfSome (first_for_all asks_all letters) IsFitLetter
first_fit false letters all = tt
first_fit true [] all = tt
first_fit true (letter ∷ letters) all = next_fit letter all.0

nodes_fit : (number : ℕ) (file : FileContents) (name : List ℕ) → AreBytes (file.fixed.nodes ++ file.later) → IsShortName name →
    (o : Option Letter) → IfSome o IsFitLetter → AllByRecursion IsFitSending (to_all number file name o)
nodes_fit number file name bytes short None fit = tt
nodes_fit number file name bytes short (Some letter) fit =
    others_fit number (record { name = name; letter = letter }) (record { name = short; letter = fit })
    (file.fixed.nodes ++ file.later) bytes

-- the requests of a call, and the first of them to all nodes, if they are to be asked
pub sendings_fit : (keeper : Keeper) (asks_all : Bool) (name : List ℕ) → IsFitKeeper keeper → IsShortName name → (letters : List Letter) →
    AllByRecursion IsFitLetter letters →
    AllByRecursion IsFitSending (sendings_of asks_all keeper.ids.node keeper.file name letters)
sendings_fit keeper asks_all name fit short letters all =
    let number = keeper.ids.node in
    all_append IsFitSending (asked number name letters) (to_all number keeper.file name (first_for_all asks_all letters))
    (asked_fit number name fit.node short letters all)
    (nodes_fit number keeper.file name fit.nodes short (first_for_all asks_all letters) (first_fit asks_all letters all))
