-- Searches and counts among the members of a layout, one member after another.
use Rattle.std.proofs.Common.{◌≡◌, ℕ, ◌+◌, ◌<◌, ◌≤◌, Bool, true, false, List, ◌∷◌, length, get_or, drop, take, Option, None, Some}
use Rattle.std.proofs.Common.{cond, refl, sym, ap, ◌∙◌, arith}
use Rattle.std.specs.Prelude.{find}
use Rattle.cluster_file.specs.File.{FileContents}
use Rattle.layout.specs.Layout.{Layout}
use Rattle.node_strings.specs.declared.heard.Heard.{Heard}
use Rattle.node.specs.Moves.{first_stranger, move_fault, moves_objects, told_fault}
use Rattle.std.specs.List.{count_by}
use Rattle.std.proofs.lemmas.List.{drop_more}
use Rattle.std.proofs.lemmas.List.Sums.{count_by_more_no, count_by_more_yes}
use Rattle.std.proofs.Math.ListN.{drop_of_length-le}
use Rattle.std.proofs.Math.Seq.{take-length}

-- a member that is not searched is passed over
pub passed : (p : ℕ → Bool) (xs : List ℕ) (i x : ℕ) → i < length xs → x ≡ get_or xs i 0 → p x ≡ false →
    find p xs ≡ find p (drop i xs) → find p xs ≡ find p (drop (i + 1) xs)
passed p xs i x lt at miss so_far =
    let next : find p (x ∷ drop (i + 1) xs) ≡ find p (drop (i + 1) xs) = rw miss refl in
    so_far ∙ ap (find p) (drop_more xs i 0 lt) ∙ ap (λ y. find p (y ∷ drop (i + 1) xs)) (sym at) ∙ next

-- the first member that is searched is found
pub found : (p : ℕ → Bool) (xs : List ℕ) (i x : ℕ) → i < length xs → x ≡ get_or xs i 0 → p x ≡ true →
    find p xs ≡ find p (drop i xs) → Some x ≡ find p xs
found p xs i x lt at hit so_far =
    let here : find p (x ∷ drop (i + 1) xs) ≡ Some x = rw hit refl in
    sym (so_far ∙ ap (find p) (drop_more xs i 0 lt) ∙ ap (λ y. find p (y ∷ drop (i + 1) xs)) (sym at) ∙ here)

-- there is none among all members
pub unfound : (p : ℕ → Bool) (xs : List ℕ) (i : ℕ) → length xs ≤ i → find p xs ≡ find p (drop i xs) → None ≡ find p xs
unfound p xs i all so_far = sym (so_far ∙ ap (find p) (drop_of_length-le xs {i = i} all))

-- one more member is counted, if it is one of those
pub counted : (p : ℕ → Bool) (xs : List ℕ) (i x n m : ℕ) (b : Bool) → i < length xs → x ≡ get_or xs i 0 → b ≡ p x →
    m ≡ cond b (n + 1) n → (n ≡ count_by p (take i xs)) × (n ≤ i) →
    (m ≡ count_by p (take (i + 1) xs)) × (m ≤ i + 1)
counted p xs i x n m true lt at is more so_far = (
  more ∙ ap (λ (k : ℕ). k + 1) so_far.0 ∙ sym (count_by_more_yes p xs i 0 lt (ap p (sym at) ∙ sym is)),
  omega (arith, more, so_far.1),
)
counted p xs i x n m false lt at is more so_far = (
  more ∙ so_far.0 ∙ sym (count_by_more_no p xs i 0 lt (ap p (sym at) ∙ sym is)),
  omega (arith, more, so_far.1),
)

-- all members are counted
pub all_counted : (p : ℕ → Bool) (xs : List ℕ) (i n : ℕ) → i ≡ length xs → n ≡ count_by p (take i xs) → n ≡ count_by p xs
all_counted p xs i n all so_far =
    so_far ∙ ap (λ (k : ℕ). count_by p (take k xs)) all ∙ ap (count_by p) (take-length xs)

-- a move by the mover to nodes of the cluster has the fault of what is heard, if that is told
pub fault_of_heard : (number : ℕ) (file : FileContents) (told : Option Heard) (layout : Layout) →
    moves_objects number file ≡ true → first_stranger file layout ≡ None →
    told_fault number told layout ≡ move_fault number file told layout
fault_of_heard number file told layout mover none = rw (mover, none) refl
