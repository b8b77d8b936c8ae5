-- Nodes that are heard, and quorums of the layouts that names have before any move.
use Rattle.std.proofs.Common.{◌≡◌, ◌+◌, ◌-◌, ◌/◌, ◌≤◌, ℕ, Bool, List, [], ◌∷◌, length, take, drop, cond, refl, sym, subst}
use Rattle.std.proofs.Common.{arith}
use Rattle.std.specs.List.{count_by}
use Rattle.std.proofs.lemmas.Bool.{cond_both, leb-true}
use Rattle.std.proofs.lemmas.List.Sums.{count_by-le-length, sum_by-cons, sum_by-take-drop}
use Rattle.std.proofs.lemmas.List.{length-drop, length-take-le}
use Rattle.cluster_file.specs.Placement.{comes_before, in_order, with_node}
use Rattle.cluster_file.proofs.FirstNodesLemmas.{length-in_order}
use Rattle.node.specs.Ready.{ReadyNodesHearQuorums, first_quorum}

-- one more node in front
count_cons : (hears : ℕ → Bool) (x : ℕ) (xs : List ℕ) → count_by hears (x ∷ xs) ≡ cond (hears x) 1 0 + count_by hears xs
count_cons hears x xs = sum_by-cons (λ y. cond (hears y) 1 0) x xs

-- one more node at its place is counted as in front
count_with_node : (hears : ℕ → Bool) (name : List ℕ) (node : ℕ) (xs : List ℕ) →
    count_by hears (with_node name node xs) ≡ cond (hears node) 1 0 + count_by hears xs
count_with_node hears name node [] = count_cons hears node []
count_with_node hears name node (x ∷ xs) =
    cond_both (comes_before name node x) (node ∷ x ∷ xs) (x ∷ with_node name node xs)
    (λ zs. count_by hears zs ≡ cond (hears node) 1 0 + count_by hears (x ∷ xs))
    (λ _. count_cons hears node (x ∷ xs))
    (λ _. omega (arith, count_cons hears x (with_node name node xs), count_cons hears x xs, count_with_node hears name node xs))

-- the order of the nodes does not matter for how many are heard
count_in_order : (hears : ℕ → Bool) (name xs : List ℕ) → count_by hears (in_order name xs) ≡ count_by hears xs
count_in_order hears name [] = refl
count_in_order hears name (x ∷ xs) =
    omega (arith, count_with_node hears name x (in_order name xs), count_in_order hears name xs, count_cons hears x xs)

-- a node that is ready hears a quorum of the first layout of each name
pub ready_hears : ReadyNodesHearQuorums
ready_hears fixed hears name lawful ready =
    let xs = in_order name fixed.nodes in
    let n = fixed.n in
    let many : length xs ≡ length fixed.nodes = length-in_order name fixed.nodes in
    let all : count_by hears xs ≡ count_by hears fixed.nodes = count_in_order hears name fixed.nodes in
    let split = sum_by-take-drop (λ x. cond (hears x) 1 0) xs n in
    let behind : count_by hears (drop n xs) ≤ length (drop n xs) = count_by-le-length hears (drop n xs) in
    let left : length (drop n xs) ≡ length xs - n = length-drop n xs in
    let front : length (take n xs) ≡ n = length-take-le n xs (omega (arith, lawful.available, many)) in
    let enough : length fixed.nodes + first_quorum fixed ≤ count_by hears fixed.nodes + n = leb-true _ _ ready in
    subst (λ m. (m + fixed.k + 1) / 2 ≤ count_by hears (take n xs)) (sym front)
    (omega (arith, enough, split, behind, left, many, all, lawful.available))
