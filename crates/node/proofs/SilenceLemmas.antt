-- The silences of nodes, one after another.
use Rattle.std.proofs.Common.{◌≡◌, ◌<◌, ◌+◌, ℕ, List, [], ◌∷◌, ◌++◌, length, take, drop, set, get_or, Option, None, refl, sym, ap, ◌∙◌}
use Rattle.std.proofs.Common.{arith, append_assoc}
use Rattle.std.proofs.lemmas.List.{drop_more, get_or_at, length-take, set_at, take_more}
use Rattle.node_strings.specs.Heard.{has_heard}
use Rattle.node_strings.specs.declared.heard.Heard.{Heard}
use Rattle.node.specs.Peers.{silence_after, silences_after}

-- the silences of some nodes and of those behind them
behind : (heard : Heard) (node : ℕ) (xs ys : List (Option ℕ)) →
    silences_after heard node (xs ++ ys) ≡ silences_after heard node xs ++ silences_after heard (node + length xs) ys
behind heard node [] ys = ap (λ n. silences_after heard n ys) (omega arith)
behind heard node (x ∷ xs) ys =
    let next : node + 1 + length xs ≡ node + length (x ∷ xs) = omega arith in
    ap (λ zs. silence_after (has_heard heard node) x ∷ zs)
    (behind heard (node + 1) xs ys ∙ ap (λ n. silences_after heard (node + 1) xs ++ silences_after heard n ys) next)

-- there are as many as before
long : (heard : Heard) (node : ℕ) (xs : List (Option ℕ)) → length (silences_after heard node xs) ≡ length xs
long heard node [] = refl
long heard node (x ∷ xs) = let more = long heard (node + 1) xs in omega arith

-- one more node was counted
pub one_more_counted : (heard : Heard) (xs ys : List (Option ℕ)) (i : ℕ) (x : Option ℕ) → i < length xs →
    ys ≡ silences_after heard 0 (take i xs) ++ drop i xs → x ≡ get_or ys i None →
    set ys i (silence_after (has_heard heard i) x) ≡ silences_after heard 0 (take (i + 1) xs) ++ drop (i + 1) xs
one_more_counted heard xs ys i x lt so_far is =
    let front = silences_after heard 0 (take i xs) in
    let old = get_or xs i None in
    let f : Option ℕ → Option ℕ = silence_after (has_heard heard i) in
    let taken : 0 + length (take i xs) ≡ i = omega (arith, length-take i xs) in
    let far : length front ≡ i = let same = long heard 0 (take i xs) in omega arith in
    let parts : ys ≡ front ++ old ∷ drop (i + 1) xs = so_far ∙ ap (λ l. front ++ l) (drop_more xs i None lt) in
    let read : x ≡ old = is ∙ ap (λ l. get_or l i None) parts ∙ get_or_at front _ _ None i far in
    let step : silences_after heard 0 (take (i + 1) xs) ≡ front ++ f old ∷ [] =
    ap (silences_after heard 0) (take_more xs i None lt) ∙ behind heard 0 (take i xs) (old ∷ [])
    ∙ ap (λ n. front ++ silences_after heard n (old ∷ [])) taken in
    ap (λ l. set l i (f x)) parts ∙ set_at front _ _ (f x) i far ∙ sym (append_assoc front (f x ∷ []) _)
    ∙ ap (λ l. l ++ drop (i + 1) xs) (ap (λ y. front ++ f y ∷ []) read ∙ sym step)
