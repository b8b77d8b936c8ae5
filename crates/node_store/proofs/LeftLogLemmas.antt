-- What is read of what a stop leaves of a log.
use Rattle.std.proofs.Common.{◌≡◌, ◌≤◌, ℕ, zero, suc, [], ◌∷◌, ◌++◌, take, drop, replicate}
use Rattle.std.proofs.Common.{refl, sym, subst, ap, ◌∙◌, arith, append_assoc}
use Rattle.std.proofs.lemmas.List.{take-append-drop, take_all}
use Rattle.std.specs.List.{AllByRecursion}
use Rattle.node_log.specs.Entry.{chain_behind, first_chain}
use Rattle.node_log.specs.Reading.{IsEnd}
use Rattle.node_store.specs.Laws.{CutLogIsFront, LeftLogIsRead, LogIsReadOnce}
use Rattle.node_store.specs.Recovery.{IsWholeEntry, log_bytes}
use Rattle.node_store.proofs.GrowthLemmas.{same_rest}
use Rattle.node_store.proofs.LogBytesLemmas.{Entries, bytes_then, chain_then}

whole_first : (count : ℕ) (xs : Entries) → AllByRecursion IsWholeEntry xs → AllByRecursion IsWholeEntry (take count xs)
whole_first zero xs all = tt
whole_first (suc count) [] all = tt
whole_first (suc count) (x ∷ xs) all = (all.0, whole_first count xs all.1)

whole_rest : (count : ℕ) (xs : Entries) → AllByRecursion IsWholeEntry xs → AllByRecursion IsWholeEntry (drop count xs)
whole_rest zero xs all = all
whole_rest (suc count) [] all = tt
whole_rest (suc count) (x ∷ xs) all = whole_rest count xs all.1

whole_both : (xs ys : Entries) → AllByRecursion IsWholeEntry xs → AllByRecursion IsWholeEntry ys →
    AllByRecursion IsWholeEntry (xs ++ ys)
whole_both [] ys first second = second
whole_both (x ∷ xs) ys first second = (first.0, whole_both xs ys first.1 second)

-- so many elements behind the first ones
take_then : (first more : ℕ) (xs : Entries) → (count : ℕ) × (first ≤ count) × (take first xs ++ take more (drop first xs) ≡ take count xs)
take_then zero more xs = (more, omega arith, refl)
take_then (suc first) more [] = (suc first, omega arith, take_all more [] (omega arith))
take_then (suc first) more (x ∷ xs) =
    let rest = take_then first more xs in let le = rest.1 in (suc rest.0, omega arith, ap (λ es. x ∷ es) rest.2)

pub left_read : CutLogIsFront → LogIsReadOnce → LeftLogIsRead
left_read cut once entries read synced disk whole found left begins =
    let kept = take synced entries in
    let rest = drop synced entries in
    let chain = chain_behind first_chain kept in
    let first = log_bytes first_chain kept in
    let parts : log_bytes first_chain entries ≡ first ++ log_bytes chain rest =
    ap (log_bytes first_chain) (sym (take-append-drop synced entries)) ∙ bytes_then first_chain kept rest in
    let behind : log_bytes chain rest ≡ left.more ++ left.lost =
    same_rest first (log_bytes chain rest) (left.more ++ left.lost)
    (sym parts ∙ left.all ∙ ap (λ xs. xs ++ left.lost) left.kept ∙ append_assoc first left.more left.lost) in
    let part = cut chain rest left.more left.lost left.zeros (whole_rest synced entries whole) behind in
    let more = take part.0 rest in
    let end = part.1 in
    let all : disk ≡ log_bytes first_chain (kept ++ more) ++ end.0 =
    left.disk_is ∙ ap (λ xs. xs ++ replicate left.zeros 0) left.kept ∙ append_assoc first left.more (replicate left.zeros 0)
    ∙ ap (λ xs. first ++ xs) end.1 ∙ sym (append_assoc first (log_bytes chain more) end.0)
    ∙ ap (λ xs. xs ++ end.0) (sym (bytes_then first_chain kept more)) in
    let ends : IsEnd (chain_behind first_chain (kept ++ more)) end.0 =
    subst (λ c. IsEnd c end.0) (sym (chain_then first_chain kept more)) end.2 in
    let same = once first_chain read (kept ++ more) begins.0 end.0 found
    (whole_both kept more (whole_first synced entries whole) (whole_first part.0 rest (whole_rest synced entries whole)))
    (sym begins.1 ∙ all) begins.2.0 ends.0 in
    let count = take_then synced part.0 entries in
    (count.0, count.1, same.0 ∙ count.2)
