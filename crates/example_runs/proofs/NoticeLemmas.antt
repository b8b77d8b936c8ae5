-- What clients see of the notices of a frame: first the calls that begin, and then the answers.
use Rattle.std.proofs.Common.{◌≡◌, Bool, true, false, cond, List, [], ◌∷◌, ◌++◌, map}
use Rattle.std.proofs.Common.{refl, sym, ap, ◌∙◌, append_assoc}
use Rattle.std.proofs.lemmas.List.{map-append}
use Rattle.std.specs.List.{filter}
use Rattle.deeds.specs.Deeds.{Notice as Seen}
use Rattle.node_effects.specs.Seen.{all_seen, seen_of}
use Rattle.node_effects.specs.declared.notice.Notice.{Notice}
use Rattle.processes.specs.Events.{is_begun, is_told}
use Rattle.example_runs.specs.Members.{seen_among}

filter_then : (p : Seen → Bool) (xs ys : List Seen) → filter p (xs ++ ys) ≡ filter p xs ++ filter p ys
filter_then p [] ys = refl
filter_then p (x ∷ xs) ys = go (p x) (filter_then p xs ys)
  where
    go : (b : Bool) → filter p (xs ++ ys) ≡ filter p xs ++ filter p ys →
        cond b (x ∷ filter p (xs ++ ys)) (filter p (xs ++ ys)) ≡ cond b (x ∷ filter p xs) (filter p xs) ++ filter p ys
    go true same = ap (λ (zs : List Seen). x ∷ zs) same
    go false same = same

-- those of one more notice that pass a test
one_more : (p : Seen → Bool) (xs : List Notice) (x : Notice) →
    filter p (all_seen xs) ++ filter p (seen_of x ∷ []) ≡ filter p (all_seen (xs ++ x ∷ []))
one_more p xs x =
    sym (filter_then p (all_seen xs) (seen_of x ∷ [])) ∙ ap (filter p) (sym (map-append seen_of xs (x ∷ [])))

pub noted_more : (p : Seen → Bool) (first had has xs : List Notice) (x : Notice) →
    all_seen had ≡ all_seen first ++ filter p (all_seen xs) → all_seen has ≡ all_seen had ++ filter p (seen_of x ∷ []) →
    all_seen has ≡ all_seen first ++ filter p (all_seen (xs ++ x ∷ []))
noted_more p first had has xs x noted more =
    more ∙ ap (λ (ns : List Seen). ns ++ filter p (seen_of x ∷ [])) noted
    ∙ append_assoc (all_seen first) (filter p (all_seen xs)) (filter p (seen_of x ∷ []))
    ∙ ap (λ (ns : List Seen). all_seen first ++ ns) (one_more p xs x)

-- the answers come behind the calls that begin
pub all_noted : (first had has none told xs : List Notice) →
    all_seen had ≡ all_seen first ++ filter is_begun (all_seen xs) → none ≡ [] →
    all_seen told ≡ all_seen none ++ filter is_told (all_seen xs) → has ≡ had ++ told →
    all_seen has ≡ all_seen first ++ seen_among (all_seen xs)
all_noted first had has none told xs begun empty apart all =
    ap all_seen all ∙ map-append seen_of had told
    ∙ ap (λ (ns : List Seen). ns ++ all_seen told) begun
    ∙ ap (λ (ns : List Seen). (all_seen first ++ filter is_begun (all_seen xs)) ++ ns)
    (apart ∙ ap (λ (ns : List Notice). all_seen ns ++ filter is_told (all_seen xs)) empty)
    ∙ append_assoc (all_seen first) (filter is_begun (all_seen xs)) (filter is_told (all_seen xs))
