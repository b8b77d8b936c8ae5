-- Entries in the order of their tags, as an ordered map keeps them.
use Rattle.std.proofs.Common.{◌≡◌, ℕ, zero, suc, ◌<◌, Bool, true, false, cond, ◌&&◌, List, [], ◌∷◌, length, get_or, Option, Some, None}
use Rattle.std.proofs.Common.{is_some, slice_get, T, sym, ap, ◌∙◌, subst}
use Rattle.std.proofs.Common.{refl, arith}
use Rattle.std.specs.FinMap as map
use Rattle.std.specs.FinMap.Entries.{below_all}
use Rattle.std.specs.Map.{keys_of, lookup}
use Rattle.std.specs.BTreeMap.{is_at}
use Rattle.std.specs.Cmp.{eq_by_cmp_equiv}
use Rattle.std.specs.List.{AllByRecursion}
use Rattle.std.specs.List.Sorted.{IsStrictlySortedBy}
use Rattle.std.specs.declared.cmp.Ordering.TheVariants.{Less}
use Rattle.std.specs.Ordering.{eq_by_cmp, is_lt, is_eq}
use Rattle.std.proofs.lemmas.Bool.{and_parts}
use Rattle.std.proofs.lemmas.Bool.Decides.{nat_tests}
use Rattle.std.proofs.lemmas.Map.Keys.{sorted_head, sorted_tail}
use Rattle.tag.specs.declared.tag.Tag.{Tag}
use Rattle.tag.specs.Tag.{tag_cmp, tag_lt, tag_eq}
use Rattle.tag.proofs.TagOrderLemmas.{tag_cmp_total, tag_cmp-IsAntisymmetric, eq_by_cmp-tag, tag_eq-same}
use Rattle.bank.specs.declared.row.Row.{Row}
use Rattle.bank.specs.Bank.{Bank}
use Rattle.bank.specs.Knowledge.{row_finalized, finalized_at}

-- tags with their rows
abbrev pub Rows : Type 0
Rows = List (Tag × Row)

-- whether a row is there and finalized
abbrev pub is_final_row : Option Row → Bool
is_final_row o = is_some (row_finalized o)

-- whether a bank has finalized a tag
abbrev pub is_final : Bank → Tag → Bool
is_final b tag = is_some (finalized_at b tag)

pub t_true : (b : Bool) → T b → b ≡ true
t_true b h = grind arith

pub is_lt-tag : (s t : Tag) → is_lt (tag_cmp s t) ≡ tag_lt s t
is_lt-tag s t = grind (arith, nat_tests)

-- the first tag is below each of the rest
pub below_at : (x : Tag) (es : Rows) (i : ℕ) (d : Tag × Row) → below_all tag_cmp x es ≡ true → i < length es
    → tag_lt x (get_or es i d).0 ≡ true
below_at x [] i d below within = absurd (omega arith)
below_at x (e ∷ es) zero d below within = sym (is_lt-tag x e.0) ∙ (and_parts (is_lt (tag_cmp x e.0)) (below_all tag_cmp x es) below).0
below_at x (e ∷ es) (suc i) d below within =
    below_at x es i d (and_parts (is_lt (tag_cmp x e.0)) (below_all tag_cmp x es) below).1 (omega arith)

lt-apart : (s t : Tag) → tag_lt s t ≡ true → eq_by_cmp tag_cmp t s ≡ false
lt-apart s t less = grind (arith, nat_tests)

-- in order, each entry is found by its tag
pub find_sorted : (es : Rows) (i : ℕ) (d : Tag × Row) → map.is_sorted tag_cmp es ≡ true → i < length es
    → map.find tag_cmp (get_or es i d).0 es ≡ Some (get_or es i d).1
find_sorted [] i d sorted within = absurd (omega arith)
find_sorted (e ∷ es) zero d sorted within = ap (λ b. cond b (Some e.1) (map.find tag_cmp e.0 es)) (eq_by_cmp-tag e.0 e.0 ∙ tag_eq-same e.0)
find_sorted (e ∷ es) (suc i) d sorted within =
    let parts = and_parts (below_all tag_cmp e.0 es) (map.is_sorted tag_cmp es) sorted in
    ap (λ b. cond b (Some e.1) (map.find tag_cmp (get_or es i d).0 es))
    (lt-apart e.0 (get_or es i d).0 (below_at e.0 es i d parts.0 (omega arith)))
    ∙ find_sorted es i d parts.1 (omega arith)

pub below_not : (x y z : Tag) → tag_lt x y ≡ true → tag_lt y z ≡ true → (tag_eq x z ≡ false) × (tag_lt x z ≡ true)
below_not x y z less rest = (grind (arith, nat_tests), grind (arith, nat_tests))

-- a tag below the least is not found
pub find-below : (x y : Tag) (es : Rows) → tag_lt x y ≡ true → below_all tag_cmp y es ≡ true → map.find tag_cmp x es ≡ None
find-below x y [] less below = refl
find-below x y (e ∷ es) less below =
    let parts = and_parts (is_lt (tag_cmp y e.0)) (below_all tag_cmp y es) below in
    let apart = below_not x y e.0 less (sym (is_lt-tag y e.0) ∙ parts.0) in
    ap (λ b. cond b (Some e.1) (map.find tag_cmp x es)) (eq_by_cmp-tag x e.0 ∙ apart.0) ∙ find-below x y es less parts.1

pub less_than : (x y : Tag) → tag_cmp x y ≡ Less → (eq_by_cmp tag_cmp x y ≡ false) × (tag_lt x y ≡ true)
less_than x y is = (ap is_eq is, sym (is_lt-tag x y) ∙ ap is_lt is)

-- the tags of the entries rise
abbrev pub Rise : Rows → Type 0
Rise es = IsStrictlySortedBy tag_cmp (keys_of es)

below_from_all : (x : Tag) (es : Rows) → AllByRecursion (λ y. tag_cmp x y ≡ Less) (keys_of es) → below_all tag_cmp x es ≡ true
below_from_all x [] all = refl
below_from_all x (e ∷ es) all = ap (λ b. b && below_all tag_cmp x es) (ap is_lt all.0) ∙ below_from_all x es all.1

pub is_sorted-rise : (es : Rows) → Rise es → map.is_sorted tag_cmp es ≡ true
is_sorted-rise [] rise = refl
is_sorted-rise (e ∷ es) rise =
    ap (λ b. b && map.is_sorted tag_cmp es) (below_from_all e.0 es (sorted_head tag_cmp e.0 (keys_of es) rise))
    ∙ is_sorted-rise es (sorted_tail tag_cmp e.0 (keys_of es) rise)

in_order : (es : Rows) → Rise es → T (map.is_sorted tag_cmp es)
in_order es rise = subst T (sym (is_sorted-rise es rise)) tt

pub lookup-find : (q : Tag) (es : Rows) → lookup (is_at (tag_cmp q)) es ≡ map.find tag_cmp q es
lookup-find q es = cc

-- the map of rising entries has these entries
pub entries-rise : (es : Rows) → Rise es → map.entries (map.from_sorted {R = tag_cmp} es) ≡ es
entries-rise es rise = map.entries-from_sorted tag_cmp es (in_order es rise)

-- and answers as a search among them
pub get-rise : (es : Rows) → Rise es → (q : Tag) → map.get (map.from_sorted {R = tag_cmp} es) q ≡ lookup (is_at (tag_cmp q)) es
get-rise es rise q = map.get-from_sorted tag_cmp es q (in_order es rise) ∙ sym (lookup-find q es)

-- where a search answers as after an insert, the map is the one after that insert
pub insert-rise : (es fs : Rows) → Rise es → Rise fs → (tag : Tag) (r : Row)
    → ((q : Tag) → lookup (is_at (tag_cmp q)) fs ≡ cond (is_at (tag_cmp tag) q) (Some r) (lookup (is_at (tag_cmp q)) es))
    → map.from_sorted {R = tag_cmp} fs ≡ map.insert (map.from_sorted es) tag r
insert-rise es fs rise risen tag r updates =
    map.same_map tag_cmp_total tag_cmp-IsAntisymmetric (map.from_sorted fs) (map.insert (map.from_sorted es) tag r) (λ q.
    get-rise fs risen q ∙ updates q
    ∙ ap (λ b. cond b (Some r) (lookup (is_at (tag_cmp q)) es)) ((eq_by_cmp_equiv tag_cmp_total).symm tag q)
    ∙ sym (map.get-insert tag_cmp_total (map.from_sorted es) tag r q ∙ ap (cond (eq_by_cmp tag_cmp q tag) (Some r)) (get-rise es rise q)))

-- there is an entry at each place
pub there : (es : Rows) (i : ℕ) → i < length es → slice_get es i ≡ None → ⊥
there [] i within none = omega arith
there (e ∷ es) zero within none = cc
there (e ∷ es) (suc i) within none = there es i (omega arith) none
