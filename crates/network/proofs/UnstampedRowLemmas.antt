-- The rows of a bank without stamps.
use Rattle.std.proofs.Common.{◌≡◌, Bool, true, false, cond, ◌&&◌, [], ◌∷◌, map, T, Some, option_map, arith}
use Rattle.std.proofs.Common.{refl, sym, subst, ap, ◌∙◌}
use Rattle.std.specs.FinMap as map
use Rattle.std.specs.FinMap.Entries.{below_all, by_order}
use Rattle.std.specs.declared.cmp.Ordering.{Ordering}
use Rattle.std.specs.declared.cmp.Ordering.TheVariants.{Less, Equal, Greater}
use Rattle.std.specs.Ordering.{eq_by_cmp, is_lt}
use Rattle.tag.specs.declared.tag.Tag.{Tag}
use Rattle.tag.specs.Tag.{tag_cmp}
use Rattle.tag.proofs.TagOrderLemmas.{tag_cmp_total}
use Rattle.bank.specs.declared.row.Row.{Row}
use Rattle.bank.proofs.EntryOrderLemmas.{Rows}
use Rattle.network.specs.Unstamped.{unstamped_entry}
use Rattle.network.specs.Unstamped.{unstamped_row}

-- rows without stamps
abbrev pub bare : map.FinMap tag_cmp Row → map.FinMap tag_cmp Row
bare rows = map.from_sorted (map unstamped_entry (map.entries rows))

below-bare : (x : Tag) (es : Rows) → below_all tag_cmp x (map unstamped_entry es) ≡ below_all tag_cmp x es
below-bare x [] = refl
below-bare x (e ∷ es) = ap (λ b. is_lt (tag_cmp x e.0) && b) (below-bare x es)

sorted-bare : (es : Rows) → map.is_sorted tag_cmp (map unstamped_entry es) ≡ map.is_sorted tag_cmp es
sorted-bare [] = refl
sorted-bare (e ∷ es) =
    ap (λ b. b && map.is_sorted tag_cmp (map unstamped_entry es)) (below-bare e.0 es)
    ∙ ap (λ b. below_all tag_cmp e.0 es && b) (sorted-bare es)

bare_in_order : (rows : map.FinMap tag_cmp Row) → T (map.is_sorted tag_cmp (map unstamped_entry (map.entries rows)))
bare_in_order rows = subst T (sym (sorted-bare (map.entries rows))) (map.entries_sorted rows)

pub entries-bare : (rows : map.FinMap tag_cmp Row) → map.entries (bare rows) ≡ map unstamped_entry (map.entries rows)
entries-bare rows = map.entries-from_sorted tag_cmp (map unstamped_entry (map.entries rows)) (bare_in_order rows)

find-bare : (q : Tag) (es : Rows) → map.find tag_cmp q (map unstamped_entry es) ≡ option_map unstamped_row (map.find tag_cmp q es)
find-bare q [] = refl
find-bare q (e ∷ es) = go (eq_by_cmp tag_cmp q e.0) (find-bare q es)
  where
    go : (b : Bool) → map.find tag_cmp q (map unstamped_entry es) ≡ option_map unstamped_row (map.find tag_cmp q es) →
        cond b (Some (unstamped_row e.1)) (map.find tag_cmp q (map unstamped_entry es))
        ≡ option_map unstamped_row (cond b (Some e.1) (map.find tag_cmp q es))
    go true rest = refl
    go false rest = rest

pub get-bare : (rows : map.FinMap tag_cmp Row) (q : Tag) → map.get (bare rows) q ≡ option_map unstamped_row (map.get rows q)
get-bare rows q = grind (arith, bare_in_order, find-bare, map.get-entries, map.get-from_sorted)

put-bare : (k : Tag) (v : Row) (es : Rows) →
    map unstamped_entry (map.put tag_cmp k v es) ≡ map.put tag_cmp k (unstamped_row v) (map unstamped_entry es)
put-bare k v [] = refl
put-bare k v (e ∷ es) = go (tag_cmp k e.0) (put-bare k v es)
  where
    go : (o : Ordering) →
        map unstamped_entry (map.put tag_cmp k v es) ≡ map.put tag_cmp k (unstamped_row v) (map unstamped_entry es) →
        map unstamped_entry (by_order o ((k, v) ∷ e ∷ es) ((e.0, v) ∷ es) (e ∷ map.put tag_cmp k v es))
        ≡ by_order o ((k, unstamped_row v) ∷ unstamped_entry e ∷ map unstamped_entry es)
        ((e.0, unstamped_row v) ∷ map unstamped_entry es)
        (unstamped_entry e ∷ map.put tag_cmp k (unstamped_row v) (map unstamped_entry es))
    go Less rest = refl
    go Equal rest = refl
    go Greater rest = ap (λ l. unstamped_entry e ∷ l) rest

pub insert-bare : (rows : map.FinMap tag_cmp Row) (k : Tag) (v : Row) →
    bare (map.insert rows k v) ≡ map.insert (bare rows) k (unstamped_row v)
insert-bare rows k v =
    map.same_entries_map (bare (map.insert rows k v)) (map.insert (bare rows) k (unstamped_row v))
    (entries-bare (map.insert rows k v) ∙ ap (map unstamped_entry) (map.entries-insert tag_cmp_total rows k v)
    ∙ put-bare k v (map.entries rows) ∙ ap (map.put tag_cmp k (unstamped_row v)) (sym (entries-bare rows))
    ∙ sym (map.entries-insert tag_cmp_total (bare rows) k (unstamped_row v)))
