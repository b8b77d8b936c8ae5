-- The next finalized tag, as a search in a range finds it.
use Rattle.std.proofs.Common.{◌≡◌, Bool, true, false, cond, not, ◌&&◌, [], ◌∷◌, find, Option, Some, None, option_map, sym, ap, ◌∙◌, refl}
use Rattle.std.proofs.Common.{MatchOption, IsSomeAnd, arith}
use Rattle.std.specs.declared.cmp.Ordering.{Ordering}
use Rattle.std.specs.declared.cmp.Ordering.TheVariants.{Less, Equal, Greater}
use Rattle.std.specs.declared.ops.Bound.TheVariants.{Included, Unbounded}
use Rattle.std.specs.BTreeMap.Range.{entries_between}
use Rattle.std.specs.Ordering.{is_lt, is_le}
use Rattle.tag.specs.declared.tag.Tag.{Tag}
use Rattle.tag.specs.Tag.{tag_cmp, tag_lt}
use Rattle.bank.specs.declared.row.Row.{Row}
use Rattle.bank.specs.Knowledge.{is_finalized}
use Rattle.bank.specs.Window.{final_after}
use Rattle.bank.proofs.EntryOrderLemmas.{Rows, is_lt-tag}

-- a finalized tag above another
abbrev pub is_next : Tag → Tag × Row → Bool
is_next tag e = tag_lt tag e.0 && is_finalized e.1.label

pub after-found : (tag : Tag) (es : Rows)
    → option_map (λ (e : Tag × Row). e.0) (find (is_next tag) (entries_between tag_cmp (Included tag) Unbounded es)) ≡ final_after tag es
after-found tag [] = refl
after-found tag (e ∷ es) = pick (tag_cmp tag e.0) refl (after-found tag es)
  where
    first : Option (Tag × Row) → Option Tag
    first o = option_map (λ (e : Tag × Row). e.0) o

    taken : (c : Bool) → first (find (is_next tag) (entries_between tag_cmp (Included tag) Unbounded es)) ≡ final_after tag es
        → first (cond c (Some e) (find (is_next tag) (entries_between tag_cmp (Included tag) Unbounded es)))
        ≡ cond c (Some e.0) (final_after tag es)
    taken true rest = refl
    taken false rest = rest

    pick : (o : Ordering) → tag_cmp tag e.0 ≡ o
        → first (find (is_next tag) (entries_between tag_cmp (Included tag) Unbounded es)) ≡ final_after tag es
        → first (find (is_next tag) (cond (is_le o && not false) (e ∷ entries_between tag_cmp (Included tag) Unbounded es)
        (entries_between tag_cmp (Included tag) Unbounded es))) ≡ final_after tag (e ∷ es)
    pick Less is rest = taken (is_next tag e) rest
    pick Equal is rest = taken (is_next tag e) rest
    pick Greater is rest =
        rest ∙ sym (ap (λ c. cond (c && is_finalized e.1.label) (Some e.0) (final_after tag es)) (sym (is_lt-tag tag e.0) ∙ ap is_lt is))

-- what is found, as a closure takes the tag out of it
pub next_mapped : {A : Type 0} (takes : A → Tag → Type 0) (shows : A → Tag × Row) (found : Option A) (tag : Option Tag)
    → ((x : A) (t : Tag) → takes x t → t ≡ (shows x).0) → MatchOption found (tag ≡ None) (λ x. IsSomeAnd tag (takes x))
    → tag ≡ option_map (λ (e : Tag × Row). e.0) (option_map shows found)
next_mapped takes shows found tag each is = grind arith
