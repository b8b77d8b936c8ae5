-- The rows below a floor are removed one after another, and with them the bytes of their pieces.
use Rattle.std.proofs.Common.{◌≡◌, ◌+◌, Bool, true, false, cond, [], ◌∷◌, Option, Some, None, IsSome, sum_by, sym, refl, arith}
use Rattle.std.specs.Map.{lookup, remove_entry}
use Rattle.std.specs.Ordering.{is_lt, is_gt}
use Rattle.std.specs.declared.cmp.Ordering.TheVariants.{Less}
use Rattle.std.proofs.lemmas.Bool.Decides.{nat_tests}
use Rattle.std.proofs.lemmas.List.Sums.{sum_by-cons}
use Rattle.tag.specs.declared.tag.Tag.{Tag}
use Rattle.tag.specs.Tag.{tag_cmp, opening_tag}
use Rattle.bank.specs.declared.row.Row.{Row}
use Rattle.bank.specs.Bytes.{row_piece_bytes, entry_bytes}
use Rattle.bank.specs.Floor.{is_under}
use Rattle.bank.proofs.EntryOrderLemmas.{Rows}

-- the bytes after the first entry that passes a test is removed
pub removed_bytes : (test : Tag → Bool) (es : Rows)
    → sum_by entry_bytes (remove_entry test es) + row_piece_bytes (lookup test es) ≡ sum_by entry_bytes es
removed_bytes test [] = refl
removed_bytes test (e ∷ es) = pick (removed_bytes test es) (test e.0)
  where
    pick : sum_by entry_bytes (remove_entry test es) + row_piece_bytes (lookup test es) ≡ sum_by entry_bytes es → (c : Bool)
        → sum_by entry_bytes (cond c es (e ∷ remove_entry test es)) + row_piece_bytes (cond c (Some e.1) (lookup test es))
        ≡ sum_by entry_bytes (e ∷ es)
    pick rest true = omega (arith, sum_by-cons entry_bytes e es)
    pick rest false = omega (arith, rest, sum_by-cons entry_bytes e es, sum_by-cons entry_bytes e (remove_entry test es))

-- each tag but the opening tag is above the opening tag
pub after_opening : (floor q : Tag) → is_under floor q ≡ true → tag_cmp opening_tag q ≡ Less
after_opening floor q under = grind (arith, nat_tests)

-- where the first tag after the opening tag is not below the floor, no other is
under_none : (floor first q : Tag) → is_under floor q ≡ true → is_lt (tag_cmp first floor) ≡ false → is_gt (tag_cmp first q) ≡ false → ⊥
under_none floor first q under least up_to = grind (arith, nat_tests)

-- so there is no row of another
pub none_under : (floor first q : Tag) (o : Option Row) → is_under floor q ≡ true → false ≡ is_lt (tag_cmp first floor)
    → (IsSome o → is_gt (tag_cmp first q) ≡ false) → o ≡ None
none_under floor first q None under least up_to = refl
none_under floor first q (Some r) under least up_to = absurd (under_none floor first q under (sym least) (up_to refl))
