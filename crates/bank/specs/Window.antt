-- The window of finalized tags whose pieces are kept. It is represented by the least of these tags.
use Rattle.std.specs.Prelude.{◌≡◌, ℕ, ⊤, ◌+◌, ◌<◌, ◌≤◌, ◌&&◌, ◌||◌, ◌==◌, true, false, Bool, nat_lt, if◌then◌else◌}
use Rattle.std.specs.Prelude.{List, [], ◌∷◌, Option, Some, None, is_some, IsSome, option_map}
use Rattle.std.specs.Map.{lookup}
use Rattle.std.specs.BTreeMap.{is_at}
use Rattle.tag.specs.declared.tag.Tag.{Tag}
use Rattle.tag.specs.Tag.{tag_lt, tag_cmp, opening_tag}
use Rattle.bank.specs.declared.row.Row.{Row}
use Rattle.bank.specs.declared.window.Window.{Window}
use Rattle.bank.specs.Bytes.{row_piece_bytes}
use Rattle.bank.specs.Collect.{emptied_row}
use Rattle.bank.specs.Knowledge.{is_finalized, row_finalized, count_above}

-- the first finalized tag of the entries that is above the given tag, if there is one
abbrev pub final_after : Tag → List (Tag × Row) → Option Tag
final_after tag [] = None
final_after tag (e ∷ es) = if tag_lt tag e.0 && is_finalized e.1.label then Some e.0 else final_after tag es

-- the window of a bank that was just opened
abbrev pub opened_window : ℕ → Window
opened_window delta = record { delta = delta; least = opening_tag; above = 0 }

-- the window of a bank that was just opened, if it has a delta
abbrev pub opened_windows : Option ℕ → Option Window
opened_windows delta = option_map opened_window delta

-- whether the window is full and the tag is below it
abbrev pub excludes : Window → Tag → Bool
excludes w tag = w.above == w.delta && tag_lt tag w.least

-- whether there is a window, it is full, and the tag is below it
abbrev pub is_excluded : Option Window → Tag → Bool
is_excluded None tag = false
is_excluded (Some w) tag = excludes w tag

-- the window moved up to the next finalized tag, if there is one, with the tag that falls out
abbrev pub moved_up : Window → Option Tag → Window × Option Tag
moved_up w None = (w, None)
moved_up w (Some next) = (record { delta = w.delta; least = next; above = w.above }, Some w.least)

-- the window after a tag of the entries became finalized, with the tag that falls out, if one does
abbrev pub admitted : Window → List (Tag × Row) → Tag → Window × Option Tag
admitted w es tag =
    if nat_lt w.above w.delta
    then (record { delta = w.delta; least = (if tag_lt tag w.least then tag else w.least); above = w.above + 1 }, None)
    else (if tag_lt tag w.least then (w, Some tag) else moved_up w (final_after w.least es))

-- the window, if any, after a request to finalize a tag, which was final before unless `anew`; and what falls out
abbrev pub after_final : Option Window → Bool → List (Tag × Row) → Tag → Option Window × Option Tag
after_final None anew es tag = (None, None)
after_final (Some w) false es tag = (Some w, None)
after_final (Some w) true es tag = (Some (admitted w es tag).0, (admitted w es tag).1)

-- the row of a tag among the entries, if there is one
abbrev pub found_in : List (Tag × Row) → Tag → Option Row
found_in es tag = lookup (is_at (tag_cmp tag)) es

-- the tag itself if the bank is to drop a piece that arrives for it, and otherwise none
abbrev pub late_tag : Option Window → Option ℕ → List (Tag × Row) → Tag → Option Tag
late_tag window retired es tag =
    if is_some retired || (is_excluded window tag && is_some (row_finalized (found_in es tag))) then Some tag else None

-- the row of tag q once the piece of the given tag, if there is one, is dropped
abbrev pub without_piece : Option Tag → Tag → Option Row → Option Row
without_piece None q row = row
without_piece (Some tag) q row = if is_at (tag_cmp tag) q then option_map emptied_row row else row

-- the number of bytes of the given tag's piece, or 0 if no tag is given
abbrev pub piece_bytes_at : Option Tag → List (Tag × Row) → ℕ
piece_bytes_at None es = 0
piece_bytes_at (Some tag) es = row_piece_bytes (found_in es tag)

-- `least` is finalized, `above` counts the finalized tags above it, and unless the window is full none is below it
pub record IsWindow (es : List (Tag × Row)) (w : Window) : Type 0 where
  pub least : IsSome (row_finalized (found_in es w.least))
  pub above : w.above ≡ count_above is_finalized w.least es
  pub fits : w.above ≤ w.delta
  pub full : w.above < w.delta → (tag : Tag) → IsSome (row_finalized (found_in es tag)) → tag_lt tag w.least ≡ false

-- the window, if there is one, is that of the entries
abbrev pub IsWindowed : List (Tag × Row) → Option Window → Type 0
IsWindowed es None = ⊤
IsWindowed es (Some w) = IsWindow es w
