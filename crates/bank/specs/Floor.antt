-- What a bank forgets. The floor of a bank is the least tag of its window, once the window is full. Each tag below the
-- floor has at least delta + 1 finalized tags above it, so no answer depends on it any more.
use Rattle.std.specs.Prelude.{Bool, false, not, ◌&&◌, ◌==◌, if◌then◌else◌, Option, Some, None}
use Rattle.std.specs.FinMap as map
use Rattle.tag.specs.declared.tag.Tag.{Tag}
use Rattle.tag.specs.Tag.{tag_eq, tag_lt, opening_tag}
use Rattle.bank.specs.declared.request.Request.{Request}
use Rattle.bank.specs.declared.request.Request.TheVariants as request
use Rattle.bank.specs.declared.window.Window.{Window}
use Rattle.bank.specs.Bank.{Bank, with_rows}
use Rattle.bank.specs.Knowledge.{exceeds, finals_above}

-- whether the bank forgets a tag: it is not the opening tag, and delta + 1 or more greater tags are finalized
abbrev pub is_forgotten : Bank → Tag → Bool
is_forgotten b tag = not (tag_eq tag opening_tag) && exceeds b.delta (finals_above b tag)

-- the bank without the rows of the tags that it forgets: what it remembers
abbrev pub remembered : Bank → Bank
remembered b = with_rows b (map.retain_keys b.rows (λ tag. not (is_forgotten b tag)))

-- whether a request names a tag that the bank forgets
abbrev pub names_forgotten : Bank → Request → Bool
names_forgotten b (request.PreWrite tag piece) = is_forgotten b tag
names_forgotten b (request.Finalize tag) = is_forgotten b tag
names_forgotten b (request.Fetch tag) = is_forgotten b tag
names_forgotten b q = false

-- the floor: the least tag of the window if there is a window and it is full, and otherwise none
abbrev pub floor_of : Option Window → Option Tag
floor_of None = None
floor_of (Some w) = if w.above == w.delta then Some w.least else None

-- whether a tag is below the given floor and is not the opening tag
abbrev pub is_under : Tag → Tag → Bool
is_under floor tag = not (tag_eq tag opening_tag) && tag_lt tag floor
