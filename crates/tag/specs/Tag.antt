-- Tags, ordered by number and then by call.
use Rattle.std.specs.Prelude.{◌≡◌, ◌+◌, ◌<◌, ℕ, List, ◌∷◌, ◌++◌, Bool, ◌&&◌, ◌||◌, ◌⊎◌, ◌==◌, nat_lt, if◌then◌else◌}
use Rattle.std.specs.Fmt.{decimal}
use Rattle.std.specs.Ordering.{nat_cmp, on, then_cmp}
use Rattle.std.specs.declared.cmp.Ordering.{Ordering}
use Rattle.tag.specs.declared.tag.Tag.{Tag}

-- the tag of the empty value
abbrev pub opening_tag : Tag
opening_tag = record { number = 0; call = 0 }

-- s comes before t: its number is smaller, or the numbers are equal and its call is smaller
abbrev pub IsBelow : Tag → Tag → Type 0
IsBelow s t = (s.number < t.number) ⊎ ((s.number ≡ t.number) × (s.call < t.call))

-- whether s comes before t
abbrev pub tag_lt : Tag → Tag → Bool
tag_lt s t = nat_lt s.number t.number || (s.number == t.number && nat_lt s.call t.call)

-- whether s and t are the same tag
abbrev pub tag_eq : Tag → Tag → Bool
tag_eq s t = s.number == t.number && s.call == t.call

-- the later of s and t
abbrev pub later_tag : Tag → Tag → Tag
later_tag s t = if tag_lt s t then t else s

-- the tag of a write with this call number that found `greatest` as the greatest tag
abbrev pub next_tag : Tag → ℕ → Tag
next_tag greatest call = record { number = greatest.number + 1; call = call }

-- the text of a tag: its number, a point and its call
abbrev pub tag_text : Tag → List ℕ
tag_text t = decimal t.number ++ 46 ∷ decimal t.call

-- the order of tags as a comparison function, which finite maps keyed by tags need
abbrev pub tag_cmp : Tag → Tag → Ordering
tag_cmp = then_cmp (on (λ t. t.number) nat_cmp) (on (λ t. t.call) nat_cmp)
