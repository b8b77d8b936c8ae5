-- What a node tells of the layout of a name, and of the names of whose objects it keeps a written version.
use Rattle.std.specs.Prelude.{◌≡◌, ◌-◌, ◌∷◌, ◌++◌, ⊤, ℕ, List, codes}
use Rattle.std.specs.Fmt.{decimal}
use Rattle.std.specs.List.{flat_map}
use Rattle.layout.specs.Layout.{Layout}
use Rattle.client_commands.specs.Patterns.{names_told}
use Rattle.client_commands.specs.declared.scanning.ScanOptions.{ScanOptions}
use Rattle.client_commands.specs.declared.answer.Answer.{Answer}
use Rattle.client_commands.specs.declared.answer.Answer.TheVariants as answers
use Rattle.node_keeper.specs.Written.{last_known, names_between, scan_end}
use Rattle.node_keeper.specs.declared.objects.Objects.{Objects}

-- the number of a node behind a space
abbrev pub node_word : (node : ℕ) → List ℕ
node_word node = 32 ∷ decimal node

-- the line of a position with this layout, as `position 1 k 3 nodes 1 2 3 6 7`
abbrev pub layout_line : (position : ℕ) → Layout → List ℕ
layout_line position layout =
    codes "position " ++ decimal position ++ codes " k " ++ decimal layout.k ++ codes " nodes"
    ++ flat_map node_word layout.members

-- the answer to LAYOUT: the line of the last position of the object of this name of which the node has heard
abbrev pub IsLayoutHere : Objects → (name : List ℕ) → Answer → Type 0
IsLayoutHere objects name answer =
    answer ≡ answers.Value (layout_line (last_known objects name).position (last_known objects name).layout)

-- the answer is that to a SCAN
abbrev pub IsPage : Answer → Type 0
IsPage (answers.Page next names) = ⊤
IsPage answer = ⊥

-- the answer to a SCAN that looks at so many places from this cursor on: the cursor with which it goes on, and the
-- names from there up to the cursor of whose objects the node keeps a written version, and which match the pattern, if
-- there is one
abbrev pub IsPageHere : Objects → (cursor : ℕ) → ScanOptions → Answer → Type 0
IsPageHere objects cursor options (answers.Page next names) =
    (next ≡ scan_end objects cursor - options.count)
    × (names.items ≡ names_told options.pattern
    (names_between objects (scan_end objects cursor - options.count) (scan_end objects cursor)))
IsPageHere objects cursor options answer = ⊥
