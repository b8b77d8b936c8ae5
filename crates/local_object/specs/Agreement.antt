-- Whether the layouts in a letter are those that the node has heard of.
use Rattle.std.specs.Prelude.{suc, ◌&&◌, ◌==◌, Bool, true, false, nat_eq, Option, None, Some}
use Rattle.std.specs.Cmp.Lexicographic.{pointwise}
use Rattle.layout.specs.Layout.{Layout}
use Rattle.letter.specs.declared.letter.Letter.{Letter}
use Rattle.letter.specs.declared.start.Start.{Start}
use Rattle.local_object.specs.Local.{LocalObject, layout_here}

-- whether two layouts are the same
abbrev pub same_layout : Layout → Layout → Bool
same_layout heard layout = heard.k == layout.k && pointwise nat_eq heard.members layout.members

-- whether no layout was heard of, or it is this one
abbrev pub is_not_another : (heard : Option Layout) → Layout → Bool
is_not_another None layout = true
is_not_another (Some heard) layout = same_layout heard layout

-- whether a layout was heard of, and it is this one
abbrev pub is_heard : (heard : Option Layout) → Layout → Bool
is_heard None layout = false
is_heard (Some heard) layout = same_layout heard layout

-- whether a layout passes the test, if there is one
abbrev pub if_there : (Layout → Bool) → Option Layout → Bool
if_there test None = true
if_there test (Some layout) = test layout

-- whether the layout of a start passes the test with the one that the node has heard of for its position, if there is a
-- start
abbrev pub start_passes : (Option Layout → Layout → Bool) → LocalObject → Option Start → Bool
start_passes test local None = true
start_passes test local (Some start) = test (layout_here local start.position) start.layout

-- whether no layout in a letter differs from the one that the node has heard of for its position
abbrev pub agrees : LocalObject → Letter → Bool
agrees local letter =
    is_not_another (layout_here local letter.message.position) letter.layout
    && (if_there (is_not_another (layout_here local (suc letter.message.position))) letter.next
    && start_passes is_not_another local letter.start)

-- whether the node has heard of each position of which a letter has the layout, and with that layout
abbrev pub knows_all_of : LocalObject → Letter → Bool
knows_all_of local letter =
    is_heard (layout_here local letter.message.position) letter.layout
    && (if_there (is_heard (layout_here local (suc letter.message.position))) letter.next
    && start_passes is_heard local letter.start)
