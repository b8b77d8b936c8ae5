-- The contracts that docs/trusted.md lists do not depend on this file; other contracts and proofs do.
-- The names and bars of the calls in a picture, as SVG.
use Rattle.std.specs.Prelude.{ℕ, List, [], ◌∷◌, ◌++◌, Option, Some, None, codes}
use Rattle.std.specs.Fmt.{decimal}
use Rattle.std.specs.List.{flat_map, concat}
use Rattle.printing.specs.Vocabulary.{word_of_operation}
use Rattle.record.specs.declared.call.Entry.{Entry}
use Rattle.exports.specs.declared.lane.Lane.{Lane}
use Rattle.exports.specs.declared.plan.Plan.{Plan}
use Rattle.exports.specs.Lane.{bar_top_of, baseline_of}
use Rattle.exports.specs.Plan.{bar_end, x_of}
use Rattle.exports.specs.Px.{px_text}

-- the class of a bar, by which it is styled: an open call has a class of its own
abbrev pub class_of : (answered : Option ℕ) → List ℕ
class_of None = codes "bar open"
class_of (Some step) = codes "bar"

-- the text that gives the steps of a call
abbrev pub course_text : (called : ℕ) → (answered : Option ℕ) → List ℕ
course_text called None = concat (codes "from step " ∷ decimal called ∷ codes ", open" ∷ [])
course_text called (Some step) = codes "steps " ++ decimal called ++ (codes " to " ++ decimal step)

-- the name of a call, at the left of its lane
abbrev pub name_text : Lane → List ℕ
name_text lane = concat (
    codes "<text x='8' y='" ∷ px_text (baseline_of lane) ∷ codes "'>call " ∷ decimal lane.entry.call
    ∷ codes " " ∷ word_of_operation lane.entry.kind ∷ codes "</text>\n" ∷ [])

-- the path of a bar: a mark at the step of the call, and a line to the answer, or to the right edge if it is open
abbrev pub path_text : Plan → Lane → List ℕ
path_text plan lane = codes "M" ++ (px_text (x_of plan lane.entry.called)
    ++ (codes " " ++ (px_text (bar_top_of lane)
    ++ (codes "v10m0 -5H" ++ px_text (bar_end plan lane.entry.answered)))))

-- the title of a bar: the call, what it does, and its steps
abbrev pub title_text : Entry → List ℕ
title_text entry = codes "call " ++ (decimal entry.call ++ (codes " " ++ (word_of_operation entry.kind
    ++ (codes ", " ++ course_text entry.called entry.answered))))

-- the bar of a call, with its title
abbrev pub bar_text : Plan → Lane → List ℕ
bar_text plan lane = concat (
    codes "<path class='" ∷ class_of lane.entry.answered ∷ codes "' d='" ∷ path_text plan lane
    ∷ codes "'><title>" ∷ title_text lane.entry ∷ codes "</title></path>\n" ∷ [])

-- the name and the bar of a call
abbrev pub lane_text : Plan → Lane → List ℕ
lane_text plan lane = name_text lane ++ bar_text plan lane

-- the names and bars of all calls
abbrev pub call_lanes_text : Plan → List ℕ
call_lanes_text plan = flat_map (lane_text plan) plan.lanes.items
