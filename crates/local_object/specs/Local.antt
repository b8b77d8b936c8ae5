-- What one node keeps of one object: the layouts that it has heard of, its banks, and the calls that it carries out.
use Rattle.std.specs.Prelude.{ℕ, ◌==◌, ◌^◌, ◌&&◌, Bool, false, if◌then◌else◌, List, [], ◌∷◌, ◌++◌, Option, None, Some}
use Rattle.std.specs.Prelude.{nat_lt}
use Rattle.layout.specs.Layout.{Layout}
use Rattle.bank.specs.Bank.{opened_bank}
use Rattle.open_calls.specs.OpenCalls.{NodeCall}
use Rattle.letter.specs.declared.start.Start.{Start}
use Rattle.local_object.specs.declared.kept_bank.KeptBank.{KeptBank}
use Rattle.local_object.specs.declared.report.Report.{Report}
use Rattle.local_object.specs.declared.kept_bank.KeptBank.TheVariants as kept

-- what a node keeps for a position that it has heard of: the layout, and its bank, open or closed, once a request has
-- come that may change it
pub record Place : Type 0 where
  pub position : ℕ
  pub layout : Layout
  pub bank : Option KeptBank

-- what one node keeps of one object: the node's number, of how many finalized versions its banks keep pieces besides
-- the newest (None: of all), the position at which its calls begin, the positions that it has heard of, each once, what
-- members told its calls with replies to their current phases, and the calls that it carries out
pub record LocalObject : Type 0 where
  pub node : ℕ
  pub delta : Option ℕ
  pub start : ℕ
  pub places : List Place
  pub reports : List Report
  pub calls : List NodeCall

-- what a node keeps of an object that it has not heard of: the layout of position 0, which its cluster file gives
abbrev pub new_local : (node : ℕ) → (delta : Option ℕ) → (first : Layout) → LocalObject
new_local node delta first = record {
  node = node;
  delta = delta;
  start = 0;
  places = record { position = 0; layout = first; bank = None } ∷ [];
  reports = [];
  calls = [];
}

-- what is kept for a position, if the node has heard of it
abbrev pub heard_place : List Place → (position : ℕ) → Option Place
heard_place [] position = None
heard_place (place ∷ places) position = if place.position == position then Some place else heard_place places position

-- the layout of a position, if there is a place for it
abbrev pub layout_in : Option Place → Option Layout
layout_in None = None
layout_in (Some place) = Some place.layout

-- the layout of a position, if the node has heard of it
abbrev pub layout_here : LocalObject → (position : ℕ) → Option Layout
layout_here local position = layout_in (heard_place local.places position)

-- a bank, or a newly opened one if there is none
abbrev pub bank_or_opened : Option KeptBank → (member : ℕ) → (delta : Option ℕ) → KeptBank
bank_or_opened None member delta = kept.Open (opened_bank member delta 0)
bank_or_opened (Some bank) member delta = bank

-- the bank kept in a place, if there is one
abbrev pub bank_in : Option Place → Option KeptBank
bank_in None = None
bank_in (Some place) = place.bank

-- the bank that the node keeps for a position as this member; before such a request it is a newly opened one
abbrev pub bank_here : LocalObject → (position member : ℕ) → KeptBank
bank_here local position member = bank_or_opened (bank_in (heard_place local.places position)) member local.delta

-- the places with this bank at the position, or without a bank there
abbrev pub with_bank_here : List Place → (position : ℕ) → Option KeptBank → List Place
with_bank_here [] position bank = []
with_bank_here (place ∷ places) position bank =
    if place.position == position then record place { bank = bank } ∷ places
    else place ∷ with_bank_here places position bank

-- the places after the node hears of a position and its layout: one more if it had not heard of that position
abbrev pub added_place : List Place → Option Place → (position : ℕ) → Layout → List Place
added_place places None position layout = places ++ record { position = position; layout = layout; bank = None } ∷ []
added_place places (Some place) position layout = places

-- what the node keeps after it hears of a position and its layout
abbrev pub with_heard : LocalObject → (position : ℕ) → Layout → LocalObject
with_heard local position layout =
    record local { places = added_place local.places (heard_place local.places position) position layout }

-- what the node keeps after it hears of a position, if it hears of its layout
abbrev pub learnt_if : LocalObject → (position : ℕ) → Option Layout → LocalObject
learnt_if local position None = local
learnt_if local position (Some layout) = with_heard local position layout

-- whether a node hears of this start as a later one than its own; the phases of calls that begin there need numbers of
-- 32 bits
abbrev pub is_later_start : LocalObject → Start → Bool
is_later_start local start = nat_lt local.start start.position && nat_lt start.position (2 ^ 31)

-- what the node keeps after it hears of a start: it has then heard of its position, and takes it for its own start if
-- it is later
abbrev pub heard_start : LocalObject → Start → LocalObject
heard_start local start = record (with_heard local start.position start.layout) {
  start = if is_later_start local start then start.position else local.start;
}

-- whether the node hears of a start, and it is later than its own
abbrev pub is_later_start_if : LocalObject → Option Start → Bool
is_later_start_if local None = false
is_later_start_if local (Some start) = is_later_start local start

-- what the node keeps after it hears of a start, if it hears of one
abbrev pub heard_start_if : LocalObject → Option Start → LocalObject
heard_start_if local None = local
heard_start_if local (Some start) = heard_start local start

-- a start at a position with this layout, unless it is position 0
abbrev pub start_at : (position : ℕ) → Option Layout → Option Start
start_at position None = None
start_at position (Some layout) =
    if position == 0 then None else Some (record { position = position; layout = layout })

-- the start of which a node tells others, by the places that it has heard of: its own, unless that is position 0
abbrev pub told_start_in : List Place → (start : ℕ) → Option Start
told_start_in places start = start_at start (layout_in (heard_place places start))

-- the start of which a node tells others in each letter: its own, unless that is position 0
abbrev pub told_start : LocalObject → Option Start
told_start local = told_start_in local.places local.start

-- the greatest of these positions and the given one
abbrev pub greatest_position : List Place → ℕ → ℕ
greatest_position [] greatest = greatest
greatest_position (place ∷ places) greatest =
    greatest_position places (if nat_lt greatest place.position then place.position else greatest)

-- the last position that the node has heard of
abbrev pub last_position : LocalObject → ℕ
last_position local = greatest_position local.places 0
