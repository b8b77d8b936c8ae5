-- The contracts that docs/trusted.md lists do not depend on this file; other contracts and proofs do.
-- Reading a file from top to bottom and each line from left to right, up to the first fault.
use Rattle.std.specs.Prelude.{ℕ, ◌+◌, ◌^◌, ◌-◌, ◌++◌, if◌then◌else◌, codes, List, [], ◌∷◌, length}
use Rattle.std.specs.Prelude.{Option, Some, None, Result, Ok, Err}
use Rattle.std.specs.Str.{bytes_eq}
use Rattle.cluster_file.specs.declared.error.Fault.{Fault}
use Rattle.cluster_file.specs.declared.error.Fault.TheVariants.{SettingMissing, ValueMissing, WordBehind}
use Rattle.cluster_file.specs.declared.error.Fault.TheVariants.{OutOfRange, BadN, BadK}
use Rattle.cluster_file.specs.declared.error.FileFault.{FileFault}
use Rattle.cluster_file.specs.declared.number.Range.{Range}
use Rattle.cluster_file.specs.declared.setting.Setting.{Setting}
use Rattle.cluster_file.specs.declared.setting.Setting.TheVariants as setting
use Rattle.cluster_file.specs.File.{Fixed, FileContents}
use Rattle.cluster_file.specs.Lines.{Line, lines_of, end_line}
use Rattle.words.specs.Word.{Word}
use Rattle.cluster_file.specs.Settings.{due_fault, behind_fault}
use Rattle.cluster_file.specs.Numbers.{number_from, delta_from, mover_from, node_from}
use Rattle.words.specs.Parts.{and_then}

-- a value, or the first fault
abbrev pub OrFault : Type 0 → Type 0
OrFault X = Result X FileFault

-- the fault at this word of this line
abbrev pub fault_at : ℕ → ℕ → Fault → FileFault
fault_at line word fault = record { line = line; word = word; fault = fault }

-- what a word writes, or the fault at its place
abbrev pub placed_at : {X : Type 0} → ℕ → ℕ → Result X Fault → OrFault X
placed_at line word (Ok x) = Ok x
placed_at line word (Err fault) = Err (fault_at line word fault)

-- a value, unless there is a fault at this place
abbrev pub unless_at : {X : Type 0} → ℕ → ℕ → Option Fault → X → OrFault X
unless_at line word None x = Ok x
unless_at line word (Some fault) x = Err (fault_at line word fault)

-- the line of the setting that is due, and the lines after it
unfoldable pub setting_at : Setting → ℕ → List Line → OrFault (Line × List Line)
setting_at due end [] = Err (fault_at end 1 (SettingMissing due))
setting_at due end (line ∷ rest) = unless_at line.number 1 (due_fault due line.name) (line, rest)

-- the first of the values of a line
abbrev pub first_value : ℕ → List Word → OrFault Word
first_value line [] = Err (fault_at line 2 ValueMissing)
first_value line (value ∷ more) = Ok value

-- this value, unless the line has a second one
abbrev pub without_second : {X : Type 0} → ℕ → List Word → X → OrFault X
without_second line [] x = Ok x
without_second line (value ∷ []) x = Ok x
without_second line (value ∷ second ∷ more) x = Err (fault_at line 3 WordBehind)

-- the one value of a line, as its word writes it
unfoldable pub value_of_line : {X : Type 0} → (Word → Result X Fault) → Line → OrFault X
value_of_line from line =
    and_then (first_value line.number line.values) (λ value.
    and_then (placed_at line.number 2 (from value)) (λ x.
    without_second line.number line.values x))

-- the one value of the setting that is due
unfoldable pub setting_value : {X : Type 0} → Setting → (Word → Result X Fault) → ℕ → List Line
    → OrFault (X × List Line)
setting_value due from end lines =
    and_then (setting_at due end lines) (λ line.
    and_then (value_of_line from line.0) (λ x.
    Ok (x, line.1)))

-- the nodes of these words, the first of which is the word with this number, after those that were listed before
unfoldable pub nodes_from : List ℕ → List ℕ → ℕ → List Word → OrFault (List ℕ)
nodes_from others listed line [] = Ok listed
nodes_from others listed line (word ∷ words) =
    and_then (placed_at line (length listed + 2) (node_from others listed word)) (λ node.
    nodes_from others (listed ++ node ∷ []) line words)

-- the nodes among which placement chooses, of which there is at least one
unfoldable pub nodes_at : ℕ → List Line → OrFault (List ℕ × List Line)
nodes_at end lines =
    and_then (setting_at setting.Nodes end lines) (λ line.
    and_then (first_value line.0.number line.0.values) (λ first.
    and_then (nodes_from [] [] line.0.number line.0.values) (λ nodes.
    Ok (nodes, line.1))))

-- the nodes that joined later, none of which is among the others
unfoldable pub later_at : List ℕ → ℕ → List Line → OrFault (List ℕ × List Line)
later_at others end lines =
    and_then (setting_at setting.Later end lines) (λ line.
    and_then (nodes_from others [] line.0.number line.0.values) (λ nodes.
    Ok (nodes, line.1)))

-- the words of the first of these lines, if it has the setting `later`
abbrev pub later_words : List Line → List Word
later_words [] = []
later_words (line ∷ rest) = if bytes_eq line.name (codes "later") then line.values else []

-- the node that moves objects: one of the nodes, or one that the next line names as a node that joined later
unfoldable pub mover_at : List ℕ → ℕ → List Line → OrFault (ℕ × List Line)
mover_at nodes end lines =
    and_then (setting_at setting.Mover end lines) (λ line.
    and_then (value_of_line (mover_from nodes (later_words line.1)) line.0) (λ mover.
    Ok (mover, line.1)))

-- the numbers that n may be, if there are this many nodes
abbrev pub of_n : ℕ → Range
of_n count = record { least = 1; most = count; outside = BadN }

-- the numbers that k may be
abbrev pub of_k : ℕ → Range
of_k n = record { least = 1; most = n; outside = BadK }

-- what is fixed
unfoldable pub fixed_at : ℕ → List Line → OrFault (Fixed × List Line)
fixed_at end lines =
    and_then (nodes_at end lines) (λ nodes.
    and_then (setting_value setting.N (number_from (of_n (length nodes.0))) end nodes.1) (λ n.
    and_then (setting_value setting.K (number_from (of_k n.0)) end n.1) (λ k.
    and_then (setting_value setting.Delta delta_from end k.1) (λ delta.
    and_then (mover_at nodes.0 end delta.1) (λ mover.
    Ok (record { nodes = nodes.0; n = n.0; k = k.0; delta = delta.0; mover = mover.0 }, mover.1))))))

-- the ticks after which a call may be given up
abbrev pub of_ticks : Range
of_ticks = record { least = 1; most = 2 ^ 32 - 1; outside = OutOfRange }

-- this value, unless a line is left after it
abbrev pub unless_line_left : {X : Type 0} → List Line → X → OrFault X
unless_line_left [] x = Ok x
unless_line_left (line ∷ rest) x = Err (fault_at line.number 1 (behind_fault line.name))

-- the file that these lines write
unfoldable pub file_at : ℕ → List Line → OrFault FileContents
file_at end lines =
    and_then (fixed_at end lines) (λ fixed.
    and_then (later_at fixed.0.nodes end fixed.1) (λ later.
    and_then (setting_value setting.Ticks (number_from of_ticks) end later.1) (λ ticks.
    unless_line_left ticks.1 (record { fixed = fixed.0; later = later.0; ticks = ticks.0 }))))

-- the file that a text writes, or its first fault
abbrev pub file_of : List ℕ → OrFault FileContents
file_of text = file_at (end_line text) (lines_of text)
