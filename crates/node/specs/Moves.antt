-- Why a node may not begin a move.
use Rattle.std.specs.Prelude.{ℕ, Bool, ◌==◌, ◌||◌, not, nat_le, Option, None, Some, if◌then◌else◌}
use Rattle.std.specs.List.{count_by, find}
use Rattle.cluster_file.specs.File.{FileContents}
use Rattle.layout.specs.Layout.{Layout, quorum_of}
use Rattle.layout.specs.Quorum.{has}
use Rattle.node_strings.specs.Heard.{has_heard}
use Rattle.node_strings.specs.declared.heard.Heard.{Heard}
use Rattle.client_commands.specs.declared.answer.AnswerError.{AnswerError}
use Rattle.client_commands.specs.declared.answer.AnswerError.TheVariants as errors

-- whether this is the number of the node that moves objects
abbrev pub moves_objects : (number : ℕ) → FileContents → Bool
moves_objects number file = number == file.fixed.mover

-- whether this is the number of a node of the cluster
abbrev pub is_node : FileContents → (number : ℕ) → Bool
is_node file number = has file.fixed.nodes number || has file.later number

-- the first member of a layout that is no node of the cluster, if there is one
abbrev pub first_stranger : FileContents → Layout → Option ℕ
first_stranger file layout = find (λ member. not (is_node file member)) layout.members

-- whether the node of this number hears a node: itself, and those that its host hears
abbrev pub hears : (number : ℕ) → Heard → (node : ℕ) → Bool
hears number heard node = node == number || has_heard heard node

-- the first member of a layout that the node of this number does not hear, if there is one
abbrev pub first_not_heard : (number : ℕ) → Heard → Layout → Option ℕ
first_not_heard number heard layout = find (λ member. not (hears number heard member)) layout.members

-- the fault that names a node that is not heard, if there is one
abbrev pub not_heard : Option ℕ → Option AnswerError
not_heard None = None
not_heard (Some node) = Some (errors.TooFewHeard node)

-- the fault of a move to a layout of whose members the node of this number hears fewer than a quorum
abbrev pub heard_fault : (number : ℕ) → Heard → Layout → Option AnswerError
heard_fault number heard layout =
    if nat_le (quorum_of layout) (count_by (hears number heard) layout.members) then None
    else not_heard (first_not_heard number heard layout)

-- the fault of a layout with too few heard members, if the host tells which nodes it hears; no fault otherwise
abbrev pub told_fault : (number : ℕ) → Option Heard → Layout → Option AnswerError
told_fault number None layout = None
told_fault number (Some heard) layout = heard_fault number heard layout

-- the fault that names a stranger, if there is one, and otherwise the other fault
abbrev pub stranger_or : Option ℕ → Option AnswerError → Option AnswerError
stranger_or None other = other
stranger_or (Some node) other = Some (errors.NoSuchNode node)

-- Why the node of this number may not begin a move to a layout, if it may not: it does not move objects, a member of
-- the layout is no node of the cluster, or the host tells which nodes it hears, and fewer than a quorum of the members
-- are among them.
abbrev pub move_fault : (number : ℕ) → FileContents → Option Heard → Layout → Option AnswerError
move_fault number file heard layout =
    if not (moves_objects number file) then Some errors.NotMover
    else stranger_or (first_stranger file layout) (told_fault number heard layout)
