-- The contracts that docs/trusted.md lists do not depend on this file; other contracts and proofs do.
-- Why a message has no frame.
use Rattle.std.specs.Prelude.{nat_lt, nat_le, not, ◌&&◌, length, is_some, Bool, if◌then◌else◌, Result, Ok, Err}
use Rattle.std.specs.List.{list_all}
use Rattle.tag.specs.declared.limits.TheConstants.{LONGEST_NAME}
use Rattle.frames.specs.declared.limits.TheConstants.{LONGEST_STRING, MOST_STRINGS}
use Rattle.node_messages.specs.declared.error.Fault.{Fault}
use Rattle.node_messages.specs.declared.error.Fault.TheVariants.{NameTooLong, NoMember, BadAnswer, BadNext}
use Rattle.node_messages.specs.declared.error.Fault.TheVariants.{BadTelling, PieceTooLong}
use Rattle.node_messages.specs.declared.message.NodeMessage.{NodeMessage}
use Rattle.node_messages.specs.Message.{has_fitting_role, is_fitting}
use Rattle.mail.specs.Message.{names_next}
use Rattle.words.specs.Parts.{and_then}
use Rattle.node_strings.specs.Strings.{Strings}
use Rattle.node_messages.specs.Strings.{strings_of}

-- whether two answers to a question are the same
abbrev pub same : Bool → Bool → Bool
same a b = if a then b else not b

-- the first fault of a message, if it has one: its name is too long, its layout has no such member, its answer does not
-- belong to a request of its kind, it has a next layout although it names none or has none although it names one, or it
-- is a request that tells something or a reply that asks for a piece
abbrev pub checked : NodeMessage → Result (Unit {0}) Fault
checked m =
    if nat_lt LONGEST_NAME (length m.named.name) then Err NameTooLong
    else (if not (nat_lt m.named.letter.message.member (length m.named.letter.layout.members)) then Err NoMember
    else (if not (is_fitting m.named.letter.message.body) then Err BadAnswer
    else (if not (same (is_some m.named.letter.next) (names_next m.named.letter.message.body)) then Err BadNext
    else (if not (has_fitting_role m.named.letter) then Err BadTelling
    else Ok tt))))

-- whether strings are those of a frame: there are not too many, and none is too long
abbrev pub is_frame : Strings → Bool
is_frame strings =
    nat_le (length strings) MOST_STRINGS && list_all (λ string. nat_le (length string) LONGEST_STRING) strings

-- these strings, unless they are not those of a frame
abbrev pub framed : Strings → Result Strings Fault
framed strings = if is_frame strings then Ok strings else Err PieceTooLong

-- the strings of a message, or its first fault
abbrev pub strings_or_fault : NodeMessage → Result Strings Fault
strings_or_fault m = and_then (checked m) (λ _. framed (strings_of m))
