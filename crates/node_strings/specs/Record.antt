-- What the entries of a node's log record.
use Rattle.std.specs.Prelude.{◌≡◌, ◌<◌, ◌^◌, ◌-◌, ℕ, List, [], ◌∷◌, length, Option, Some, None}
use Rattle.std.specs.Prelude.{codes, if◌then◌else◌}
use Rattle.std.specs.Fmt.{decimal}
use Rattle.std.specs.Str.{bytes_eq}
use Rattle.layout.specs.Layout.{IsLawful}
use Rattle.cluster_file.specs.declared.file.TheConstants.{DIGEST_LENGTH}
use Rattle.node_strings.specs.declared.record.Record.{Record}
use Rattle.node_strings.specs.declared.record.Record.TheVariants as kept
use Rattle.node_strings.specs.Layouts.{layout_string}
use Rattle.node_strings.specs.Strings.{Strings}
use Rattle.node_strings.specs.Parts.{then_read, number_or_none, layout_or_none, digest_or_none}

-- the strings of the entry of a record: a word that says what it is, and then its parts
abbrev pub record_strings : Record → Strings
record_strings (kept.Cluster digest node) = codes "cluster" ∷ digest ∷ decimal node ∷ []
record_strings kept.Start = codes "start" ∷ []
record_strings (kept.Serve frame) = codes "serve" ∷ frame
record_strings (kept.Take frame) = codes "take" ∷ frame
record_strings (kept.Move id name layout) = codes "move" ∷ decimal id ∷ name ∷ layout_string layout ∷ []
record_strings (kept.Hear position name layout) =
    codes "hear" ∷ decimal position ∷ name ∷ layout_string layout ∷ []
record_strings (kept.Close position name) = codes "close" ∷ decimal position ∷ name ∷ []

-- the parts of a record have their ranges
abbrev pub HasPartsInRange : Record → Type 0
HasPartsInRange (kept.Cluster digest node) = (length digest ≡ DIGEST_LENGTH) × (node < 2 ^ 8)
HasPartsInRange (kept.Move id name layout) = (id < 2 ^ 64) × IsLawful layout
HasPartsInRange (kept.Hear position name layout) = (position < 2 ^ 32) × IsLawful layout
HasPartsInRange (kept.Close position name) = position < 2 ^ 32
HasPartsInRange it = Unit {0}

-- the record of a start, if no string is left
abbrev pub start_record : Strings → Option Record
start_record [] = Some kept.Start
start_record (string ∷ rest) = None

-- the record that names the cluster and the node
unfoldable pub cluster_record : Strings → Option Record
cluster_record (digest ∷ number ∷ []) =
    then_read (digest_or_none digest) (λ it. then_read (number_or_none 255 number)
    (λ node. Some (kept.Cluster it node)))
cluster_record strings = None

-- the record of a move
unfoldable pub move_record : Strings → Option Record
move_record (id ∷ name ∷ layout ∷ []) =
    then_read (number_or_none (2 ^ 64 - 1) id) (λ number. then_read (layout_or_none layout)
    (λ to. Some (kept.Move number name to)))
move_record strings = None

-- the record of a position that the node had heard of
unfoldable pub hear_record : Strings → Option Record
hear_record (position ∷ name ∷ layout ∷ []) =
    then_read (number_or_none (2 ^ 32 - 1) position) (λ number. then_read (layout_or_none layout)
    (λ there. Some (kept.Hear number name there)))
hear_record strings = None

-- the record of a bank that the node closed
unfoldable pub close_record : Strings → Option Record
close_record (position ∷ name ∷ []) =
    then_read (number_or_none (2 ^ 32 - 1) position) (λ number. Some (kept.Close number name))
close_record strings = None

-- the record with this word and these strings after it
unfoldable pub record_from : List ℕ → Strings → Option Record
record_from word rest =
    if bytes_eq word (codes "serve") then Some (kept.Serve rest)
    else (if bytes_eq word (codes "take") then Some (kept.Take rest)
    else (if bytes_eq word (codes "start") then start_record rest
    else (if bytes_eq word (codes "cluster") then cluster_record rest
    else (if bytes_eq word (codes "move") then move_record rest
    else (if bytes_eq word (codes "hear") then hear_record rest
    else (if bytes_eq word (codes "close") then close_record rest
    else None))))))

-- the record whose strings these are
unfoldable pub record_at : Strings → Option Record
record_at [] = None
record_at (word ∷ rest) = record_from word rest
