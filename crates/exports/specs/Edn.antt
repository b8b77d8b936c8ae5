-- The contracts that docs/trusted.md lists do not depend on this file; other contracts and proofs do.
-- The lines of a history as EDN maps.
use Rattle.std.specs.Prelude.{ℕ, List, [], ◌∷◌, ◌++◌, codes}
use Rattle.std.specs.Fmt.{decimal}
use Rattle.std.specs.List.{enumerate_from, flat_map, concat}
use Rattle.printing.specs.Vocabulary.{word_of_operation}
use Rattle.exports.specs.declared.event.Event.{Event}
use Rattle.exports.specs.declared.event.Process.{Process}
use Rattle.exports.specs.declared.event.Process.TheVariants as process
use Rattle.exports.specs.Words.{quoted_or, word_of_stage}

-- the process that makes a call, in EDN
abbrev pub process_text : Process → List ℕ
process_text (process.Client client) = decimal client
process_text process.Nemesis = codes ":nemesis"

-- the map of an event
abbrev pub map_text : (index : ℕ) → Event → List ℕ
map_text index event = concat (
    codes "{:index " ∷ decimal index ∷ codes ", :time " ∷ decimal event.step
    ∷ codes ", :type :" ∷ word_of_stage event.stage ∷ codes ", :process " ∷ process_text event.process
    ∷ codes ", :f :" ∷ word_of_operation event.kind
    ∷ codes ", :value " ∷ quoted_or event.value (codes "nil") ∷ codes "}" ∷ [])

-- the map of an event, with its line feed
abbrev pub edn_line : ℕ × Event → List ℕ
edn_line numbered = map_text numbered.0 numbered.1 ++ codes "\n"

-- the lines of a history: a map for each event, numbered from 0
abbrev pub edn_text : List Event → List ℕ
edn_text events = flat_map edn_line (enumerate_from 0 events)
