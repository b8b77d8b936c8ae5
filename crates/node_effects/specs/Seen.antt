-- Letters and notices of this crate's code, as values of the definitions of `deeds`.
use Rattle.std.specs.Prelude.{List, map}
use Rattle.deeds.specs.Named.{NamedLetter as Named}
use Rattle.deeds.specs.Deeds.{Notice as Seen}
use Rattle.letter.specs.declared.letter.NamedLetter.{NamedLetter}
use Rattle.node_effects.specs.declared.notice.Notice.{Notice}
use Rattle.node_effects.specs.declared.notice.Notice.TheVariants as notice

-- a letter with the name of its object, as `deeds` defines it
abbrev pub named_of : NamedLetter → Named
named_of it = record { name = it.name; letter = it.letter }

-- something that clients see, as `deeds` defines it
abbrev pub seen_of : Notice → Seen
seen_of (notice.Reads name id) = Seen.Reads name id
seen_of (notice.Writes name id value) = Seen.Writes name id value
seen_of (notice.Moves name id layout) = Seen.Moves name id layout
seen_of (notice.Tells name ended) = Seen.Tells name ended

-- several things that clients see, in order, as `deeds` defines them
abbrev pub all_seen : List Notice → List Seen
all_seen notices = map seen_of notices
