-- What functions that read give.
use Rattle.std.specs.Prelude.{◌≡◌, List, map, Result, Ok, Err}
use denote.Ref.{Bor}
use Rattle.cluster_file.specs.declared.error.FileError.{FileError}
use Rattle.cluster_file.specs.declared.error.FileError.TheVariants as errors
use Rattle.cluster_file.specs.declared.file.Fixed.{Fixed as HeldFixed}
use Rattle.cluster_file.specs.declared.lines.Line.{Line as HeldLine}
use Rattle.cluster_file.specs.File.{Fixed}
use Rattle.cluster_file.specs.Lines.{Line}
use Rattle.cluster_file.specs.Reading.{OrFault}
use Rattle.words.specs.Parts.{Sees}

-- a line as the code holds it
abbrev pub seen : HeldLine → Line
seen line = record { number = line.number; name = line.name.now; values = map (λ value. value.now) line.values.items }

-- what is fixed, as the code holds it
abbrev pub shown : HeldFixed → Fixed
shown fixed = record {
  nodes = fixed.nodes.items;
  n = fixed.n;
  k = fixed.k;
  delta = fixed.delta;
  mover = fixed.mover;
}

-- what a function returned, a value and the lines after it, is what reading gives; the value is seen by `view`
abbrev pub SeesLines : {X Y : Type 0} → (X → Y) → OrFault (X × Bor (List HeldLine)) → OrFault (Y × List Line) → Type 0
SeesLines view result read = Sees (λ x. (view x.0, map seen x.1.now)) result read

-- what a function returned is what reading gives; if there was no memory, nothing is said
abbrev pub GivesFile : {X : Type 0} → Result X FileError → OrFault X → Type 0
GivesFile (Ok x) read = read ≡ Ok x
GivesFile (Err (errors.Fault fault)) read = read ≡ Err fault
GivesFile (Err errors.NoMemory) read = Unit {0}
