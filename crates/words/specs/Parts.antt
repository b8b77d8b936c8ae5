-- What is read, part by part.
use Rattle.std.specs.Prelude.{◌≡◌, Result, Ok, Err}

-- the result of a first reading is given to the next one; a fault of the first is the fault of both
abbrev pub and_then : {E A B : Type 0} → Result A E → (A → Result B E) → Result B E
and_then (Ok x) next = next x
and_then (Err fault) next = Err fault

-- what a function returned, seen by `view`, is what reading gives
abbrev pub Sees : {E X Y : Type 0} → (X → Y) → Result X E → Result Y E → Type 0
Sees view (Ok x) read = read ≡ Ok (view x)
Sees view (Err fault) read = read ≡ Err fault
