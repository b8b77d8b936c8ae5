-- The contracts that docs/trusted.md lists do not depend on this file; other contracts and proofs do.
-- What functions that read give.
use Rattle.std.specs.Prelude.{◌≡◌, ℕ, List, Result, Ok, Err}
use denote.Ref.{Bor}
use Rattle.node_messages.specs.declared.error.Fault.{Fault}
use Rattle.node_messages.specs.declared.error.MessageError.{MessageError}
use Rattle.node_messages.specs.declared.error.MessageError.TheVariants as errors

-- what a function returned, seen by `view`, is what reading gives; if there was no memory, nothing is said
abbrev pub AgreesAs : {X Y : Type 0} → (X → Y) → Result X MessageError → Result Y Fault → Type 0
AgreesAs view (Ok x) read = read ≡ Ok (view x)
AgreesAs view (Err (errors.Fault fault)) read = read ≡ Err fault
AgreesAs view (Err errors.NoMemory) read = Unit {0}

-- what a function returned is what reading gives; if there was no memory, nothing is said
abbrev pub Agrees : {X : Type 0} → Result X MessageError → Result X Fault → Type 0
Agrees result read = AgreesAs (λ x. x) result read

-- what a function returned, a fault or a value with the bytes after it, is what reading gives
abbrev pub AgreesAtBytes : {X : Type 0} → Result (X × Bor (List ℕ)) Fault → Result (X × List ℕ) Fault → Type 0
AgreesAtBytes (Ok x) read = read ≡ Ok (x.0, x.1.now)
AgreesAtBytes (Err fault) read = read ≡ Err fault

-- the same; if there was no memory, nothing is said
abbrev pub AgreesBefore : {X : Type 0} → Result (X × Bor (List ℕ)) MessageError → Result (X × List ℕ) Fault → Type 0
AgreesBefore result read = AgreesAs (λ x. (x.0, x.1.now)) result read
