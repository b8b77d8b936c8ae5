-- The contracts that docs/trusted.md lists do not depend on this file; other contracts and proofs do.
-- What a run of the program does, by the words after its name, and with which status it ends.
use Rattle.std.specs.Prelude.{◌≡◌, ◌⊎◌, ◌++◌, ℕ, List, [], ◌∷◌, codes, drop, Bool, IsTrue, Option, IfSome}
use Rattle.std.specs.Prelude.{Result, Ok, Err}
use Rattle.std.specs.Io.KnownBytes.{Appends, Keeps}
use Rattle.cluster_file.specs.File.{FileContents}
use Rattle.node.specs.declared.node.Node.{Node}
use Rattle.node_keeper.specs.Keeping.{names_of}
use Rattle.words.specs.Word.{Word}
use Rattle.casd.specs.Fault.{IsOpenFault, IsWordsFault, exit_status_of, status_of}
use Rattle.casd.specs.Files.{HasReadFile}
use Rattle.casd.specs.Program.{HasRun}
use Rattle.casd.specs.Request.{IsFaultOf, IsNodeWord}
use Rattle.casd.specs.declared.fault.Fault.{Fault}
use Rattle.casd.specs.declared.program.TheConstants.{HELP, VERSION}

-- the result of a run of a node
abbrev pub RunResult : Type 0
RunResult = Result (Unit {0}) Fault

-- the cluster file was not read, for this fault; nothing was written to the output, and the log keeps what it kept
abbrev pub HasNoFile : (given : Option (List ℕ)) → (number : ℕ) → (kept held keeps holds : Option (List ℕ))
    → RunResult → Type 0
HasNoFile given number kept held keeps holds result =
    (fault : Fault) × (result ≡ Err fault) × HasReadFile given number (Err fault) × (keeps ≡ kept) × (holds ≡ held)

-- the cluster file was read, the log was not opened, for this fault; nothing was written to the output, and the log
-- keeps what it kept
abbrev pub HasNoLog : (given : Option (List ℕ)) → (number : ℕ) → (kept held keeps holds : Option (List ℕ))
    → RunResult → Type 0
HasNoLog given number kept held keeps holds result =
    (fault : Fault) × (result ≡ Err fault) × (file : FileContents) × HasReadFile given number (Ok file)
    × IsOpenFault fault × (keeps ≡ kept) × (holds ≡ held)

-- the program ran a node of this number with this cluster file, and with a log in which these bytes were found
abbrev pub HasRunNode : FileContents → (number : ℕ) → (found kept input held keeps holds : Option (List ℕ)) →
    RunResult → Type 0
HasRunNode file number found kept input held keeps holds result =
    (node : Node) × HasRun (names_of file) number found kept input held node keeps holds result

-- The program was to run a node of this number, with the cluster file in these bytes, and with a log in which those
-- were found. What that log kept when it was closed, the folder keeps in the end, if it is known what the folder keeps.
-- What the log kept when it was opened is not known.
abbrev pub RunsNode : (number : ℕ) → (given found kept input held keeps holds : Option (List ℕ)) → RunResult → Type 0
RunsNode number given found kept input held keeps holds result =
    HasNoFile given number kept held keeps holds result ⊎ HasNoLog given number kept held keeps holds result
    ⊎ ((file : FileContents) × (opened closed : Option (List ℕ)) × HasReadFile given number (Ok file)
    × HasRunNode file number found opened input held closed holds result × Keeps keeps closed)

-- the text and a line feed were written, and the status is 0; or they were not, or only in part, and the status is 1
abbrev pub Prints : (text : List ℕ) → (held holds : Option (List ℕ)) → (status : ℕ) → Type 0
Prints text held holds status = ((status ≡ 0) × Appends held holds (text ++ 10 ∷ [])) ⊎ (status ≡ 1)

-- The words ask for a text, which is printed; or for nothing, and the status says why; or for a node of a number, which
-- the program was to run, and the status is that of its result. `given` says which bytes are in the file of a name,
-- `found` which are in the log of a folder, and `kept` and `keeps` which the log of a folder keeps before and in the
-- end, if they are known.
abbrev pub EndsBy : (given found kept : List ℕ → Option (List ℕ)) → (input : Option (List ℕ)) → List Word →
    (held : Option (List ℕ)) → (keeps : List ℕ → Option (List ℕ)) → (holds : Option (List ℕ)) → (status : ℕ) → Type 0
EndsBy given found kept input words held keeps holds status =
    ((words ≡ codes "--help" ∷ []) × (keeps ≡ kept) × Prints HELP.now held holds status)
    ⊎ ((words ≡ codes "--version" ∷ []) × (keeps ≡ kept) × Prints VERSION.now held holds status)
    ⊎ ((fault : Fault) × IsFaultOf words fault × (status ≡ exit_status_of fault) × (keeps ≡ kept) × (holds ≡ held))
    ⊎ ((file word folder : Word) × (number : ℕ) × (result : RunResult) × (words ≡ file ∷ word ∷ folder ∷ [])
    × IsNodeWord word number
    × RunsNode number (given file) (found folder) (kept folder) input held (keeps folder) holds result
    × (status ≡ status_of result))

-- If the status is 3, the words ask for a node, and a call of the log in its folder failed. `failed` says of the log of
-- which folders one has.
abbrev pub EndsForLog : (failed : List ℕ → Bool) → List Word → (status : ℕ) → Type 0
EndsForLog failed words status =
    status ≡ 3 → (file word folder : Word) × (words ≡ file ∷ word ∷ folder ∷ []) × IsTrue (failed folder)

-- the same of the words behind the name of the program; if it is known with which words it was called, these are they
abbrev pub EndsForLogAsCalled : (words : Option (List Word)) → (failed : List ℕ → Bool) → (status : ℕ) → Type 0
EndsForLogAsCalled words failed status = status ≡ 3 →
    (all : List Word) × IfSome words (λ known. all ≡ known) × (file word folder : Word)
    × (drop 1 all ≡ file ∷ word ∷ folder ∷ []) × IsTrue (failed folder)

-- The program ended as the words behind its name say; if it is known with which words it was called, these are they. Or
-- they could not be read, for a fault, and then nothing was written to the output, and each log keeps what it kept.
abbrev pub EndsAsCalled : (words : Option (List Word)) → (given found kept : List ℕ → Option (List ℕ))
    → (input held : Option (List ℕ)) → (keeps : List ℕ → Option (List ℕ)) → (holds : Option (List ℕ))
    → (status : ℕ) → Type 0
EndsAsCalled words given found kept input held keeps holds status =
    ((all : List Word) × IfSome words (λ known. all ≡ known)
    × EndsBy given found kept input (drop 1 all) held keeps holds status)
    ⊎ ((fault : Fault) × IsWordsFault fault × (status ≡ exit_status_of fault) × (keeps ≡ kept) × (holds ≡ held))
