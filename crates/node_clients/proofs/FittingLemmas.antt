-- Answers fit into frames.
use Rattle.std.proofs.Common.{◌≡◌, ◌<◌, ◌≤◌, ◌^◌, ℕ, List, [], ◌∷◌, length, refl, sym, subst, arith, Result, Ok, Err, IfErr}
use Rattle.std.specs.Result.{IsErrAnd}
use Rattle.std.proofs.lemmas.Result.{err_from_is_err_and}
use Rattle.std.specs.List.{AllByRecursion}
use Rattle.client_commands.specs.declared.answer.Answer.{Answer}
use Rattle.client_commands.specs.declared.answer.Answer.TheVariants as answers
use Rattle.client_commands.specs.declared.answer.AnswerError.TheVariants.{NoQuorum}
use Rattle.client_commands.specs.Answers.{sent_bytes, sent_strings}
use Rattle.frames.specs.Frame.{IsFrame, IsShort}
use Rattle.frames.specs.declared.limits.TheConstants.{LONGEST_STRING, MOST_STRINGS}
use Rattle.node_strings.specs.Arrival.{client_address}
use Rattle.node_strings.specs.Strings.{Strings}
use Rattle.node_effects.specs.Errors.{IsUnwritten}
use Rattle.node_effects.specs.declared.error.NodeError.{NodeError}
use Rattle.node_effects.specs.declared.error.NodeError.TheVariants as errors
use Rattle.node_effects.proofs.ErrorLemmas.{client_fits}
use Rattle.node_clients.specs.Answers.{CanBeSent, answer_frame}

-- a string of at most 100 bytes is short
small : (string : List ℕ) → length string ≤ 100 → IsShort string
small string le = let limit : LONGEST_STRING ≡ 16842752 = refl in omega arith

-- an answer is sent in at most 3 strings
few_strings : (answer : Answer) → length (sent_strings answer) ≤ 3
few_strings answers.Ok = omega arith
few_strings answers.Pong = omega arith
few_strings (answers.Value value) = omega arith
few_strings answers.Nil = omega arith
few_strings (answers.Number n) = omega arith
few_strings answers.NoCommands = omega arith
few_strings (answers.Page next names) = omega arith
few_strings (answers.Greeting id) = omega arith
few_strings (answers.Error error) = omega arith

-- an answer that can be sent fits into a frame behind the address of a client
pub answer_fits : (client : ℕ) (answer : Answer) → client < 2 ^ 64 → CanBeSent answer → IsFrame (answer_frame client answer)
answer_fits client answer within can =
    let limit : MOST_STRINGS ≡ 1024 = refl in
    let few : length (sent_strings answer) ≤ 3 = few_strings answer in
    record {
      few = omega arith;
      short = ((client_fits client within).short.0, can);
    }

-- `OK` can be sent
pub ok_fits : CanBeSent answers.Ok
ok_fits = (small (sent_bytes answers.Ok) (omega arith), tt)

-- it can be told that no quorum has answered
pub no_quorum_fits : CanBeSent (answers.Error NoQuorum)
no_quorum_fits = (small (sent_bytes (answers.Error NoQuorum)) (omega arith), tt)

-- Errors that are handed on

-- what does not fit is a part of a whole that does not fit
pub part_unwritten : (part whole : Type 0) → (whole → part) → (error : NodeError) → IsUnwritten part error →
    IsUnwritten whole error
part_unwritten part whole of errors.NoMemory is = tt
part_unwritten part whole of errors.NoMoreIds is = absurd is
part_unwritten part whole of errors.Unwritable is = λ fits. is (of fits)
part_unwritten part whole of (errors.Refused refusal) is = absurd is

-- where everything fits, memory was refused
pub only_memory : (fits : Type 0) → fits → (error : NodeError) → IsUnwritten fits error → error ≡ errors.NoMemory
only_memory fits all errors.NoMemory is = refl
only_memory fits all errors.NoMoreIds is = absurd is
only_memory fits all errors.Unwritable is = absurd (is all)
only_memory fits all (errors.Refused refusal) is = absurd is

-- the same of the result of a call
pub memory_if_fits : {T : Type 0} (fits : Type 0) (result : Result T NodeError) → fits → IfErr result (IsUnwritten fits) →
    IfErr result (λ e. e ≡ errors.NoMemory)
memory_if_fits fits (Ok done) all is = tt
memory_if_fits fits (Err error) all is = only_memory fits all error is

-- a function fails as the one that it called
pub same_error : {T : Type 0} (P : NodeError → Type 0) (result : Result T NodeError) (error : NodeError) →
    IsErrAnd result (λ y. y ≡ error) → P error → IfErr result P
same_error P result error is p =
    let q = err_from_is_err_and result is in
    subst (λ r. IfErr r P) (sym q.1) (subst P (sym q.2) p)
