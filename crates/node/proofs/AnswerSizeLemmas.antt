-- Answers to calls can be sent, unless a value is too long.
use Rattle.std.proofs.Common.{◌≡◌, ◌<◌, ◌≤◌, ◌^◌, ℕ, Bool, true, false, cond, ◌==◌, List, [], ◌∷◌, length, Option, None, Some, IfSome}
use Rattle.std.proofs.Common.{refl, arith}
use Rattle.frames.specs.Frame.{IsShort}
use Rattle.frames.specs.declared.limits.TheConstants.{LONGEST_STRING}
use Rattle.client_commands.specs.Deletion.{Deletion, count_of}
use Rattle.client_commands.specs.Laws.{IsShortAnswer}
use Rattle.client_commands.specs.declared.answer.Answer.{Answer}
use Rattle.client_commands.specs.declared.answer.Answer.TheVariants as answers
use Rattle.client_commands.specs.declared.command.Wanted.{Wanted}
use Rattle.client_commands.specs.declared.command.Wanted.TheVariants as wanted
use Rattle.client_commands.proofs.AnswerLemmas.{framed}
use Rattle.record.specs.Sending.{value_or_empty}
use Rattle.record.specs.declared.call.Operation.{Operation}
use Rattle.record.specs.declared.call.Operation.TheVariants as operation
use Rattle.node_clients.specs.Answers.{CanBeSent, kind_answer, last_answer, told_value}
use Rattle.node_clients.specs.Calls.{deletion_of, wanted_by}
use Rattle.node.specs.AnswerSizes.{EndedAnswersFit}

short_sent : (answer : Answer) → IsShortAnswer answer → CanBeSent answer
short_sent answer short = (framed [] answer (let limit : LONGEST_STRING ≡ 16842752 = refl in omega arith) short).short.1

value_short : (what : Wanted) (value : List ℕ) → IsShort value → IsShortAnswer (told_value what value)
value_short wanted.Value value short = go (length value == 0)
  where
    go : (b : Bool) → IsShortAnswer (cond b answers.Nil (answers.Value value))
    go true = tt
    go false = short
value_short wanted.Length value short =
    let limit : LONGEST_STRING ≡ 16842752 = refl in
    let few : length value ≤ LONGEST_STRING = short in omega arith
value_short wanted.Existence value short = go (length value == 0)
  where
    go : (b : Bool) → IsShortAnswer (cond b (answers.Number 0) (answers.Number 1))
    go true = omega arith
    go false = omega arith
value_short wanted.Nothing value short = tt

kind_short : (what : Wanted) (kind : Operation) (value : Option (List ℕ)) → IsShort (value_or_empty value) →
    IsShortAnswer (kind_answer what kind value)
kind_short what operation.Read value short = value_short what (value_or_empty value) short
kind_short what operation.Write value short = tt
kind_short what operation.Move value short = tt

last_short : (deletion : Option Deletion) (otherwise : Answer) → IfSome deletion (λ deletion. count_of deletion < 2 ^ 64) →
    IsShortAnswer otherwise → IsShortAnswer (last_answer deletion otherwise)
last_short None otherwise few short = short
last_short (Some deletion) otherwise few short = few

pub ended_fit : EndedAnswersFit
ended_fit call ended short few =
    short_sent (last_answer (deletion_of call) (kind_answer (wanted_by call) ended.kind ended.value))
    (last_short (deletion_of call) (kind_answer (wanted_by call) ended.kind ended.value) few
    (kind_short (wanted_by call) ended.kind ended.value short))
