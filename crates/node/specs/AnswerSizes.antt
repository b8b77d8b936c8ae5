-- The contracts that docs/trusted.md lists do not depend on this file; other contracts and proofs do.
-- Which answers to calls can be sent.
use Rattle.std.specs.Prelude.{◌<◌, ◌^◌, IfSome, Option}
use Rattle.client_commands.specs.Deletion.{count_of}
use Rattle.frames.specs.Frame.{IsShort}
use Rattle.local_object.specs.declared.progress.Ended.{Ended}
use Rattle.record.specs.Sending.{value_or_empty}
use Rattle.node_clients.specs.Answers.{CanBeSent}
use Rattle.node_clients.specs.Calls.{call_answer, deletion_of}
use Rattle.node_clients.specs.declared.open_call.OpenCall.{OpenCall}

-- The law

-- The answer to a call that has ended can be sent, unless the call is a read of a value that is longer than a string of
-- a frame. (The number of names of a DEL has 64 bits.)
abbrev pub EndedAnswersFit : Type 0
EndedAnswersFit = (call : Option OpenCall) (ended : Ended) → IsShort (value_or_empty ended.value) →
    IfSome (deletion_of call) (λ deletion. count_of deletion < 2 ^ 64) → CanBeSent (call_answer call ended)
