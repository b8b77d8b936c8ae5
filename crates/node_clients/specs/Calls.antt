-- The calls that are open at a node.
use Rattle.std.specs.Prelude.{ℕ, ◌+◌, ◌-◌, ◌%◌, ◌^◌, ◌==◌, ◌||◌, ◌&&◌, Bool, false, min, nat_eq, nat_le, nat_lt}
use Rattle.std.specs.Prelude.{if◌then◌else◌, List, Option, None, Some}
use Rattle.indexmap.specs.IndexMap.{IndexMap, get}
use Rattle.local_object.specs.declared.progress.Ended.{Ended}
use Rattle.client_commands.specs.Deletion.{left_over}
use Rattle.client_commands.specs.declared.answer.Answer.{Answer}
use Rattle.client_commands.specs.declared.command.Wanted.{Wanted}
use Rattle.client_commands.specs.Deletion.{Deletion}
use Rattle.client_commands.specs.declared.command.Wanted.TheVariants as wanted
use Rattle.node_clients.specs.Answers.{ended_answer, last_answer}
use Rattle.node_clients.specs.declared.open_call.OpenCall.{OpenCall}
use Rattle.node_clients.specs.declared.open_call.Aged.{Aged}
use Rattle.node_clients.specs.declared.rest.Rest.{Rest}
use Rattle.node_clients.specs.declared.rest.Rest.TheVariants as rests

-- the call of this id, if it is open
abbrev pub call_under : {S : Type 0} → IndexMap ℕ OpenCall S → (id : ℕ) → Option OpenCall
call_under calls id = get nat_eq calls id

-- the client that waits for the answer to a call, if one does
abbrev pub client_waiting : Option OpenCall → Option ℕ
client_waiting None = None
client_waiting (Some call) = call.client

-- the client that waits for the answer to the call of this id, if one does
abbrev pub waiting_for : {S : Type 0} → IndexMap ℕ OpenCall S → (id : ℕ) → Option ℕ
waiting_for calls id = client_waiting (call_under calls id)

-- what the client of a call is told of the value, if the call is a read; the value itself if there is no call
abbrev pub wanted_by : Option OpenCall → Wanted
wanted_by None = wanted.Value
wanted_by (Some call) = call.wanted

-- the DEL of which a call is one of the writes, if it is
abbrev pub deletion_of : Option OpenCall → Option Deletion
deletion_of None = None
deletion_of (Some call) = call.deletion

-- what is left of a DEL, if there is one, when its next write has ended
abbrev pub left_of : (delta : Option ℕ) → Option Deletion → Option Deletion
left_of delta None = None
left_of delta (Some deletion) = left_over delta deletion

-- what is left of a DEL, if anything is, as what is left of a command
abbrev pub deletes : Option Deletion → Option Rest
deletes None = None
deletes (Some deletion) = Some (rests.Deletes deletion)

-- what is left of a client's command when a call of it has ended: after a move, the read that confirms it; after a
-- write of a DEL, what is left of the DEL; and after any other call nothing
abbrev pub rest_of_call : (delta : Option ℕ) → OpenCall → Option Rest
rest_of_call delta call =
    if call.is_move then Some (rests.Confirms call.name) else deletes (left_of delta call.deletion)

-- what is left of a client's command when this call of it has ended, if it was open
abbrev pub rest_of : (delta : Option ℕ) → Option OpenCall → Option Rest
rest_of delta None = None
rest_of delta (Some call) = rest_of_call delta call

-- the answer that the client of a call gets when the call has ended, and nothing is left of its command
abbrev pub call_answer : Option OpenCall → Ended → Answer
call_answer call ended = last_answer (deletion_of call) (ended_answer (wanted_by call) ended)

-- the same call, if there is one, but no client waits for it
abbrev pub with_nobody : Option OpenCall → Option OpenCall
with_nobody None = None
with_nobody (Some call) = Some (record call { client = None })

-- whether a call of this age asks the members again that have not replied: at 2, 4, 8, 16 and 32, and at each multiple
-- of 64; it does not ask again at age 1, because the first tick may come right after the call began
abbrev pub asks_at : (age : ℕ) → Bool
asks_at age =
    (age == 2) || ((age == 4) || ((age == 8) || ((age == 16) || ((age == 32) || (age % 64 == 0)))))

-- whether a call of this age asks again, and asks all nodes for the start of its object: not at the ages 2 and 4, at
-- which most calls have an answer on the way
abbrev pub asks_all_at : (age : ℕ) → Bool
asks_all_at age = nat_le 8 age && asks_at age

-- a call that is older by a tick; the greatest age is 2^32 - 1
abbrev pub older_of : OpenCall → OpenCall
older_of call = record call { age = min (call.age + 1) (2 ^ 32 - 1) }

-- what is returned for a call that gets older by a tick: its name, whether it is a move, whether it is then older than
-- this number of ticks, whether it asks again, and whether it then asks all nodes
abbrev pub aged_of : (ticks : ℕ) → OpenCall → Aged
aged_of ticks call = record {
  name = call.name;
  is_move = call.is_move;
  is_late = nat_lt ticks (older_of call).age;
  asks_again = asks_at (older_of call).age;
  asks_all = asks_all_at (older_of call).age;
}

-- the call, if it is open, made older by a tick
abbrev pub older_call : Option OpenCall → Option OpenCall
older_call None = None
older_call (Some call) = Some (older_of call)

-- what is returned for a call that gets older by a tick, if it is open
abbrev pub aged_call : (ticks : ℕ) → Option OpenCall → Option Aged
aged_call ticks None = None
aged_call ticks (Some call) = Some (aged_of ticks call)

-- whether a call, if it is open, is late as it gets older by a tick
abbrev pub becomes_late : (ticks : ℕ) → Option OpenCall → Bool
becomes_late ticks None = false
becomes_late ticks (Some call) = (aged_of ticks call).is_late

-- whether a call is open, and a move
abbrev pub is_move_open : Option OpenCall → Bool
is_move_open None = false
is_move_open (Some call) = call.is_move
