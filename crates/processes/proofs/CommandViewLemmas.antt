-- What is known of a client's commands and of their answers, and that it stays known.
use Rattle.std.proofs.Common.{◌≡◌, ◌⊎◌, inl, inr, ◌≤◌, ℕ, zero, suc, List, [], ◌∷◌, length}
use Rattle.std.proofs.Common.{Option, None, Some, Ok, slice_get, arith}
use Rattle.client_commands.specs.Answers.{sent_strings}
use Rattle.client_commands.specs.Deletion.{Deletion, left_over, name_now}
use Rattle.client_commands.specs.Reading.{command_at}
use Rattle.client_commands.specs.declared.answer.Answer.{Answer}
use Rattle.client_commands.specs.declared.answer.Answer.TheVariants as answers
use Rattle.client_commands.specs.declared.answer.AnswerError.TheVariants as errors
use Rattle.client_commands.specs.declared.command.Command.{Command}
use Rattle.client_commands.specs.declared.command.Command.TheVariants as ask
use Rattle.cluster_file.specs.File.{FileContents}
use Rattle.deeds.specs.CallId.{CallIds}
use Rattle.deeds.specs.Deeds.{Notice}
use Rattle.local_object.specs.declared.progress.Ended.{Ended}
use Rattle.layout.specs.Layout.{Layout}
use Rattle.node.specs.Replies.{IsReplyTo, MayBegin}
use Rattle.node_clients.specs.Calls.{call_answer, rest_of}
use Rattle.node_clients.specs.Connections.{asked}
use Rattle.node_clients.specs.Served.{call_begun}
use Rattle.node_clients.specs.Services.{begun_notices}
use Rattle.node_clients.specs.declared.next.Next.{Next}
use Rattle.node_clients.specs.declared.next.Next.TheVariants as next
use Rattle.node_clients.specs.declared.open_call.OpenCall.{OpenCall}
use Rattle.node_clients.specs.declared.rest.Rest.TheVariants as rests
use Rattle.node_effects.specs.Seen.{all_seen}
use Rattle.node_strings.specs.Strings.{Strings}
use Rattle.recoveries.specs.OwnCalls.{WasGiven}
use Rattle.processes.specs.Answers.{Passed}
use Rattle.processes.specs.Events.{call_begun as id_begun}
use Rattle.processes.proofs.StandingLemmas.{IsAmong}

-- what clients have seen, what they were told or are told by answers that wait, and the ids that the node has given
pub record View : Type 0 where
  pub seen : List Notice
  pub told : List Notice
  pub ids : CallIds

-- more was seen, told and given, and no call began again with an id that was given
pub record Widens (old new : View) : Type 0 where
  pub longer : length old.seen ≤ length new.seen
  pub at : (place : ℕ) (notice : Notice) → slice_get old.seen place ≡ Some notice → slice_get new.seen place ≡ Some notice
  pub fresh : (place id : ℕ) (notice : Notice) → slice_get new.seen place ≡ Some notice → id_begun notice ≡ Some id →
      WasGiven old.ids id → slice_get old.seen place ≡ Some notice
  pub among : (notice : Notice) → IsAmong old.told notice → IsAmong new.told notice
  pub given : (id : ℕ) → WasGiven old.ids id → WasGiven new.ids id

pub widens_same : (view : View) → Widens view view
widens_same view = record {
  longer = omega arith;
  at = λ place notice e. e;
  fresh = λ place id notice e begins given. e;
  among = λ notice is. is;
  given = λ id is. is;
}

pub widens_then : (a b c : View) → Widens a b → Widens b c → Widens a c
widens_then a b c first second =
    let l = first.longer in
    let m = second.longer in record {
      longer = omega arith;
      at = λ place notice e. second.at place notice (first.at place notice e);
      fresh = λ place id notice e begins given. first.fresh place id notice
          (second.fresh place id notice e begins (first.given id given)) begins given;
      among = λ notice is. second.among notice (first.among notice is);
      given = λ id is. second.given id (first.given id is);
    }

-- a call began with this id, as this notice says, no earlier than at that time; the id was given to no other call later
pub record IsOwnCall (view : View) (from : ℕ) (notice : Notice) (id : ℕ) : Type 0 where
  pub place : ℕ
  pub at : slice_get view.seen place ≡ Some notice
  pub begins : id_begun notice ≡ Some id
  pub after : from ≤ place
  pub last : (other : ℕ) (later : Notice) → slice_get view.seen other ≡ Some later → id_begun later ≡ Some id → other ≤ place
  pub given : WasGiven view.ids id

-- a call that began as this says of its id was answered, and the client was told so or this waits
pub record WasAnswered (view : View) (from : ℕ) (began : ℕ → Notice) : Type 0 where
  pub id : ℕ
  pub call : IsOwnCall view from (began id) id
  pub other : List ℕ
  pub ended : Ended
  pub told : IsAmong view.told (Notice.Tells other ended)
  pub same : ended.id ≡ id

-- the empty value was written to a name, and the client was told so or this waits
abbrev pub WroteOnce : View → (from : ℕ) → (name : List ℕ) → Type 0
WroteOnce view from name = WasAnswered view from (λ id. Notice.Writes name id [])

-- an object was moved to a layout, and the client was told so or this waits
abbrev pub Moved : View → (from : ℕ) → (name : List ℕ) → Layout → Type 0
Moved view from name layout = WasAnswered view from (λ id. Notice.Moves name id layout)

-- so many writes of a DEL led from what was first left to what is left now
abbrev pub Wrote : View → (from : ℕ) → (delta : Option ℕ) → (count : ℕ) → (first now : Deletion) → Type 0
Wrote view from delta zero first now = first ≡ now
Wrote view from delta (suc count) first now =
    WroteOnce view from (name_now first)
    × (middle : Deletion) × (left_over delta first ≡ Some middle) × Wrote view from delta count middle now

-- this is next for the command at the node of this number: its frame, what is left of its DEL, or the read of the object
-- that it has moved
abbrev pub IsNextOf : View → (number : ℕ) → FileContents → (command : Passed) → Next → Type 0
IsNextOf view number file command (next.Came frame) = frame ≡ command.strings
IsNextOf view number file command (next.Rest (rests.Deletes deletion)) =
    (first : Deletion) × (count : ℕ) × (command_at command.strings ≡ Ok (ask.Delete first))
    × Wrote view command.time file.fixed.delta count first deletion
IsNextOf view number file command (next.Rest (rests.Confirms name)) =
    (layout : Layout) × (command_at command.strings ≡ Ok (ask.Move name layout)) × MayBegin number file (ask.Move name layout)
    × Moved view command.time name layout

-- the call of this id is open for the command
pub record IsOpenFor (client : ℕ) (view : View) (number : ℕ) (file : FileContents) (command : Passed) (id : ℕ)
    (call : OpenCall) : Type 0 where
  pub first : Next
  pub is_next : IsNextOf view number file command first
  pub asks : Command
  pub asked_is : asked first ≡ Ok asks
  pub may : MayBegin number file asks
  pub call_is : call_begun client asks ≡ Some (record call { age = 0 })
  pub notice : Notice
  pub begins : all_seen (begun_notices asks id) ≡ notice ∷ []
  pub own : IsOwnCall view command.time notice id

-- the answer is that of the call that was open for the command, and nothing is left of it
pub record IsEndOf (client : ℕ) (view : View) (number : ℕ) (file : FileContents) (command : Passed)
    (answer : Answer) : Type 0 where
  pub id : ℕ
  pub call : OpenCall
  pub open_for : IsOpenFor client view number file command id call
  pub name : List ℕ
  pub ended : Ended
  pub told : IsAmong view.told (Notice.Tells name ended)
  pub same : ended.id ≡ id
  pub answer_is : answer ≡ call_answer (Some call) ended
  pub last : rest_of file.fixed.delta (Some call) ≡ None

-- why this is the answer to the command: it is the reply without a call; or the client has quit; or the command's call
-- was answered; or it was late
abbrev pub HasReason : (number client : ℕ) → FileContents → View → (command : Passed) → Answer → Type 0
HasReason number client file view command answer =
    IsReplyTo number file client (command_at command.strings) answer
    ⊎ (((command_at command.strings ≡ Ok ask.Quit) × (answer ≡ answers.Ok))
    ⊎ (IsEndOf client view number file command answer
    ⊎ ((id : ℕ) × (call : OpenCall) × IsOpenFor client view number file command id call
    × (answer ≡ answers.Error errors.NoQuorum))))

-- these strings are an answer to the command
pub record IsReplied (number client : ℕ) (file : FileContents) (view : View) (command : Passed) (strings : Strings) : Type 0 where
  pub answer : Answer
  pub sent : strings ≡ sent_strings answer
  pub reason : HasReason number client file view command answer

-- these are answers to the first of the commands, and those are left
abbrev pub AreReplied : (number client : ℕ) → FileContents → View → List Strings → (before after : List Passed) → Type 0
AreReplied number client file view [] before after = before ≡ after
AreReplied number client file view (strings ∷ rest) [] after = ⊥
AreReplied number client file view (strings ∷ rest) (command ∷ before) after =
    IsReplied number client file view command strings × AreReplied number client file view rest before after

-- What is known stays known

module _ (old new : View) (wide : Widens old new) where
  pub own_wider : (from : ℕ) (notice : Notice) (id : ℕ) → IsOwnCall old from notice id → IsOwnCall new from notice id
  own_wider from notice id is = record {
    place = is.place;
    at = wide.at is.place notice is.at;
    begins = is.begins;
    after = is.after;
    last = λ other later e same. is.last other later (wide.fresh other id later e same is.given) same;
    given = wide.given id is.given;
  }

  answered_wider : (from : ℕ) (began : ℕ → Notice) → WasAnswered old from began → WasAnswered new from began
  answered_wider from began is = record {
    id = is.id;
    call = own_wider from (began is.id) is.id is.call;
    other = is.other;
    ended = is.ended;
    told = wide.among (Notice.Tells is.other is.ended) is.told;
    same = is.same;
  }

  wrote_wider : (from : ℕ) (delta : Option ℕ) (count : ℕ) (first now : Deletion) → Wrote old from delta count first now →
      Wrote new from delta count first now
  wrote_wider from delta zero first now same = same
  wrote_wider from delta (suc count) first now is =
      (answered_wider from (λ id. Notice.Writes (name_now first) id []) is.0, is.1, is.2, wrote_wider from delta count is.1 now is.3)

  pub next_wider : (number : ℕ) (file : FileContents) (command : Passed) (first : Next) → IsNextOf old number file command first →
      IsNextOf new number file command first
  next_wider number file command (next.Came frame) is = is
  next_wider number file command (next.Rest (rests.Deletes deletion)) is =
      (is.0, is.1, is.2, wrote_wider command.time file.fixed.delta is.1 is.0 deletion is.3)
  next_wider number file command (next.Rest (rests.Confirms name)) is =
      (is.0, is.1, is.2, answered_wider command.time (λ id. Notice.Moves name id is.0) is.3)

  pub open_wider : (client number : ℕ) (file : FileContents) (command : Passed) (id : ℕ) (call : OpenCall) →
      IsOpenFor client old number file command id call → IsOpenFor client new number file command id call
  open_wider client number file command id call is = record {
    first = is.first;
    is_next = next_wider number file command is.first is.is_next;
    asks = is.asks;
    asked_is = is.asked_is;
    may = is.may;
    call_is = is.call_is;
    notice = is.notice;
    begins = is.begins;
    own = own_wider command.time is.notice id is.own;
  }

  end_wider : (client number : ℕ) (file : FileContents) (command : Passed) (answer : Answer) →
      IsEndOf client old number file command answer → IsEndOf client new number file command answer
  end_wider client number file command answer is = record {
    id = is.id;
    call = is.call;
    open_for = open_wider client number file command is.id is.call is.open_for;
    name = is.name;
    ended = is.ended;
    told = wide.among (Notice.Tells is.name is.ended) is.told;
    same = is.same;
    answer_is = is.answer_is;
    last = is.last;
  }

  reason_wider : (number client : ℕ) (file : FileContents) (command : Passed) (answer : Answer) →
      HasReason number client file old command answer → HasReason number client file new command answer
  reason_wider number client file command answer (inl is) = inl is
  reason_wider number client file command answer (inr (inl is)) = inr (inl is)
  reason_wider number client file command answer (inr (inr (inl is))) =
      inr (inr (inl (end_wider client number file command answer is)))
  reason_wider number client file command answer (inr (inr (inr is))) =
      inr (inr (inr (is.0, is.1, open_wider client number file command is.0 is.1 is.2, is.3)))

  pub reply_wider : (number client : ℕ) (file : FileContents) (command : Passed) (strings : Strings) →
      IsReplied number client file old command strings → IsReplied number client file new command strings
  reply_wider number client file command strings is = record {
    answer = is.answer;
    sent = is.sent;
    reason = reason_wider number client file command is.answer is.reason;
  }

  pub replies_wider : (number client : ℕ) (file : FileContents) (all : List Strings) (before after : List Passed) →
      AreReplied number client file old all before after → AreReplied number client file new all before after
  replies_wider number client file [] before after same = same
  replies_wider number client file (strings ∷ rest) [] after is = absurd is
  replies_wider number client file (strings ∷ rest) (command ∷ before) after is =
      (reply_wider number client file command strings is.0, replies_wider number client file rest before after is.1)
