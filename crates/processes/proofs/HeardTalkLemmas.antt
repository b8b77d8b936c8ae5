-- What changes of a talk as something comes, and which services change none.
use Rattle.std.proofs.Common.{◌≡◌, ℕ, Bool, true, false, cond, ◌||◌, eqb}
use Rattle.std.proofs.Common.{List, [], ◌∷◌, ◌++◌, Option, None, Some, refl, sym, append-nil}
use Rattle.std.specs.List.{AllByRecursion}
use Rattle.node.specs.Serving.{AreTicksOf, FollowsUp, IsTickOf}
use Rattle.node_clients.specs.Services.{Service}
use Rattle.node_strings.specs.declared.arrival.Arrival.{Arrival}
use Rattle.node_strings.specs.declared.arrival.Arrival.TheVariants as came
use Rattle.processes.specs.Answers.{Passed, Talk, heard_talk, passed_at}
use Rattle.processes.proofs.ServiceAnswerLemmas.{IsQuiet}

-- what follows up, and a tick, are neither the coming of a command nor the end of a connection
pub follows_quiet : (service : Service) → FollowsUp service → IsQuiet service
follows_quiet (Service.Begins client command id) is = tt
follows_quiet (Service.Replies client command answer) is = tt
follows_quiet (Service.Quits client) is = tt
follows_quiet (Service.Ends name ended answer told) is = tt
follows_quiet (Service.Passes name ended client rest) is = tt
follows_quiet (Service.Arrives client command) is = absurd is
follows_quiet (Service.Leaves client) is = absurd is
follows_quiet (Service.Ages id) is = absurd is
follows_quiet (Service.GivesUp id told) is = absurd is
follows_quiet (Service.Releases id told) is = absurd is

tick_quiet : (id : ℕ) (service : Service) → IsTickOf id service → IsQuiet service
tick_quiet id (Service.Ages other) is = tt
tick_quiet id (Service.GivesUp other told) is = tt
tick_quiet id (Service.Releases other told) is = tt
tick_quiet id (Service.Arrives client command) is = absurd is
tick_quiet id (Service.Leaves client) is = absurd is
tick_quiet id (Service.Begins client command other) is = absurd is
tick_quiet id (Service.Replies client command answer) is = absurd is
tick_quiet id (Service.Quits client) is = absurd is
tick_quiet id (Service.Ends name ended answer told) is = absurd is
tick_quiet id (Service.Passes name ended client rest) is = absurd is

pub ticks_quiet : (ids : List ℕ) (services : List Service) → AreTicksOf ids services → AllByRecursion IsQuiet services
ticks_quiet [] [] is = tt
ticks_quiet [] (service ∷ services) is = absurd is
ticks_quiet (id ∷ ids) [] is = absurd is
ticks_quiet (id ∷ ids) (service ∷ services) is = (tick_quiet id service is.0, ticks_quiet ids services is.1)

-- a talk that goes on without reuse was one, and had not ended where a command comes
pub not_either : (a b : Bool) → a || b ≡ false → (a ≡ false) × (b ≡ false)
not_either false false e = (refl, refl)
not_either false true e = absurd (cc)
not_either true b e = absurd (cc)

-- the commands that come in
abbrev pub come_in : (client time : ℕ) → Option Arrival → List Passed
come_in client time (Some (came.Command other command)) = cond (eqb other client) (passed_at time (command ∷ [])) []
come_in client time arrival = []

-- nothing else changes a talk
pub heard_commands : (client time : ℕ) (arrival : Option Arrival) (talk : Talk) →
    (heard_talk client time arrival talk).commands ≡ talk.commands ++ come_in client time arrival
heard_commands client time None talk = sym (append-nil talk.commands)
heard_commands client time (Some (came.Message node frame)) talk = sym (append-nil talk.commands)
heard_commands client time (Some (came.Tick heard)) talk = sym (append-nil talk.commands)
heard_commands client time (Some (came.Left other)) talk = go (eqb other client)
  where
    go : (b : Bool) → (cond b (record talk { ended = true }) talk).commands ≡ talk.commands ++ []
    go true = sym (append-nil talk.commands)
    go false = sym (append-nil talk.commands)
heard_commands client time (Some (came.Command other command)) talk = go (eqb other client)
  where
    now : Talk
    now = record talk { commands = talk.commands ++ passed_at time (command ∷ []); reused = talk.reused || talk.ended }

    go : (b : Bool) → (cond b now talk).commands ≡ talk.commands ++ cond b (passed_at time (command ∷ [])) []
    go true = refl
    go false = sym (append-nil talk.commands)

pub heard_answers : (client time : ℕ) (arrival : Option Arrival) (talk : Talk) →
    (heard_talk client time arrival talk).answers ≡ talk.answers
heard_answers client time None talk = refl
heard_answers client time (Some (came.Message node frame)) talk = refl
heard_answers client time (Some (came.Tick heard)) talk = refl
heard_answers client time (Some (came.Left other)) talk = go (eqb other client)
  where
    go : (b : Bool) → (cond b (record talk { ended = true }) talk).answers ≡ talk.answers
    go true = refl
    go false = refl
heard_answers client time (Some (came.Command other command)) talk = go (eqb other client)
  where
    now : Talk
    now = record talk { commands = talk.commands ++ passed_at time (command ∷ []); reused = talk.reused || talk.ended }

    go : (b : Bool) → (cond b now talk).answers ≡ talk.answers
    go true = refl
    go false = refl

pub heard_file : (client time : ℕ) (arrival : Option Arrival) (talk : Talk) →
    (heard_talk client time arrival talk).file ≡ talk.file
heard_file client time None talk = refl
heard_file client time (Some (came.Message node frame)) talk = refl
heard_file client time (Some (came.Tick heard)) talk = refl
heard_file client time (Some (came.Left other)) talk = go (eqb other client)
  where
    go : (b : Bool) → (cond b (record talk { ended = true }) talk).file ≡ talk.file
    go true = refl
    go false = refl
heard_file client time (Some (came.Command other command)) talk = go (eqb other client)
  where
    now : Talk
    now = record talk { commands = talk.commands ++ passed_at time (command ∷ []); reused = talk.reused || talk.ended }

    go : (b : Bool) → (cond b now talk).file ≡ talk.file
    go true = refl
    go false = refl

pub heard_reused : (client time : ℕ) (arrival : Option Arrival) (talk : Talk) →
    (heard_talk client time arrival talk).reused ≡ false → talk.reused ≡ false
heard_reused client time None talk e = e
heard_reused client time (Some (came.Message node frame)) talk e = e
heard_reused client time (Some (came.Tick heard)) talk e = e
heard_reused client time (Some (came.Left other)) talk e = go (eqb other client) e
  where
    go : (b : Bool) → (cond b (record talk { ended = true }) talk).reused ≡ false → talk.reused ≡ false
    go true e = e
    go false e = e
heard_reused client time (Some (came.Command other command)) talk e = go (eqb other client) e
  where
    now : Talk
    now = record talk { commands = talk.commands ++ passed_at time (command ∷ []); reused = talk.reused || talk.ended }

    go : (b : Bool) → (cond b now talk).reused ≡ false → talk.reused ≡ false
    go true e = (not_either talk.reused talk.ended e).0
    go false e = e
