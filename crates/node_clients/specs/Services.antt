-- The services that a node does for its clients, and what clients are sent for each.
use Rattle.std.specs.Prelude.{ℕ, List, [], ◌∷◌, ◌++◌, Option, None, Some}
use Rattle.local_object.specs.declared.progress.Ended.{Ended}
use Rattle.client_commands.specs.declared.answer.Answer.{Answer}
use Rattle.client_commands.specs.declared.answer.Answer.TheVariants as answer
use Rattle.client_commands.specs.declared.answer.AnswerError.TheVariants.{NoQuorum}
use Rattle.client_commands.specs.declared.command.Command.{Command}
use Rattle.client_commands.specs.declared.command.Command.TheVariants as ask
use Rattle.client_commands.specs.Deletion.{name_now}
use Rattle.node_strings.specs.Arrival.{client_address}
use Rattle.node_strings.specs.Strings.{Strings}
use Rattle.node_effects.specs.declared.notice.Notice.{Notice}
use Rattle.node_effects.specs.declared.notice.Notice.TheVariants as notice
use Rattle.node_clients.specs.Answers.{answer_frame}
use Rattle.node_clients.specs.declared.next.Next.{Next}
use Rattle.node_clients.specs.declared.rest.Rest.{Rest}

-- One thing that a node does for its clients. A command of a client comes, or a client's connection ends. The next
-- command of a client begins the call with an id, or is answered at once, or is a QUIT. A call of the object of a name
-- is answered; if more is left of its command, it passes: the client is told nothing, and this rest is carried out
-- next. A call gets older by a tick. A late call is given up, or its client no longer waits for it. `told` is the
-- client that is told, if one is.
pub data Service : Type 0 where
  Arrives : (client : ℕ) → (command : Strings) → Service
  Leaves : (client : ℕ) → Service
  Begins : (client : ℕ) → Command → (id : ℕ) → Service
  Replies : (client : ℕ) → (command : Next) → Answer → Service
  Quits : (client : ℕ) → Service
  Ends : (name : List ℕ) → Ended → Answer → (told : Option ℕ) → Service
  Passes : (name : List ℕ) → Ended → (client : ℕ) → (rest : Rest) → Service
  Ages : (id : ℕ) → Service
  GivesUp : (id : ℕ) → (told : Option ℕ) → Service
  Releases : (id : ℕ) → (told : Option ℕ) → Service

-- the frame of an answer to the client that is told, if one is
abbrev pub told_frames : (told : Option ℕ) → Answer → List Strings
told_frames None answer = []
told_frames (Some client) answer = answer_frame client answer ∷ []

-- the client that is told, if one is
abbrev pub told_clients : (told : Option ℕ) → List ℕ
told_clients None = []
told_clients (Some client) = client ∷ []

-- the frames that clients are sent: answers, and after the answer to a QUIT the frame that tells the host to close the
-- connection
abbrev pub service_frames : Service → List Strings
service_frames (Service.Replies client command answer) = answer_frame client answer ∷ []
service_frames (Service.Quits client) = answer_frame client answer.Ok ∷ (client_address client ∷ []) ∷ []
service_frames (Service.Ends name ended answer told) = told_frames told answer
service_frames (Service.GivesUp id told) = told_frames told (answer.Error NoQuorum)
service_frames (Service.Releases id told) = told_frames told (answer.Error NoQuorum)
service_frames service = []

-- the connections that are idle again
abbrev pub service_dues : Service → List ℕ
service_dues (Service.Replies client command answer) = client ∷ []
service_dues (Service.Ends name ended answer told) = told_clients told
service_dues (Service.Passes name ended client rest) = client ∷ []
service_dues (Service.GivesUp id told) = told_clients told
service_dues (Service.Releases id told) = told_clients told
service_dues service = []

-- what clients see of the call that a command begins
abbrev pub begun_notices : Command → (id : ℕ) → List Notice
begun_notices (ask.Read wanted name) id = notice.Reads name id ∷ []
begun_notices (ask.Set name value) id = notice.Writes name id value ∷ []
begun_notices (ask.Move name layout) id = notice.Moves name id layout ∷ []
begun_notices (ask.Delete deletion) id = notice.Writes (name_now deletion) id [] ∷ []
begun_notices command id = []

-- what clients see: calls that begin, and answers to calls
abbrev pub service_notices : Service → List Notice
service_notices (Service.Begins client command id) = begun_notices command id
service_notices (Service.Ends name ended answer told) = notice.Tells name ended ∷ []
service_notices (Service.Passes name ended client rest) = notice.Tells name ended ∷ []
service_notices service = []

-- the frames of these services, one after another
abbrev pub all_frames : List Service → List Strings
all_frames [] = []
all_frames (service ∷ services) = service_frames service ++ all_frames services

-- the connections that are idle again after these services, one after another
abbrev pub all_dues : List Service → List ℕ
all_dues [] = []
all_dues (service ∷ services) = service_dues service ++ all_dues services

-- what clients see of these services, one after another
abbrev pub all_notices : List Service → List Notice
all_notices [] = []
all_notices (service ∷ services) = service_notices service ++ all_notices services
