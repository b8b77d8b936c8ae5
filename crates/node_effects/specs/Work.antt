-- How what a node has to do, and what it wants done, grows.
use Rattle.std.specs.Prelude.{◌≡◌, ℕ, List, [], ◌∷◌, ◌++◌, map, Option, None, Some}
use Rattle.node_strings.specs.Strings.{Strings}
use Rattle.letter.specs.declared.letter.NamedLetter.{NamedLetter}
use Rattle.node_effects.specs.declared.notice.Notice.{Notice}
use Rattle.node_effects.specs.declared.output.Output.{Output}
use Rattle.node_effects.specs.declared.output.Output.TheVariants as output
use Rattle.node_effects.specs.declared.work.Work.{Work}

-- these entries, one after another, for the log
abbrev pub log_all : List Strings → List Output
log_all entries = map (λ entry. output.Log entry) entries

-- these frames, one after another, to nodes
abbrev pub send_all : List Strings → List Output
send_all frames = map (λ frame. output.Send frame) frames

-- the entries among these
abbrev pub entries_in : List Output → List Strings
entries_in [] = []
entries_in (output.Log entry ∷ more) = entry ∷ entries_in more
entries_in (output.Send frame ∷ more) = entries_in more

-- what a node has to do more: entries for its log and frames to nodes, in the order in which they are wanted, frames to
-- clients, what clients see, letters to itself, and connections whose next command is due
pub record Growth : Type 0 where
  pub outputs : List Output
  pub to_clients : List Strings
  pub notices : List Notice
  pub own : List NamedLetter
  pub due : List ℕ

-- nothing is added
abbrev pub no_growth : Growth
no_growth = record { outputs = []; to_clients = []; notices = []; own = []; due = [] }

-- the first growth, and then the second
abbrev pub both_grown : Growth → Growth → Growth
both_grown first second = record {
  outputs = first.outputs ++ second.outputs;
  to_clients = first.to_clients ++ second.to_clients;
  notices = first.notices ++ second.notices;
  own = first.own ++ second.own;
  due = first.due ++ second.due;
}

-- an entry for the log is added
abbrev pub one_entry : Strings → Growth
one_entry entry = record no_growth { outputs = output.Log entry ∷ [] }

-- a frame to a node is added
abbrev pub to_node : Strings → Growth
to_node frame = record no_growth { outputs = output.Send frame ∷ [] }

-- a frame to a client is added
abbrev pub to_client : Strings → Growth
to_client frame = record no_growth { to_clients = frame ∷ [] }

-- something that clients see is added
abbrev pub one_notice : Notice → Growth
one_notice notice = record no_growth { notices = notice ∷ [] }

-- a letter of the node to itself is added
abbrev pub one_own : NamedLetter → Growth
one_own letter = record no_growth { own = letter ∷ [] }

-- a connection whose next command is due is added
abbrev pub one_due : ℕ → Growth
one_due client = record no_growth { due = client ∷ [] }

-- the growth was added to the work, after what was there before
pub record IsGrown (old new : Work) (growth : Growth) : Type 0 where
  pub outputs : new.outputs.items ≡ old.outputs.items ++ growth.outputs
  pub to_clients : new.to_clients.items ≡ old.to_clients.items ++ growth.to_clients
  pub notices : new.notices.items ≡ old.notices.items ++ growth.notices
  pub own : new.own.items ≡ old.own.items ++ growth.own
  pub due : new.due.items ≡ old.due.items ++ growth.due

-- the work is empty
pub record IsEmpty (work : Work) : Type 0 where
  pub outputs : work.outputs.items ≡ []
  pub to_clients : work.to_clients.items ≡ []
  pub notices : work.notices.items ≡ []
  pub own : work.own.items ≡ []
  pub due : work.due.items ≡ []

-- there is nothing to do but to log entries
pub record OnlyLogs (work : Work) : Type 0 where
  pub outputs : work.outputs.items ≡ log_all (entries_in work.outputs.items)
  pub to_clients : work.to_clients.items ≡ []
  pub notices : work.notices.items ≡ []
  pub own : work.own.items ≡ []
  pub due : work.due.items ≡ []

-- the first item of a list is taken out; or the list is empty, and nothing is taken
abbrev pub FirstIsTaken : {A : Type 0} → (old new : List A) → Option A → Type 0
FirstIsTaken old new None = (old ≡ []) × (new ≡ [])
FirstIsTaken old new (Some first) = old ≡ first ∷ new

-- the first letter of the node to itself, if there is one, is taken out, and nothing else changes
pub record IsOwnTaken (old new : Work) (letter : Option NamedLetter) : Type 0 where
  pub outputs : new.outputs.items ≡ old.outputs.items
  pub to_clients : new.to_clients.items ≡ old.to_clients.items
  pub notices : new.notices.items ≡ old.notices.items
  pub own : FirstIsTaken old.own.items new.own.items letter
  pub due : new.due.items ≡ old.due.items

-- the first connection whose next command is due, if there is one, is taken out, and nothing else changes
pub record IsDueTaken (old new : Work) (client : Option ℕ) : Type 0 where
  pub outputs : new.outputs.items ≡ old.outputs.items
  pub to_clients : new.to_clients.items ≡ old.to_clients.items
  pub notices : new.notices.items ≡ old.notices.items
  pub own : new.own.items ≡ old.own.items
  pub due : FirstIsTaken old.due.items new.due.items client
