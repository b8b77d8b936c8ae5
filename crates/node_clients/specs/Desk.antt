-- Which clients are told, and what a node counts.
use Rattle.std.specs.Prelude.{◌≡◌, ◌≢◌, ◌⊎◌, ℕ, ◌+◌, ◌-◌, ◌^◌, min, nat_eq, Bool, true, false, if◌then◌else◌}
use Rattle.std.specs.Prelude.{List, [], ◌∷◌, Option, None, Some, IsSome, is_some}
use Rattle.indexmap.specs.IndexMap.{get}
use Rattle.node_clients.specs.Connections.{doing, has_next, waiting_on}
use Rattle.node_clients.specs.declared.connection.Connection.{Connection}
use Rattle.node_clients.specs.declared.connection.State.TheVariants.{Idle}
use Rattle.node_clients.specs.declared.connections.Connections.{Connections}
use Rattle.node_clients.specs.declared.next.Next.TheVariants as next
use Rattle.node_clients.specs.declared.rest.Rest.{Rest}
use Rattle.client_commands.specs.declared.answer.Answer.{Answer}
use Rattle.node_effects.specs.Work.{Growth, no_growth}
use Rattle.node_clients.specs.Answers.{answer_growth, due_growth}
use Rattle.node_clients.specs.declared.counts.Counts.{Counts}
use Rattle.node_clients.specs.declared.desk.Desk.{Desk}

-- the connection of a client, if it is there
abbrev pub connection_of : Desk → (client : ℕ) → Option Connection
connection_of desk client = get nat_eq desk.clients.by_number client

-- whether the connection of a client is there
abbrev pub is_connected : Desk → (client : ℕ) → Bool
is_connected desk client = is_some (connection_of desk client)

-- whether a client is given and its connection is there
abbrev pub has_listener : Desk → (client : Option ℕ) → Bool
has_listener desk None = false
has_listener desk (Some client) = is_connected desk client

-- the client, if one is given and its connection is there
abbrev pub listener : Desk → (client : Option ℕ) → Option ℕ
listener desk None = None
listener desk (Some client) = if is_connected desk client then Some client else None

-- what is added to a node's work when a client is answered: nothing if none is given or its connection is not there
abbrev pub growth_for : Desk → (client : Option ℕ) → Answer → Growth
growth_for desk None answer = no_growth
growth_for desk (Some client) answer = answer_growth (is_connected desk client) client answer

-- what is added to a node's work for the client of a call that ended, if there is one whose connection is there: the
-- answer, or only that the client is due, if something is left of its command
abbrev pub end_growth : Desk → (client : Option ℕ) → (rest : Option Rest) → Answer → Growth
end_growth desk None rest answer = no_growth
end_growth desk (Some client) None answer = answer_growth (is_connected desk client) client answer
end_growth desk (Some client) (Some rest) answer = due_growth (is_connected desk client) client

-- whether the client of a call that ended is answered: not if something is left of its command
abbrev pub is_answered_for : Desk → (client : Option ℕ) → (rest : Option Rest) → Bool
is_answered_for desk None rest = false
is_answered_for desk (Some client) None = is_connected desk client
is_answered_for desk (Some client) (Some rest) = false

-- the connection of a client is idle, with the commands that waited on it, and all others are as they were
pub record IsIdleAgain (old : Connections) (client : ℕ) (new : Connections) : Type 0 where
  pub stays : is_some (get nat_eq new.by_number client) ≡ is_some (get nat_eq old.by_number client)
  pub state : doing (get nat_eq new.by_number client) ≡ Idle
  pub waiting : waiting_on (get nat_eq new.by_number client) ≡ waiting_on (get nat_eq old.by_number client)
  pub others : (other : ℕ) → other ≢ client → get nat_eq new.by_number other ≡ get nat_eq old.by_number other

-- if there is a client, its connection is idle again, as `IsIdleAgain` says; otherwise no connection has changed
abbrev pub IsIdleFor : (old : Connections) → (client : Option ℕ) → (new : Connections) → Type 0
IsIdleFor old None new = new ≡ old
IsIdleFor old (Some client) new = IsIdleAgain old client new

-- what is left of a command waits on the connection of a client, if it is there, before what waited there; the
-- connection is idle, and all others are as they were
pub record IsPutBack (old : Connections) (client : ℕ) (rest : Rest) (new : Connections) : Type 0 where
  pub stays : is_some (get nat_eq new.by_number client) ≡ is_some (get nat_eq old.by_number client)
  pub state : doing (get nat_eq new.by_number client) ≡ Idle
  pub waiting : IsSome (get nat_eq old.by_number client) →
      waiting_on (get nat_eq new.by_number client) ≡ next.Rest rest ∷ waiting_on (get nat_eq old.by_number client)
  pub others : (other : ℕ) → other ≢ client → get nat_eq new.by_number other ≡ get nat_eq old.by_number other

-- how the connections change for the client of a call that ended, if there is one: its connection is idle again, with
-- what is left of its command before what waited, if something is left
abbrev pub IsEndedFor : (old : Connections) → (client : Option ℕ) → (rest : Option Rest) → (new : Connections) →
    Type 0
IsEndedFor old None rest new = new ≡ old
IsEndedFor old (Some client) None new = IsIdleAgain old client new
IsEndedFor old (Some client) (Some rest) new = IsPutBack old client rest new

-- one more, up to 2^64 - 1
abbrev pub one_more_counted : ℕ → ℕ
one_more_counted count = min (count + 1) (2 ^ 64 - 1)

-- nothing is counted yet
abbrev pub none_counted : Counts
none_counted = record { answered = 0; given_up = 0; log_bytes = 0 }

-- the counts, with one more answered command if one was answered
abbrev pub with_told : (is_answered : Bool) → Counts → Counts
with_told is_answered counts =
    if is_answered then record counts { answered = one_more_counted counts.answered } else counts

-- the counts, with one more call that was given up
abbrev pub with_give_up : Counts → Counts
with_give_up counts = record counts { given_up = one_more_counted counts.given_up }

-- the connection of a client is one of those that are due
abbrev pub IsDue : (due : List ℕ) → (client : ℕ) → Type 0
IsDue [] client = ⊥
IsDue (first ∷ due) client = (client ≡ first) ⊎ IsDue due client

-- each connection on which a command waits that may be carried out is one of those that are due
abbrev pub NoneWaits : Connections → (due : List ℕ) → Type 0
NoneWaits clients due = (client : ℕ) → has_next (get nat_eq clients.by_number client) ≡ true → IsDue due client
