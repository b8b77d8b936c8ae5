-- What each service sends to a client is the answer to the client's first command.
use Rattle.std.proofs.Common.{◌≡◌, ◌≢◌, ◌⊎◌, inl, inr, ◌<◌, ◌≤◌, ◌^◌, ℕ, Bool, true, false, cond, eqb, eqb-true, eq-eqb}
use Rattle.std.proofs.Common.{List, [], ◌∷◌, length, Option, None, Some, is_some, refl, sym, subst, ap, ◌∙◌}
use Rattle.std.specs.List.{AllByRecursion}
use Rattle.std.proofs.lemmas.Option.{same_Some}
use Rattle.client_commands.specs.Answers.{sent_strings}
use Rattle.client_commands.specs.declared.answer.Answer.{Answer}
use Rattle.cluster_file.specs.File.{FileContents}
use Rattle.node_clients.specs.Calls.{call_under, client_waiting, waiting_for}
use Rattle.node_clients.specs.Connections.{doing, waiting_on}
use Rattle.node_clients.specs.Desk.{IsIdleFor, connection_of, is_connected, listener}
use Rattle.node_clients.specs.Services.{Service, told_frames}
use Rattle.node_clients.specs.declared.connection.Connection.{Connection}
use Rattle.node_clients.specs.declared.connection.State.TheVariants.{Idle}
use Rattle.node_clients.specs.declared.desk.Desk.{Desk}
use Rattle.node_clients.specs.declared.next.Next.{Next}
use Rattle.node_clients.specs.declared.open_call.OpenCall.{OpenCall}
use Rattle.node_clients.proofs.ServedLemmas.{busy_is_there}
use Rattle.node_strings.specs.Strings.{Strings}
use Rattle.processes.specs.Answers.{Passed, answers_to}
use Rattle.processes.proofs.CommandViewLemmas.{AreReplied, HasReason, IsOpenFor, View, Widens}
use Rattle.processes.proofs.CommandViewLemmas.{open_wider}
use Rattle.processes.proofs.ConnectionLemmas.{HasCommandsIf, HasNoMore, Waits}
use Rattle.processes.proofs.ConnectionLemmas.{closed_none, kept_if, none_left, rest_waits}
use Rattle.processes.proofs.ConnectionLemmas.{times_wider}
use Rattle.processes.proofs.AnswerFrameLemmas.{mine_sent, other_sent}

-- the open calls of a desk, by their ids
abbrev pub calls_of : Desk → ℕ → Option OpenCall
calls_of desk id = call_under desk.calls id

-- what a client's connection at a desk still has to carry out, unless it has ended
abbrev pub HasDeskIf : (client number : ℕ) → FileContents → (ended : Bool) → View → Desk → List Passed → Type 0
HasDeskIf client number file ended view desk commands =
    HasCommandsIf client number file ended view (connection_of desk client) (calls_of desk) commands

-- a client may be answered now: a command waits on its idle connection, or it is there, and a call is open for it
abbrev pub Reaches : Desk → (client : ℕ) → Type 0
Reaches desk client =
    ((first : Next) × (rest : List Next) × (doing (connection_of desk client) ≡ Idle)
    × (waiting_on (connection_of desk client) ≡ first ∷ rest))
    ⊎ ((is_connected desk client ≡ true) × (id : ℕ) × (call : OpenCall) × (call_under desk.calls id ≡ Some call)
    × (call.client ≡ Some client))

-- the number of such a client has its range
pub reach_bound : (client number : ℕ) (file : FileContents) (ended : Bool) (view : View) (desk : Desk) (commands : List Passed) →
    HasDeskIf client number file ended view desk commands → Reaches desk client → client < 2 ^ 64
reach_bound client number file true view desk commands gone (inl is) =
    absurd (let wrong : is.0 ∷ is.1 ≡ [] = sym is.3 ∙ ap waiting_on gone in cc)
reach_bound client number file true view desk commands gone (inr is) =
    absurd (let wrong : true ≡ false = sym is.0 ∙ ap is_some gone in cc)
reach_bound client number file false view desk commands has (inr is) =
    let here = has.opened is.1 is.2 is.3 is.4 in has.bound here.1 here.2 here.3
reach_bound client number file false view desk commands has (inl is) = go commands refl (has.idle is.2)
  where
    go : (those : List Passed) → commands ≡ those → Waits view number file those (waiting_on (connection_of desk client)) → client < 2 ^ 64
    go [] e waits = absurd (let wrong : is.0 ∷ is.1 ≡ [] = sym is.3 ∙ waits in cc)
    go (command ∷ rest) e waits = has.bound command rest e

-- any service but that a command comes or a connection ends
abbrev pub IsQuiet : Service → Type 0
IsQuiet (Service.Arrives client command) = ⊥
IsQuiet (Service.Leaves client) = ⊥
IsQuiet service = Unit {0}

-- a client that is told and has this number waits, and is there
pub listener_is : (desk : Desk) (who : Option ℕ) (client : ℕ) → listener desk who ≡ Some client →
    (who ≡ Some client) × (is_connected desk client ≡ true)
listener_is desk None client e = absurd (cc)
listener_is desk (Some other) client e = go (is_connected desk other) refl e
  where
    go : (b : Bool) → is_connected desk other ≡ b → cond b (Some other) None ≡ Some client →
        (Some other ≡ Some client) × (is_connected desk client ≡ true)
    go true there e = (e, subst (λ n. is_connected desk n ≡ true) (same_Some other client e) there)
    go false there e = absurd (cc)

module _ (number client : ℕ) (file : FileContents) where
  -- After a service: what it sent to the client are answers to the first of these commands, and its connection still has
  -- to carry out the others.
  pub record HasStepped (ended : Bool) (view : View) (frames : List Strings) (new : Desk) (commands : List Passed) : Type 0 where
    pub left : List Passed
    pub replied : client < 2 ^ 64 → AreReplied number client file view (answers_to client frames) commands left
    pub has : HasDeskIf client number file ended view new left

  -- a service that is not one for the client
  pub untouched : (ended : Bool) (view then : View) (frames : List Strings) (old new : Desk) (commands : List Passed) → Widens view then →
      connection_of new client ≡ connection_of old client → HasNoMore client (calls_of old) (calls_of new) →
      (client < 2 ^ 64 → answers_to client frames ≡ []) → HasDeskIf client number file ended view old commands →
      HasStepped ended then frames new commands
  untouched ended view then frames old new commands wide same less none has = record {
    left = commands;
    replied = λ small. subst (λ fs. AreReplied number client file then fs commands commands) (sym (none small)) refl;
    has = subst (λ at. HasCommandsIf client number file ended then at (calls_of new) commands) (sym same)
        (kept_if client number file ended view then (connection_of old client) (calls_of old) (calls_of new) commands wide less has);
  }

  -- the first command gets its answer, and the others are left
  pub answers_first : (then : View) (frames : List Strings) (new : Desk) (commands : List Passed) (command : Passed) (rest : List Passed)
      (answer : Answer) → commands ≡ command ∷ rest → answers_to client frames ≡ sent_strings answer ∷ [] →
      HasReason number client file then command answer → HasDeskIf client number file false then new rest →
      HasStepped false then frames new commands
  answers_first then frames new commands command rest answer those sent reason has = record {
    left = rest;
    replied = λ small. subst (λ fs. AreReplied number client file then fs commands rest) (sym sent)
        (subst (λ cs. AreReplied number client file then (sent_strings answer ∷ []) cs rest) (sym those)
        ((record { answer = answer; sent = refl; reason = reason }), refl));
    has = has;
  }

  -- A call that is closed

  -- the call of this id no longer waits for the client, and each other call is as it was
  pub record IsClosedFor (old new : Desk) (id : ℕ) : Type 0 where
    pub gone : (later : OpenCall) → call_under new.calls id ≡ Some later → later.client ≡ Some client → ⊥
    pub others : (other : ℕ) → other ≢ id → call_under new.calls other ≡ call_under old.calls other

  closed_less : (old new : Desk) (id : ℕ) → IsClosedFor old new id → HasNoMore client (calls_of old) (calls_of new)
  closed_less old new id is other later e mine = go (eqb other id) refl
    where
      go : (b : Bool) → eqb other id ≡ b →
          (before : OpenCall) × (call_under old.calls other ≡ Some before) × (record before { age = 0 } ≡ record later { age = 0 })
      go true t = absurd (is.gone later (sym (ap (calls_of new) (eqb-true other id t)) ∙ e) mine)
      go false t =
          let differ : other ≢ id = λ same. absurd (let wrong : false ≡ true = sym t ∙ eq-eqb other id same in cc) in
          (later, sym (is.others other differ) ∙ e, refl)

  module _ (view then : View) (old new : Desk) (id : ℕ) (answer : Answer) (commands : List Passed) (wide : Widens view then)
      (closed : IsClosedFor old new id)
      (reason : (call : OpenCall) (command : Passed) → call_under old.calls id ≡ Some call → is_connected old client ≡ true →
      call.client ≡ Some client → IsOpenFor client then number file command id call → HasReason number client file then command answer)
      (reach : (other : ℕ) → Reaches old other → other < 2 ^ 64) where
    -- the client's own call
    own_closed : (ended : Bool) (call : OpenCall) → call_under old.calls id ≡ Some call → call.client ≡ Some client →
        IsIdleFor old.clients (Some client) new.clients → HasDeskIf client number file ended view old commands →
        HasStepped ended then (told_frames (cond (is_connected old client) (Some client) None) answer) new commands
    own_closed true call e mine idle gone =
        let none : is_connected old client ≡ false = ap is_some gone in record {
          left = commands;
          replied = λ small. subst (λ b. AreReplied number client file then
              (answers_to client (told_frames (cond b (Some client) None) answer)) commands commands) (sym none) refl;
          has = not_there (connection_of new client) (idle.stays ∙ none);
        }
      where
        not_there : (at : Option Connection) → is_some at ≡ false → at ≡ None
        not_there None e = refl
        not_there (Some connection) e = absurd (cc)
    own_closed false call e mine idle has =
        let here = has.opened id call e mine in
        let there : is_connected old client ≡ true = busy_is_there (connection_of old client) here.0 in
        answers_first then (told_frames (cond (is_connected old client) (Some client) None) answer) new commands here.1 here.2 answer here.3
        (ap (λ b. answers_to client (told_frames (cond b (Some client) None) answer)) there ∙ mine_sent client answer)
        (reason call here.1 e there mine (open_wider view then wide client number file here.1 id call here.5))
        (none_left client number file then (connection_of new client) (calls_of new) here.2
        (λ i. rest_waits client number file then here.2 (waiting_on (connection_of new client)) (idle.waiting ∙ here.4))
        (closed_none client number file view (connection_of old client) (calls_of old) (calls_of new) commands id call has e mine
        closed.gone closed.others)
        (λ command rest f. has.bound here.1 here.2 here.3)
        (times_wider client number file view then wide here.2
        (subst (AllByRecursion (λ (command : Passed). command.time ≤ length view.seen)) here.3 has.times).1))

    -- the call of another client
    other_closed : (ended : Bool) (call : OpenCall) (other : ℕ) → call_under old.calls id ≡ Some call → call.client ≡ Some other →
        (other ≡ client → ⊥) → IsIdleFor old.clients (Some other) new.clients → HasDeskIf client number file ended view old commands →
        HasStepped ended then (told_frames (cond (is_connected old other) (Some other) None) answer) new commands
    other_closed ended call other e its differ idle has =
        untouched ended view then (told_frames (cond (is_connected old other) (Some other) None) answer) old new commands wide
        (idle.others client (λ same. differ (sym same))) (closed_less old new id closed)
        (λ small. none small (is_connected old other) refl) has
      where
        none : client < 2 ^ 64 → (b : Bool) → is_connected old other ≡ b →
            answers_to client (told_frames (cond b (Some other) None) answer) ≡ []
        none small true there = other_sent client other answer small (reach other (inr (there, id, call, e, its))) differ
        none small false there = refl

    -- any call, or none
    pub closes : (ended : Bool) (told : Option ℕ) → told ≡ listener old (waiting_for old.calls id) →
        IsIdleFor old.clients (waiting_for old.calls id) new.clients → HasDeskIf client number file ended view old commands →
        HasStepped ended then (told_frames told answer) new commands
    closes ended told who idle has =
        subst (λ t. HasStepped ended then (told_frames t answer) new commands) (sym who)
        (go (call_under old.calls id) refl idle)
      where
        nobody : new.clients ≡ old.clients → HasStepped ended then [] new commands
        nobody same =
            untouched ended view then [] old new commands wide (ap (λ c. connection_of (record old { clients = c }) client) same)
            (closed_less old new id closed) (λ small. refl) has

        waits : (call : OpenCall) (who : Option ℕ) → call_under old.calls id ≡ Some call → call.client ≡ who →
            IsIdleFor old.clients who new.clients → HasStepped ended then (told_frames (listener old who) answer) new commands
        waits call None e its idle = nobody idle
        waits call (Some other) e its idle = one (eqb other client) refl
          where
            one : (b : Bool) → eqb other client ≡ b →
                HasStepped ended then (told_frames (cond (is_connected old other) (Some other) None) answer) new commands
            one false t =
                other_closed ended call other e its
                (λ same. absurd (let wrong : false ≡ true = sym t ∙ eq-eqb other client same in cc)) idle has
            one true t =
                let same : client ≡ other = sym (eqb-true other client t) in
                subst (λ n. call.client ≡ Some n → IsIdleFor old.clients (Some n) new.clients →
                HasStepped ended then (told_frames (cond (is_connected old n) (Some n) None) answer) new commands) same
                (λ mine now. own_closed ended call e mine now has) its idle

        go : (found : Option OpenCall) → call_under old.calls id ≡ found → IsIdleFor old.clients (client_waiting found) new.clients →
            HasStepped ended then (told_frames (listener old (client_waiting found)) answer) new commands
        go None e idle = nobody idle
        go (Some call) e idle = waits call call.client e refl idle
