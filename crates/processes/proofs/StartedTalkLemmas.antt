-- When a process starts, nothing has passed on a connection, and its node has nothing to do for a client.
use Rattle.std.proofs.Common.{◌≡◌, ℕ, Bool, true, false, eqb, eqb-true, eq-eqb, List, [], ◌∷◌, Option, None, Some, Result, Ok, Err}
use Rattle.std.proofs.Common.{refl, sym, subst, ap, ◌∙◌}
use Rattle.std.specs.Prelude.{nat_eq}
use Rattle.std.proofs.lemmas.Option.{same_Some}
use Rattle.indexmap.specs.IndexMap.{get}
use Rattle.cluster_file.specs.File.{FileContents}
use Rattle.node.specs.Anew.{CarriesOutAll}
use Rattle.node.specs.Recovering.{CarriesOutCalls, ClosesCall, ClosesTaken, HasCallUnder, KeepsCalls}
use Rattle.node.specs.declared.node.Node.{Node}
use Rattle.node_clients.specs.Calls.{call_under}
use Rattle.node_clients.specs.Connections.{doing, gives_next_of, has_next, waiting_on}
use Rattle.node_clients.specs.Desk.{NoneWaits, connection_of}
use Rattle.node_clients.specs.declared.connection.Connection.{Connection}
use Rattle.node_clients.specs.declared.connection.State.{State}
use Rattle.node_clients.specs.declared.connection.State.TheVariants.{Busy, Idle, Quit}
use Rattle.node_clients.specs.declared.connections.Connections.{Connections}
use Rattle.node_clients.specs.declared.desk.Desk.{Desk}
use Rattle.node_clients.specs.declared.next.Next.{Next}
use Rattle.node_clients.specs.declared.open_call.OpenCall.{OpenCall}
use Rattle.node_messages.specs.Reading.{message_from}
use Rattle.node_messages.specs.declared.error.Fault.{Fault}
use Rattle.node_messages.specs.declared.message.NodeMessage.{NodeMessage}
use Rattle.node_strings.specs.Strings.{Strings}
use Rattle.node_strings.specs.declared.record.Record.{Record}
use Rattle.node_strings.specs.declared.record.Record.TheVariants as record_of
use Rattle.processes.proofs.CommandViewLemmas.{View}
use Rattle.processes.proofs.ConnectionLemmas.{HasCommands, none_left}
use Rattle.processes.proofs.ServiceAnswerLemmas.{calls_of}

-- no client waits for an open call of the node
abbrev pub NobodyWaits : Node → Type 0
NobodyWaits node = (id : ℕ) (call : OpenCall) → call_under node.desk.calls id ≡ Some call → call.client ≡ None

kept_nobody : (old new : Node) → KeepsCalls old new → NobodyWaits old → NobodyWaits new
kept_nobody old new same nobody id call e = nobody id call (sym (ap (λ cs. call_under cs id) same) ∙ e)

under_nobody : (old new : Node) (id : ℕ) (found : Option OpenCall) → HasCallUnder old id found new →
    ((call : OpenCall) → found ≡ Some call → call.client ≡ None) → NobodyWaits old → NobodyWaits new
under_nobody old new id found is none nobody other call e = go (eqb other id) refl
  where
    go : (b : Bool) → eqb other id ≡ b → call.client ≡ None
    go true t = none call (sym is.here ∙ sym (ap (λ n. call_under new.desk.calls n) (eqb-true other id t)) ∙ e)
    go false t =
        nobody other call
        (sym (is.others other (λ same. absurd (let wrong : false ≡ true = sym t ∙ eq-eqb other id same in cc))) ∙ e)

closed_nobody : (old new : Node) (id : Option ℕ) → ClosesCall old id new → NobodyWaits old → NobodyWaits new
closed_nobody old new None kept nobody = kept_nobody old new kept nobody
closed_nobody old new (Some id) is nobody = under_nobody old new id None is (λ call e. absurd (cc)) nobody

taken_nobody : (old new : Node) (read : Result NodeMessage Fault) → ClosesTaken read old new → NobodyWaits old → NobodyWaits new
taken_nobody old new (Ok message) is nobody = closed_nobody old new _ is.1 nobody
taken_nobody old new (Err fault) is nobody = absurd is

record_nobody : (old new : Node) (it : Record) → CarriesOutCalls old it new → NobodyWaits old → NobodyWaits new
record_nobody old new (record_of.Take frame) is nobody = taken_nobody old new (message_from frame) is nobody
record_nobody old new (record_of.Move id name layout) is nobody =
    under_nobody old new id _ is (λ call e. sym (ap (λ (c : OpenCall). c.client) (same_Some _ call e))) nobody
record_nobody old new (record_of.Cluster digest number) is nobody = kept_nobody old new is nobody
record_nobody old new record_of.Start is nobody = kept_nobody old new is nobody
record_nobody old new (record_of.Serve frame) is nobody = kept_nobody old new is nobody
record_nobody old new (record_of.Hear position name layout) is nobody = kept_nobody old new is nobody
record_nobody old new (record_of.Close position name) is nobody = kept_nobody old new is nobody

all_nobody : (old new : Node) (entries : List Strings) → CarriesOutAll old entries new → NobodyWaits old → NobodyWaits new
all_nobody old new [] same nobody = subst NobodyWaits (sym same) nobody
all_nobody old new (entry ∷ entries) is nobody =
    all_nobody is.0 new entries is.2 (record_nobody old is.0 is.1.it is.1.done.calls nobody)

all_clients : (old new : Node) (entries : List Strings) → CarriesOutAll old entries new → new.desk.clients ≡ old.desk.clients
all_clients old new [] same = ap (λ (n : Node). n.desk.clients) same
all_clients old new (entry ∷ entries) is = all_clients is.0 new entries is.2 ∙ is.1.done.clients

-- nothing waits on an idle connection that gives no next command
idle_empty : (at : Option Connection) → (has_next at ≡ true → ⊥) → doing at ≡ Idle → waiting_on at ≡ []
idle_empty None none idle = refl
idle_empty (Some connection) none idle = go connection.state connection.waiting.items none idle
  where
    go : (state : State) (waiting : List Next) → (gives_next_of state waiting ≡ true → ⊥) → state ≡ Idle → waiting ≡ []
    go Idle [] none idle = refl
    go Idle (first ∷ rest) none idle = absurd (none refl)
    go Busy waiting none idle = absurd (cc)
    go Quit waiting none idle = absurd (cc)

-- a node that has started, from a new one
pub started_desk : (client number : ℕ) (file : FileContents) (view : View) (new copy after : Node) (entries : List Strings) →
    NoneWaits new.desk.clients [] → new.desk.calls.entries ≡ [] → CarriesOutAll new entries copy → after.desk ≡ copy.desk →
    HasCommands client number file view (connection_of after.desk client) (calls_of after.desk) []
started_desk client number file view new copy after entries waits empty carried desk =
    none_left client number file view (connection_of after.desk client) (calls_of after.desk) []
    (idle_empty (connection_of after.desk client) (subst (λ (cs : Connections). has_next (get nat_eq cs.by_number client) ≡ true → ⊥)
    (sym clients) (λ has. waits client has)))
    (λ id call e mine. absurd (let wrong : None ≡ Some client =
    sym (nobody id call (sym (ap (λ (d : Desk). call_under d.calls id) desk) ∙ e)) ∙ mine in cc))
    (λ command rest e. absurd (cc)) tt
  where
    clients : after.desk.clients ≡ new.desk.clients
    clients = ap (λ (d : Desk). d.clients) desk ∙ all_clients new copy entries carried

    none : (id : ℕ) → call_under new.desk.calls id ≡ None
    none id = rw empty refl

    nobody : NobodyWaits copy
    nobody = all_nobody new copy entries carried (λ id call e. absurd (let wrong : None ≡ Some call = sym (none id) ∙ e in cc))
