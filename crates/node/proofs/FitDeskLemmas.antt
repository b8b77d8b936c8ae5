-- The names at a desk stay short, whatever is done for clients.
use Rattle.std.proofs.Common.{◌≡◌, ◌≢◌, ℕ, Bool, true, false, eqb, eqb-true, List, [], ◌∷◌, ◌++◌, Option, Some, None, refl, sym, subst, ap}
use Rattle.std.proofs.Common.{◌∙◌, eq-eqb, get_or, zero, suc, arith}
use Rattle.std.specs.List.{AllByRecursion}
use Rattle.std.specs.Prelude.{IfSome, nat_eq}
use Rattle.client_commands.specs.declared.command.Command.{Command}
use Rattle.client_commands.specs.declared.command.Command.TheVariants as ask
use Rattle.fitting.proofs.ListLemmas.{all_push}
use Rattle.indexmap.specs.IndexMap.{get}
use Rattle.node_clients.specs.Calls.{call_under}
use Rattle.node_clients.specs.Connections.{waiting_on}
use Rattle.node_clients.specs.Desk.{IsIdleAgain, IsIdleFor, connection_of}
use Rattle.node_clients.specs.Served.{HasQuit, IsArrived, IsClientAnswered, IsCommandTaken, IsGone, IsOpened, KeepsOtherCalls, call_begun}
use Rattle.node_clients.specs.declared.connection.Connection.{Connection}
use Rattle.node_clients.specs.declared.connections.Connections.{Connections}
use Rattle.node_clients.specs.declared.desk.Desk.{Desk}
use Rattle.node_clients.specs.declared.next.Next.{Next}
use Rattle.node_clients.specs.declared.next.Next.TheVariants as next
use Rattle.node_clients.specs.declared.open_call.OpenCall.{OpenCall}
use Rattle.tag.specs.declared.limits.TheConstants.{LONGEST_NAME}
use Rattle.writable.specs.Keepers.{IsShortName}
use Rattle.node.specs.FitCommands.{IsFitCommand}
use Rattle.node.specs.FitDesks.{IsFitDesk, IsFitNext, IsFitOpenCall}

-- Connections and calls

-- all that waits on the connections
abbrev pub AreFitWaiting : Connections → Type 0
AreFitWaiting clients = (client : ℕ) → AllByRecursion IsFitNext (waiting_on (get nat_eq clients.by_number client))

abbrev pub AreFitCalls : Desk → Type 0
AreFitCalls desk = (id : ℕ) (call : OpenCall) → call_under desk.calls id ≡ Some call → IsFitOpenCall call

-- one connection changed
pub waiting_at : (old new : Connections) (client : ℕ) → AreFitWaiting old →
    ((other : ℕ) → other ≢ client → get nat_eq new.by_number other ≡ get nat_eq old.by_number other) →
    AllByRecursion IsFitNext (waiting_on (get nat_eq new.by_number client)) → AreFitWaiting new
waiting_at old new client fit others here other = go (eqb other client) refl
  where
    go : (b : Bool) → eqb other client ≡ b → AllByRecursion IsFitNext (waiting_on (get nat_eq new.by_number other))
    go true e = subst (λ n. AllByRecursion IsFitNext (waiting_on (get nat_eq new.by_number n))) (sym (eqb-true other client e)) here
    go false e =
        subst (λ (o : Option Connection). AllByRecursion IsFitNext (waiting_on o))
        (sym (others other (λ same. absurd (let wrong : false ≡ true = sym e ∙ eq-eqb other client same in cc)))) (fit other)

pub same_waiting : (old new : List Next) → new ≡ old → AllByRecursion IsFitNext old → AllByRecursion IsFitNext new
same_waiting old new e fit = subst (λ (ns : List Next). AllByRecursion IsFitNext ns) (sym e) fit

pub idle_fit : (old : Connections) (client : ℕ) (new : Connections) → AreFitWaiting old → IsIdleAgain old client new → AreFitWaiting new
idle_fit old client new fit is =
    waiting_at old new client fit is.others
    (same_waiting (waiting_on (get nat_eq old.by_number client)) (waiting_on (get nat_eq new.by_number client)) is.waiting (fit client))

pub idle_for_fit : (old : Connections) (client : Option ℕ) (new : Connections) → AreFitWaiting old → IsIdleFor old client new →
    AreFitWaiting new
idle_for_fit old None new fit is = subst AreFitWaiting (sym is) fit
idle_for_fit old (Some client) new fit is = idle_fit old client new fit is

-- one call changed
pub calls_at : (old new : Desk) (id : ℕ) → AreFitCalls old → KeepsOtherCalls old id new → IfSome (call_under new.calls id) IsFitOpenCall →
    AreFitCalls new
calls_at old new id fit others here other call e = go (eqb other id) refl
  where
    go : (b : Bool) → eqb other id ≡ b → IsFitOpenCall call
    go true t =
        subst (λ (o : Option OpenCall). IfSome o IsFitOpenCall)
        (ap (λ n. call_under new.calls n) (sym (eqb-true other id t)) ∙ e) here
    go false t =
        fit other call
        (sym (others other (λ same. absurd (let wrong : false ≡ true = sym t ∙ eq-eqb other id same in cc))) ∙ e)

pub found_call : (desk : Desk) (id : ℕ) → AreFitCalls desk → IfSome (call_under desk.calls id) IsFitOpenCall
found_call desk id fit = go (call_under desk.calls id) refl
  where
    go : (o : Option OpenCall) → call_under desk.calls id ≡ o → IfSome o IsFitOpenCall
    go None e = tt
    go (Some call) e = fit id call e

-- Commands

pub taken_fit : (old : Desk) (client : ℕ) (first : Next) (new : Desk) → IsFitDesk old → IsCommandTaken old client first new →
    IsFitDesk new × IsFitNext first
taken_fit old client first new fit is =
    let all : AllByRecursion IsFitNext (first ∷ waiting_on (connection_of new client)) =
    subst (λ (ns : List Next). AllByRecursion IsFitNext ns) is.taken.1 (fit.waiting client) in (
      record {
        calls = λ id call e. fit.calls id call (sym (ap (λ cs. call_under cs id) is.calls) ∙ e);
        waiting = waiting_at old.clients new.clients client fit.waiting is.others all.1;
      },
      all.0,
    )

pub nth_short : (names : List (List ℕ)) (n : ℕ) → AllByRecursion IsShortName names → IsShortName (get_or names n [])
nth_short [] n all = let limit : LONGEST_NAME ≡ 255 = refl in omega (arith, limit)
nth_short (name ∷ names) zero all = all.0
nth_short (name ∷ names) (suc n) all = nth_short names n all.1

-- the call that a command begins
pub begun_call : (client : ℕ) (command : Command) → IsFitCommand command → IfSome (call_begun client command) IsFitOpenCall
begun_call client (ask.Read wanted name) fit = record { name = fit; deletion = tt }
begun_call client (ask.Set name value) fit = record { name = fit; deletion = tt }
begun_call client (ask.Move name layout) fit = record { name = fit.0; deletion = tt }
begun_call client (ask.Delete deletion) fit = record { name = nth_short deletion.names deletion.done fit.names; deletion = fit }
begun_call client (ask.Info sections) fit = tt
begun_call client ask.CountWritten fit = tt
begun_call client (ask.ShowLayout name) fit = tt
begun_call client (ask.Scan cursor options) fit = tt
begun_call client (ask.Ping text) fit = tt
begun_call client (ask.Echo text) fit = tt
begun_call client ask.ListCommands fit = tt
begun_call client ask.CountCommands fit = tt
begun_call client ask.ClientId fit = tt
begun_call client ask.DescribeClient fit = tt
begun_call client ask.ClientName fit = tt
begun_call client ask.Hello fit = tt
begun_call client ask.Select fit = tt
begun_call client ask.Login fit = tt
begun_call client ask.Quit fit = tt

pub opened_fit : (old : Desk) (call : Option OpenCall) (id : ℕ) (new : Desk) → IsFitDesk old → IfSome call IsFitOpenCall →
    IsOpened old call id new → IsFitDesk new
opened_fit old call id new fit begun is = record {
  calls = calls_at old new id fit.calls is.others (subst (λ (o : Option OpenCall). IfSome o IsFitOpenCall) (sym is.opened) begun);
  waiting = subst AreFitWaiting (sym is.clients) fit.waiting;
}

-- the calls stay, and one connection changed
client_fit : (old new : Desk) → IsFitDesk old → new.calls ≡ old.calls → AreFitWaiting new.clients → IsFitDesk new
client_fit old new fit calls waiting = record {
  calls = λ id call e. fit.calls id call (sym (ap (λ cs. call_under cs id) calls) ∙ e);
  waiting = waiting;
}

pub arrived_fit : (old : Desk) (client : ℕ) (command : List (List ℕ)) (new : Desk) → IsFitDesk old → IsFitNext (next.Came command) →
    IsArrived old client command new → IsFitDesk new
arrived_fit old client command new fit came is =
    client_fit old new fit is.calls
    (waiting_at old.clients new.clients client fit.waiting is.others
    (same_waiting (waiting_on (connection_of old client) ++ next.Came command ∷ []) (waiting_on (connection_of new client)) is.waiting
    (all_push IsFitNext (waiting_on (connection_of old client)) (next.Came command) (fit.waiting client) came)))

pub gone_fit : (old : Desk) (client : ℕ) (new : Desk) → IsFitDesk old → IsGone old client new → IsFitDesk new
gone_fit old client new fit is =
    client_fit old new fit is.calls
    (waiting_at old.clients new.clients client fit.waiting is.others
    (subst (λ (o : Option Connection). AllByRecursion IsFitNext (waiting_on o)) (sym is.gone) tt))

pub answered_fit : (old : Desk) (client : ℕ) (new : Desk) → IsFitDesk old → IsClientAnswered old client new → IsFitDesk new
answered_fit old client new fit is = client_fit old new fit is.calls (idle_fit old.clients client new.clients fit.waiting is.idle)

pub quit_fit : (old : Desk) (client : ℕ) (new : Desk) → IsFitDesk old → HasQuit old client new → IsFitDesk new
quit_fit old client new fit is =
    client_fit old new fit is.calls
    (waiting_at old.clients new.clients client fit.waiting is.others
    (same_waiting (waiting_on (connection_of old client)) (waiting_on (connection_of new client)) is.waiting (fit.waiting client)))
