-- A desk stays fit as calls end, as what is left of a command goes on, and as calls get older.
use Rattle.std.proofs.Common.{◌≡◌, ℕ, Bool, true, false, cond, List, [], ◌∷◌, Option, Some, None, is_some, refl, sym, subst, ap, ◌∙◌}
use Rattle.std.proofs.Common.{◌+◌, ◌-◌, length, nat_lt}
use Rattle.std.specs.List.{AllByRecursion}
use Rattle.std.specs.Prelude.{IfSome, nat_eq}
use Rattle.client_commands.specs.Deletion.{Deletion, is_written_again, left_over}
use Rattle.indexmap.specs.IndexMap.{get}
use Rattle.node_clients.specs.Calls.{call_under, deletes, left_of, older_call, rest_of, waiting_for, with_nobody}
use Rattle.node_clients.specs.Connections.{rest_command, waiting_on}
use Rattle.node_clients.specs.Desk.{IsPutBack}
use Rattle.node_clients.specs.Served.{AreServicesDone, IsCallClosed, IsOlder, IsPassed, IsReleased, IsServiceDone, call_begun}
use Rattle.node_clients.specs.Services.{Service}
use Rattle.node_clients.specs.declared.connection.Connection.{Connection}
use Rattle.node_clients.specs.declared.connections.Connections.{Connections}
use Rattle.node_clients.specs.declared.desk.Desk.{Desk}
use Rattle.node_clients.specs.declared.next.Next.TheVariants as next
use Rattle.node_clients.specs.declared.open_call.OpenCall.{OpenCall}
use Rattle.node_clients.specs.declared.rest.Rest.{Rest}
use Rattle.node_clients.specs.declared.rest.Rest.TheVariants as rests
use Rattle.node.specs.FitCommands.{IsFitCommand, IsFitDeletion, IsFitFound}
use Rattle.node.specs.FitDesks.{IsFitDesk, IsFitNext, IsFitOpenCall, IsFitService}
use Rattle.node.proofs.FitDeskLemmas.{AreFitWaiting, answered_fit, arrived_fit, begun_call, calls_at, found_call, gone_fit}
use Rattle.node.proofs.FitDeskLemmas.{idle_for_fit, opened_fit, quit_fit, same_waiting, taken_fit, waiting_at}

-- Calls that end

closed_fit : (old : Desk) (id : ℕ) (told : Option ℕ) (new : Desk) → IsFitDesk old → IsCallClosed old id told new → IsFitDesk new
closed_fit old id told new fit is = record {
  calls = calls_at old new id fit.calls is.others (subst (λ (o : Option OpenCall). IfSome o IsFitOpenCall) (sym is.gone) tt);
  waiting = idle_for_fit old.clients (waiting_for old.calls id) new.clients fit.waiting is.idle;
}

nobody_fit : (o : Option OpenCall) → IfSome o IsFitOpenCall → IfSome (with_nobody o) IsFitOpenCall
nobody_fit None fit = tt
nobody_fit (Some call) fit = record { name = fit.name; deletion = fit.deletion }

released_fit : (old : Desk) (id : ℕ) (told : Option ℕ) (new : Desk) → IsFitDesk old → IsReleased old id told new → IsFitDesk new
released_fit old id told new fit is = record {
  calls = calls_at old new id fit.calls is.others
      (subst (λ (o : Option OpenCall). IfSome o IsFitOpenCall) (sym is.released)
      (nobody_fit (call_under old.calls id) (found_call old id fit.calls)));
  waiting = idle_for_fit old.clients (waiting_for old.calls id) new.clients fit.waiting is.idle;
}

older_fit : (o : Option OpenCall) → IfSome o IsFitOpenCall → IfSome (older_call o) IsFitOpenCall
older_fit None fit = tt
older_fit (Some call) fit = record { name = fit.name; deletion = fit.deletion }

aged_fit : (old : Desk) (id : ℕ) (new : Desk) → IsFitDesk old → IsOlder old id new → IsFitDesk new
aged_fit old id new fit is = record {
  calls = calls_at old new id fit.calls is.others
      (subst (λ (o : Option OpenCall). IfSome o IsFitOpenCall) (sym is.older)
      (older_fit (call_under old.calls id) (found_call old id fit.calls)));
  waiting = subst AreFitWaiting (sym is.clients) fit.waiting;
}

-- What is left of a command

left_fit : (delta : Option ℕ) (deletion : Deletion) → IsFitDeletion deletion → IfSome (left_over delta deletion) IsFitDeletion
left_fit delta deletion fit =
    go (is_written_again delta deletion.made) (nat_lt 1 (length deletion.names - deletion.done))
  where
    go : (again more : Bool) → IfSome (cond again (Some (record deletion { made = deletion.made + 1 }))
        (cond more (Some (record deletion { done = deletion.done + 1; made = 0 })) None)) IsFitDeletion
    go true more = record { names = fit.names; count = fit.count }
    go false true = record { names = fit.names; count = fit.count }
    go false false = tt

-- the command with which a client's connection goes on
abbrev GoesOnFit : Rest → Type 0
GoesOnFit rest = IsFitCommand (rest_command rest)

deletes_fit : (o : Option Deletion) → IfSome o IsFitDeletion → IfSome (deletes o) GoesOnFit
deletes_fit None fit = tt
deletes_fit (Some deletion) fit = fit

left_of_fit : (delta : Option ℕ) (o : Option Deletion) → IfSome o IsFitDeletion → IfSome (left_of delta o) IsFitDeletion
left_of_fit delta None fit = tt
left_of_fit delta (Some deletion) fit = left_fit delta deletion fit

rest_fit : (delta : Option ℕ) (o : Option OpenCall) → IfSome o IsFitOpenCall → IfSome (rest_of delta o) GoesOnFit
rest_fit delta None fit = tt
rest_fit delta (Some call) fit = go call.is_move
  where
    go : (b : Bool) → IfSome (cond b (Some (rests.Confirms call.name)) (deletes (left_of delta call.deletion))) GoesOnFit
    go true = fit.name
    go false = deletes_fit (left_of delta call.deletion) (left_of_fit delta call.deletion fit.deletion)

back_fit : (old : Connections) (client : ℕ) (rest : Rest) (new : Connections) → AreFitWaiting old → GoesOnFit rest →
    IsPutBack old client rest new → AreFitWaiting new
back_fit old client rest new fit goes is = waiting_at old new client fit is.others (here (get nat_eq old.by_number client) refl)
  where
    none : (o : Option Connection) → is_some o ≡ false → AllByRecursion IsFitNext (waiting_on o)
    none None e = tt
    none (Some connection) e = absurd (cc)

    here : (o : Option Connection) → get nat_eq old.by_number client ≡ o →
        AllByRecursion IsFitNext (waiting_on (get nat_eq new.by_number client))
    here None e = none (get nat_eq new.by_number client) (is.stays ∙ ap is_some e)
    here (Some connection) e =
        same_waiting (next.Rest rest ∷ waiting_on (get nat_eq old.by_number client)) (waiting_on (get nat_eq new.by_number client))
        (is.waiting (ap is_some e)) (goes, fit client)

passed_fit : (delta : Option ℕ) (old : Desk) (id client : ℕ) (rest : Rest) (new : Desk) → IsFitDesk old →
    IsPassed delta old id client rest new → IsFitDesk new
passed_fit delta old id client rest new fit is =
    let goes : GoesOnFit rest =
    subst (λ (o : Option Rest). IfSome o GoesOnFit) is.left
    (rest_fit delta (call_under old.calls id) (found_call old id fit.calls)) in record {
      calls = calls_at old new id fit.calls is.others (subst (λ (o : Option OpenCall). IfSome o IsFitOpenCall) (sym is.gone) tt);
      waiting = back_fit old.clients client rest new.clients fit.waiting goes is.back;
    }

-- Services

pub service_fit : (ticks : ℕ) (delta : Option ℕ) (old : Desk) (service : Service) (new : Desk) → IsFitDesk old → IsFitService service →
    IsServiceDone ticks delta old service new → IsFitDesk new
service_fit ticks delta old (Service.Arrives client command) new fit came done = arrived_fit old client command new fit came done
service_fit ticks delta old (Service.Leaves client) new fit came done = gone_fit old client new fit done
service_fit ticks delta old (Service.Begins client command id) new fit came done =
    let taken = taken_fit old client done.0 done.2 fit done.3 in
    let asks : IsFitCommand command = subst IsFitFound done.1 taken.1 in
    opened_fit done.2 (call_begun client command) id new taken.0 (begun_call client command asks) done.4
service_fit ticks delta old (Service.Replies client first answer) new fit came done =
    answered_fit done.0 client new (taken_fit old client first done.0 fit done.1).0 done.2
service_fit ticks delta old (Service.Quits client) new fit came done =
    quit_fit done.2 client new (taken_fit old client done.0 done.2 fit done.3).0 done.4
service_fit ticks delta old (Service.Ends name ended answer told) new fit came done = closed_fit old ended.id told new fit done.2
service_fit ticks delta old (Service.Passes name ended client rest) new fit came done =
    passed_fit delta old ended.id client rest new fit done
service_fit ticks delta old (Service.Ages id) new fit came done = aged_fit old id new fit done.1
service_fit ticks delta old (Service.GivesUp id told) new fit came done =
    closed_fit done.2 id told new (aged_fit old id done.2 fit done.3) done.4
service_fit ticks delta old (Service.Releases id told) new fit came done =
    released_fit done.2 id told new (aged_fit old id done.2 fit done.3) done.4

pub services_fit : (ticks : ℕ) (delta : Option ℕ) (old new : Desk) (services : List Service) → IsFitDesk old →
    AllByRecursion IsFitService services → AreServicesDone ticks delta old services new → IsFitDesk new
services_fit ticks delta old new [] fit came done = subst IsFitDesk (sym done) fit
services_fit ticks delta old new (service ∷ services) fit came done =
    services_fit ticks delta done.0 new services (service_fit ticks delta old service done.0 fit came.0 done.1) came.1 done.2
