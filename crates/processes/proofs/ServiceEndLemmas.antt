-- Services that end calls keep what is known of a client's commands; and so do all services, one after another.
use Rattle.std.proofs.Common.{◌≡◌, inl, inr, ◌<◌, ◌^◌, ℕ, Bool, true}
use Rattle.std.proofs.Common.{List, [], ◌∷◌, Option, None, Some, is_some, refl, sym, subst, ap, ◌∙◌}
use Rattle.std.specs.Prelude.{nat_eq}
use Rattle.std.proofs.lemmas.Option.{same_Some}
use Rattle.indexmap.specs.IndexMap.{get}
use Rattle.client_commands.specs.declared.answer.Answer.{Answer}
use Rattle.client_commands.specs.declared.answer.Answer.TheVariants as answers
use Rattle.client_commands.specs.declared.answer.AnswerError.TheVariants.{NoQuorum}
use Rattle.cluster_file.specs.File.{FileContents}
use Rattle.deeds.specs.CallId.{CallIds, HasRanges}
use Rattle.deeds.specs.Deeds.{Notice}
use Rattle.local_object.specs.declared.progress.Ended.{Ended}
use Rattle.node.specs.GivenIds.{UsesIds}
use Rattle.node.specs.Replies.{IsRight}
use Rattle.node_clients.specs.Calls.{call_answer, call_under, client_waiting, rest_of, waiting_for, with_nobody}
use Rattle.node_clients.specs.Connections.{doing, waiting_on}
use Rattle.node_clients.specs.Desk.{connection_of, has_listener, is_connected}
use Rattle.node_clients.specs.Served.{IsOlder, IsServiceDone}
use Rattle.node_clients.specs.Services.{Service, service_frames}
use Rattle.node_clients.specs.declared.desk.Desk.{Desk}
use Rattle.node_clients.specs.declared.open_call.OpenCall.{OpenCall}
use Rattle.processes.specs.Answers.{Passed}
use Rattle.processes.proofs.CommandViewLemmas.{HasReason, IsOpenFor, View, Widens}
use Rattle.processes.proofs.CommandViewLemmas.{widens_same}
use Rattle.processes.proofs.ConnectionLemmas.{HasCommandsIf, kept_if}
use Rattle.processes.proofs.ServiceIdLemmas.{service_widens, view_after}
use Rattle.processes.proofs.ServiceAnswerLemmas.{HasDeskIf, HasStepped, IsQuiet, Reaches, calls_of, closes}
use Rattle.processes.proofs.ServiceAnswerLemmas.{untouched}
use Rattle.processes.proofs.ServiceStepLemmas.{older_less, quits, replies}
use Rattle.processes.proofs.StandingLemmas.{among_second}
use Rattle.processes.proofs.PassedWriteLemmas.{passes}
use Rattle.processes.proofs.ServiceBeginLemmas.{begins}

-- what was open for a client and gets older is still open for it, and no connection changes
older_reaches : (old : Desk) (id : ℕ) (older : Desk) → IsOlder old id older → (client : ℕ) → Reaches older client → Reaches old client
older_reaches old id older is client (inl reaches) =
    let same = ap (λ c. get nat_eq c.by_number client) is.clients in
    inl (reaches.0, reaches.1, sym (ap doing same) ∙ reaches.2, sym (ap waiting_on same) ∙ reaches.3)
older_reaches old id older is client (inr reaches) =
    let same = ap (λ c. get nat_eq c.by_number client) is.clients in
    let was = older_less client old id older is reaches.1 reaches.2 reaches.3 reaches.4 in
    inr (sym (ap is_some same) ∙ reaches.0, reaches.1, was.0, was.1, ap (λ (c : OpenCall). c.client) was.2 ∙ reaches.4)

module _ (number client : ℕ) (file : FileContents) (ticks : ℕ) (view : View) (after : CallIds) (old new : Desk) (ended : Bool)
    (commands : List Passed) (within : HasRanges view.ids) (reach : (other : ℕ) → Reaches old other → other < 2 ^ 64)
    (has : HasDeskIf client number file ended view old commands) where
  abbrev delta : Option ℕ
  delta = file.fixed.delta

  abbrev Step : Service → Type 0
  Step service = HasStepped number client file ended (view_after view service after) (service_frames service) new commands

  closed_none_there : (desk : Desk) (id : ℕ) → call_under new.calls id ≡ None → (later : OpenCall) → call_under new.calls id ≡ Some later →
      later.client ≡ Some client → ⊥
  closed_none_there desk id gone later e mine = absurd (let wrong : None ≡ Some later = sym gone ∙ e in cc)

  -- A call is answered

  ends : (name : List ℕ) (it : Ended) (answer : Answer) (told : Option ℕ) →
      IsServiceDone ticks delta old (Service.Ends name it answer told) new → UsesIds view.ids (Service.Ends name it answer told) after →
      Step (Service.Ends name it answer told)
  ends name it answer told done uses =
      closes number client file view then old new it.id answer commands wide
      (record { gone = closed_none_there old it.id done.2.gone; others = done.2.others }) reason reach ended told done.2.who done.2.idle
      has
    where
      service : Service
      service = Service.Ends name it answer told

      then : View
      then = view_after view service after

      wide : Widens view then
      wide = service_widens view after service within uses

      reason : (call : OpenCall) (command : Passed) → call_under old.calls it.id ≡ Some call → is_connected old client ≡ true →
          call.client ≡ Some client → IsOpenFor client then number file command it.id call →
          HasReason number client file then command answer
      reason call command e there mine is_for =
          let listens : has_listener old (waiting_for old.calls it.id) ≡ true =
          ap (λ o. has_listener old (client_waiting o)) e ∙ ap (has_listener old) mine ∙ there in
          inr (inr (inl (record {
            id = it.id;
            call = call;
            open_for = is_for;
            name = name;
            ended = it;
            told = among_second view.told (Notice.Tells name it ∷ []) (Notice.Tells name it) (0, refl);
            same = refl;
            answer_is = done.0 ∙ ap (λ o. call_answer o it) e;
            last = ap (rest_of delta) (sym e) ∙ done.1 listens;
          })))

  -- A call gets older

  ages : (id : ℕ) → IsServiceDone ticks delta old (Service.Ages id) new → UsesIds view.ids (Service.Ages id) after → Step (Service.Ages id)
  ages id done uses =
      untouched number client file ended view (view_after view (Service.Ages id) after) [] old new commands
      (service_widens view after (Service.Ages id) within uses) (ap (λ c. get nat_eq c.by_number client) done.1.clients)
      (older_less client old id new done.1) (λ small. refl) has

  has_older : (id : ℕ) (older : Desk) → IsOlder old id older → HasDeskIf client number file ended view older commands
  has_older id older is =
      subst (λ at. HasCommandsIf client number file ended view at (calls_of older) commands)
      (sym (ap (λ c. get nat_eq c.by_number client) is.clients))
      (kept_if client number file ended view view (connection_of old client) (calls_of old) (calls_of older) commands (widens_same view)
      (older_less client old id older is) has)

  -- a late call is answered so
  late : (then : View) (id : ℕ) (older : Desk) (call : OpenCall) (command : Passed) → call_under older.calls id ≡ Some call →
      is_connected older client ≡ true → call.client ≡ Some client → IsOpenFor client then number file command id call →
      HasReason number client file then command (answers.Error NoQuorum)
  late then id older call command e there mine is_for = inr (inr (inr (id, call, is_for, refl)))

  gives_up : (id : ℕ) (told : Option ℕ) → IsServiceDone ticks delta old (Service.GivesUp id told) new →
      UsesIds view.ids (Service.GivesUp id told) after → Step (Service.GivesUp id told)
  gives_up id told done uses =
      closes number client file view (view_after view (Service.GivesUp id told) after) done.2 new id (answers.Error NoQuorum) commands
      (service_widens view after (Service.GivesUp id told) within uses)
      (record { gone = closed_none_there old id done.4.gone; others = done.4.others })
      (late (view_after view (Service.GivesUp id told) after) id done.2)
      (λ other reaches. reach other (older_reaches old id done.2 done.3 other reaches)) ended told done.4.who done.4.idle
      (has_older id done.2 done.3)

  released_none : (id : ℕ) (older : Desk) → call_under new.calls id ≡ with_nobody (call_under older.calls id) → (later : OpenCall) →
      call_under new.calls id ≡ Some later → later.client ≡ Some client → ⊥
  released_none id older same later e mine = go (call_under older.calls id) (sym same ∙ e)
    where
      go : (found : Option OpenCall) → with_nobody found ≡ Some later → ⊥
      go None f = absurd (cc)
      go (Some call) f =
          absurd (let wrong : None ≡ Some client = ap (λ (c : OpenCall). c.client) (same_Some _ later f) ∙ mine in cc)

  releases : (id : ℕ) (told : Option ℕ) → IsServiceDone ticks delta old (Service.Releases id told) new →
      UsesIds view.ids (Service.Releases id told) after → Step (Service.Releases id told)
  releases id told done uses =
      closes number client file view (view_after view (Service.Releases id told) after) done.2 new id (answers.Error NoQuorum) commands
      (service_widens view after (Service.Releases id told) within uses)
      (record { gone = released_none id done.2 done.4.released; others = done.4.others })
      (late (view_after view (Service.Releases id told) after) id done.2)
      (λ other reaches. reach other (older_reaches old id done.2 done.3 other reaches)) ended told done.4.who done.4.idle
      (has_older id done.2 done.3)

  -- Any of them

  pub quiet_step : (service : Service) → IsQuiet service → IsServiceDone ticks delta old service new → IsRight number file service →
      UsesIds view.ids service after → Step service
  quiet_step (Service.Arrives other command) quiet done right uses = absurd quiet
  quiet_step (Service.Leaves other) quiet done right uses = absurd quiet
  quiet_step (Service.Begins other command id) quiet done right uses =
      begins number client file ticks view after old new ended commands within reach has other command id done right uses
  quiet_step (Service.Replies other first answer) quiet done right uses =
      replies number client file ticks view after old new ended commands within reach has other first answer done right uses
  quiet_step (Service.Quits other) quiet done right uses =
      quits number client file ticks view after old new ended commands within reach has other done uses
  quiet_step (Service.Ends name it answer told) quiet done right uses = ends name it answer told done uses
  quiet_step (Service.Passes name it other rest) quiet done right uses =
      passes number client file ticks view after old new ended commands within reach has name it other rest done uses
  quiet_step (Service.Ages id) quiet done right uses = ages id done uses
  quiet_step (Service.GivesUp id told) quiet done right uses = gives_up id told done uses
  quiet_step (Service.Releases id told) quiet done right uses = releases id told done uses
