-- Each service but the coming and the end of a connection keeps what is known of a client's commands.
use Rattle.std.proofs.Common.{◌≡◌, ◌≢◌, inl, inr, ◌<◌, ◌^◌, ℕ, Bool, true, false, cond, eqb, eqb-true, eq-eqb}
use Rattle.std.proofs.Common.{List, Option, None, Some, is_some, Ok, refl, sym, subst, ap, ◌∙◌}
use Rattle.std.proofs.lemmas.Option.{same_Some}
use Rattle.client_commands.specs.Reading.{command_at}
use Rattle.client_commands.specs.declared.answer.Answer.{Answer}
use Rattle.client_commands.specs.declared.answer.Answer.TheVariants as answers
use Rattle.client_commands.specs.declared.command.Command.TheVariants as ask
use Rattle.cluster_file.specs.File.{FileContents}
use Rattle.deeds.specs.CallId.{CallIds, HasRanges}
use Rattle.node.specs.GivenIds.{UsesIds}
use Rattle.local_object.specs.Doing.{move_refusal, read_refusal}
use Rattle.node.specs.Replies.{IsMoveRefused, IsRefusedBy, IsReplyTo}
use Rattle.node_clients.specs.Calls.{call_under, older_call}
use Rattle.node_clients.specs.Connections.{asked, waiting_on}
use Rattle.node_clients.specs.Desk.{connection_of}
use Rattle.node_clients.specs.Served.{HasQuit, IsClientAnswered, IsCommandTaken, IsOlder, IsServiceDone}
use Rattle.node_clients.specs.Services.{Service, service_frames}
use Rattle.node_clients.specs.declared.connection.State.TheVariants.{Idle, Quit}
use Rattle.node_clients.specs.declared.desk.Desk.{Desk}
use Rattle.node_clients.specs.declared.next.Next.{Next}
use Rattle.node_clients.specs.declared.next.Next.TheVariants as next
use Rattle.node_clients.specs.declared.open_call.OpenCall.{OpenCall}
use Rattle.node_clients.specs.declared.rest.Rest.TheVariants as rests
use Rattle.open_calls.specs.OpenCalls.{open_call}
use Rattle.processes.specs.Answers.{Passed}
use Rattle.processes.proofs.CommandViewLemmas.{IsNextOf, View, Widens}
use Rattle.processes.proofs.ConnectionLemmas.{HasNoMore, none_left}
use Rattle.processes.proofs.ConnectionLemmas.{rest_waits, times_wider}
use Rattle.processes.proofs.ServiceIdLemmas.{service_widens, view_after}
use Rattle.processes.proofs.ServiceAnswerLemmas.{HasDeskIf, HasStepped, Reaches, answers_first, calls_of}
use Rattle.processes.proofs.ServiceAnswerLemmas.{untouched}
use Rattle.processes.proofs.AnswerFrameLemmas.{mine_sent, other_sent}
use Rattle.processes.proofs.TakenCommandLemmas.{none_taken, taken_of}

-- a call that gets older stays open for the same client
pub older_less : (client : ℕ) (old : Desk) (id : ℕ) (older : Desk) → IsOlder old id older →
    HasNoMore client (calls_of old) (calls_of older)
older_less client old id older is other later e mine = go (eqb other id) refl
  where
    Was : Type 0
    Was = (before : OpenCall) × (call_under old.calls other ≡ Some before) × (record before { age = 0 } ≡ record later { age = 0 })

    was : (found : Option OpenCall) → call_under old.calls other ≡ found → older_call found ≡ Some later → Was
    was None f same = absurd (cc)
    was (Some before) f same = (before, f, ap (λ (c : OpenCall). record c { age = 0 }) (same_Some _ later same))

    go : (b : Bool) → eqb other id ≡ b → Was
    go true t =
        let here = eqb-true other id t in
        was (call_under old.calls other) refl
        (ap (λ n. older_call (call_under old.calls n)) here ∙ sym is.older ∙ sym (ap (calls_of older) here) ∙ e)
    go false t =
        let differ : other ≢ id = λ same. absurd (let wrong : false ≡ true = sym t ∙ eq-eqb other id same in cc) in
        (later, sym (is.others other differ) ∙ e, refl)

-- what is refused for this reason is so whatever other reasons there are
first_reason : {A : Type 0} (b : Bool) (reason why : A) (later : Option A) → cond b (Some reason) None ≡ Some why →
    cond b (Some reason) later ≡ Some why
first_reason true reason why later e = e
first_reason false reason why later e = absurd (cc)

-- why an object refuses a read, it also refuses a move with the same id
refused_too : (answer : Answer) → IsRefusedBy read_refusal answer → IsRefusedBy move_refusal answer
refused_too answer is =
    (is.0, is.1, is.2, first_reason (is_some (open_call is.0.calls is.1)) _ is.2 _ is.3, is.4)

module _ (number client : ℕ) (file : FileContents) (ticks : ℕ) (view : View) (after : CallIds) (old new : Desk) (ended : Bool)
    (commands : List Passed) (within : HasRanges view.ids) (reach : (other : ℕ) → Reaches old other → other < 2 ^ 64)
    (has : HasDeskIf client number file ended view old commands) where
  abbrev delta : Option ℕ
  delta = file.fixed.delta

  abbrev Step : Service → Type 0
  Step service = HasStepped number client file ended (view_after view service after) (service_frames service) new commands

  apart : (other : ℕ) → eqb other client ≡ false → client ≢ other
  apart other t same = absurd (let wrong : false ≡ true = sym t ∙ eq-eqb other client (sym same) in cc)

  same_calls : new.calls ≡ old.calls → HasNoMore client (calls_of old) (calls_of new)
  same_calls same id call e mine = (call, sym (ap (λ cs. call_under cs id) same) ∙ e, refl)

  -- A command is answered at once

  -- the reply to what is next is one to the command
  reply_right : (command : Passed) (first : Next) (answer : Answer) → IsNextOf view number file command first →
      IsReplyTo number file client (asked first) answer → IsReplyTo number file client (command_at command.strings) answer
  reply_right command (next.Came frame) answer same right =
      subst (λ (f : List (List ℕ)). IsReplyTo number file client (command_at f) answer) same right
  reply_right command (next.Rest (rests.Deletes deletion)) answer is right =
      subst (λ f. IsReplyTo number file client f answer) (sym is.2) right
  reply_right command (next.Rest (rests.Confirms name)) answer is right =
      subst (λ f. IsReplyTo number file client f answer) (sym is.1) (
        is.2.0,
        subst (λ fault. IsMoveRefused fault answer) (sym is.2.1) (refused_too answer right),
      )

  own_replies : (first : Next) (answer : Answer) (taken : Desk) → IsCommandTaken old client first taken →
      IsClientAnswered taken client new → IsReplyTo number file client (asked first) answer →
      UsesIds view.ids (Service.Replies client first answer) after → Step (Service.Replies client first answer)
  own_replies first answer taken is_taken answered right uses = go ended has
    where
      service : Service
      service = Service.Replies client first answer

      then : View
      then = view_after view service after

      wide : Widens view then
      wide = service_widens view after service within uses

      go : (b : Bool) → HasDeskIf client number file b view old commands →
          HasStepped number client file b then (service_frames service) new commands
      go true gone =
          absurd (none_taken client number file (connection_of old client) (connection_of taken client) first is_taken.taken gone)
      go false has =
          let it = taken_of client number file view (connection_of old client) (connection_of taken client) (calls_of old) commands first
          is_taken.taken has in
          answers_first number client file then (service_frames service) new commands it.command it.rest answer it.those
          (mine_sent client answer) (inl (reply_right it.command first answer it.is_next right))
          (none_left client number file then (connection_of new client) (calls_of new) it.rest
          (λ i. rest_waits client number file then it.rest (waiting_on (connection_of new client)) (answered.idle.waiting ∙ it.waits))
          (λ id call e mine. it.none id call (sym (ap (λ cs. call_under cs id) (answered.calls ∙ is_taken.calls)) ∙ e) mine)
          (λ command rest e. it.bound) (times_wider client number file view then wide it.rest it.times))

  pub replies : (other : ℕ) (first : Next) (answer : Answer) → IsServiceDone ticks delta old (Service.Replies other first answer) new →
      IsReplyTo number file other (asked first) answer → UsesIds view.ids (Service.Replies other first answer) after →
      Step (Service.Replies other first answer)
  replies other first answer done right uses = go (eqb other client) refl
    where
      service : Service
      service = Service.Replies other first answer

      go : (b : Bool) → eqb other client ≡ b → Step service
      go false t =
          let differ = apart other t in
          untouched number client file ended view (view_after view service after) (service_frames service) old new commands
          (service_widens view after service within uses)
          (done.2.idle.others client differ ∙ done.1.others client differ) (same_calls (done.2.calls ∙ done.1.calls))
          (λ small. other_sent client other answer small
          (reach other (inl (first, waiting_on (connection_of done.0 other), done.1.taken.0, done.1.taken.1))) (λ same. differ (sym same)))
          has
      go true t =
          let same : other ≡ client = eqb-true other client t in
          subst (λ n. IsCommandTaken old n first done.0 → IsClientAnswered done.0 n new → IsReplyTo number file n (asked first) answer →
          Step (Service.Replies n first answer)) (sym same)
          (λ taken answered is. own_replies first answer done.0 taken answered is uses) done.1 done.2 right

  -- A client quits

  quit_asked : (command : Passed) (first : Next) → IsNextOf view number file command first → asked first ≡ Ok ask.Quit →
      command_at command.strings ≡ Ok ask.Quit
  quit_asked command (next.Came frame) same asks = ap command_at (sym same) ∙ asks
  quit_asked command (next.Rest (rests.Deletes deletion)) is asks = absurd (cc)
  quit_asked command (next.Rest (rests.Confirms name)) is asks = absurd (cc)

  own_quits : (first : Next) (taken : Desk) → asked first ≡ Ok ask.Quit → IsCommandTaken old client first taken →
      HasQuit taken client new → UsesIds view.ids (Service.Quits client) after → Step (Service.Quits client)
  own_quits first taken asks is_taken quit uses = go ended has
    where
      then : View
      then = view_after view (Service.Quits client) after

      wide : Widens view then
      wide = service_widens view after (Service.Quits client) within uses

      go : (b : Bool) → HasDeskIf client number file b view old commands →
          HasStepped number client file b then (service_frames (Service.Quits client)) new commands
      go true gone =
          absurd (none_taken client number file (connection_of old client) (connection_of taken client) first is_taken.taken gone)
      go false has =
          let it = taken_of client number file view (connection_of old client) (connection_of taken client) (calls_of old) commands first
          is_taken.taken has in
          answers_first number client file then (service_frames (Service.Quits client)) new commands it.command it.rest answers.Ok it.those
          (mine_sent client answers.Ok) (inr (inl (quit_asked it.command first it.is_next asks, refl)))
          (none_left client number file then (connection_of new client) (calls_of new) it.rest
          (λ i. absurd (let wrong : Quit ≡ Idle = sym quit.state ∙ i in cc))
          (λ id call e mine. it.none id call (sym (ap (λ cs. call_under cs id) (quit.calls ∙ is_taken.calls)) ∙ e) mine)
          (λ command rest e. it.bound) (times_wider client number file view then wide it.rest it.times))

  pub quits : (other : ℕ) → IsServiceDone ticks delta old (Service.Quits other) new → UsesIds view.ids (Service.Quits other) after →
      Step (Service.Quits other)
  quits other done uses = go (eqb other client) refl
    where
      service : Service
      service = Service.Quits other

      go : (b : Bool) → eqb other client ≡ b → Step service
      go false t =
          let differ = apart other t in
          untouched number client file ended view (view_after view service after) (service_frames service) old new commands
          (service_widens view after service within uses)
          (done.4.others client differ ∙ done.3.others client differ) (same_calls (done.4.calls ∙ done.3.calls))
          (λ small. other_sent client other answers.Ok small
          (reach other (inl (done.0, waiting_on (connection_of done.2 other), done.3.taken.0, done.3.taken.1)))
          (λ same. differ (sym same)))
          has
      go true t =
          let same : other ≡ client = eqb-true other client t in
          subst (λ n. IsCommandTaken old n done.0 done.2 → HasQuit done.2 n new → Step (Service.Quits n)) (sym same)
          (λ taken quit. own_quits done.0 done.2 done.1 taken quit uses) done.3 done.4
