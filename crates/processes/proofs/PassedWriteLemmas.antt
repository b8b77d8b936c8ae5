-- A call of which more is left keeps what is known of a client's commands as it is answered.
use Rattle.std.proofs.Common.{◌≡◌, ◌≢◌, ◌<◌, ◌^◌, ℕ, suc, Bool, true, false, eqb, eqb-true, eq-eqb}
use Rattle.std.proofs.Common.{List, [], ◌∷◌, Option, None, Some, is_some, Ok, refl, sym, subst, ap, ◌∙◌}
use Rattle.client_commands.specs.Deletion.{Deletion, left_over, name_now}
use Rattle.client_commands.specs.Reading.{command_at}
use Rattle.client_commands.specs.declared.command.Command.{Command}
use Rattle.client_commands.specs.declared.command.Command.TheVariants as ask
use Rattle.cluster_file.specs.File.{FileContents}
use Rattle.deeds.specs.CallId.{CallIds, HasRanges}
use Rattle.deeds.specs.Deeds.{Notice}
use Rattle.local_object.specs.declared.progress.Ended.{Ended}
use Rattle.layout.specs.Layout.{Layout}
use Rattle.node.specs.GivenIds.{UsesIds}
use Rattle.node.specs.Replies.{MayBegin}
use Rattle.node_clients.specs.Calls.{call_under, client_waiting, rest_of, waiting_for}
use Rattle.node_clients.specs.Connections.{asked, waiting_on}
use Rattle.node_clients.specs.Desk.{connection_of, is_connected}
use Rattle.node_clients.specs.Served.{IsPassed, IsServiceDone}
use Rattle.node_clients.specs.Services.{Service, begun_notices, service_frames}
use Rattle.node_clients.specs.declared.desk.Desk.{Desk}
use Rattle.node_clients.specs.declared.next.Next.{Next}
use Rattle.node_clients.specs.declared.next.Next.TheVariants as next
use Rattle.node_clients.specs.declared.open_call.OpenCall.{OpenCall}
use Rattle.node_clients.specs.declared.rest.Rest.{Rest}
use Rattle.node_clients.specs.declared.rest.Rest.TheVariants as rests
use Rattle.node_effects.specs.Seen.{all_seen}
use Rattle.processes.specs.Answers.{Passed}
use Rattle.processes.proofs.CommandViewLemmas.{IsNextOf, IsOpenFor, IsOwnCall, Moved, View, WasAnswered, Widens, WroteOnce}
use Rattle.processes.proofs.CommandViewLemmas.{open_wider}
use Rattle.processes.proofs.ConnectionLemmas.{HasNoMore, Waits, closed_none, times_wider}
use Rattle.processes.proofs.LeftCommandLemmas.{IsLeftOf, left_of_command}
use Rattle.processes.proofs.ServiceIdLemmas.{service_widens, view_after}
use Rattle.processes.proofs.ServiceAnswerLemmas.{HasDeskIf, HasStepped, Reaches, calls_of}
use Rattle.processes.proofs.ServiceAnswerLemmas.{listener_is, untouched}
use Rattle.processes.proofs.StandingLemmas.{among_second}
use Rattle.processes.proofs.RepliesInOrderLemmas.{wrote_then}

-- the client that waits for a call, if one does
waiting_call : (found : Option OpenCall) (client : ℕ) → client_waiting found ≡ Some client →
    (call : OpenCall) × (found ≡ Some call) × (call.client ≡ Some client)
waiting_call None client e = absurd (cc)
waiting_call (Some call) client e = (call, refl, e)

module _ (number client : ℕ) (file : FileContents) (ticks : ℕ) (view : View) (after : CallIds) (old new : Desk) (ended : Bool)
    (commands : List Passed) (within : HasRanges view.ids) (reach : (other : ℕ) → Reaches old other → other < 2 ^ 64)
    (has : HasDeskIf client number file ended view old commands) where
  abbrev delta : Option ℕ
  delta = file.fixed.delta

  abbrev Step : Service → Type 0
  Step service = HasStepped number client file ended (view_after view service after) (service_frames service) new commands

  closed_none_there : (desk : Desk) (id : ℕ) → call_under new.calls id ≡ None → (later : OpenCall) → call_under new.calls id ≡ Some later →
      later.client ≡ Some client → ⊥
  closed_none_there desk id gone later e mine = absurd (let wrong : None ≡ Some later = sym gone ∙ e in cc)

  -- A call is answered, and more is left

  own_passes : (name : List ℕ) (it : Ended) (rest : Rest) → IsPassed delta old it.id client rest new →
      UsesIds view.ids (Service.Passes name it client rest) after → Step (Service.Passes name it client rest)
  own_passes name it rest passed uses = go ended has
    where
      service : Service
      service = Service.Passes name it client rest

      then : View
      then = view_after view service after

      wide : Widens view then
      wide = service_widens view after service within uses

      listens : (waiting_for old.calls it.id ≡ Some client) × (is_connected old client ≡ true)
      listens = listener_is old (waiting_for old.calls it.id) client passed.who

      found : (call : OpenCall) × (call_under old.calls it.id ≡ Some call) × (call.client ≡ Some client)
      found = waiting_call (call_under old.calls it.id) client listens.0

      -- what is left is next for the command
      goes_on : (command : Passed) → IsOpenFor client then number file command it.id found.0 →
          IsNextOf then number file command (next.Rest rest)
      goes_on command is =
          of_left rest (left_of_command client delta is.asks found.0 rest is.call_is (ap (rest_of delta) (sym found.1) ∙ passed.left))
        where
          Goes : Rest → Type 0
          Goes left = IsNextOf then number file command (next.Rest left)

          -- the call was answered
          once : (began : ℕ → Notice) → all_seen (begun_notices is.asks it.id) ≡ began it.id ∷ [] → WasAnswered then command.time began
          once began said = record {
            id = it.id;
            call = subst (λ n. IsOwnCall then command.time n it.id)
                (let both : is.notice ∷ [] ≡ began it.id ∷ [] = sym is.begins ∙ said in
                let same : is.notice ≡ began it.id = cc in same) is.own;
            other = name;
            ended = it;
            told = among_second view.told (Notice.Tells name it ∷ []) (Notice.Tells name it) (0, refl);
            same = refl;
          }

          -- the write is one more of a DEL
          one_more : (first : Next) → IsNextOf then number file command first → (deletion more : Deletion) →
              left_over delta deletion ≡ Some more → WroteOnce then command.time (name_now deletion) →
              asked first ≡ Ok (ask.Delete deletion) → Goes (rests.Deletes more)
          one_more (next.Came frame) same deletion more left wrote asks =
              (deletion, 1, ap command_at (sym same) ∙ asks, (wrote, more, left, refl))
          one_more (next.Rest (rests.Deletes was)) is deletion more left wrote asks =
              let same : was ≡ deletion = cc in (
                is.0,
                suc is.1,
                is.2,
                wrote_then then command.time delta is.1 is.0 was more is.3
                    (subst (λ d. WroteOnce then command.time (name_now d)) (sym same) wrote) (ap (left_over delta) same ∙ left),
              )
          one_more (next.Rest (rests.Confirms name)) is deletion more left wrote asks = absurd (cc)

          -- the object was moved
          moved : (first : Next) → IsNextOf then number file command first → (name : List ℕ) (layout : Layout) →
              MayBegin number file (ask.Move name layout) → Moved then command.time name layout →
              asked first ≡ Ok (ask.Move name layout) → Goes (rests.Confirms name)
          moved (next.Came frame) same name layout may was asks = (layout, ap command_at (sym same) ∙ asks, may, was)
          moved (next.Rest (rests.Deletes deletion)) is name layout may was asks = absurd (cc)
          moved (next.Rest (rests.Confirms other)) is name layout may was asks = absurd (cc)

          of_left : (left : Rest) → IsLeftOf delta is.asks left → Goes left
          of_left (rests.Deletes more) of =
              one_more is.first is.is_next of.0 more of.2
              (once (λ id. Notice.Writes (name_now of.0) id []) (ap (λ c. all_seen (begun_notices c it.id)) of.1))
              (is.asked_is ∙ ap (λ (c : Command). Ok c) of.1)
          of_left (rests.Confirms name) of =
              moved is.first is.is_next name of.0 (subst (MayBegin number file) of.1 is.may)
              (once (λ id. Notice.Moves name id of.0) (ap (λ c. all_seen (begun_notices c it.id)) of.1))
              (is.asked_is ∙ ap (λ (c : Command). Ok c) of.1)

      go : (b : Bool) → HasDeskIf client number file b view old commands → HasStepped number client file b then [] new commands
      go true gone = absurd (let wrong : true ≡ false = sym listens.1 ∙ ap is_some gone in cc)
      go false has =
          let here = has.opened it.id found.0 found.1 found.2 in
          let is_for = open_wider view then wide client number file here.1 it.id found.0 here.5 in record {
            left = commands;
            replied = λ small. refl;
            has = record {
              idle = λ e. subst (λ cs. Waits then number file cs (waiting_on (connection_of new client))) (sym here.3) (
                next.Rest rest,
                passed.back.waiting listens.1 ∙ ap (λ ns. next.Rest rest ∷ ns) here.4,
                goes_on here.1 is_for,
              );
              opened = λ id call e mine. absurd (none has id call e mine);
              one = λ id other call second e mine f also. absurd (none has id call e mine);
              bound = has.bound;
              times = times_wider client number file view then wide commands has.times;
            };
          }
        where
          none : (has : HasDeskIf client number file false view old commands) (id : ℕ) (call : OpenCall) →
              call_under new.calls id ≡ Some call → call.client ≡ Some client → ⊥
          none has = closed_none client number file view (connection_of old client) (calls_of old) (calls_of new) commands it.id found.0 has
              found.1 found.2 (closed_none_there old it.id passed.gone) passed.others

  pub passes : (name : List ℕ) (it : Ended) (other : ℕ) (rest : Rest) →
      IsServiceDone ticks delta old (Service.Passes name it other rest) new → UsesIds view.ids (Service.Passes name it other rest) after →
      Step (Service.Passes name it other rest)
  passes name it other rest done uses = go (eqb other client) refl
    where
      service : Service
      service = Service.Passes name it other rest

      less : HasNoMore client (calls_of old) (calls_of new)
      less i later e mine = one (eqb i it.id) refl
        where
          one : (b : Bool) → eqb i it.id ≡ b →
              (before : OpenCall) × (call_under old.calls i ≡ Some before) × (record before { age = 0 } ≡ record later { age = 0 })
          one true t = absurd (closed_none_there old it.id done.gone later (sym (ap (calls_of new) (eqb-true i it.id t)) ∙ e) mine)
          one false t =
              let far : i ≢ it.id = λ same. absurd (let wrong : false ≡ true = sym t ∙ eq-eqb i it.id same in cc) in
              (later, sym (done.others i far) ∙ e, refl)

      go : (b : Bool) → eqb other client ≡ b → Step service
      go false t =
          let differ : client ≢ other = λ same. absurd (let wrong : false ≡ true = sym t ∙ eq-eqb other client (sym same) in cc) in
          untouched number client file ended view (view_after view service after) [] old new commands
          (service_widens view after service within uses) (done.back.others client differ) less (λ small. refl) has
      go true t =
          let same : other ≡ client = eqb-true other client t in
          subst (λ n. IsPassed delta old it.id n rest new → Step (Service.Passes name it n rest)) (sym same)
          (λ passed. own_passes name it rest passed uses) done
