-- What several services keep, and what the coming of a command and the end of a connection change.
use Rattle.std.proofs.Common.{◌≡◌, ◌≢◌, ◌<◌, ◌≤◌, ◌^◌, ℕ, Bool, true, false, cond}
use Rattle.std.proofs.Common.{List, [], ◌∷◌, ◌++◌, length, Option, refl, sym, subst, ap, ◌∙◌, append_assoc, append-nil}
use Rattle.std.specs.List.{AllByRecursion, filter}
use Rattle.std.proofs.lemmas.Grind.{flat_map-append}
use Rattle.cluster_file.specs.File.{FileContents}
use Rattle.deeds.specs.CallId.{CallIds, HasRanges}
use Rattle.deeds.specs.Deeds.{Notice}
use Rattle.node.specs.GivenIds.{UseIds}
use Rattle.node.specs.Replies.{IsRight}
use Rattle.node_clients.specs.Calls.{call_under}
use Rattle.node_clients.specs.Desk.{connection_of}
use Rattle.node_clients.specs.Served.{AreServicesDone, IsArrived}
use Rattle.node_clients.specs.Services.{Service, all_frames, all_notices, service_frames, service_notices}
use Rattle.node_clients.specs.declared.desk.Desk.{Desk}
use Rattle.node_effects.specs.Seen.{all_seen, seen_of}
use Rattle.node_effects.specs.declared.notice.Notice.{Notice as Told}
use Rattle.node_strings.specs.Strings.{Strings}
use Rattle.processes.specs.Answers.{Passed, answer_to, answers_to}
use Rattle.processes.specs.Events.{is_begun, is_told}
use Rattle.processes.proofs.CommandViewLemmas.{AreReplied, View, Widens, replies_wider, widens_same, widens_then}
use Rattle.processes.proofs.ConnectionLemmas.{HasCommandsIf, HasNoMore, commands_more, kept_if}
use Rattle.processes.proofs.ServiceIdLemmas.{service_widens, uses_later, view_after}
use Rattle.processes.proofs.ServiceAnswerLemmas.{HasDeskIf, HasStepped, IsQuiet, calls_of, reach_bound}
use Rattle.processes.proofs.ServiceEndLemmas.{quiet_step}
use Rattle.processes.proofs.RepliesInOrderLemmas.{replied_then}

-- what clients see of some services, and of others behind them
seen_append : (p : Notice → Bool) (xs ys : List Told) →
    filter p (all_seen (xs ++ ys)) ≡ filter p (all_seen xs) ++ filter p (all_seen ys)
seen_append p [] ys = refl
seen_append p (x ∷ xs) ys = go (p (seen_of x)) (seen_append p xs ys)
  where
    go : (b : Bool) → filter p (all_seen (xs ++ ys)) ≡ filter p (all_seen xs) ++ filter p (all_seen ys) →
        cond b (seen_of x ∷ filter p (all_seen (xs ++ ys))) (filter p (all_seen (xs ++ ys)))
        ≡ cond b (seen_of x ∷ filter p (all_seen xs)) (filter p (all_seen xs)) ++ filter p (all_seen ys)
    go true e = ap (λ ns. seen_of x ∷ ns) e
    go false e = e

-- behind what was seen or told before, what clients see of some services, and then of others
seen_then : (p : Notice → Bool) (before now : List Notice) (xs ys : List Told) →
    now ≡ (before ++ filter p (all_seen xs)) ++ filter p (all_seen ys) → now ≡ before ++ filter p (all_seen (xs ++ ys))
seen_then p before now xs ys e =
    e ∙ append_assoc before (filter p (all_seen xs)) (filter p (all_seen ys)) ∙ ap (λ ns. before ++ ns) (sym (seen_append p xs ys))

module _ (number : ℕ) (file : FileContents) (ticks : ℕ) where
  abbrev delta : Option ℕ
  delta = file.fixed.delta

  -- After some services: what is known then, and for each client that what they sent to it answers its first commands.
  pub record HaveStepped (ended : ℕ → Bool) (view : View) (services : List Service) (after : CallIds) (new : Desk)
      (commands : ℕ → List Passed) : Type 0 where
    pub then : View
    pub wide : Widens view then
    pub ids : then.ids ≡ after
    pub seen : then.seen ≡ view.seen ++ filter is_begun (all_seen (all_notices services))
    pub told : then.told ≡ view.told ++ filter is_told (all_seen (all_notices services))
    pub each : (client : ℕ) →
        HasStepped number client file (ended client) then (all_frames services) new (commands client)

  pub quiet_services : (services : List Service) (ended : ℕ → Bool) (view : View) (after : CallIds) (old new : Desk)
      (commands : ℕ → List Passed) → AllByRecursion IsQuiet services → AreServicesDone ticks delta old services new →
      AllByRecursion (IsRight number file) services → UseIds view.ids services after → HasRanges view.ids →
      ((client : ℕ) → HasDeskIf client number file (ended client) view old (commands client)) →
      HaveStepped ended view services after new commands
  quiet_services [] ended view after old new commands quiet done right uses within each = record {
    then = view;
    wide = widens_same view;
    ids = sym uses;
    seen = sym (append-nil view.seen);
    told = sym (append-nil view.told);
    each = λ client. record {
      left = commands client;
      replied = λ small. refl;
      has = subst (λ (d : Desk). HasDeskIf client number file (ended client) view d (commands client)) (sym done) (each client);
    };
  }
  quiet_services (service ∷ services) ended view after old new commands quiet done right uses within each =
      together (quiet_services services ended middle after done.0 new (λ client. (first client).left) quiet.1 done.2 right.1 uses.2
      (uses_later view.ids uses.0 service within uses.1).within (λ client. (first client).has))
    where
      middle : View
      middle = view_after view service uses.0

      wide : Widens view middle
      wide = service_widens view uses.0 service within uses.1

      first : (client : ℕ) → HasStepped number client file (ended client) middle (service_frames service) done.0 (commands client)
      first client =
          quiet_step number client file ticks view uses.0 old done.0 (ended client) (commands client) within
          (λ other reaches. reach_bound other number file (ended other) view old (commands other) (each other) reaches) (each client)
          service quiet.0 done.1 right.0 uses.1

      together : HaveStepped ended middle services after new (λ client. (first client).left) →
          HaveStepped ended view (service ∷ services) after new commands
      together later = record {
        then = later.then;
        wide = widens_then view middle later.then wide later.wide;
        ids = later.ids;
        seen = seen_then is_begun view.seen later.then.seen (service_notices service) (all_notices services) later.seen;
        told = seen_then is_told view.told later.then.told (service_notices service) (all_notices services) later.told;
        each = λ client. (let one = first client in let rest = later.each client in record {
          left = rest.left;
          replied = λ small. subst (λ fs. AreReplied number client file later.then fs (commands client) rest.left)
              (sym (flat_map-append (answer_to client) (service_frames service) (all_frames services)))
              (replied_then number client file later.then (answers_to client (service_frames service))
              (answers_to client (all_frames services)) (commands client) one.left rest.left
              (replies_wider middle later.then later.wide number client file (answers_to client (service_frames service))
              (commands client) one.left (one.replied small)) (rest.replied small));
          has = rest.has;
        });
      }

-- A command comes, or a connection ends

same_less : (client : ℕ) (old new : Desk) → new.calls ≡ old.calls → HasNoMore client (calls_of old) (calls_of new)
same_less client old new same id call e mine = (call, sym (ap (λ cs. call_under cs id) same) ∙ e, refl)

module _ (client number : ℕ) (file : FileContents) (view : View) (old new : Desk) (other : ℕ) (commands : List Passed) where
  -- nothing changes for another client
  pub elsewhere : (ended : Bool) → (other ≡ client → ⊥) →
      ((n : ℕ) → n ≢ other → connection_of new n ≡ connection_of old n) → new.calls ≡ old.calls →
      HasDeskIf client number file ended view old commands → HasDeskIf client number file ended view new commands
  elsewhere ended differ others calls has =
      subst (λ at. HasCommandsIf client number file ended view at (calls_of new) commands)
      (sym (others client (λ same. differ (sym same))))
      (kept_if client number file ended view view (connection_of old client) (calls_of old) (calls_of new) commands (widens_same view)
      (same_less client old new calls) has)

  -- a command has come in on the client's connection, which has not ended
  pub arrived : (command : Strings) (time : ℕ) → IsArrived old client command new → client < 2 ^ 64 → time ≤ length view.seen →
      HasDeskIf client number file false view old commands →
      HasDeskIf client number file false view new (commands ++ record { strings = command; time = time } ∷ [])
  arrived command time is small early has =
      commands_more client number file view (connection_of old client) (connection_of new client) (calls_of old) (calls_of new) commands
      (record { strings = command; time = time }) is.state is.waiting (same_less client old new is.calls) small early has
