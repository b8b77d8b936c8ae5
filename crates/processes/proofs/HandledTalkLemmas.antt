-- What passes on the connections of a node's clients as the node handles a frame.
use Rattle.std.proofs.Common.{◌≡◌, ◌<◌, ◌≤◌, ◌^◌, ℕ, Bool, true, false, cond, ◌||◌, eqb, eqb-true, eq-eqb}
use Rattle.std.proofs.Common.{List, [], ◌∷◌, ◌++◌, length, Option, None, Some, refl, sym, subst, subst₂, ap, ◌∙◌, append-nil}
use Rattle.std.specs.List.{AllByRecursion, filter}
use Rattle.cluster_file.specs.File.{FileContents}
use Rattle.deeds.specs.CallId.{CallIds, HasRanges}
use Rattle.deeds.specs.Deeds.{Notice}
use Rattle.indexmap.specs.IndexMap.{keys}
use Rattle.open_calls.proofs.ListLemmas.{all_append, all_weaker}
use Rattle.node.specs.GivenIds.{UseIds}
use Rattle.node.specs.Handles.{Handles}
use Rattle.node.specs.Replies.{IsRight}
use Rattle.node.specs.Serving.{FollowsUp, IsComing}
use Rattle.node.specs.declared.node.Node.{Node}
use Rattle.node_clients.specs.Desk.{connection_of}
use Rattle.node_clients.specs.Served.{AreServicesDone, IsArrived, IsGone}
use Rattle.node_clients.specs.Services.{Service, all_frames, all_notices, service_frames, service_notices}
use Rattle.node_clients.specs.declared.desk.Desk.{Desk}
use Rattle.node_effects.specs.Seen.{all_seen}
use Rattle.node_effects.specs.declared.effects.Effects.{Effects}
use Rattle.node_strings.specs.Arrival.{arrival_at}
use Rattle.node_strings.specs.Strings.{Strings}
use Rattle.node_strings.specs.declared.arrival.Arrival.{Arrival}
use Rattle.node_strings.specs.declared.arrival.Arrival.TheVariants as came
use Rattle.processes.specs.Answers.{Passed, Talk, heard_talk, passed_at}
use Rattle.processes.specs.Events.{is_begun, is_told, noticed_by}
use Rattle.processes.proofs.ArrivalBoundLemmas.{command_bound}
use Rattle.processes.proofs.CommandViewLemmas.{View, Widens}
use Rattle.processes.proofs.ServiceAnswerLemmas.{HasDeskIf, HasStepped, IsQuiet}
use Rattle.processes.proofs.TalkStepLemmas.{HaveStepped, arrived, elsewhere, quiet_services}
use Rattle.processes.proofs.HeardTalkLemmas.{come_in, follows_quiet, not_either, ticks_quiet}

module _ (number : ℕ) (file : FileContents) (view : View) (time : ℕ) (talks : ℕ → Talk) (commands : ℕ → List Passed) where
  abbrev delta : Option ℕ
  delta = file.fixed.delta

  abbrev ended_then : Option Arrival → ℕ → Bool
  ended_then arrival client = (heard_talk client time arrival (talks client)).ended

  abbrev commands_then : Option Arrival → ℕ → List Passed
  commands_then arrival client = commands client ++ come_in client time arrival

  -- what is known when the node has handled what came
  pub record HaveHandled (arrival : Option Arrival) (after : CallIds) (new : Desk) (frames : List Strings)
      (notices : List Notice) : Type 0 where
    pub then : View
    pub wide : Widens view then
    pub ids : then.ids ≡ after
    pub seen : then.seen ≡ view.seen ++ filter is_begun notices
    pub told : then.told ≡ view.told ++ filter is_told notices
    pub each : (client : ℕ) →
        HasStepped number client file (ended_then arrival client) then frames new (commands_then arrival client)

  module _ (old new : Desk) (coming more : List Service) (after : CallIds) (within : HasRanges view.ids)
      (early : time ≤ length view.seen) (follows : AllByRecursion FollowsUp more)
      (done : AreServicesDone file.ticks delta old (coming ++ more) new) (right : AllByRecursion (IsRight number file) (coming ++ more))
      (uses : UseIds view.ids (coming ++ more) after)
      (each : (client : ℕ) → HasDeskIf client number file (talks client).ended view old (commands client)) where
    abbrev All : Option Arrival → Type 0
    All arrival = HaveHandled arrival after new (all_frames (coming ++ more)) (all_seen (all_notices (coming ++ more)))

    handled_of : (arrival : Option Arrival) (services : List Service) →
        all_frames services ≡ all_frames (coming ++ more) → all_notices services ≡ all_notices (coming ++ more) →
        HaveStepped number file file.ticks (ended_then arrival) view services after new (commands_then arrival) → All arrival
    handled_of arrival services frames notices is = record {
      then = is.then;
      wide = is.wide;
      ids = is.ids;
      seen = is.seen ∙ ap (λ ns. view.seen ++ filter is_begun (all_seen ns)) notices;
      told = is.told ∙ ap (λ ns. view.told ++ filter is_told (all_seen ns)) notices;
      each = λ client. subst (λ fs. HasStepped number client file (ended_then arrival client) is.then fs new (commands_then arrival client))
          frames (is.each client);
    }

    -- all services are quiet, and no command comes in
    quietly : (arrival : Option Arrival) → AllByRecursion IsQuiet coming →
        ((client : ℕ) → ended_then arrival client ≡ (talks client).ended) →
        ((client : ℕ) → come_in client time arrival ≡ []) → All arrival
    quietly arrival quiet same none =
        handled_of arrival (coming ++ more) refl refl
        (quiet_services number file file.ticks (coming ++ more) (ended_then arrival) view after old new (commands_then arrival)
        (all_append IsQuiet coming more quiet (all_weaker FollowsUp IsQuiet follows_quiet more follows)) done right uses within
        (λ client. subst (λ cs. HasDeskIf client number file (ended_then arrival client) view old (commands client ++ cs))
        (sym (none client)) (subst (λ cs. HasDeskIf client number file (ended_then arrival client) view old cs)
        (sym (append-nil (commands client)))
        (subst (λ b. HasDeskIf client number file b view old (commands client)) (sym (same client)) (each client)))))

    -- behind one service that sends nothing, all are quiet
    behind_one : (arrival : Option Arrival) (first : Service) → coming ≡ first ∷ [] → service_frames first ≡ [] →
        service_notices first ≡ [] → (middle : Desk) → AreServicesDone file.ticks delta middle more new →
        AllByRecursion (IsRight number file) more → UseIds view.ids more after →
        ((client : ℕ) → HasDeskIf client number file (ended_then arrival client) view middle (commands_then arrival client)) → All arrival
    behind_one arrival first one sends says middle rest rights gave now =
        handled_of arrival more
        (ap (λ fs. fs ++ all_frames more) (sym sends) ∙ ap (λ ss. all_frames (ss ++ more)) (sym one))
        (ap (λ ns. ns ++ all_notices more) (sym says) ∙ ap (λ ss. all_notices (ss ++ more)) (sym one))
        (quiet_services number file file.ticks more (ended_then arrival) view after middle new (commands_then arrival)
        (all_weaker FollowsUp IsQuiet follows_quiet more follows) rest rights gave within now)

    -- a command has come in
    now_arrived : (other : ℕ) (command : Strings) (middle : Desk) → other < 2 ^ 64 → IsArrived old other command middle → (client : ℕ) →
        (heard_talk client time (Some (came.Command other command)) (talks client)).reused ≡ false →
        HasDeskIf client number file (ended_then (Some (came.Command other command)) client) view middle
        (commands_then (Some (came.Command other command)) client)
    now_arrived other command middle small is client unused = go (eqb other client) refl unused
      where
        talk : Talk
        talk = talks client

        now : Talk
        now = record talk { commands = talk.commands ++ passed_at time (command ∷ []); reused = talk.reused || talk.ended }

        go : (b : Bool) → eqb other client ≡ b → (cond b now talk).reused ≡ false →
            HasDeskIf client number file (cond b now talk).ended view middle (commands client ++ cond b (passed_at time (command ∷ [])) [])
        go false t unused =
            subst (λ cs. HasDeskIf client number file talk.ended view middle cs) (sym (append-nil (commands client)))
            (elsewhere client number file view old middle other (commands client) talk.ended
            (λ same. absurd (let wrong : false ≡ true = sym t ∙ eq-eqb other client same in cc)) is.others is.calls (each client))
        go true t unused =
            let same : other ≡ client = eqb-true other client t in
            let open_still : talk.ended ≡ false = (not_either talk.reused talk.ended unused).1 in
            subst (λ b. HasDeskIf client number file b view middle (commands client ++ passed_at time (command ∷ []))) (sym open_still)
            (arrived client number file view old middle other (commands client) command time
            (subst (λ n. IsArrived old n command middle) same is) (subst (λ n. n < 2 ^ 64) same small) early
            (subst (λ b. HasDeskIf client number file b view old (commands client)) open_still (each client)))

    -- a connection has ended
    now_left : (other : ℕ) (middle : Desk) → IsGone old other middle → (client : ℕ) →
        HasDeskIf client number file (ended_then (Some (came.Left other)) client) view middle
        (commands_then (Some (came.Left other)) client)
    now_left other middle is client =
        subst (λ cs. HasDeskIf client number file (ended_then (Some (came.Left other)) client) view middle cs)
        (sym (append-nil (commands client))) (go (eqb other client) refl)
      where
        talk : Talk
        talk = talks client

        go : (b : Bool) → eqb other client ≡ b →
            HasDeskIf client number file (cond b (record talk { ended = true }) talk).ended view middle (commands client)
        go true t = subst (λ n. connection_of middle n ≡ None) (eqb-true other client t) is.gone
        go false t =
            elsewhere client number file view old middle other (commands client) talk.ended
            (λ same. absurd (let wrong : false ≡ true = sym t ∙ eq-eqb other client same in cc)) is.others is.calls (each client)

    pub all_handled : (arrival : Option Arrival) → IsComing old arrival coming →
        ((other : ℕ) (command : Strings) → arrival ≡ Some (came.Command other command) → other < 2 ^ 64) →
        ((client : ℕ) → (heard_talk client time arrival (talks client)).reused ≡ false) → All arrival
    all_handled None comes small unused =
        quietly None (subst (AllByRecursion IsQuiet) (sym comes) tt) (λ client. refl) (λ client. refl)
    all_handled (Some (came.Message node frame)) comes small unused =
        quietly (Some (came.Message node frame)) (subst (AllByRecursion IsQuiet) (sym comes) tt) (λ client. refl) (λ client. refl)
    all_handled (Some (came.Tick heard)) comes small unused =
        quietly (Some (came.Tick heard)) (ticks_quiet (keys old.calls) coming comes) (λ client. refl) (λ client. refl)
    all_handled (Some (came.Command other command)) comes small unused =
        let first = Service.Arrives other command in
        let does = subst (λ ss. AreServicesDone file.ticks delta old (ss ++ more) new) comes done in
        let rights = subst (λ ss. AllByRecursion (IsRight number file) (ss ++ more)) comes right in
        let gave = subst (λ ss. UseIds view.ids (ss ++ more) after) comes uses in
        behind_one (Some (came.Command other command)) first comes refl refl does.0 does.2 rights.1
        (subst (λ ids. UseIds ids more after) gave.1 gave.2)
        (λ client. now_arrived other command does.0 (small other command refl) does.1 client (unused client))
    all_handled (Some (came.Left other)) comes small unused =
        let first = Service.Leaves other in
        let does = subst (λ ss. AreServicesDone file.ticks delta old (ss ++ more) new) comes done in
        let rights = subst (λ ss. AllByRecursion (IsRight number file) (ss ++ more)) comes right in
        let gave = subst (λ ss. UseIds view.ids (ss ++ more) after) comes uses in
        behind_one (Some (came.Left other)) first comes refl refl does.0 does.2 rights.1
        (subst (λ ids. UseIds ids more after) gave.1 gave.2)
        (λ client. now_left other does.0 does.1 client)

-- a node that handles a frame
pub node_handled : (node after : Node) (frame : Strings) (effects : Effects) (view : View) (time : ℕ) (talks : ℕ → Talk)
    (commands : ℕ → List Passed) → Handles node frame effects after → view.ids ≡ node.keeper.ids → HasRanges node.keeper.ids →
    time ≤ length view.seen → ((client : ℕ) → (heard_talk client time (arrival_at frame) (talks client)).reused ≡ false) →
    ((client : ℕ) → HasDeskIf client node.keeper.ids.node node.keeper.file (talks client).ended view node.desk (commands client)) →
    HaveHandled node.keeper.ids.node node.keeper.file view time talks commands (arrival_at frame) after.keeper.ids after.desk
    effects.answers.items (noticed_by effects)
node_handled node after frame effects view time talks commands handles ids within early unused each =
    let served = handles.served in
    subst₂ (λ fs ns. HaveHandled node.keeper.ids.node node.keeper.file view time talks commands (arrival_at frame) after.keeper.ids
    after.desk fs (all_seen ns)) (sym served.answers) (sym served.notices)
    (all_handled node.keeper.ids.node node.keeper.file view time talks commands node.desk after.desk served.coming served.more
    after.keeper.ids (subst HasRanges (sym ids) within) early served.follows served.served served.right
    (subst (λ i. UseIds i (served.coming ++ served.more) after.keeper.ids) (sym ids) served.ids) each (arrival_at frame) served.comes
    (λ other command e. command_bound frame other command e) unused)
