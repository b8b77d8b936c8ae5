-- A command that begins a call keeps what is known of a client's commands.
use Rattle.std.proofs.Common.{◌≡◌, ◌≢◌, ◌⊎◌, inl, inr, ◌<◌, ◌+◌, ◌^◌, ℕ, Bool, true, false, eqb, eqb-true, eq-eqb}
use Rattle.std.proofs.Common.{List, [], ◌∷◌, ◌++◌, length, Option, None, Some, Ok, slice_get, refl, sym, subst, ap, ◌∙◌, arith}
use Rattle.std.specs.Prelude.{nat_eq}
use Rattle.std.proofs.lemmas.List.{length-append}
use Rattle.std.proofs.lemmas.Option.{same_Some, slice_get_within}
use Rattle.indexmap.specs.IndexMap.{get}
use Rattle.client_commands.specs.declared.command.Command.{Command}
use Rattle.cluster_file.specs.File.{FileContents}
use Rattle.deeds.specs.CallId.{CallIds, HasRanges}
use Rattle.node.specs.GivenIds.{UsesIds}
use Rattle.node.specs.Replies.{MayBegin}
use Rattle.node_clients.specs.Calls.{call_under}
use Rattle.node_clients.specs.Connections.{asked, waiting_on}
use Rattle.node_clients.specs.Desk.{connection_of}
use Rattle.node_clients.specs.Served.{IsCommandTaken, IsOpened, IsServiceDone, call_begun}
use Rattle.node_clients.specs.Services.{Service, service_frames}
use Rattle.node_clients.specs.declared.desk.Desk.{Desk}
use Rattle.node_clients.specs.declared.next.Next.{Next}
use Rattle.node_clients.specs.declared.open_call.OpenCall.{OpenCall}
use Rattle.processes.specs.Answers.{Passed}
use Rattle.processes.proofs.CommandViewLemmas.{IsOpenFor, View, Widens, next_wider}
use Rattle.processes.proofs.ConnectionLemmas.{HasCommands, HasNoMore}
use Rattle.processes.proofs.ServiceIdLemmas.{IsCalling, IsNotCalling, begun_alone, calling_or_not, is_given, next_of}
use Rattle.processes.proofs.ServiceIdLemmas.{service_widens, view_after}
use Rattle.processes.proofs.ServiceAnswerLemmas.{HasDeskIf, HasStepped, Reaches, calls_of}
use Rattle.processes.proofs.ServiceAnswerLemmas.{untouched}
use Rattle.processes.proofs.TakenCommandLemmas.{IsTaken, none_taken, opened_here, taken_of}

get_last : {A : Type 0} (xs : List A) (y : A) → slice_get (xs ++ y ∷ []) (length xs) ≡ Some y
get_last [] y = refl
get_last (x ∷ xs) y = get_last xs y

module _ (number client : ℕ) (file : FileContents) (ticks : ℕ) (view : View) (after : CallIds) (old new : Desk) (ended : Bool)
    (commands : List Passed) (within : HasRanges view.ids) (reach : (other : ℕ) → Reaches old other → other < 2 ^ 64)
    (has : HasDeskIf client number file ended view old commands) where
  abbrev delta : Option ℕ
  delta = file.fixed.delta

  abbrev Step : Service → Type 0
  Step service = HasStepped number client file ended (view_after view service after) (service_frames service) new commands

  apart : (other : ℕ) → eqb other client ≡ false → client ≢ other
  apart other t same = absurd (let wrong : false ≡ true = sym t ∙ eq-eqb other client (sym same) in cc)

  -- A command begins a call

  own_begins : (first : Next) (command : Command) (id : ℕ) (taken : Desk) → asked first ≡ Ok command →
      IsCommandTaken old client first taken → IsOpened taken (call_begun client command) id new →
      MayBegin number file command → UsesIds view.ids (Service.Begins client command id) after → Step (Service.Begins client command id)
  own_begins first command id taken asks is_taken opened may uses = go ended has
    where
      service : Service
      service = Service.Begins client command id

      then : View
      then = view_after view service after

      wide : Widens view then
      wide = service_widens view after service within uses

      go : (b : Bool) → HasDeskIf client number file b view old commands →
          HasStepped number client file b then [] new commands
      go true gone =
          absurd (none_taken client number file (connection_of old client) (connection_of taken client) first is_taken.taken gone)
      go false has =
          let it = taken_of client number file view (connection_of old client) (connection_of taken client) (calls_of old) commands first
          is_taken.taken has in record {
            left = commands;
            replied = λ small. refl;
            has = subst (λ at. HasCommands client number file then at (calls_of new) commands)
                (sym (ap (λ c. get nat_eq c.by_number client) opened.clients))
                (opened_here client number file view then (connection_of old client) (connection_of taken client) (calls_of old)
                (calls_of new) commands first id wide it is_taken.taken.2
                (λ other differ. opened.others other differ ∙ ap (λ cs. call_under cs other) is_taken.calls)
                (λ call e. is_for it call e (calling_or_not client command id)));
          }
        where
          is_for : (it : IsTaken client number file view (connection_of old client) (calls_of old) commands first
              (waiting_on (connection_of taken client))) (call : OpenCall) → call_under new.calls id ≡ Some call →
              IsCalling client command id ⊎ IsNotCalling client command id → IsOpenFor client then number file it.command id call
          is_for it call e (inr none) =
              absurd (let wrong : None ≡ Some call = sym none.call_is ∙ sym opened.opened ∙ e in cc)
          is_for it call e (inl is) =
              let begun : call_begun client command ≡ Some call = sym opened.opened ∙ e in
              let same : is.call ≡ call = same_Some is.call call (sym is.call_is ∙ begun) in
              let young : call.age ≡ 0 = sym (ap (λ (c : OpenCall). c.age) same) ∙ is.young in
              let alone = begun_alone client command id is in
              let long : length then.seen ≡ length view.seen + 1 =
              ap (λ ns. length (view.seen ++ ns)) alone ∙ length-append view.seen (is.notice ∷ []) in record {
                first = first;
                is_next = next_wider view then wide number file it.command first it.is_next;
                asks = command;
                asked_is = asks;
                may = may;
                call_is = begun ∙ ap (λ n. Some (record call { age = n })) young;
                notice = is.notice;
                begins = is.begins;
                own = record {
                  place = length view.seen;
                  at = subst (λ ns. slice_get (view.seen ++ ns) (length view.seen) ≡ Some is.notice) (sym alone)
                      (get_last view.seen is.notice);
                  begins = is.is_id;
                  after = it.early;
                  last = λ other later f same. (let less = slice_get_within then.seen other later f in omega arith);
                  given = is_given view.ids after id (next_of view.ids after id within uses.0 uses.1);
                };
              }

  pub begins : (other : ℕ) (command : Command) (id : ℕ) → IsServiceDone ticks delta old (Service.Begins other command id) new →
      MayBegin number file command → UsesIds view.ids (Service.Begins other command id) after → Step (Service.Begins other command id)
  begins other command id done may uses = go (eqb other client) refl
    where
      service : Service
      service = Service.Begins other command id

      not_mine : (differ : client ≢ other) (later : OpenCall) → call_under new.calls id ≡ Some later → later.client ≡ Some client →
          IsCalling other command id ⊎ IsNotCalling other command id → ⊥
      not_mine differ later e mine (inr none) =
          absurd (let wrong : None ≡ Some later = sym none.call_is ∙ sym done.4.opened ∙ e in cc)
      not_mine differ later e mine (inl is) =
          let same : is.call ≡ later = same_Some is.call later (sym is.call_is ∙ sym done.4.opened ∙ e) in
          differ (same_Some client other (sym mine ∙ sym (ap (λ (c : OpenCall). c.client) same) ∙ is.mine))

      less : client ≢ other → HasNoMore client (calls_of old) (calls_of new)
      less differ i later e mine = one (eqb i id) refl
        where
          one : (b : Bool) → eqb i id ≡ b →
              (before : OpenCall) × (call_under old.calls i ≡ Some before) × (record before { age = 0 } ≡ record later { age = 0 })
          one true t =
              absurd (not_mine differ later (sym (ap (calls_of new) (eqb-true i id t)) ∙ e) mine (calling_or_not other command id))
          one false t =
              let far : i ≢ id = λ same. absurd (let wrong : false ≡ true = sym t ∙ eq-eqb i id same in cc) in
              (later, sym (done.4.others i far ∙ ap (λ cs. call_under cs i) done.3.calls) ∙ e, refl)

      go : (b : Bool) → eqb other client ≡ b → Step service
      go false t =
          let differ = apart other t in
          untouched number client file ended view (view_after view service after) [] old new commands
          (service_widens view after service within uses)
          (ap (λ c. get nat_eq c.by_number client) done.4.clients ∙ done.3.others client differ) (less differ) (λ small. refl) has
      go true t =
          let same : other ≡ client = eqb-true other client t in
          own_begins done.0 command id done.2 done.1 (subst (λ n. IsCommandTaken old n done.0 done.2) same done.3)
          (subst (λ n. IsOpened done.2 (call_begun n command) id new) same done.4) may uses
