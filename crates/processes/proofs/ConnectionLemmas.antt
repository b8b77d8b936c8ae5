-- Which commands a client's connection still has to carry out, and which open call is for the first of them.
use Rattle.std.proofs.Common.{◌≡◌, ◌≢◌, ◌<◌, ◌≤◌, ◌^◌, ℕ, Bool, true, false, eqb, eqb-true, eq-eqb}
use Rattle.std.proofs.Common.{List, [], ◌∷◌, ◌++◌, length, map, Option, None, Some, refl, sym, subst, ap, ◌∙◌, arith}
use Rattle.std.specs.List.{AllByRecursion}
use Rattle.cluster_file.specs.File.{FileContents}
use Rattle.node_clients.specs.Connections.{doing, waiting_on}
use Rattle.node_clients.specs.declared.connection.Connection.{Connection}
use Rattle.node_clients.specs.declared.connection.State.TheVariants.{Busy, Idle}
use Rattle.node_clients.specs.declared.next.Next.{Next}
use Rattle.node_clients.specs.declared.next.Next.TheVariants as next
use Rattle.node_clients.specs.declared.open_call.OpenCall.{OpenCall}
use Rattle.open_calls.proofs.ListLemmas.{all_append, all_weaker}
use Rattle.processes.specs.Answers.{Passed}
use Rattle.processes.proofs.CommandViewLemmas.{IsNextOf, IsOpenFor, View, Widens, next_wider, open_wider}

-- the frames of commands, as they wait on a connection
abbrev pub as_came : List Passed → List Next
as_came commands = map (λ (command : Passed). next.Came command.strings) commands

-- what waits on an idle connection that has to carry out these commands
abbrev pub Waits : View → (number : ℕ) → FileContents → List Passed → List Next → Type 0
Waits view number file [] waiting = waiting ≡ []
Waits view number file (command ∷ rest) waiting =
    (first : Next) × (waiting ≡ first ∷ as_came rest) × IsNextOf view number file command first

module _ (client : ℕ) where
  -- each open call for the client was open before, and is the same but for its age
  abbrev pub HasNoMore : (old new : ℕ → Option OpenCall) → Type 0
  HasNoMore old new = (id : ℕ) (call : OpenCall) → new id ≡ Some call → call.client ≡ Some client →
      (before : OpenCall) × (old id ≡ Some before) × (record before { age = 0 } ≡ record call { age = 0 })

  pub same_client : (before call : OpenCall) → record before { age = 0 } ≡ record call { age = 0 } → call.client ≡ Some client →
      before.client ≡ Some client
  same_client before call same mine = ap (λ (c : OpenCall). c.client) same ∙ mine

  pub no_more_same : (calls : ℕ → Option OpenCall) → HasNoMore calls calls
  no_more_same calls id call e mine = (call, e, refl)

module _ (client number : ℕ) (file : FileContents) where
  -- the connection is busy with the first of these commands, for which this call is open
  abbrev pub IsOpenHere : View → Option Connection → List Passed → (id : ℕ) → OpenCall → Type 0
  IsOpenHere view at commands id call =
      (doing at ≡ Busy) × (command : Passed) × (rest : List Passed) × (commands ≡ command ∷ rest)
      × (waiting_on at ≡ as_came rest) × IsOpenFor client view number file command id call

  -- The connection still has to carry out these commands. If it is idle, they wait. If a call is open for its client,
  -- this is the only one, and it is for the first command.
  pub record HasCommands (view : View) (at : Option Connection) (calls : ℕ → Option OpenCall) (commands : List Passed) : Type 0 where
    pub idle : doing at ≡ Idle → Waits view number file commands (waiting_on at)
    pub opened : (id : ℕ) (call : OpenCall) → calls id ≡ Some call → call.client ≡ Some client → IsOpenHere view at commands id call
    pub one : (id other : ℕ) (call second : OpenCall) → calls id ≡ Some call → call.client ≡ Some client →
        calls other ≡ Some second → second.client ≡ Some client → id ≡ other
    pub bound : (command : Passed) (rest : List Passed) → commands ≡ command ∷ rest → client < 2 ^ 64
    pub times : AllByRecursion (λ (command : Passed). command.time ≤ length view.seen) commands

  -- the same, unless the connection has ended, so that it is not there
  abbrev pub HasCommandsIf : (ended : Bool) → View → Option Connection → (ℕ → Option OpenCall) → List Passed → Type 0
  HasCommandsIf false view at calls commands = HasCommands view at calls commands
  HasCommandsIf true view at calls commands = at ≡ None

  -- What stays

  pub waits_wider : (old new : View) → Widens old new → (commands : List Passed) (waiting : List Next) →
      Waits old number file commands waiting → Waits new number file commands waiting
  waits_wider old new wide [] waiting none = none
  waits_wider old new wide (command ∷ rest) waiting is =
      (is.0, is.1, next_wider old new wide number file command is.0 is.2)

  pub times_wider : (old new : View) → Widens old new → (commands : List Passed) →
      AllByRecursion (λ (command : Passed). command.time ≤ length old.seen) commands →
      AllByRecursion (λ (command : Passed). command.time ≤ length new.seen) commands
  times_wider old new wide commands times =
      all_weaker (λ (command : Passed). command.time ≤ length old.seen) (λ (command : Passed). command.time ≤ length new.seen)
      (λ command early. let l = wide.longer in omega arith) commands times

  pub commands_kept : (old new : View) (at : Option Connection) (before after : ℕ → Option OpenCall) (commands : List Passed) →
      Widens old new → HasNoMore client before after → HasCommands old at before commands → HasCommands new at after commands
  commands_kept old new at before after commands wide less is = record {
    idle = λ e. waits_wider old new wide commands (waiting_on at) (is.idle e);
    opened = λ id call e mine. opened id call mine (less id call e mine);
    one = λ id other call second e mine f also.
        (let a = less id call e mine in
        let b = less other second f also in
        is.one id other a.0 b.0 a.1 (same_client client a.0 call a.2 mine) b.1 (same_client client b.0 second b.2 also));
    bound = is.bound;
    times = times_wider old new wide commands is.times;
  }
    where
      opened : (id : ℕ) (call : OpenCall) → call.client ≡ Some client →
          ((earlier : OpenCall) × (before id ≡ Some earlier) × (record earlier { age = 0 } ≡ record call { age = 0 })) →
          IsOpenHere new at commands id call
      opened id call mine was =
          let here = is.opened id was.0 was.1 (same_client client was.0 call was.2 mine) in
          let is_for = open_wider old new wide client number file here.1 id was.0 here.5 in (
            here.0,
            here.1,
            here.2,
            here.3,
            here.4,
            record {
              first = is_for.first;
              is_next = is_for.is_next;
              asks = is_for.asks;
              asked_is = is_for.asked_is;
              may = is_for.may;
              call_is = is_for.call_is ∙ ap Some was.2;
              notice = is_for.notice;
              begins = is_for.begins;
              own = is_for.own;
            },
          )

  pub kept_if : (ended : Bool) (old new : View) (at : Option Connection) (before after : ℕ → Option OpenCall) (commands : List Passed) →
      Widens old new → HasNoMore client before after → HasCommandsIf ended old at before commands →
      HasCommandsIf ended new at after commands
  kept_if true old new at before after commands wide less gone = gone
  kept_if false old new at before after commands wide less is = commands_kept old new at before after commands wide less is

  -- A call that ends

  -- the commands behind the first one wait
  pub rest_waits : (view : View) (rest : List Passed) (waiting : List Next) → waiting ≡ as_came rest → Waits view number file rest waiting
  rest_waits view [] waiting e = e
  rest_waits view (command ∷ rest) waiting e = (next.Came command.strings, e, refl)

  -- no call is open for the client of an idle connection
  pub none_open : (view : View) (at : Option Connection) (calls : ℕ → Option OpenCall) (commands : List Passed) →
      HasCommands view at calls commands → doing at ≡ Idle → (id : ℕ) (call : OpenCall) → calls id ≡ Some call →
      call.client ≡ Some client → ⊥
  none_open view at calls commands is idle id call e mine =
      absurd (let busy = (is.opened id call e mine).0 in let wrong : Idle ≡ Busy = sym idle ∙ busy in cc)

  -- where no call is open for the client, the connection has these commands, if they wait when it is idle
  pub none_left : (view : View) (at : Option Connection) (calls : ℕ → Option OpenCall) (commands : List Passed) →
      (doing at ≡ Idle → Waits view number file commands (waiting_on at)) →
      ((id : ℕ) (call : OpenCall) → calls id ≡ Some call → call.client ≡ Some client → ⊥) →
      ((command : Passed) (rest : List Passed) → commands ≡ command ∷ rest → client < 2 ^ 64) →
      AllByRecursion (λ (command : Passed). command.time ≤ length view.seen) commands → HasCommands view at calls commands
  none_left view at calls commands waits none bound times = record {
    idle = waits;
    opened = λ id call e mine. absurd (none id call e mine);
    one = λ id other call second e mine f also. absurd (none id call e mine);
    bound = bound;
    times = times;
  }

  -- the call of this id no longer waits for the client, and each other call is as it was
  pub closed_none : (view : View) (at : Option Connection) (before after : ℕ → Option OpenCall) (commands : List Passed) (id : ℕ)
      (call : OpenCall) → HasCommands view at before commands → before id ≡ Some call → call.client ≡ Some client →
      ((later : OpenCall) → after id ≡ Some later → later.client ≡ Some client → ⊥) →
      ((other : ℕ) → other ≢ id → after other ≡ before other) →
      (other : ℕ) (second : OpenCall) → after other ≡ Some second → second.client ≡ Some client → ⊥
  closed_none view at before after commands id call is e mine gone others other second f also = go (eqb other id) refl
    where
      go : (b : Bool) → eqb other id ≡ b → ⊥
      go true t = gone second (sym (ap after (eqb-true other id t)) ∙ f) also
      go false t =
          let differ : other ≢ id = λ same. absurd (let wrong : false ≡ true = sym t ∙ eq-eqb other id same in cc) in
          differ (is.one other id second call (sym (others other differ) ∙ f) also e mine)

  -- A command that comes

  came_append : (first second : List Passed) → as_came (first ++ second) ≡ as_came first ++ as_came second
  came_append [] second = refl
  came_append (command ∷ first) second = ap (λ ns. next.Came command.strings ∷ ns) (came_append first second)

  waits_more : (view : View) (commands : List Passed) (command : Passed) (waiting : List Next) → Waits view number file commands waiting →
      Waits view number file (commands ++ command ∷ []) (waiting ++ next.Came command.strings ∷ [])
  waits_more view [] command waiting none = (next.Came command.strings, ap (λ ns. ns ++ next.Came command.strings ∷ []) none, refl)
  waits_more view (first ∷ rest) command waiting is = (
    is.0,
    ap (λ ns. ns ++ next.Came command.strings ∷ []) is.1
        ∙ ap (λ ns. is.0 ∷ ns) (sym (came_append rest (command ∷ []))),
    is.2,
  )

  pub commands_more : (view : View) (at after : Option Connection) (before then : ℕ → Option OpenCall) (commands : List Passed)
      (command : Passed) → doing after ≡ doing at → waiting_on after ≡ waiting_on at ++ next.Came command.strings ∷ [] →
      HasNoMore client before then → client < 2 ^ 64 → command.time ≤ length view.seen → HasCommands view at before commands →
      HasCommands view after then (commands ++ command ∷ [])
  commands_more view at after before then commands command state waits less small early is = record {
    idle = λ e. subst (Waits view number file (commands ++ command ∷ [])) (sym waits)
        (waits_more view commands command (waiting_on at) (is.idle (sym state ∙ e)));
    opened = λ id call e mine. (let here = kept.opened id call e mine in (
      state ∙ here.0,
      here.1,
      here.2 ++ command ∷ [],
      ap (λ cs. cs ++ command ∷ []) here.3,
      waits ∙ ap (λ ns. ns ++ next.Came command.strings ∷ []) here.4 ∙ sym (came_append here.2 (command ∷ [])),
      here.5,
    ));
    one = kept.one;
    bound = λ first rest e. small;
    times = all_append (λ (command : Passed). command.time ≤ length view.seen) commands (command ∷ []) is.times (early, tt);
  }
    where
      kept : HasCommands view at then commands
      kept = commands_kept view view at before then commands
          (record {
            longer = omega arith;
            at = λ place notice e. e;
            fresh = λ place id notice e begins given. e;
            among = λ notice is. is;
            given = λ id is. is;
          }) less is
