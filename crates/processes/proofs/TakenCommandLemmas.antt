-- The first command of a client, as it is taken from its connection.
use Rattle.std.proofs.Common.{◌≡◌, ◌≢◌, ◌<◌, ◌≤◌, ◌^◌, ℕ, Bool, true, false, eqb, eqb-true, eq-eqb}
use Rattle.std.proofs.Common.{List, [], ◌∷◌, length, Option, None, Some, refl, sym, subst, ap, ◌∙◌}
use Rattle.std.specs.List.{AllByRecursion}
use Rattle.cluster_file.specs.File.{FileContents}
use Rattle.node_clients.specs.Connections.{TakesNextAt, doing, waiting_on}
use Rattle.node_clients.specs.declared.connection.Connection.{Connection}
use Rattle.node_clients.specs.declared.connection.State.TheVariants.{Busy, Idle}
use Rattle.node_clients.specs.declared.next.Next.{Next}
use Rattle.node_clients.specs.declared.open_call.OpenCall.{OpenCall}
use Rattle.processes.specs.Answers.{Passed}
use Rattle.processes.proofs.CommandViewLemmas.{IsNextOf, IsOpenFor, View, Widens}
use Rattle.processes.proofs.ConnectionLemmas.{HasCommands, Waits, as_came, none_open, times_wider}

module _ (client number : ℕ) (file : FileContents) where
  -- the first command is taken: this is next for it, and the others wait
  pub record IsTaken (view : View) (at : Option Connection) (calls : ℕ → Option OpenCall) (commands : List Passed) (first : Next)
      (waiting : List Next) : Type 0 where
    pub command : Passed
    pub rest : List Passed
    pub those : commands ≡ command ∷ rest
    pub is_next : IsNextOf view number file command first
    pub waits : waiting ≡ as_came rest
    pub none : (id : ℕ) (call : OpenCall) → calls id ≡ Some call → call.client ≡ Some client → ⊥
    pub bound : client < 2 ^ 64
    pub early : command.time ≤ length view.seen
    pub times : AllByRecursion (λ (command : Passed). command.time ≤ length view.seen) rest

  pub taken_of : (view : View) (at after : Option Connection) (calls : ℕ → Option OpenCall) (commands : List Passed) (first : Next) →
      TakesNextAt at after (Some first) → HasCommands client number file view at calls commands →
      IsTaken view at calls commands first (waiting_on after)
  taken_of view at after calls commands first takes is = go commands refl (is.idle takes.0) is.times
    where
      go : (those : List Passed) → commands ≡ those → Waits view number file those (waiting_on at) →
          AllByRecursion (λ (command : Passed). command.time ≤ length view.seen) those →
          IsTaken view at calls commands first (waiting_on after)
      go [] e waits times = absurd (let wrong : first ∷ waiting_on after ≡ [] = sym takes.1 ∙ waits in cc)
      go (command ∷ rest) e waits times =
          let both : first ∷ waiting_on after ≡ waits.0 ∷ as_came rest = sym takes.1 ∙ waits.1 in
          let same : first ≡ waits.0 = cc in record {
            command = command;
            rest = rest;
            those = e;
            is_next = subst (λ n. IsNextOf view number file command n) (sym same) waits.2;
            waits = cc;
            none = none_open client number file view at calls commands is takes.0;
            bound = is.bound command rest e;
            early = times.0;
            times = times.1;
          }

  -- from a connection that is not there, nothing is taken
  pub none_taken : (at after : Option Connection) (first : Next) → TakesNextAt at after (Some first) → at ≡ None → ⊥
  none_taken at after first takes none =
      absurd (let wrong : first ∷ waiting_on after ≡ [] = sym takes.1 ∙ ap waiting_on none in cc)

  -- the command has begun a call
  pub opened_here : (old new : View) (at after : Option Connection) (before then : ℕ → Option OpenCall) (commands : List Passed)
      (first : Next) (id : ℕ) → Widens old new → (taken : IsTaken old at before commands first (waiting_on after)) →
      doing after ≡ Busy → ((other : ℕ) → other ≢ id → then other ≡ before other) →
      ((call : OpenCall) → then id ≡ Some call → IsOpenFor client new number file taken.command id call) →
      HasCommands client number file new after then commands
  opened_here old new at after before then commands first id wide taken busy others is_for = record {
    idle = λ e. absurd (let wrong : Idle ≡ Busy = sym e ∙ busy in cc);
    opened = λ other call e mine. (let same = only other call e mine in (
      busy,
      taken.command,
      taken.rest,
      taken.those,
      taken.waits,
      subst (λ n. IsOpenFor client new number file taken.command n call) (sym same)
          (is_for call (sym (ap then same) ∙ e)),
    ));
    one = λ one other call second e mine f also. only one call e mine ∙ sym (only other second f also);
    bound = λ command rest e. taken.bound;
    times = subst (AllByRecursion (λ (command : Passed). command.time ≤ length new.seen)) (sym taken.those)
        (times_wider client number file old new wide (taken.command ∷ taken.rest) (taken.early, taken.times));
  }
    where
      only : (other : ℕ) (call : OpenCall) → then other ≡ Some call → call.client ≡ Some client → other ≡ id
      only other call e mine = go (eqb other id) refl
        where
          go : (b : Bool) → eqb other id ≡ b → other ≡ id
          go true t = eqb-true other id t
          go false t =
              let differ : other ≢ id = λ same. absurd (let wrong : false ≡ true = sym t ∙ eq-eqb other id same in cc) in
              absurd (taken.none other call (sym (others other differ) ∙ e) mine)
