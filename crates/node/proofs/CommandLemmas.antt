-- Commands that are taken and carried out, as what a node does for its clients.
use Rattle.std.proofs.Common.{◌≡◌, ℕ, true, false, List, [], ◌∷◌, Option, None, Some, Ok, is_some}
use Rattle.std.proofs.Common.{Result, Err, IsSome, OnOk, refl, sym, subst, ap, ◌∙◌}
use Rattle.node_clients.specs.Connections.{TakesNextAt, asked, doing, gives_next_of, has_next, waiting_on}
use Rattle.node_clients.specs.declared.connection.Connection.{Connection}
use Rattle.node_clients.specs.declared.connection.State.{State}
use Rattle.node_clients.specs.declared.connection.State.TheVariants.{Busy, Idle, Quit}
use Rattle.client_commands.specs.declared.answer.Answer.{Answer}
use Rattle.client_commands.specs.declared.command.Command.{Command}
use Rattle.client_commands.specs.declared.command.Command.TheVariants as ask
use Rattle.node_clients.specs.declared.next.Next.{Next}
use Rattle.node_effects.specs.Work.{IsGrown}
use Rattle.node_effects.specs.declared.error.NodeError.{NodeError}
use Rattle.node_effects.specs.declared.work.Work.{Work}
use Rattle.node_clients.specs.Answers.{answer_growth, answer_sent, quit_growth}
use Rattle.node_clients.specs.Desk.{IsIdleAgain, connection_of, is_connected, with_told}
use Rattle.node_clients.specs.Served.{HasQuit, IsClientAnswered, IsOpened, IsServiceDone, IsCommandTaken, KeepsOthers, call_begun}
use Rattle.node_clients.specs.Services.{Service}
use Rattle.node_clients.specs.declared.desk.Desk.{Desk}
use Rattle.node_clients.proofs.ServedLemmas.{busy_is_there}
use Rattle.node_clients.proofs.WaitLemmas.{IsOfCommand}
use Rattle.node_keeper.specs.declared.keeper.Keeper.{Keeper}
use Rattle.indexmap.specs.IndexMap.{index_map_len}
use Rattle.node_clients.specs.declared.counts.Counts.{Counts}
use Rattle.node.specs.AtOnce.{IsCarriedOut, IsReplyHere}
use Rattle.node.specs.BegunCalls.{HasPutOut}
use Rattle.node.specs.GivenIds.{UsesIdIf, UsesIds, is_refusal}
use Rattle.node.specs.Replies.{IsReplyTo, IsRight}
use Rattle.node.specs.Serving.{FollowsUp, IsCommandDone, ServesClients, ServesCommand, ServesNext}
use Rattle.node.specs.declared.node.Node.{Node}
use Rattle.node.specs.declared.peers.Peers.{Peers}
use Rattle.node.proofs.FitDeskLemmas.{taken_fit}
use Rattle.node.proofs.ServingLemmas.{serves_one}
use Rattle.node.proofs.StayingLemmas.{same_left, unchanged}
use Rattle.writable.specs.Keepers.{IsFitKeeper}

-- a connection that has a next command gives it
pub no_next : (old new : Option Connection) → has_next old ≡ true → TakesNextAt old new None → ⊥
no_next None new has taken = absurd (cc)
no_next (Some connection) new has taken = go connection.state connection.waiting.items has taken.0
  where
    go : (state : State) (waiting : List Next) → gives_next_of state waiting ≡ true → (state ≡ Idle → waiting ≡ []) → ⊥
    go Idle [] has none = absurd (cc)
    go Idle (command ∷ waiting) has none = let e : command ∷ waiting ≡ [] = none refl in absurd (cc)
    go Busy waiting has none = absurd (cc)
    go Quit waiting has none = absurd (cc)

-- a command is taken, and then carried out
pub command_served : (ticks : ℕ) (delta : Option ℕ) (a b c : Desk) (client : ℕ) (next : Next) (service : Service) →
    IsCommandTaken a client next b → IsCommandDone b client next service c → IsServiceDone ticks delta a service c
command_served ticks delta a b c client next (Service.Begins other command id) taken done = (
  next,
  done.1,
  b,
  subst (λ n. IsCommandTaken a n next b) (sym done.0) taken,
  subst (λ n. IsOpened b (call_begun n command) id c) (sym done.0) done.2,
)
command_served ticks delta a b c client next (Service.Replies other command answer) taken done = (
  b,
  subst (λ n. IsCommandTaken a n command b) (sym done.0) (subst (λ f. IsCommandTaken a client f b) (sym done.1) taken),
  subst (λ n. IsClientAnswered b n c) (sym done.0) done.2,
)
command_served ticks delta a b c client next (Service.Quits other) taken done = (
  next,
  done.1,
  b,
  subst (λ n. IsCommandTaken a n next b) (sym done.0) taken,
  subst (λ n. HasQuit b n c) (sym done.0) done.2,
)
command_served ticks delta a b c client next (Service.Arrives other command) taken done = absurd done
command_served ticks delta a b c client next (Service.Leaves other) taken done = absurd done
command_served ticks delta a b c client next (Service.Ends name ended answer told) taken done = absurd done
command_served ticks delta a b c client next (Service.Passes name ended other rest) taken done = absurd done
command_served ticks delta a b c client next (Service.Ages id) taken done = absurd done
command_served ticks delta a b c client next (Service.GivesUp id told) taken done = absurd done
command_served ticks delta a b c client next (Service.Releases id told) taken done = absurd done

-- what is done with a command of a client is of this client, and follows up
pub command_is : (old new : Desk) (client : ℕ) (next : Next) (service : Service) →
    IsCommandDone old client next service new → IsOfCommand client service × FollowsUp service
command_is old new client next (Service.Begins other command id) done = (done.0, tt)
command_is old new client next (Service.Replies other command answer) done = (done.0, tt)
command_is old new client next (Service.Quits other) done = (done.0, tt)
command_is old new client next (Service.Arrives other command) done = absurd done
command_is old new client next (Service.Leaves other) done = absurd done
command_is old new client next (Service.Ends name ended answer told) done = absurd done
command_is old new client next (Service.Passes name ended other rest) done = absurd done
command_is old new client next (Service.Ages id) done = absurd done
command_is old new client next (Service.GivesUp id told) done = absurd done
command_is old new client next (Service.Releases id told) done = absurd done

-- an idle connection on which a command waits gives a next command
no_first : (connection : Option Connection) (next : Next) (waiting : List Next) → has_next connection ≡ false →
    doing connection ≡ Idle → waiting_on connection ≡ next ∷ waiting → ⊥
no_first None next waiting none idle waits = absurd (cc)
no_first (Some connection) next waiting none idle waits =
    go connection.state connection.waiting.items none idle waits
  where
    go : (state : State) (commands : List Next) → gives_next_of state commands ≡ false → state ≡ Idle → commands ≡ next ∷ waiting → ⊥
    go Idle [] none idle waits = absurd (cc)
    go Idle (command ∷ commands) none idle waits = absurd (cc)
    go Busy commands none idle waits = absurd (cc)
    go Quit commands none idle waits = absurd (cc)

-- a connection gives no next command
pub nothing_next : (client : ℕ) (node : Node) (work : Work) → has_next (connection_of node.desk client) ≡ false →
    ServesClients node work [] node work → ServesNext client node work node work
nothing_next client node work none serves = record {
  more = record { services = []; serves = serves; follows = tt; put_out = tt };
  first = λ next waiting idle waits. no_first (connection_of node.desk client) next waiting none idle waits;
  fit = λ desk keeper. unchanged node.keeper work keeper;
}

carried_as : (a b : Keeper) (r s : Peers) (m n : ℕ) (p q : Counts) (client : ℕ) (next also : Next) (service : Service) → b ≡ a →
    s ≡ r → n ≡ m → q ≡ p → also ≡ next → IsCarriedOut b s n q client next service → IsCarriedOut a r m p client also service
carried_as a b r s m n p q client next also service keeper peers calls counts same is =
    subst (λ (f : Next). IsCarriedOut a r m p client f service) (sym same)
    (subst (λ (k : Keeper). IsCarriedOut k r m p client next service) keeper
    (subst (λ (x : Peers). IsCarriedOut b x m p client next service) peers
    (subst (λ (i : ℕ). IsCarriedOut b s i p client next service) calls
    (subst (λ (c : Counts). IsCarriedOut b s n c client next service) counts is))))

-- the next command of a client is taken, and carried out
pub taken_served : (a b c : Node) (u v : Work) (client : ℕ) (next : Next) → b.keeper ≡ a.keeper →
    b.peers ≡ a.peers → IsCommandTaken a.desk client next b.desk → ServesCommand client next b u c v → ServesNext client a u c v
taken_served a b c u v client next same peers taken s =
    let many : index_map_len b.desk.calls ≡ index_map_len a.desk.calls = rw taken.calls in record {
      more = record {
        services = s.service ∷ [];
        serves = serves_one a c u v s.service
            (command_served a.keeper.file.ticks a.keeper.file.fixed.delta a.desk b.desk c.desk client next s.service taken s.done)
            s.told s.due s.notices
            (subst (λ (k : Keeper). IsRight k.ids.node k.file s.service) same s.right)
            (s.file ∙ ap (λ (k : Keeper). k.file) same)
            (subst (λ (k : Keeper). UsesIds k.ids s.service c.keeper.ids) same s.ids);
        follows = ((command_is b.desk c.desk client next s.service s.done).1, tt);
        put_out = (subst (λ (k : Keeper). HasPutOut k v.outputs.items s.service) same s.put_out, tt);
      };
      first = λ command waiting idle waits.
          let both : command ∷ waiting ≡ next ∷ waiting_on (connection_of b.desk client) = sym waits ∙ taken.taken.1 in
          carried_as a.keeper b.keeper a.peers b.peers (index_map_len a.desk.calls) (index_map_len b.desk.calls) a.desk.counts b.desk.counts
          client next command s.service same peers many taken.counts (cc) s.carried;
      fit = λ desk keeper. s.fit (taken_fit a.desk client next b.desk desk taken).1 (subst IsFitKeeper (sym same) keeper);
    }

-- a busy connection is there: its client is sent the answer
pub answer_is_sent : (desk : Desk) (client : ℕ) (answer : Answer) (u v : Work) → doing (connection_of desk client) ≡ Busy →
    IsGrown u v (answer_growth (is_connected desk client) client answer) → IsGrown u v (answer_sent client answer)
answer_is_sent desk client answer u v busy grown =
    subst (λ b. IsGrown u v (answer_growth b client answer)) (busy_is_there (connection_of desk client) busy) grown

pub answered_now : (old new : Desk) (client : ℕ) → doing (connection_of old client) ≡ Busy →
    IsIdleAgain old.clients client new.clients → new.calls ≡ old.calls →
    new.counts ≡ with_told (is_connected old client) old.counts → IsClientAnswered old client new
answered_now old new client busy idle calls counts = record {
  idle = idle;
  calls = calls;
  counts = counts ∙ ap (λ b. with_told b old.counts) (busy_is_there (connection_of old client) busy);
}

-- a command is answered at once
pub replied : (client : ℕ) (next : Next) (answer : Answer) (old new : Node) (u v : Work) →
    IsClientAnswered old.desk client new.desk → IsGrown u v (answer_sent client answer) →
    IsReplyTo old.keeper.ids.node old.keeper.file client (asked next) answer →
    IsReplyHere old.keeper old.peers (index_map_len old.desk.calls) old.desk.counts (asked next) answer →
    new.keeper ≡ old.keeper → UsesIdIf (is_refusal answer) old.keeper.ids new.keeper.ids →
    ServesCommand client next old u new v
replied client next answer old new u v answered grown reply here same ids = record {
  service = Service.Replies client next answer;
  done = (refl, refl, answered);
  right = reply;
  carried = (refl, refl, here);
  told = grown.to_clients;
  due = grown.due;
  notices = grown.notices;
  put_out = tt;
  file = ap (λ (k : Keeper). k.file) same;
  ids = ids;
  fit = λ asks keeper. same_left old.keeper new.keeper u v (answer_sent client answer) same grown refl keeper;
}

pub is_there : (connection : Option Connection) → doing connection ≡ Busy → IsSome connection
is_there None e = absurd (cc)
is_there (Some connection) e = refl

-- a client quits, whose connection is busy
pub quits : (client : ℕ) (command : Command) (old new : Node) (u v : Work) (result : Result (Unit {0}) NodeError) →
    command ≡ ask.Quit → doing (connection_of old.desk client) ≡ Busy → OnOk result (IsGrown u v (quit_growth client)) →
    OnOk result (IsSome (connection_of old.desk client) → doing (connection_of new.desk client) ≡ Quit) →
    OnOk result (waiting_on (connection_of new.desk client) ≡ waiting_on (connection_of old.desk client)) →
    OnOk result (is_some (connection_of new.desk client) ≡ is_some (connection_of old.desk client)) →
    OnOk result (KeepsOthers old.desk client new.desk) → new.desk.calls ≡ old.desk.calls →
    new.desk.counts ≡ old.desk.counts → new.keeper ≡ old.keeper →
    OnOk result ((next : Next) → asked next ≡ Ok command → ServesCommand client next old u new v)
quits client command old new u v (Ok done) is busy grown state waiting stays others calls counts same = λ next asks. record {
  service = Service.Quits client;
  done = (
    refl,
    asks ∙ ap Ok is,
    record {
      stays = stays;
      state = state (is_there (connection_of old.desk client) busy);
      waiting = waiting;
      others = others;
      calls = calls;
      counts = counts;
    },
  );
  right = tt;
  carried = (refl, asks ∙ ap Ok is);
  told = grown.to_clients;
  due = grown.due;
  notices = grown.notices;
  put_out = tt;
  file = ap (λ (k : Keeper). k.file) same;
  ids = ap (λ (k : Keeper). k.ids) same;
  fit = λ short keeper. same_left old.keeper new.keeper u v (quit_growth client) same grown refl keeper;
}
quits client command old new u v (Err error) is busy grown state waiting stays others calls counts same = tt
