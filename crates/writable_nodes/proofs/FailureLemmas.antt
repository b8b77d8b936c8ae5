-- A fit node can do all that it has to, but for plain answers.
use Rattle.std.proofs.Common.{◌≡◌, inl, inr, ◌<◌, ◌≤◌, ◌^◌, ◌++◌, ℕ, Bool, true, false, length, List, [], ◌∷◌, Option}
use Rattle.std.proofs.Common.{None, Some, Result, Ok, Err, refl, subst, arith}
use Rattle.std.specs.List.{AllByRecursion}
use Rattle.std.specs.Prelude.{IfSome}
use Rattle.client_commands.specs.Deletion.{Deletion, count_of, name_now}
use Rattle.client_commands.specs.Reading.{Found}
use Rattle.client_commands.specs.declared.command.Command.{Command}
use Rattle.client_commands.specs.declared.command.Command.TheVariants as ask
use Rattle.fitting.specs.Calls.{IsShortValue}
use Rattle.fitting.specs.Reading.{IsOfBytes}
use Rattle.fitting.proofs.ListLemmas.{all_push}
use Rattle.fitting.proofs.ReadLemmas.{read_fit}
use Rattle.frames.specs.Frame.{IsShort}
use Rattle.frames.specs.declared.limits.TheConstants.{LONGEST_STRING, MOST_STRINGS}
use Rattle.indexmap.specs.IndexMap.{index_map_len}
use Rattle.letter.specs.declared.letter.NamedLetter.{NamedLetter}
use Rattle.node.specs.BegunCalls.{wants_nothing}
use Rattle.node.specs.Failures.{CanHear, CanObey, FailsArrival, FailsAsked, FailsFirst, FailsIf, FailsMessage, FailsRead}
use Rattle.node.specs.Frames.{is_admitted}
use Rattle.node.specs.declared.node.Node.{Node}
use Rattle.node.proofs.AnswerSizeLemmas.{ended_fit}
use Rattle.node_clients.specs.Calls.{call_under, deletion_of}
use Rattle.node_clients.specs.Connections.{asked, waiting_on}
use Rattle.node_clients.specs.Desk.{connection_of}
use Rattle.node_clients.specs.declared.next.Next.{Next}
use Rattle.node_clients.specs.declared.next.Next.TheVariants as next
use Rattle.node_clients.specs.declared.open_call.OpenCall.{OpenCall}
use Rattle.node_effects.specs.declared.error.NodeError.TheVariants as errors
use Rattle.node_keeper.specs.declared.delivered.Delivered.TheVariants as delivered
use Rattle.node_messages.specs.Reading.{message_from}
use Rattle.node_messages.specs.declared.error.Fault.{Fault}
use Rattle.node_messages.specs.declared.message.NodeMessage.{NodeMessage}
use Rattle.node_strings.specs.Arrival.{arrival_at, arrival_strings}
use Rattle.node_strings.specs.Strings.{Strings}
use Rattle.node_strings.specs.declared.arrival.Arrival.{Arrival}
use Rattle.node_strings.specs.declared.arrival.Arrival.TheVariants as came
use Rattle.node_strings.proofs.ArrivalLemmas.{arrival_ok}
use Rattle.record.specs.Sending.{value_or_empty}
use Rattle.tag.specs.declared.limits.TheConstants.{LONGEST_VALUE}
use Rattle.writable.specs.Keepers.{IsFitNamed}
use Rattle.writable.proofs.DeliveryLemmas.{can_deliver_fit, delivered_fit}
use Rattle.writable.proofs.KeeperLemmas.{can_begin_fit}
use Rattle.node.specs.FitCommands.{IsFitCommand, IsFitDeletion, IsFitFound}
use Rattle.node.specs.FitDesks.{IsFitNext, IsFitOpenCall}
use Rattle.writable_nodes.specs.Laws.{FitNodesCanDoWhatComes, FitNodesCanGoOn}
use Rattle.node.specs.FitNodes.{IsFitNode}
use Rattle.node.proofs.StayingLemmas.{sender_small}
use Rattle.writable_nodes.specs.Nodes.{HasLongAnswer}
use Rattle.node.proofs.FitCommandLemmas.{read_fit as read_command}
use Rattle.node.proofs.FitDeskLemmas.{found_call, nth_short}
use Rattle.writable_nodes.proofs.TickLemmas.{ticks_do_not_fail}

-- Commands

-- a command of a fit node that cannot be obeyed has a plain answer that is too long
obeyed : (node : Node) (client : ℕ) (command : Command) → IsFitNode node → IsFitCommand command →
    (CanObey node.keeper node.peers (index_map_len node.desk.calls) node.desk.counts client command → ⊥) → HasLongAnswer node
obeyed node client (ask.Read wanted name) fit short cannot =
    absurd (cannot (λ id next. (can_begin_fit node.keeper name id fit.keeper short next).0 (wants_nothing wanted)))
obeyed node client (ask.Set name value) fit short cannot =
    absurd (cannot (λ id next. (can_begin_fit node.keeper name id fit.keeper short next).1 value))
obeyed node client (ask.Delete deletion) fit short cannot =
    absurd (cannot (λ id next. (can_begin_fit node.keeper (name_now deletion) id fit.keeper
    (nth_short deletion.names deletion.done short.names) next).1 []))
obeyed node client (ask.Move name layout) fit short cannot =
    absurd (cannot (λ id next. (can_begin_fit node.keeper name id fit.keeper short.0 next).2 layout short.1))
obeyed node client ask.Quit fit short cannot = absurd (cannot tt)
obeyed node client (ask.Info sections) fit short cannot =
    record { client = client; command = ask.Info sections; plain = tt; long = cannot }
obeyed node client ask.CountWritten fit short cannot = record { client = client; command = ask.CountWritten; plain = tt; long = cannot }
obeyed node client (ask.ShowLayout name) fit short cannot =
    record { client = client; command = ask.ShowLayout name; plain = tt; long = cannot }
obeyed node client (ask.Scan cursor options) fit short cannot =
    record { client = client; command = ask.Scan cursor options; plain = tt; long = cannot }
obeyed node client (ask.Ping text) fit short cannot = record { client = client; command = ask.Ping text; plain = tt; long = cannot }
obeyed node client (ask.Echo text) fit short cannot = record { client = client; command = ask.Echo text; plain = tt; long = cannot }
obeyed node client ask.ListCommands fit short cannot = record { client = client; command = ask.ListCommands; plain = tt; long = cannot }
obeyed node client ask.CountCommands fit short cannot = record { client = client; command = ask.CountCommands; plain = tt; long = cannot }
obeyed node client ask.ClientId fit short cannot = record { client = client; command = ask.ClientId; plain = tt; long = cannot }
obeyed node client ask.DescribeClient fit short cannot = record { client = client; command = ask.DescribeClient; plain = tt; long = cannot }
obeyed node client ask.ClientName fit short cannot = record { client = client; command = ask.ClientName; plain = tt; long = cannot }
obeyed node client ask.Hello fit short cannot = record { client = client; command = ask.Hello; plain = tt; long = cannot }
obeyed node client ask.Select fit short cannot = record { client = client; command = ask.Select; plain = tt; long = cannot }
obeyed node client ask.Login fit short cannot = record { client = client; command = ask.Login; plain = tt; long = cannot }

asked_fit : (node : Node) (client : ℕ) (found : Found) → IsFitNode node → IsFitFound found →
    FailsAsked node client found errors.Unwritable → HasLongAnswer node
asked_fit node client (Ok command) fit short fails = obeyed node client command fit short fails
asked_fit node client (Err fault) fit short fails = absurd (cc)

first_fit : (node : Node) (client : ℕ) (waiting : List Next) → IsFitNode node → AllByRecursion IsFitNext waiting →
    FailsFirst node client waiting errors.Unwritable → HasLongAnswer node
first_fit node client [] fit all fails = absurd fails
first_fit node client (first ∷ waiting) fit all fails = asked_fit node client (asked first) fit all.0 fails

-- Letters

ended_short : (o : Option (List ℕ)) → IfSome o IsShortValue → IsShort (value_or_empty o)
ended_short None short = omega arith
ended_short (Some value) short =
    let longest : LONGEST_STRING ≡ 16842752 = refl in
    let most : LONGEST_VALUE ≡ 16777216 = refl in
    omega (arith, longest, most, short)

deletion_small : (o : Option OpenCall) → IfSome o IsFitOpenCall → IfSome (deletion_of o) (λ (d : Deletion). count_of d < 2 ^ 64)
deletion_small None fit = tt
deletion_small (Some call) fit = go call.deletion fit.deletion
  where
    go : (o : Option Deletion) → IfSome o IsFitDeletion → IfSome o (λ (d : Deletion). count_of d < 2 ^ 64)
    go None fit = tt
    go (Some deletion) fit = fit.count

can_hear : (node : Node) (sender : ℕ) (it : NamedLetter) → IsFitNode node → sender < 2 ^ 8 → IsFitNamed it → CanHear sender it node
can_hear node sender it fit small is = (
  can_deliver_fit node.keeper sender it fit.keeper small is,
  λ before after new ended delivers.
      let told = (delivered_fit node.keeper new sender it before after (delivered.Ended ended) fit.keeper small is delivers).1 in
      ended_fit (call_under node.desk.calls ended.id) ended (ended_short ended.value told)
      (deletion_small (call_under node.desk.calls ended.id) (found_call node.desk ended.id fit.desk.calls)),
)

message_fit : (node : Node) (sender : ℕ) (message : NodeMessage) → IsFitNode node → IsFitNamed message.named →
    FailsMessage sender message node errors.Unwritable → ⊥
message_fit node sender message fit is fails = go (is_admitted node.keeper sender message) refl fails
  where
    go : (b : Bool) → is_admitted node.keeper sender message ≡ b → FailsIf b sender message.named node errors.Unwritable → ⊥
    go true t fails = fails (can_hear node sender message.named fit (sender_small node.keeper sender message fit.keeper t) is)
    go false t fails = absurd (cc)

read_message : (node : Node) (sender : ℕ) (frame : Strings) → IsFitNode node → AllByRecursion IsShort frame →
    AllByRecursion IsOfBytes frame → FailsRead sender (message_from frame) node errors.Unwritable → ⊥
read_message node sender frame fit short bytes fails = go (message_from frame) refl fails
  where
    go : (r : Result NodeMessage Fault) → message_from frame ≡ r → FailsRead sender r node errors.Unwritable → ⊥
    go (Ok message) e fails =
        let is = read_fit frame message e short bytes in
        message_fit node sender message fit (record { name = is.0; letter = is.1 }) fails
    go (Err fault) e fails = absurd (cc)

-- Frames

pub arrival_fit : FitNodesCanDoWhatComes
arrival_fit node frame fit is fails = go (arrival_at frame) refl fails
  where
    go : (o : Option Arrival) → arrival_at frame ≡ o → FailsArrival o node errors.Unwritable → HasLongAnswer node
    go None e fails = absurd fails
    go (Some (came.Command client command)) e (inl fails) = absurd (cc)
    go (Some (came.Command client command)) e (inr fails) =
        let strings : frame ≡ arrival_strings (came.Command client command) = arrival_ok frame (came.Command client command) e in
        let few : length (arrival_strings (came.Command client command)) ≤ MOST_STRINGS =
        subst (λ (ss : Strings). length ss ≤ MOST_STRINGS) strings is.frame.few in
        first_fit node client (waiting_on (connection_of node.desk client) ++ next.Came command ∷ []) fit
        (all_push IsFitNext (waiting_on (connection_of node.desk client)) (next.Came command) (fit.desk.waiting client)
        (read_command command (omega (arith, few)))) fails.1
    go (Some (came.Left client)) e fails = absurd fails
    go (Some (came.Message sender message)) e fails =
        let strings : frame ≡ arrival_strings (came.Message sender message) = arrival_ok frame (came.Message sender message) e in
        absurd (read_message node sender message fit
        (subst (λ (ss : Strings). AllByRecursion IsShort ss) strings is.frame.short).1
        (subst (λ (ss : Strings). AllByRecursion IsOfBytes ss) strings is.bytes).1 fails)
    go (Some (came.Tick heard)) e (inl fails) = absurd (cc)
    go (Some (came.Tick heard)) e (inr fails) = absurd (ticks_do_not_fail heard node fit fails)

pub step_fit : FitNodesCanGoOn
step_fit node (it ∷ own) due fit all fails = absurd (fails (can_hear node node.keeper.ids.node it fit fit.keeper.node all.0))
step_fit node [] (client ∷ due) fit all fails =
    first_fit node client (waiting_on (connection_of node.desk client)) fit (fit.desk.waiting client) fails.1
step_fit node [] [] fit all fails = absurd fails
