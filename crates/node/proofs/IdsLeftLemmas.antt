-- How many ids are left, and when a node fails for want of one.
use Rattle.std.proofs.Common.{◌≡◌, ◌⊎◌, inl, inr, ◌+◌, ℕ, Bool, true, false, cond, List, [], ◌∷◌, ◌++◌, Option, None, Some}
use Rattle.std.proofs.Common.{Result, Ok, Err, refl, sym, subst, ap, ◌∙◌, arith}
use Rattle.client_commands.specs.Reading.{Found}
use Rattle.deeds.specs.CallId.{CallIds, HasRanges}
use Rattle.letter.specs.declared.letter.NamedLetter.{NamedLetter}
use Rattle.node_strings.specs.Arrival.{arrival_at}
use Rattle.node_strings.specs.Strings.{Strings}
use Rattle.node_strings.specs.declared.arrival.Arrival.{Arrival}
use Rattle.node_strings.specs.declared.arrival.Arrival.TheVariants as came
use Rattle.node_messages.specs.Reading.{message_from}
use Rattle.node_messages.specs.declared.error.Fault.{Fault}
use Rattle.node_messages.specs.declared.message.NodeMessage.{NodeMessage}
use Rattle.node_effects.specs.declared.error.NodeError.TheVariants as errors
use Rattle.node_clients.specs.Connections.{asked, waiting_on}
use Rattle.node_clients.specs.Desk.{connection_of}
use Rattle.node_clients.specs.Services.{Service}
use Rattle.node_clients.specs.declared.next.Next.{Next}
use Rattle.node_clients.specs.declared.next.Next.TheVariants.{Came}
use Rattle.node_keeper.specs.NextIds.{ids_left, next_id_of}
use Rattle.node_keeper.proofs.IdsLeftLemmas.{left_after, none_left}
use Rattle.node.specs.Failures.{FailsArrival, FailsAsked, FailsBehind, FailsFirst, FailsIf, FailsMessage, FailsRead, FailsStep}
use Rattle.node.specs.Frames.{is_admitted}
use Rattle.node.specs.GivenIds.{UseIds, UsesIdIf, UsesIds, ids_used, is_refusal, used_by}
use Rattle.node.specs.IdsLeft.{HandledFramesUseIds, HasUsedAllIds, IdsAreLeft, NodesRunOutOfIds}
use Rattle.node.specs.declared.node.Node.{Node}

-- Services

-- so many ids were used
abbrev pub UsesMany : (many : ℕ) → (before after : CallIds) → Type 0
UsesMany many before after = HasRanges after × (ids_left before ≡ many + ids_left after)

none_used : (before after : CallIds) → HasRanges before → after ≡ before → UsesMany 0 before after
none_used before after within same =
    let none : ids_left before ≡ 0 + ids_left before = omega arith in subst (UsesMany 0 before) (sym same) (within, none)

refused_used : (refused : Bool) (before after : CallIds) → HasRanges before → UsesIdIf refused before after →
    UsesMany (cond refused 1 0) before after
refused_used true before after within uses = left_after before uses.0 after within uses.1 uses.2
refused_used false before after within same = none_used before after within same

one_used : (before after : CallIds) (service : Service) → HasRanges before → UsesIds before service after →
    UsesMany (used_by service) before after
one_used before after (Service.Begins client command id) within uses = left_after before id after within uses.0 uses.1
one_used before after (Service.Replies client command answer) within uses =
    refused_used (is_refusal answer) before after within uses
one_used before after (Service.Arrives client command) within same = none_used before after within same
one_used before after (Service.Leaves client) within same = none_used before after within same
one_used before after (Service.Quits client) within same = none_used before after within same
one_used before after (Service.Ends name ended answer told) within same = none_used before after within same
one_used before after (Service.Passes name ended client rest) within same = none_used before after within same
one_used before after (Service.Ages id) within same = none_used before after within same
one_used before after (Service.GivesUp id told) within same = none_used before after within same
one_used before after (Service.Releases id told) within same = none_used before after within same

pub all_used : (before after : CallIds) (services : List Service) → HasRanges before → UseIds before services after →
    UsesMany (ids_used services) before after
all_used before after [] within same = none_used before after within same
all_used before after (service ∷ services) within uses =
    let first = one_used before uses.0 service within uses.1 in
    let rest = all_used uses.0 after services first.0 uses.2 in
    let x = first.1 in
    let y = rest.1 in (rest.0, omega arith)

-- Why no id is left

asked_none : (node : Node) (client : ℕ) (found : Found) → FailsAsked node client found errors.NoMoreIds →
    next_id_of node.keeper.ids ≡ None
asked_none node client (Err fault) fails = absurd (cc)
asked_none node client (Ok command) fails = fails.1

first_none : (node : Node) (client : ℕ) (waiting : List Next) → FailsFirst node client waiting errors.NoMoreIds →
    next_id_of node.keeper.ids ≡ None
first_none node client [] fails = absurd fails
first_none node client (next ∷ waiting) fails = asked_none node client (asked next) fails

message_fails : (admitted : Bool) (sender : ℕ) (it : NamedLetter) (node : Node) → FailsIf admitted sender it node errors.NoMoreIds → ⊥
message_fails true sender it node fails = fails
message_fails false sender it node fails = absurd (cc)

read_fails : (sender : ℕ) (r : Result NodeMessage Fault) (node : Node) → FailsRead sender r node errors.NoMoreIds → ⊥
read_fails sender (Ok message) node fails =
    message_fails (is_admitted node.keeper sender message) sender message.named node fails
read_fails sender (Err fault) node fails = absurd (cc)

arrival_none : (o : Option Arrival) (node : Node) → FailsArrival o node errors.NoMoreIds → next_id_of node.keeper.ids ≡ None
arrival_none None node fails = absurd fails
arrival_none (Some (came.Command client frame)) node (inl memory) = absurd (cc)
arrival_none (Some (came.Command client frame)) node (inr fails) =
    first_none node client (waiting_on (connection_of node.desk client) ++ Came frame ∷ []) fails.1
arrival_none (Some (came.Left client)) node fails = absurd fails
arrival_none (Some (came.Message sender frame)) node fails = absurd (read_fails sender (message_from frame) node fails)
arrival_none (Some (came.Tick heard)) node (inl memory) = absurd (cc)
arrival_none (Some (came.Tick heard)) node (inr fails) = absurd fails.fails

step_none : (node : Node) (own : List NamedLetter) (due : List ℕ) → FailsStep node own due errors.NoMoreIds →
    next_id_of node.keeper.ids ≡ None
step_none node (it ∷ own) due fails = absurd fails
step_none node [] (client ∷ due) fails = first_none node client (waiting_on (connection_of node.desk client)) fails.1
step_none node [] [] fails = absurd fails

-- The laws

pub ids_are_left : IdsAreLeft
ids_are_left ids within = none_left ids within

pub handled_use : HandledFramesUseIds
handled_use old new frame effects within handles =
    all_used old.keeper.ids new.keeper.ids (handles.served.coming ++ handles.served.more) within handles.served.ids

pub run_out : NodesRunOutOfIds
run_out node frame within (inl fails) = inl ((none_left node.keeper.ids within).0 (arrival_none (arrival_at frame) node fails))
run_out node frame within (inr fails) =
    let served = fails.served in
    let middle = fails.middle in
    let uses = all_used node.keeper.ids middle.keeper.ids (served.coming ++ served.more) within served.ids in
    let none = (none_left middle.keeper.ids uses.0).0 (step_none middle fails.work.own.items fails.work.due.items fails.fails) in
    let count = uses.1 in
    inr (record {
      now = middle;
      frames = fails.work.to_clients.items;
      seen = fails.work.notices.items;
      outputs = fails.work.outputs.items;
      served = served;
      all = omega arith;
    })
