-- What a node keeps stays fit as it tells clients something, and as calls of commands with short names begin.
use Rattle.std.proofs.Common.{◌≡◌, ◌||◌, ◌++◌, ◌<◌, ◌^◌, ℕ, Bool, true, false, eqb, eqb-true, List, [], ◌∷◌, Some, refl, sym}
use Rattle.std.proofs.Common.{subst}
use Rattle.std.specs.List.{AllByRecursion}
use Rattle.std.specs.Str.{bytes_eq}
use Rattle.std.proofs.lemmas.Bool.{and_parts}
use Rattle.client_commands.specs.declared.command.Command.{Command}
use Rattle.client_commands.specs.declared.command.Command.TheVariants as ask
use Rattle.client_commands.specs.Deletion.{name_now}
use Rattle.layout.specs.Quorum.{has}
use Rattle.node.proofs.FitDeskLemmas.{nth_short}
use Rattle.node.specs.BegunCalls.{call_of, wants_nothing}
use Rattle.node.specs.FitCommands.{IsFitCommand}
use Rattle.node.specs.Frames.{is_admitted, is_from_cluster}
use Rattle.node_clients.specs.Answers.{TellsClients}
use Rattle.node_effects.specs.Work.{Growth, IsGrown, no_growth}
use Rattle.node_effects.specs.declared.work.Work.{Work}
use Rattle.node_keeper.specs.Beginning.{BeginsCall, Beginning, moving_call, reading_call, writing_call}
use Rattle.node_keeper.specs.declared.delivered.Begun.{Begun}
use Rattle.node_keeper.specs.declared.keeper.Keeper.{Keeper}
use Rattle.node_messages.specs.Limits.{has_low_tags}
use Rattle.node_messages.specs.declared.message.NodeMessage.{NodeMessage}
use Rattle.writable.specs.Keepers.{AreBytes, IsFitKeeper, IsLeftFit}
use Rattle.writable.proofs.KeeperLemmas.{begun_fit, same_own}

-- nothing changes
pub unchanged : (keeper : Keeper) (work : Work) → IsFitKeeper keeper → IsLeftFit work keeper work
unchanged keeper work fit = record { keeper = fit; own = λ own. own }

-- the node's work grows, but by no letter to itself
pub grown_left : (keeper : Keeper) (before after : Work) (growth : Growth) → IsGrown before after growth → growth.own ≡ [] →
    IsFitKeeper keeper → IsLeftFit before keeper after
grown_left keeper before after growth grown none fit = record { keeper = fit; own = same_own before after growth grown none }

-- the same of an equal keeper
pub same_left : (old new : Keeper) (before after : Work) (growth : Growth) → new ≡ old → IsGrown before after growth →
    growth.own ≡ [] → IsFitKeeper old → IsLeftFit before new after
same_left old new before after growth same grown none fit =
    grown_left new before after growth grown none (subst IsFitKeeper (sym same) fit)

pub told_left : (keeper : Keeper) (before after : Work) → TellsClients before after → IsFitKeeper keeper → IsLeftFit before keeper after
told_left keeper before after tells fit =
    grown_left keeper before after (record no_growth { to_clients = tells.frames; due = tells.due }) tells.grown refl fit

-- one thing after another
pub left_then : (middle new : Keeper) (before between after : Work) → IsLeftFit before middle between →
    (IsFitKeeper middle → IsLeftFit between new after) → IsLeftFit before new after
left_then middle new before between after first second =
    let then = second first.keeper in
    record { keeper = then.keeper; own = λ own. then.own (first.own own) }

-- the call of a command begins, or its object refuses it
pub command_left : (command : Command) (call : Beginning) (old new : Keeper) (before after : Work) (begun : Begun) →
    call_of command ≡ Some call → IsFitCommand command → IsFitKeeper old → BeginsCall call old before new after begun →
    IsLeftFit before new after
command_left (ask.Read wanted name) call old new before after begun of short fit is =
    let same : call ≡ reading_call name (wants_nothing wanted) = cc in
    (begun_fit old new before after begun name fit short).0 (wants_nothing wanted)
    (subst (λ (c : Beginning). BeginsCall c old before new after begun) same is)
command_left (ask.Set name value) call old new before after begun of short fit is =
    let same : call ≡ writing_call name value = cc in
    (begun_fit old new before after begun name fit short).1 value
    (subst (λ (c : Beginning). BeginsCall c old before new after begun) same is)
command_left (ask.Delete deletion) call old new before after begun of short fit is =
    let name = name_now deletion in
    let same : call ≡ writing_call name [] = cc in
    (begun_fit old new before after begun name fit (nth_short deletion.names deletion.done short.names)).1 []
    (subst (λ (c : Beginning). BeginsCall c old before new after begun) same is)
command_left (ask.Move name layout) call old new before after begun of short fit is =
    let same : call ≡ moving_call name layout = cc in
    (begun_fit old new before after begun name fit short.0).2 layout short.1
    (subst (λ (c : Beginning). BeginsCall c old before new after begun) same is)
command_left (ask.Info sections) call old new before after begun of short fit is = absurd (cc)
command_left ask.CountWritten call old new before after begun of short fit is = absurd (cc)
command_left (ask.ShowLayout name) call old new before after begun of short fit is = absurd (cc)
command_left (ask.Scan cursor options) call old new before after begun of short fit is = absurd (cc)
command_left (ask.Ping text) call old new before after begun of short fit is = absurd (cc)
command_left (ask.Echo text) call old new before after begun of short fit is = absurd (cc)
command_left ask.ListCommands call old new before after begun of short fit is = absurd (cc)
command_left ask.CountCommands call old new before after begun of short fit is = absurd (cc)
command_left ask.ClientId call old new before after begun of short fit is = absurd (cc)
command_left ask.DescribeClient call old new before after begun of short fit is = absurd (cc)
command_left ask.ClientName call old new before after begun of short fit is = absurd (cc)
command_left ask.Hello call old new before after begun of short fit is = absurd (cc)
command_left ask.Select call old new before after begun of short fit is = absurd (cc)
command_left ask.Login call old new before after begun of short fit is = absurd (cc)
command_left ask.Quit call old new before after begun of short fit is = absurd (cc)

-- Senders

-- a node that is among these is one of them
has_small : (nodes : List ℕ) (n : ℕ) → AreBytes nodes → has nodes n ≡ true → n < 2 ^ 8
has_small [] n bytes e = absurd (cc)
has_small (first ∷ nodes) n bytes e = go (eqb first n) refl (has_small nodes n bytes.1) e
  where
    go : (b : Bool) → eqb first n ≡ b → (has nodes n ≡ true → n < 2 ^ 8) → (b || has nodes n) ≡ true → n < 2 ^ 8
    go true t rest e = subst (λ m. m < 2 ^ 8) (eqb-true first n t) bytes.0
    go false t rest e = rest e

pub behind_all : {X : Type 0} (P : X → Type 0) (xs ys : List X) → AllByRecursion P (xs ++ ys) → AllByRecursion P xs × AllByRecursion P ys
behind_all P [] ys all = (tt, all)
behind_all P (x ∷ xs) ys all = let rest = behind_all P xs ys all.1 in ((all.0, rest.0), rest.1)

-- the node that sent a message which is admitted is one of the cluster file
pub sender_small : (keeper : Keeper) (sender : ℕ) (message : NodeMessage) → IsFitKeeper keeper →
    is_admitted keeper sender message ≡ true → sender < 2 ^ 8
sender_small keeper sender message fit admitted =
    let parts = and_parts (is_from_cluster keeper sender message) (has_low_tags message.named.letter) admitted in
    let named = and_parts (has keeper.file.fixed.nodes sender || has keeper.file.later sender)
    (bytes_eq message.digest keeper.digest) parts.0 in
    go (has keeper.file.fixed.nodes sender) refl named.0
  where
    both : AreBytes keeper.file.fixed.nodes × AreBytes keeper.file.later
    both = behind_all (λ node. node < 2 ^ 8) keeper.file.fixed.nodes keeper.file.later fit.nodes

    go : (b : Bool) → has keeper.file.fixed.nodes sender ≡ b → (b || has keeper.file.later sender) ≡ true → sender < 2 ^ 8
    go true t e = has_small keeper.file.fixed.nodes sender both.0 t
    go false t e = has_small keeper.file.later sender both.1 e
