-- What a node promises of a frame that it handles, and of an entry of its log that it carries out again.
use Rattle.std.specs.Prelude.{◌≡◌, ℕ, List, [], ◌++◌}
use Rattle.std.specs.List.{AllByRecursion}
use Rattle.encoder.specs.Fragment.{fragment}
use Rattle.deeds.specs.Named.{NamedLetter as Named, IsOneOf}
use Rattle.recoveries.specs.LoggedIds.{HaveLoggedIds}
use Rattle.recoveries.specs.Stops.{IsHandledSafely}
use Rattle.node_strings.specs.Arrival.{arrival_at}
use Rattle.node_clients.specs.Desk.{NoneWaits}
use Rattle.node_effects.specs.Seen.{all_seen, named_of}
use Rattle.node_strings.specs.Strings.{Strings}
use Rattle.node_effects.specs.declared.effects.Effects.{Effects}
use Rattle.node_effects.specs.declared.work.Work.{Work}
use Rattle.node_keeper.specs.Fitting.{IsSendable}
use Rattle.node_keeper.specs.Keeping.{kept_of}
use Rattle.node_keeper.specs.Logging.{IsReadBack}
use Rattle.node_keeper.specs.Sendings.{IsDirected, Sending, letters_of}
use Rattle.node_keeper.specs.Wants.{Want, left_by, outputs_of, records_in, sends_in}
use Rattle.node_keeper.specs.declared.keeper.Keeper.{Keeper}
use Rattle.node.specs.declared.node.Node.{Node}
use Rattle.node.specs.Frames.{letters_in, sender_or}
use Rattle.node.specs.Peers.{IsChangedBy}
use Rattle.node.specs.Serving.{ServedSince}
use Rattle.node.specs.Ticks.{IsDoneFirst}

-- each letter goes to the node to which it has to go: a request to the node that it asks, and a reply to the node of
-- number `asker` if it is one of the first letters, and to this node itself if it is one of the rest; but a request
-- that had come may go back, with another start: to `asker` if it is one of the letters `got`, and to this node itself
-- if this node has sent it; and a request for the next position may go to any node
pub record AreAddressed (number asker : ℕ) (got : List Named) (sends : List Sending) : Type 0 where
  pub first : List Sending
  pub rest : List Sending
  pub all : sends ≡ first ++ rest
  pub asked : AllByRecursion (IsDirected number asker got) first
  pub own : AllByRecursion (IsDirected number number (letters_of sends)) rest

-- what the node has done since it kept `first`, with these letters, which had come. Its work is to log the records that
-- its log needs, to send the letters to other nodes, each behind the records on which it depends, and to tell what its
-- clients saw; the letters to itself that still wait are among those that it sent. The records tell of the ids that it
-- gave.
pub record HasActed (asker : ℕ) (got : List Named) (first now : Keeper) (work : Work) : Type 0 where
  pub wants : List Want
  pub handled : IsHandledSafely fragment (kept_of first) got (left_by wants) (kept_of now)
      (all_seen work.notices.items)
  pub outputs : work.outputs.items ≡ outputs_of first.ids.node first.digest wants
  pub read : AllByRecursion (IsReadBack first.digest) (records_in wants)
  pub ids : HaveLoggedIds first.ids (records_in wants) now.ids
  pub sent : AllByRecursion (IsSendable first.ids.node first.digest) (sends_in wants)
  pub own : AllByRecursion (λ it. IsOneOf (letters_of (sends_in wants)) (named_of it)) work.own.items
  pub addressed : AreAddressed first.ids.node asker got (sends_in wants)
  pub node : now.ids.node ≡ first.ids.node
  pub digest : now.digest ≡ first.digest

-- What a node did with a frame: deeds with the letter that the frame carries, if it carries one. The outputs are the
-- entries of the records that the log needs of these deeds, and the frames of the letters that the node sent to other
-- nodes. An entry is read back as its record, and a frame as a message with its letter. They stand in such an order
-- that the node may stop behind any of them: each frame depends only on the entries before it. The entries tell of the
-- ids that the node gave: of each epoch that began, and of the id of each move. Behind them come the answers to
-- clients. What the node did for its clients says which answers these are, which ids it gave for what, what clients
-- saw, and what the node put out as their calls began. If no command that may be carried out waited before, none waits
-- now. What it does first with what has come is told exactly: at a tick, open calls send their requests again; and the
-- letter of a message that is admitted is served, taken or dropped as `Keeper::deliver` says. What the node knows of
-- the other nodes changes exactly as `IsChangedBy` says.
pub record Handles (old : Node) (frame : Strings) (effects : Effects) (new : Node) : Type 0 where
  pub wants : List Want
  pub handled : IsHandledSafely fragment (kept_of old.keeper) (letters_in old.keeper frame) (left_by wants)
      (kept_of new.keeper) (all_seen effects.notices.items)
  pub outputs : effects.outputs.items ≡ outputs_of old.keeper.ids.node old.keeper.digest wants
  pub read : AllByRecursion (IsReadBack old.keeper.digest) (records_in wants)
  pub ids : HaveLoggedIds old.keeper.ids (records_in wants) new.keeper.ids
  pub sent : AllByRecursion (IsSendable old.keeper.ids.node old.keeper.digest) (sends_in wants)
  pub addressed : AreAddressed old.keeper.ids.node (sender_or old.keeper.ids.node (arrival_at frame))
      (letters_in old.keeper frame) (sends_in wants)
  pub served : ServedSince (arrival_at frame) old new effects.answers.items effects.notices.items
      effects.outputs.items
  pub waits : NoneWaits old.desk.clients [] → NoneWaits new.desk.clients []
  pub first : IsDoneFirst (arrival_at frame) old effects.outputs.items
  pub peers : IsChangedBy (arrival_at frame) old.keeper old.peers new.peers
