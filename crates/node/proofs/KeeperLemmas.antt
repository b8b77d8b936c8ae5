-- Calls that begin at what a node keeps, and letters that come, as what the node does for its clients.
use Rattle.std.proofs.Common.{◌≡◌, inl, inr, ℕ, ◌+◌, ◌^◌, ◌&&◌, nat_lt, Bool, true, false, List, [], ◌∷◌, ◌++◌, Option, None, Some, Ok}
use Rattle.std.proofs.Common.{refl, sym, subst, ap, ◌∙◌}
use Rattle.std.proofs.lemmas.List.{append-nil}
use Rattle.tag.specs.declared.refusal.Refusal.{Refusal}
use Rattle.letter.specs.declared.letter.Letter.{Letter}
use Rattle.local_object.specs.Doing.{is_member}
use Rattle.local_object.specs.Local.{LocalObject, bank_here, layout_here}
use Rattle.local_object.specs.Outcomes.{learnt_from}
use Rattle.local_object.specs.declared.progress.Ended.{Ended}
use Rattle.client_commands.specs.declared.answer.Answer.TheVariants as answers
use Rattle.client_commands.specs.declared.answer.AnswerError.TheVariants as errors
use Rattle.client_commands.specs.declared.command.Command.{Command}
use Rattle.node_keeper.specs.Objects.{objects_of}
use Rattle.mail.specs.Message.{is_request}
use Rattle.node_effects.specs.Seen.{named_of}
use Rattle.node_clients.specs.Connections.{asked}
use Rattle.node_clients.specs.declared.next.Next.{Next}
use Rattle.letter.specs.declared.letter.NamedLetter.{NamedLetter}
use Rattle.encoder.specs.Fragment.{fragment}
use Rattle.local_object.specs.Events.{done_here}
use Rattle.node_effects.specs.declared.output.Output.{Output}
use Rattle.node_effects.specs.declared.work.Work.{Work}
use Rattle.node_clients.specs.Answers.{answer_frame, answer_sent}
use Rattle.node_clients.specs.Served.{call_begun}
use Rattle.node_clients.specs.Services.{Service, begun_notices, service_dues, service_frames}
use Rattle.node_clients.proofs.EndLemmas.{EndsAs, IsEnding}
use Rattle.node_keeper.specs.Beginning.{Beginning, BeginsCall, IsCallBegun, begun_growth}
use Rattle.node_keeper.specs.Declining.{declines, is_declined_by}
use Rattle.node_keeper.specs.Delivering.{DeliversLetter, DeliversAs, HandlesAs, delivered_of, served_as, told_by}
use Rattle.node_keeper.specs.Keeping.{heeds, kept_of}
use Rattle.node_keeper.specs.declared.delivered.Begun.{Begun}
use Rattle.node_keeper.specs.declared.delivered.Begun.TheVariants as begun
use Rattle.node_keeper.specs.declared.delivered.Delivered.{Delivered}
use Rattle.node_keeper.specs.declared.delivered.Delivered.TheVariants as delivered
use Rattle.node_keeper.specs.declared.keeper.Keeper.{Keeper}
use Rattle.node_keeper.proofs.IdLemmas.{gives_next}
use Rattle.node_keeper.proofs.SeenLemmas.{begins_leaves, begins_seen, delivers_leaves, delivers_seen}
use Rattle.deeds.specs.CallId.{CallIds}
use Rattle.indexmap.specs.IndexMap.{index_map_len}
use Rattle.node_keeper.specs.Acts.{GivesId}
use Rattle.node.specs.AtOnce.{BeginsHere, IsNextGiven, IsReplyHere}
use Rattle.node.specs.BegunCalls.{HasPutOut, IsPutOut, IsPutOutIf, call_of, call_outputs}
use Rattle.node.specs.Replies.{IsReplyTo, IsRight, MayBegin}
use Rattle.node.specs.Peers.{reception_of}
use Rattle.node.specs.Serving.{FollowsUp, IsAwaited, ServesCommand, ServesMore}
use Rattle.node.specs.declared.node.Node.{Node}
use Rattle.node.specs.declared.reception.Reception.{Reception}
use Rattle.node.proofs.GivenIdLemmas.{ending_uses}
use Rattle.node.proofs.ServingLemmas.{more_none, more_one, serves_none, serves_one}
use Rattle.node.proofs.StayingLemmas.{command_left, grown_left, left_then}
use Rattle.node.specs.FitCommands.{IsFitFound}
use Rattle.writable.specs.Keepers.{IsLeftFit}

begins_file : (call : Beginning) (old new : Keeper) (u v : Work) (begun : Begun) → BeginsCall call old u new v begun →
    new.file ≡ old.file
begins_file call old new u v (begun.Open id) is = is.file
begins_file call old new u v (begun.Refused why) is = is.file

-- a call got the id that the node gives next
next_given : (old new : CallIds) (id : ℕ) (before after : Work) → GivesId old id new before after → IsNextGiven old id
next_given old new id before after (inl is) = inl is.0
next_given old new id before after (inr is) = inr is.1

-- what the node put out as a call began
begun_put_out : (call : Beginning) (id : ℕ) (old new : Keeper) (u v : Work) (outputs : List Output) →
    (begun : IsCallBegun call id old u new v) → outputs ≡ v.outputs.items → IsPutOut old call id outputs
begun_put_out call id old new u v outputs begun same =
    let first = (done_here fragment (objects_of old.objects call.name) (call.event id)).sent in
    let made = call_outputs old old.objects call id in
    let sent : begun.letters ≡ first = begun.done.done.letters ∙ append-nil first in record {
      objects = old.objects;
      before = begun.given.outputs.items;
      after = [];
      all = same ∙ begun.grown.outputs
          ∙ ap (λ (ls : List Letter). begun.given.outputs.items ++ (begun_growth call id old ls).outputs) sent
          ∙ ap (λ os. begun.given.outputs.items ++ os) (sym (append-nil made));
    }

-- the command of a client was to begin a call, which waits now, or was refused
pub call_served : (client : ℕ) (next : Next) (command : Command) (call : Beginning) (old new : Node) (u v w : Work)
    (begun : Begun) → asked next ≡ Ok command →
    ((id : ℕ) → begun_notices command id ≡ call.notice id ∷ []) →
    ((local : LocalObject) (id : ℕ) (why : Refusal) → call.refusal local id ≡ Some why →
    IsReplyTo old.keeper.ids.node old.keeper.file client (Ok command) (answers.Error (errors.Refused why))) →
    MayBegin old.keeper.ids.node old.keeper.file command →
    ((id : ℕ) (why : Refusal) → IsNextGiven old.keeper.ids id →
    call.refusal (objects_of old.keeper.objects call.name) id ≡ Some why →
    IsReplyHere old.keeper old.peers (index_map_len old.desk.calls) old.desk.counts (Ok command)
    (answers.Error (errors.Refused why))) →
    ((id : ℕ) → IsNextGiven old.keeper.ids id → call.refusal (objects_of old.keeper.objects call.name) id ≡ None →
    BeginsHere old.keeper old.peers command id) →
    call_of command ≡ Some call → BeginsCall call old.keeper u new.keeper v begun →
    IsAwaited old.desk v client (call_begun client command) begun new.desk w → ServesCommand client next old u new w
call_served client next command call old new u v w (begun.Open id) asks notices refusals may refused accepted of begins
    awaited =
    let clients = begins_leaves call old.keeper new.keeper u v (begun.Open id) begins in
    let seen = begins_seen call old.keeper new.keeper u v (begun.Open id) begins in
    let same = awaited.1 in record {
      service = Service.Begins client command id;
      done = (refl, asks, awaited.0);
      right = may;
      carried = (
        refl,
        asks,
        accepted id (next_given old.keeper.ids new.keeper.ids id u begins.given begins.gives) begins.cause,
      );
      told = ap (λ (x : Work). x.to_clients.items) same ∙ clients.to_clients ∙ sym (append-nil u.to_clients.items);
      due = ap (λ (x : Work). x.due.items) same ∙ clients.due ∙ sym (append-nil u.due.items);
      notices = ap (λ (x : Work). x.notices.items) same ∙ seen ∙ ap (λ ns. u.notices.items ++ ns) (sym (notices id));
      put_out = subst (λ (o : Option Beginning). IsPutOutIf old.keeper o id w.outputs.items) (sym of)
          (begun_put_out call id old.keeper new.keeper u v w.outputs.items begins (ap (λ (x : Work). x.outputs.items) same));
      file = begins_file call old.keeper new.keeper u v (begun.Open id) begins;
      ids = gives_next old.keeper.ids id new.keeper.ids u begins.given begins.gives;
      fit = λ short keeper. subst (λ (x : Work). IsLeftFit u new.keeper x) (sym same)
          (command_left command call old.keeper new.keeper u v (begun.Open id) of (subst IsFitFound asks short) keeper begins);
    }
call_served client next command call old new u v w (begun.Refused why) asks notices refusals may refused accepted of begins
    awaited =
    let clients = begins_leaves call old.keeper new.keeper u v (begun.Refused why) begins in
    let seen = begins_seen call old.keeper new.keeper u v (begun.Refused why) begins in
    let answer = answers.Error (errors.Refused why) in
    let grown = awaited.1 in record {
      service = Service.Replies client next answer;
      done = (refl, refl, awaited.0);
      right = subst (λ r. IsReplyTo old.keeper.ids.node old.keeper.file client r answer) (sym asks)
          (refusals (objects_of old.keeper.objects call.name) begins.id why begins.cause);
      carried = (
        refl,
        refl,
        subst (λ r. IsReplyHere old.keeper old.peers (index_map_len old.desk.calls) old.desk.counts r answer) (sym asks)
            (refused begins.id why (next_given old.keeper.ids new.keeper.ids begins.id u v begins.gives) begins.cause),
      );
      told = grown.to_clients ∙ ap (λ xs. xs ++ (answer_frame client answer ∷ [])) clients.to_clients;
      due = grown.due ∙ ap (λ xs. xs ++ (client ∷ [])) clients.due;
      notices = grown.notices ∙ append-nil v.notices.items ∙ seen;
      put_out = tt;
      file = begins_file call old.keeper new.keeper u v (begun.Refused why) begins;
      ids = let gives = gives_next old.keeper.ids begins.id new.keeper.ids u v begins.gives in (begins.id, gives.0, gives.1);
      fit = λ short keeper. left_then new.keeper new.keeper u v w
          (command_left command call old.keeper new.keeper u v (begun.Refused why) of (subst IsFitFound asks short) keeper begins)
          (grown_left new.keeper v w (answer_sent client answer) grown refl);
    }

delivers_file : (heeded asks : Bool) (asker : ℕ) (it : NamedLetter) (old new : Keeper) (u v : Work) (result : Delivered) →
    DeliversAs heeded asks asker it old u new v result → new.file ≡ old.file
delivers_file false asks asker it old new u v result is = ap (λ (k : Keeper). k.file) is.1
delivers_file true asks asker it old new u v result is = is.rest.file

delivers_ids : (heeded asks : Bool) (asker : ℕ) (it : NamedLetter) (old new : Keeper) (u v : Work) (result : Delivered) →
    DeliversAs heeded asks asker it old u new v result → new.ids ≡ old.ids
delivers_ids false asks asker it old new u v result is = ap (λ (k : Keeper). k.ids) is.1
delivers_ids true asks asker it old new u v result is = is.rest.ids

-- what became of a letter
abbrev pub received : Delivered → Reception
received delivered.Dropped = record { is_heeded = false; is_declined = false }
received delivered.Handled = record { is_heeded = true; is_declined = false }
received delivered.Declined = record { is_heeded = true; is_declined = true }
received (delivered.Ended ended) = record { is_heeded = true; is_declined = false }

abbrev received_as : (heeded declined : Bool) → Reception
received_as heeded declined = record { is_heeded = heeded; is_declined = declined }

served_received : (declined : Bool) → received (served_as declined) ≡ received_as true declined
served_received false = refl
served_received true = refl

taken_received : (ended : Option Ended) → received (delivered_of ended) ≡ received_as true false
taken_received None = refl
taken_received (Some ended) = refl

-- a reply is not declined
never_declined : (local : LocalObject) (letter : Letter) → is_request letter.message.body ≡ false → declines local letter ≡ false
never_declined local letter e =
    ap (λ b. (b && (nat_lt (letter.message.position + 1) (2 ^ 32)
    && is_member (layout_here (learnt_from local letter) letter.message.position) letter.message.member local.node))
    && is_declined_by (bank_here local letter.message.position letter.message.member) letter.message.body) e

module _ (asker : ℕ) (it : NamedLetter) (old new : Keeper) (u v : Work) (result : Delivered) where
  handles_received : (asks : Bool) → is_request it.letter.message.body ≡ asks → HandlesAs asks asker it old u new v result →
      received result ≡ received_as true (declines (objects_of old.objects it.name) it.letter)
  handles_received true e is = ap received is.0 ∙ served_received (declines (objects_of old.objects it.name) it.letter)
  handles_received false e is =
      ap received is.1 ∙ taken_received is.0
      ∙ ap (received_as true) (sym (never_declined (objects_of old.objects it.name) it.letter e))

delivers_received : (heeded asks : Bool) (asker : ℕ) (it : NamedLetter) (old new : Keeper) (u v : Work) (result : Delivered) →
    is_request it.letter.message.body ≡ asks → DeliversAs heeded asks asker it old u new v result →
    received result ≡ received_as heeded (heeded && declines (objects_of old.objects it.name) it.letter)
delivers_received false asks asker it old new u v result e is = ap received is.0
delivers_received true asks asker it old new u v result e is =
    handles_received asker it old is.middle u is.between result asks e is.handles

-- what became of a letter is what the node's objects say
pub is_received : (asker : ℕ) (it : NamedLetter) (old new : Keeper) (u v : Work) (result : Delivered) →
    DeliversLetter asker it old u new v result → received result ≡ reception_of old it
is_received asker it old new u v result is =
    delivers_received (heeds (kept_of old) (named_of it)) (is_request it.letter.message.body) asker it old new u v result refl is

module _ (asker : ℕ) (it : NamedLetter) (old new : Node) (u v : Work) where
  file_after : (result : Delivered) → DeliversLetter asker it old.keeper u new.keeper v result → new.keeper.file ≡ old.keeper.file
  file_after result is =
      delivers_file (heeds (kept_of old.keeper) (named_of it)) (is_request it.letter.message.body) asker it old.keeper new.keeper
      u v result is

  ids_after : (result : Delivered) → DeliversLetter asker it old.keeper u new.keeper v result → new.keeper.ids ≡ old.keeper.ids
  ids_after result is =
      delivers_ids (heeds (kept_of old.keeper) (named_of it)) (is_request it.letter.message.body) asker it old.keeper new.keeper
      u v result is

  -- a letter came with which no call ended
  pub none_ended_served : (result : Delivered) → DeliversLetter asker it old.keeper u new.keeper v result →
      told_by it.name result ≡ [] → new.desk ≡ old.desk → ServesMore old u new v
  none_ended_served result is none same =
      let clients = delivers_leaves asker it old.keeper new.keeper u v result is in
      more_none old new u v (serves_none old new u v same clients.to_clients clients.due
      (delivers_seen asker it old.keeper new.keeper u v result is ∙ ap (λ ns. u.notices.items ++ ns) none
      ∙ append-nil u.notices.items) (file_after result is) (ids_after result is))

  -- what was done for the client of a call that ended follows up, is right, and begins no call
  ending_follows : (service : Service) (outputs : List Output) → IsEnding service →
      FollowsUp service × IsRight old.keeper.ids.node old.keeper.file service × HasPutOut old.keeper outputs service
  ending_follows (Service.Ends name ended answer told) outputs ending = (tt, tt, tt)
  ending_follows (Service.Passes name ended client rest) outputs ending = (tt, tt, tt)
  ending_follows (Service.Arrives client command) outputs ending = absurd ending
  ending_follows (Service.Leaves client) outputs ending = absurd ending
  ending_follows (Service.Begins client command id) outputs ending = absurd ending
  ending_follows (Service.Replies client command answer) outputs ending = absurd ending
  ending_follows (Service.Quits client) outputs ending = absurd ending
  ending_follows (Service.Ages id) outputs ending = absurd ending
  ending_follows (Service.GivesUp id told) outputs ending = absurd ending
  ending_follows (Service.Releases id told) outputs ending = absurd ending

  -- a letter was taken, and a call ended
  pub ended_served : (ended : Ended) (w : Work) → DeliversLetter asker it old.keeper u new.keeper v (delivered.Ended ended) →
      EndsAs old.keeper.file.ticks old.keeper.file.fixed.delta it.name ended old.desk v new.desk w → ServesMore old u new w
  ended_served ended w is ends =
      let clients = delivers_leaves asker it old.keeper new.keeper u v (delivered.Ended ended) is in
      let follows = ending_follows ends.service w.outputs.items ends.ending in
      more_one old new u w ends.service follows.0 follows.2
      (serves_one old new u w ends.service ends.done
      (ends.told ∙ ap (λ xs. xs ++ service_frames ends.service) clients.to_clients)
      (ends.due ∙ ap (λ xs. xs ++ service_dues ends.service) clients.due)
      (ends.notices ∙ delivers_seen asker it old.keeper new.keeper u v (delivered.Ended ended) is
      ∙ ap (λ ns. u.notices.items ++ ns) (sym ends.seen)) follows.1 (file_after (delivered.Ended ended) is)
      (ending_uses old.keeper.ids new.keeper.ids ends.service ends.ending (ids_after (delivered.Ended ended) is)))
