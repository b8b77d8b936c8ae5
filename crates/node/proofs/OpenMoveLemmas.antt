-- What a desk has of the open moves, after a node has carried out its log again.
use Rattle.std.proofs.Common.{◌≡◌, ℕ, Bool, true, false, ◌||◌, eqb, eqb-true, eq-eqb, List, [], ◌∷◌, ◌++◌, Option, None, Some}
use Rattle.std.proofs.Common.{is_some, Result, Ok, Err, refl, sym, subst, ap, ◌∙◌}
use Rattle.std.proofs.Math.Bool.{or-false, or-true}
use Rattle.std.proofs.lemmas.Bool.{false≢true}
use Rattle.std.proofs.lemmas.Map.Keys.{IsDistinct-head, IsDistinct-tail}
use Rattle.std.specs.List.{AllByRecursion, IsDistinct}
use Rattle.std.specs.Prelude.{nat_eq}
use Rattle.indexmap.specs.IndexMap.{get}
use Rattle.layout.specs.Layout.{Layout}
use Rattle.record.specs.Legal.{is_move}
use Rattle.open_calls.specs.OpenCalls.{NodeCall, open_call}
use Rattle.open_calls.proofs.CallsOfNodeLemmas.{differs}
use Rattle.deeds.specs.Kept.{KeptNode}
use Rattle.deeds.proofs.NameLemmas.{names_decided}
use Rattle.local_object.specs.Doing.{has_move_open}
use Rattle.local_object.specs.Events.{LocalEvent}
use Rattle.local_object.specs.Local.{LocalObject, layout_here, with_heard}
use Rattle.recoveries.specs.Records.{IsKeptUnder, IsNamedOutcome, IsSame, LogRecord, Recovers}
use Rattle.recoveries.specs.RewritingNodes.{HasOwnObjects}
use Rattle.node_messages.specs.Reading.{message_from}
use Rattle.node_messages.specs.declared.error.Fault.{Fault}
use Rattle.node_messages.specs.declared.message.NodeMessage.{NodeMessage}
use Rattle.node_strings.specs.Record.{record_at}
use Rattle.node_strings.specs.Strings.{Strings}
use Rattle.node_strings.specs.declared.record.Record.{Record}
use Rattle.node_strings.specs.declared.record.Record.TheVariants as record_of
use Rattle.node_clients.specs.Calls.{call_under}
use Rattle.node_clients.specs.declared.desk.Desk.{Desk}
use Rattle.node_clients.specs.declared.open_call.OpenCall.{OpenCall}
use Rattle.node_keeper.specs.Delivering.{first_id}
use Rattle.node_keeper.specs.Keeping.{kept_of}
use Rattle.node_keeper.specs.Logging.{letter_records}
use Rattle.node_keeper.specs.Objects.{objects_of}
use Rattle.node.specs.declared.node.Node.{Node}
use Rattle.node.specs.Anew.{CarriesOutAll}
use Rattle.node.specs.OpenMoves.{DesksHaveTheOpenMoves, StartedDesksHaveTheOpenMoves, moved_by, moved_ids}
use Rattle.node.specs.Recovering.{CarriesOutRecord, ClosesCall, ClosesTaken, KeepsCalls, resumed_move}
use Rattle.node.proofs.AnewLemmas.{new_nodes, recovered_entries}
use Rattle.node.proofs.OpenObjectLemmas.{HasOnlyMoves, KeepsOpen, OpensMove, close_keeps, is_open, move_opens, open_moves}
use Rattle.node.proofs.OpenObjectLemmas.{same_keeps, serve_keeps}
use Rattle.node.proofs.TakenObjectLemmas.{EndsOpen, take_ends}
use Rattle.node.proofs.ResumedDeskLemmas.{IsResumed, kept_resumed, same_all, put_all, put_resumed, name_of_call}

-- The calls of a desk

abbrev calls_at : Node → (id : ℕ) → Option OpenCall
calls_at node id = call_under node.desk.calls id

abbrev DeskIsResumed : Node → Type 0
DeskIsResumed node = IsResumed (kept_of node.keeper) (calls_at node)

-- a move begins under an id that no call has
move_resumed : (a b : KeptNode) (old new : (id : ℕ) → Option OpenCall) (name : List ℕ) (id : ℕ) (layout first : Layout) →
    layout_here (a.objects name) 0 ≡ Some first → IsNamedOutcome a name (LocalEvent.BeginMove id layout ∷ []) b → old id ≡ None →
    new id ≡ Some (resumed_move name) → ((i : ℕ) → (i ≡ id → ⊥) → new i ≡ old i) → IsResumed a old → IsResumed b new
move_resumed a b old new name id layout first heard done free here others is =
    let opens : OpensMove (a.objects name) id done.local =
    subst (OpensMove (a.objects name) id) (sym done.done.local) (move_opens (a.objects name) first heard id layout (is.moves name)) in
    put_resumed a b old new name id true done.local done.put opens.0
    (λ i off. opens.1 i ∙ ap (λ b. is_open (a.objects name) i || b) (differs id i (λ same. off (sym same))) ∙ or-false _)
    (opens.1 id ∙ ap (λ b. is_open (a.objects name) id || b) (eq-eqb id id refl) ∙ or-true _)
    (λ other e. absurd (let wrong : None ≡ Some (resumed_move other) = sym free ∙ is.matches.opens other id e in cc))
    here others is

-- a reply is taken
take_resumed : (old new : Node) (b : KeptNode) (name : List ℕ) (local : LocalObject) (ended : Option ℕ) →
    IsKeptUnder (kept_of old.keeper) name local b → HasOnlyMoves local →
    EndsOpen (objects_of old.keeper.objects name) ended local → ClosesCall old ended new → DeskIsResumed old → IsResumed b (calls_at new)
take_resumed old new b name local None put all ends closes is =
    kept_resumed (kept_of old.keeper) b (calls_at old) (calls_at new)
    (put_all (kept_of old.keeper) b name local put (λ before. (all, ends))) (λ id. ap (λ calls. get nat_eq calls id) closes) is
take_resumed old new b name local (Some id) put all ends closes is =
    put_resumed (kept_of old.keeper) b (calls_at old) (calls_at new) name id false local put all ends.2 ends.1
    (λ other e. (names_decided name other).1 (ap name_of_call (sym (is.matches.opens name id ends.0) ∙ is.matches.opens other id e)))
    closes.here closes.others is

-- Records

-- these ids have no call at the desk
abbrev AreFree : Node → List ℕ → Type 0
AreFree node ids = AllByRecursion (λ id. calls_at node id ≡ None) ids

kept_free : (old new : Node) → ((id : ℕ) → calls_at old id ≡ None → calls_at new id ≡ None) → (ids : List ℕ) → AreFree old ids →
    AreFree new ids
kept_free old new stays [] free = tt
kept_free old new stays (id ∷ ids) free = (stays id free.0, kept_free old new stays ids free.1)

put_free : (old new : Node) (id : ℕ) → ((i : ℕ) → (i ≡ id → ⊥) → calls_at new i ≡ calls_at old i) → (ids : List ℕ) →
    AllByRecursion (λ other. nat_eq id other ≡ false) ids → AreFree old ids → AreFree new ids
put_free old new id others [] apart free = tt
put_free old new id others (i ∷ ids) apart free =
    (others i (λ same. false≢true (sym apart.0 ∙ eq-eqb id i (sym same))) ∙ free.0, put_free old new id others ids apart.1 free.1)

same_free : (old new : Node) → KeepsCalls old new → (ids : List ℕ) → AreFree old ids → AreFree new ids
same_free old new same = kept_free old new (λ id e. ap (λ calls. get nat_eq calls id) same ∙ e)

close_free : (old new : Node) (ended : Option ℕ) → ClosesCall old ended new → (ids : List ℕ) → AreFree old ids → AreFree new ids
close_free old new None closes = same_free old new closes
close_free old new (Some id) closes = kept_free old new (λ i e. go i e (eqb i id) refl)
  where
    go : (i : ℕ) → calls_at old i ≡ None → (c : Bool) → eqb i id ≡ c → calls_at new i ≡ None
    go i e true f = ap (calls_at new) (eqb-true i id f) ∙ closes.here
    go i e false f = closes.others i (λ same. false≢true (sym f ∙ eq-eqb i id same)) ∙ e

-- what is so after a record is carried out again, of which these ids are left
abbrev GoesOnWith : Node → List ℕ → Type 0
GoesOnWith node ids = DeskIsResumed node × (IsDistinct nat_eq ids × AreFree node ids)

module _ (old new : Node) (ids : List ℕ) (own : HasOwnObjects (kept_of old.keeper)) (is : DeskIsResumed old) where
  -- no call changes at the desk, and none is opened or ended
  kept_on : (b : KeptNode) → ((name : List ℕ) → KeepsOpen (objects_of old.keeper.objects name) (b.objects name)) →
      IsSame b (kept_of new.keeper) → KeepsCalls old new → DeskIsResumed new
  kept_on b keeps same calls =
      kept_resumed b (kept_of new.keeper) (calls_at old) (calls_at new) (same_all b (kept_of new.keeper) same)
      (λ id. ap (λ calls. get nat_eq calls id) calls)
      (kept_resumed (kept_of old.keeper) b (calls_at old) (calls_at old) keeps (λ id. refl) is)

  same_on : IsSame (kept_of old.keeper) (kept_of new.keeper) → KeepsCalls old new → DeskIsResumed new
  same_on same calls =
      kept_resumed (kept_of old.keeper) (kept_of new.keeper) (calls_at old) (calls_at new)
      (same_all (kept_of old.keeper) (kept_of new.keeper) same) (λ id. ap (λ calls. get nat_eq calls id) calls) is

  served_on : (r : Result NodeMessage Fault) → Recovers (letter_records LogRecord.Serves r) (kept_of old.keeper) (kept_of new.keeper) →
      KeepsCalls old new → DeskIsResumed new
  served_on (Ok message) done calls =
      let name = message.named.name in
      let local = objects_of old.keeper.objects name in
      kept_on done.0
      (put_all (kept_of old.keeper) done.0 name done.1.local done.1.put
      (subst (KeepsOpen local) (sym done.1.done.local) (serve_keeps local message.named.letter))) done.2 calls
  served_on (Err fault) same calls = same_on same calls

  taken_on : (r : Result NodeMessage Fault) → ClosesTaken r old new → DeskIsResumed new × (AreFree old ids → AreFree new ids)
  taken_on (Ok message) closes =
      let taken = closes.0 in
      let name = message.named.name in
      let local = objects_of old.keeper.objects name in
      let ends = take_ends local message.named.letter taken.local taken.sent taken.ended taken.taken (is.moves name) in (
        take_resumed old new (kept_of new.keeper) name taken.local (first_id taken.ended) taken.put ends.0 ends.1 closes.1 is,
        close_free old new (first_id taken.ended) closes.1 ids,
      )
  taken_on (Err fault) closes = absurd closes

  one_on : (it : Record) → CarriesOutRecord old it new → IsDistinct nat_eq (moved_by (Some it) ++ ids) →
      AreFree old (moved_by (Some it) ++ ids) → GoesOnWith new ids
  one_on (record_of.Cluster digest node) done distinct free =
      (same_on done.recovers done.calls, (distinct, same_free old new done.calls ids free))
  one_on record_of.Start done distinct free = (
    kept_on done.recovers.0
        (λ name. same_keeps (objects_of old.keeper.objects name) (done.recovers.0.objects name)
        (ap (λ (l : LocalObject). l.calls) (done.recovers.1.objects name))) done.recovers.2 done.calls,
    (distinct, same_free old new done.calls ids free),
  )
  one_on (record_of.Serve frame) done distinct free =
      (served_on (message_from frame) done.recovers done.calls, (distinct, same_free old new done.calls ids free))
  one_on (record_of.Take frame) done distinct free =
      let taken = taken_on (message_from frame) done.calls in (taken.0, (distinct, taken.1 free))
  one_on (record_of.Move id name layout) done distinct free =
      let begun = done.recovers in (
        kept_resumed begun.0 (kept_of new.keeper) (calls_at new) (calls_at new) (same_all begun.0 (kept_of new.keeper) begun.2) (λ i. refl)
            (move_resumed (kept_of old.keeper) begun.0 (calls_at old) (calls_at new) name id layout _ (own name).first begun.1 free.0
            done.calls.here done.calls.others is),
        (IsDistinct-tail nat_eq id ids distinct, put_free old new id done.calls.others ids (IsDistinct-head nat_eq id ids distinct) free.1),
      )
  one_on (record_of.Hear position name layout) done distinct free =
      let local = objects_of old.keeper.objects name in (
        kept_on done.recovers.0
            (put_all (kept_of old.keeper) done.recovers.0 name (with_heard local position layout) done.recovers.1.put
            (same_keeps local (with_heard local position layout) refl)) done.recovers.2 done.calls,
        (distinct, same_free old new done.calls ids free),
      )
  one_on (record_of.Close position name) done distinct free =
      let local = objects_of old.keeper.objects name in
      let closed = done.recovers.1 in (
        kept_on done.recovers.0
            (put_all (kept_of old.keeper) done.recovers.0 name closed.local closed.put
            (subst (KeepsOpen local) (sym closed.done.local) (close_keeps local position))) done.recovers.2 done.calls,
        (distinct, same_free old new done.calls ids free),
      )

-- Logs

all_on : (old new : Node) (entries : List Strings) → CarriesOutAll old entries new → HasOwnObjects (kept_of old.keeper) →
    GoesOnWith old (moved_ids entries) → DeskIsResumed new
all_on old new [] same own on = subst DeskIsResumed (sym same) on.0
all_on old new (entry ∷ entries) carried own on =
    let first = carried.1 in
    let ids = moved_ids entries in
    let read : record_at entry ≡ Some first.it = ap record_at first.whole ∙ first.read in
    all_on carried.0 new entries carried.2 (recovered_entries old carried.0 entry first own)
    (one_on old carried.0 ids own on.0 first.it first.done
    (subst (λ (o : Option Record). IsDistinct nat_eq (moved_by o ++ ids)) read on.1.0)
    (subst (λ (o : Option Record). AreFree old (moved_by o ++ ids)) read on.1.1))

all_free : (node : Node) → ((id : ℕ) → calls_at node id ≡ None) → (ids : List ℕ) → AreFree node ids
all_free node none [] = tt
all_free node none (id ∷ ids) = (none id, all_free node none ids)

pub desks_have : DesksHaveTheOpenMoves
desks_have file number new copy entries lawful kept empty distinct carried =
    let own = new_nodes new file number lawful kept in
    let done = all_on new copy entries carried own (begun, (distinct, all_free new none (moved_ids entries))) in record {
      moves = λ name id. (
        λ e. done.matches.opens name id (sym (open_moves (objects_of copy.keeper.objects name) (done.moves name) id) ∙ e),
        λ e. open_moves (objects_of copy.keeper.objects name) (done.moves name) id ∙ done.matches.there name id e,
      );
      only = done.matches.only;
    }
  where
    none : (id : ℕ) → calls_at new id ≡ None
    none id = rw empty refl

    no_calls : (name : List ℕ) → (objects_of new.keeper.objects name).calls ≡ []
    no_calls name = ap (λ (k : KeptNode). (k.objects name).calls) kept

    begun : DeskIsResumed new
    begun = record {
      moves = λ name. subst (λ calls. AllByRecursion (λ (call : NodeCall). is_move call.kind ≡ true) calls) (sym (no_calls name)) tt;
      matches = record {
        opens = λ name id e. absurd (false≢true (ap (λ calls. is_some (open_call calls id)) (sym (no_calls name)) ∙ e));
        there = λ name id e. absurd (let wrong : None ≡ Some (resumed_move name) = sym (none id) ∙ e in cc);
        only = λ id call e. absurd (let wrong : None ≡ Some call = sym (none id) ∙ e in cc);
      };
    }

pub started_have : StartedDesksHaveTheOpenMoves
started_have old new started desk has = record {
  moves = λ name id. (
    λ e. same id ∙ (has.moves name id).0 (sym (ap (λ l. has_move_open l id) (started.objects name)) ∙ e),
    λ e. ap (λ l. has_move_open l id) (started.objects name) ∙ (has.moves name id).1 (sym (same id) ∙ e),
  );
  only = λ id call e. has.only id call (sym (same id) ∙ e);
}
  where
    same : (id : ℕ) → calls_at new id ≡ calls_at old id
    same id = ap (λ (d : Desk). get nat_eq d.calls id) desk
