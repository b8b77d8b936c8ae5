-- Reads that begin and ask all nodes.
use Rattle.std.proofs.Common.{◌≡◌, ℕ, suc, Bool, true, false, cond, ◌==◌, List, [], ◌∷◌, ◌++◌, map, Option, None, Some, eq-eqb, refl}
use Rattle.std.proofs.Common.{sym, subst, ap, ◌∙◌, slice_get}
use Rattle.std.specs.Prelude.{IfSome}
use Rattle.std.proofs.lemmas.List.{append-nil}
use Rattle.std.specs.List.{AllByRecursion}
use Rattle.bank.specs.Bank.{empty_piece}
use Rattle.bank.specs.declared.kind.Kind.TheVariants.{Next}
use Rattle.encoder.specs.Fragment.{fragment}
use Rattle.layout.specs.Layout.{Layout}
use Rattle.letter.specs.declared.letter.Letter.{Letter}
use Rattle.mail.specs.declared.message.Message.{Message}
use Rattle.open_calls.specs.OpenCalls.{NodeCall, open_call}
use Rattle.piece.specs.declared.piece.Piece.{Piece}
use Rattle.record.specs.Sending.{requests}
use Rattle.record.specs.Steps.{new_phase}
use Rattle.record.specs.declared.call.CallKind.TheVariants.{Read}
use Rattle.record.specs.declared.stage.Stage.TheVariants.{ReadNext}
use Rattle.local_object.specs.Doing.{read_refusal}
use Rattle.local_object.specs.Events.{LocalEvent, done_here, pieces_here}
use Rattle.local_object.specs.Local.{LocalObject, layout_here}
use Rattle.local_object.specs.Outcomes.{letter_of}
use Rattle.local_object.specs.Resent.{IsResent}
use Rattle.local_object.specs.Starting.{called_at, first_number}
use Rattle.deeds.proofs.NameLemmas.{own_named}
use Rattle.recoveries.proofs.BegunCallLemmas.{new_id}
use Rattle.node_keeper.specs.Beginning.{ReadsAskNext}
use Rattle.node_keeper.specs.Doing.{IsOutcomeAt}
use Rattle.node_keeper.specs.Objects.{objects_of}
use Rattle.node_keeper.specs.Resending.{first_for_all}
use Rattle.node_keeper.specs.Sendings.{asks_next}
use Rattle.node_keeper.specs.declared.objects.Objects.{Objects}
use Rattle.node_keeper.proofs.AskedAllLemmas.{asks_at, first_is, same_requests}

-- requests for the next position
all_next : (local : LocalObject) (asks : Bool) (layout : Layout) (call number position : ℕ) (members : List ℕ) (member : ℕ)
    (f : ℕ → Piece) →
    AllByRecursion (λ letter. asks_next letter.message.body ≡ true)
    (map (letter_of local asks layout) (requests call number Next position members member f))
all_next local asks layout call number position [] member f = tt
all_next local asks layout call number position (server ∷ servers) member f =
    (refl, all_next local asks layout call number position servers (suc member) f)

-- the requests with which a read begins ask for the next position
pub reads_ask : ReadsAskNext
reads_ask local id = go (layout_here local local.start)
  where
    go : (o : Option Layout) →
        AllByRecursion (λ letter. asks_next letter.message.body ≡ true) (called_at local id Read local.start o).sent
    go None = tt
    go (Some layout) = all_next local true layout id (first_number local.start) local.start layout.members 0 empty_piece

-- a call with a new id is found once it is open
found_new : (calls : List NodeCall) (new : NodeCall) → open_call calls new.id ≡ None → open_call (calls ++ new ∷ []) new.id ≡ Some new
found_new [] new none = ap (λ b. cond b (Some new) None) (eq-eqb new.id new.id refl)
found_new (first ∷ calls) new none = go (first.id == new.id) none (λ rest. found_new calls new rest)
  where
    go : (b : Bool) → cond b (Some first) (open_call calls new.id) ≡ None →
        (open_call calls new.id ≡ None → open_call (calls ++ new ∷ []) new.id ≡ Some new) →
        cond b (Some first) (open_call (calls ++ new ∷ []) new.id) ≡ Some new
    go true is rest = absurd (cc)
    go false is rest = rest is

module _ (local : LocalObject) (id : ℕ) (free : open_call local.calls id ≡ None) where
  -- the first request of a read that begins belongs to its phase
  begun_first : (o : Option Layout) → layout_here local local.start ≡ o → (letter : Letter) (more : List Letter) →
      (called_at local id Read local.start o).sent ≡ letter ∷ more → IsResent fragment (called_at local id Read local.start o).local letter
  begun_first None known letter more is = absurd (cc)
  begun_first (Some layout) known letter more is =
      let number = first_number local.start in
      let call : NodeCall = record {
        node = local.node;
        id = id;
        kind = Read;
        settled = None;
        stage = ReadNext local.start local.start;
        phase = new_phase id number Next local.start layout 0;
      } in record {
        id = id;
        call = call;
        carried = found_new local.calls call free;
        layout = layout;
        known = known;
        place = 0;
        at = ap (λ b. slice_get (map (letter_of local b layout)
            (requests id number Next local.start layout.members 0 (pieces_here fragment layout call))) 0)
            (asks_at Read local.start)
            ∙ ap (λ (ms : List Message). slice_get (map (letter_of local true layout) ms) 0)
            (same_requests id number local.start layout.members 0 _ _) ∙ ap (λ (ls : List Letter). slice_get ls 0) is;
      }

-- the request with which a read asks all nodes as it begins may be sent again
pub read_first : (old new : Objects) (name : List ℕ) (id : ℕ) (letters : List Letter) (asks_all : Bool) →
    read_refusal (objects_of old name) id ≡ None → IsOutcomeAt old name (LocalEvent.BeginRead id ∷ []) new letters →
    IfSome (first_for_all asks_all letters) (IsResent fragment (objects_of new name))
read_first old new name id letters asks_all free done =
    let local = objects_of old name in
    let now = done_here fragment local (LocalEvent.BeginRead id) in
    let sent : letters ≡ now.sent = done.done.letters ∙ append-nil now.sent in
    let after : objects_of new name ≡ now.local =
    done.changed.objects name ∙ own_named (objects_of old) name done.local ∙ done.done.local in
    subst (λ (l : LocalObject). IfSome (first_for_all asks_all letters) (IsResent fragment l)) (sym after)
    (first_is (IsResent fragment now.local) asks_all letters
    (λ letter more is. begun_first local id (new_id local id None free) (layout_here local local.start) refl letter more
    (sym sent ∙ is)))
