-- Calls that ask all nodes: where the request goes, and that the node may send it.
use Rattle.std.proofs.Common.{◌≡◌, ◌&&◌, ℕ, suc, Bool, true, false, cond, List, [], ◌∷◌, ◌++◌, map}
use Rattle.std.proofs.Common.{Option, None, Some, eq-eqb, refl, sym, subst, ap, ◌∙◌, slice_get}
use Rattle.std.specs.Prelude.{IfSome}
use Rattle.std.proofs.lemmas.List.{append-nil}
use Rattle.std.specs.List.{AllByRecursion}
use Rattle.bank.specs.declared.kind.Kind.TheVariants.{Next}
use Rattle.bank.specs.declared.request.Request.TheVariants as request
use Rattle.cluster_file.specs.File.{FileContents}
use Rattle.encoder.specs.Fragment.{fragment}
use Rattle.layout.specs.Layout.{Layout}
use Rattle.letter.specs.declared.letter.Letter.{Letter}
use Rattle.letter.specs.declared.letter.NamedLetter.{NamedLetter}
use Rattle.mail.specs.declared.message.Body.TheVariants as body
use Rattle.mail.specs.declared.message.Message.{Message}
use Rattle.piece.specs.declared.piece.Piece.{Piece}
use Rattle.record.specs.Sending.{requests}
use Rattle.record.specs.declared.call.CallKind.{CallKind}
use Rattle.record.specs.declared.stage.Stage.TheVariants.{ReadNext}
use Rattle.open_calls.specs.OpenCalls.{NodeCall, open_call}
use Rattle.open_calls.proofs.OpenCallLemmas.{found_with}
use Rattle.local_object.specs.Events.{LocalEvent, all_done, pieces_here}
use Rattle.local_object.specs.Local.{LocalObject, layout_here}
use Rattle.local_object.specs.Outcomes.{is_read, letter_of, on_open_call}
use Rattle.local_object.specs.ReadingOn.{reads_on}
use Rattle.local_object.specs.Resent.{IsResent, letters_again}
use Rattle.local_object.specs.Sent.{asks_piece}
use Rattle.local_object.specs.Starting.{number_at, reading_call, reads_at, reads_here}
use Rattle.local_object.proofs.ResentLemmas.{all_resent}
use Rattle.deeds.specs.CallId.{CallIds}
use Rattle.deeds.proofs.NameLemmas.{own_named}
use Rattle.recoveries.proofs.KeptCallLemmas.{found_id}
use Rattle.node_effects.specs.Work.{IsGrown, both_grown}
use Rattle.node_effects.specs.declared.work.Work.{Work}
use Rattle.node_effects.proofs.GrowthLemmas.{grown_as, grown_then}
use Rattle.node_keeper.specs.Acts.{Acts}
use Rattle.node_keeper.specs.Fitting.{IsSendable}
use Rattle.node_keeper.specs.Objects.{objects_of}
use Rattle.node_keeper.specs.Resending.{AreSent, IsAskedAgain, any_or, asked_again, first_for_all, read_on_here, sendings_of, to_all}
use Rattle.node_keeper.specs.Sendings.{asked, asks_next, sent_growth, to_others}
use Rattle.node_keeper.specs.declared.keeper.Keeper.{Keeper}
use Rattle.node_keeper.proofs.ActLemmas.{acts_more}
use Rattle.node_keeper.proofs.AskedAgainLemmas.{asked_acts}
use Rattle.node_keeper.proofs.BegunLemmas.{sent_acts}
use Rattle.node_keeper.proofs.SendingLemmas.{sent_append}
use Rattle.node_keeper.proofs.RequestCopyLemmas.{all_parts, copied, copied_all, copied_letters, others_addressed}

-- Which request goes to all nodes

-- it asks for the next position
pub first_asks : (asks_all : Bool) (letters : List Letter) →
    IfSome (first_for_all asks_all letters) (λ letter. asks_next letter.message.body ≡ true)
first_asks false letters = tt
first_asks true [] = tt
first_asks true (letter ∷ letters) = go (asks_next letter.message.body) refl
  where
    go : (b : Bool) → asks_next letter.message.body ≡ b →
        IfSome (cond b (Some letter) None) (λ l. asks_next l.message.body ≡ true)
    go true is = is
    go false is = tt

-- it is the first of the letters
pub first_is : (P : Letter → Type 0) (asks_all : Bool) (letters : List Letter) →
    ((letter : Letter) (more : List Letter) → letters ≡ letter ∷ more → P letter) → IfSome (first_for_all asks_all letters) P
first_is P false letters is = tt
first_is P true [] is = tt
first_is P true (letter ∷ letters) is = go (asks_next letter.message.body)
  where
    go : (b : Bool) → IfSome (cond b (Some letter) None) P
    go true = is letter letters refl
    go false = tt

-- It may be sent again

-- requests for the next position have no piece
pub same_requests : (call number position : ℕ) (members : List ℕ) (member : ℕ) (f g : ℕ → Piece) →
    requests call number Next position members member f ≡ requests call number Next position members member g
same_requests call number position [] member f g = refl
same_requests call number position (server ∷ servers) member f g =
    ap (λ (ms : List Message). record {
      call = call;
      phase = number;
      position = position;
      member = member;
      body = body.Request request.Next;
    } ∷ ms) (same_requests call number position servers (suc member) f g)

-- as a call that begins at a position sends its requests again, they ask for pieces just if it is a read
pub asks_at : (kind : CallKind) (position : ℕ) → asks_piece kind (ReadNext position position) ≡ is_read kind
asks_at kind position = ap (λ b. is_read kind && b) (eq-eqb position position refl) ∙ go (is_read kind)
  where
    go : (b : Bool) → (b && true) ≡ b
    go true = refl
    go false = refl

module _ (local : LocalObject) (id : ℕ) where
  -- the first request of a call that goes on belongs to its new phase
  read_first : (call : NodeCall) (layout : Layout) → open_call local.calls id ≡ Some call →
      layout_here local local.start ≡ Some layout →
      let on = reads_at local call (number_at call local.start) local.start (Some layout) in
      (letter : Letter) (more : List Letter) → on.sent ≡ letter ∷ more → IsResent fragment on.local letter
  read_first call layout carries known letter more is =
      let number = number_at call local.start in
      let now = reading_call call number local.start layout in
      let on = reads_at local call number local.start (Some layout) in record {
        id = id;
        call = now;
        carried = found_with now local.calls id call carries
            ∙ ap (λ b. Some (cond b now call)) (eq-eqb id call.id (sym (found_id local.calls id call carries)));
        layout = layout;
        known = known;
        place = 0;
        at = ap (λ b. slice_get (map (letter_of local b layout)
            (requests call.id number Next local.start layout.members 0 (pieces_here fragment layout now))) 0)
            (asks_at call.kind local.start)
            ∙ ap (λ (ms : List Message). slice_get (map (letter_of local (is_read call.kind) layout) ms) 0)
            (same_requests call.id number local.start layout.members 0 _ _) ∙ ap (λ (ls : List Letter). slice_get ls 0) is;
      }

  read_sent : (call : NodeCall) → open_call local.calls id ≡ Some call → (layout : Option Layout) →
      layout_here local local.start ≡ layout → let on = reads_at local call (number_at call local.start) local.start layout in
      (letter : Letter) (more : List Letter) → on.sent ++ [] ≡ letter ∷ more → IsResent fragment on.local letter
  read_sent call carries None known letter more is = absurd (cc)
  read_sent call carries (Some layout) known letter more is =
      read_first call layout carries known letter more (sym (append-nil _) ∙ is)

  on_sent : (found : Option NodeCall) → open_call local.calls id ≡ found →
      let on = on_open_call local found (λ call. reads_here local call (number_at call local.start)) in
      (letter : Letter) (more : List Letter) → on.sent ++ [] ≡ letter ∷ more → IsResent fragment on.local letter
  on_sent None carries letter more is = absurd (cc)
  on_sent (Some call) carries letter more is = read_sent call carries (layout_here local local.start) refl letter more is

  -- so does the first request of a call as it asks again
  on_first : (goes : Bool) → let on = all_done fragment local (cond goes (LocalEvent.ReadOn id ∷ []) []) in
      (letter : Letter) (more : List Letter) → on.sent ≡ letter ∷ more → IsResent fragment on.local letter
  on_first true letter more is = on_sent (open_call local.calls id) refl letter more is
  on_first false letter more is = absurd (cc)

  first_of : (P : Letter → Type 0) (letters : List Letter) → AllByRecursion P letters → (letter : Letter) (more : List Letter) →
      letters ≡ letter ∷ more → P letter
  first_of P letters all letter more is =
      let those : AllByRecursion P (letter ∷ more) = subst (λ ls. AllByRecursion P ls) is all in those.0

  any_first : (P : Letter → Type 0) (first other : List Letter) →
      ((letter : Letter) (more : List Letter) → first ≡ letter ∷ more → P letter) → AllByRecursion P other →
      (letter : Letter) (more : List Letter) → any_or first other ≡ letter ∷ more → P letter
  any_first P [] other is all letter more e = first_of P other all letter more e
  any_first P (x ∷ xs) other is all letter more e = is letter more e

  again_first : (letter : Letter) (more : List Letter) → asked_again local id ≡ letter ∷ more →
      IsResent fragment (read_on_here local id).local letter
  again_first =
      let on = read_on_here local id in
      any_first (IsResent fragment on.local) on.sent (letters_again fragment on.local id)
      (on_first (reads_on local (open_call local.calls id))) (all_resent fragment on.local id)

  -- the request that goes to all nodes may be sent again
  pub first_resent : (asks_all : Bool) →
      IfSome (first_for_all asks_all (asked_again local id)) (IsResent fragment (read_on_here local id).local)
  first_resent asks_all = first_is (IsResent fragment (read_on_here local id).local) asks_all (asked_again local id) again_first

-- A node

-- all that the node's work grew by as requests went out
pub sent_as : (asks_all : Bool) (keeper : Keeper) (name : List ℕ) (letters : List Letter) (before after : Work) →
    AreSent asks_all keeper name letters before after → IsGrown before after
    (sent_growth keeper.ids.node keeper.digest (sendings_of asks_all keeper.ids.node keeper.file name letters))
sent_as asks_all keeper name letters before after sent =
    let n = keeper.ids.node in
    let d = keeper.digest in
    let xs = asked n name letters in
    let ys = to_all n keeper.file name (first_for_all asks_all letters) in
    grown_as before after (both_grown (sent_growth n d xs) (sent_growth n d ys)) (sent_growth n d (xs ++ ys))
    (grown_then before sent.between after (sent_growth n d xs) (sent_growth n d ys) sent.asked sent.all) (sent_append n d xs ys)

-- a request of a call's current phase, if there is one, goes to all nodes of a cluster file
pub all_acts : (asker : ℕ) (keeper : Keeper) (before after : Work) (name : List ℕ) (file : FileContents) (first : Option Letter) →
    IfSome first (IsResent fragment (objects_of keeper.objects name)) →
    IfSome first (λ letter. asks_next letter.message.body ≡ true) →
    IsGrown before after (sent_growth keeper.ids.node keeper.digest (to_all keeper.ids.node file name first)) →
    AllByRecursion (IsSendable keeper.ids.node keeper.digest) (to_all keeper.ids.node file name first) →
    Acts asker [] keeper before keeper after
all_acts asker keeper before after name file None resent asks grown fits =
    sent_acts asker keeper before after name [] [] tt refl tt grown fits
all_acts asker keeper before after name file (Some letter) resent asks grown fits =
    let n = keeper.ids.node in
    let it : NamedLetter = record { name = name; letter = letter } in
    let nodes = file.fixed.nodes ++ file.later in
    sent_acts asker keeper before after name (copied n letter nodes) (to_others n it nodes)
    (copied_all (IsResent fragment (objects_of keeper.objects name)) n letter resent nodes) (copied_letters n name letter nodes)
    (others_addressed n asker [] it asks nodes) grown fits

module _ (asker : ℕ) (old new : Keeper) (before after : Work) (name : List ℕ) (id : ℕ) (again : IsAskedAgain old name id new) where
  -- the object after the call asked again
  after_is : objects_of new.objects name ≡ (read_on_here (objects_of old.objects name) id).local
  after_is =
      let done = again.objects.done in
      done.changed.objects name ∙ own_named (objects_of old.objects) name done.local ∙ done.done.local

  -- a call asks again, and asks all nodes, if it is to
  pub asked_all_acts : (asks_all : Bool) (letters : List Letter) → letters ≡ asked_again (objects_of old.objects name) id →
      AreSent asks_all old name letters before after →
      AllByRecursion (IsSendable old.ids.node old.digest) (sendings_of asks_all old.ids.node old.file name letters) →
      Acts asker [] old before new after
  asked_all_acts asks_all letters are sent fit =
      let node : new.ids.node ≡ old.ids.node = ap (λ (i : CallIds). i.node) again.rest.ids in
      let first = first_for_all asks_all letters in
      let more = to_all old.ids.node old.file name first in
      let fits = all_parts (IsSendable old.ids.node old.digest) (asked old.ids.node name letters) more fit in
      let one : first ≡ first_for_all asks_all (asked_again (objects_of old.objects name) id) =
      ap (λ ls. first_for_all asks_all ls) are in
      let resent : IfSome first (IsResent fragment (objects_of new.objects name)) =
      subst (λ (l : LocalObject). IfSome first (IsResent fragment l)) (sym after_is)
      (subst (λ (o : Option Letter). IfSome o (IsResent fragment (read_on_here (objects_of old.objects name) id).local)) (sym one)
      (first_resent (objects_of old.objects name) id asks_all)) in
      acts_more asker [] old new new before sent.between after
      (asked_acts asker old new before name id again sent.between letters are sent.asked fits.0)
      (all_acts asker new sent.between after name old.file first resent (first_asks asks_all letters)
      (subst (λ n. IsGrown sent.between after (sent_growth n new.digest (to_all n old.file name first))) (sym node)
      (subst (λ d. IsGrown sent.between after (sent_growth old.ids.node d more)) (sym again.rest.digest) sent.all))
      (subst (λ n. AllByRecursion (IsSendable n new.digest) (to_all n old.file name first)) (sym node)
      (subst (λ d. AllByRecursion (IsSendable old.ids.node d) more) (sym again.rest.digest) fits.1)))
