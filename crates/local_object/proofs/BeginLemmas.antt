-- Calls that begin.
use Rattle.std.proofs.Common.{◌≡◌, ◌≢◌, ℕ, suc, ◌+◌, ◌^◌, ◌||◌, Bool, true, false, cond, eqb, ltb, is_some, List, [], ◌∷◌, length}
use Rattle.std.proofs.Common.{Option, Some, None}
use Rattle.std.proofs.Common.{IsSome, Result, Ok, Err, IfOk, IfErr, OnOk, ◌<◌, get_or, leb, refl, sym, subst, ap, ◌∙◌, inr, eq-eqb, arith}
use Rattle.std.specs.List.{AllByRecursion, list_any}
use Rattle.tag.specs.Refusal.{IsByCause}
use Rattle.tag.specs.declared.refusal.Refusal.{Refusal}
use Rattle.tag.specs.declared.refusal.Refusal.TheVariants.{NoMemory, NotNow, MovePending, Full}
use Rattle.layout.specs.Layout.{Layout, IsLawful}
use Rattle.tag.specs.declared.limits.TheConstants.{LONGEST_VALUE}
use Rattle.bank.specs.declared.kind.Kind.TheVariants.{Next, Spread}
use Rattle.bank.specs.declared.status.Status.TheVariants.{Pending}
use Rattle.record.specs.declared.stage.Stage.TheVariants.{MoveSpread, ReadBegin}
use Rattle.record.specs.Fragments.{AreBytes, IsValue}
use Rattle.record.specs.PhaseOrder.{begun_at}
use Rattle.record.specs.declared.call.CallKind.{CallKind}
use Rattle.record.specs.declared.call.CallKind.TheVariants.{Read, Write, Move}
use Rattle.record.specs.Legal.{is_move}
use Rattle.call.specs.Call.{OpenCall as Machine}
use Rattle.encoder.specs.Fragment.{fragment}
use Rattle.open_calls.specs.OpenCalls.{NodeCall, open_call}
use Rattle.letter.specs.declared.letter.Letter.{Letter}
use Rattle.local_object.specs.Codes.{at_node, carried}
use Rattle.local_object.specs.Distinct.{HaveOtherIds, HaveDistinctIds, IsCallAt}
use Rattle.local_object.specs.Doing.{IsOutcome, is_moving, move_refusal}
use Rattle.local_object.specs.Events.{LocalEvent, called_here, done_here, moving_here}
use Rattle.local_object.specs.Outcomes.{Outcome, begun_here}
use Rattle.local_object.specs.Local.{LocalObject, Place, added_place, last_position, layout_here, layout_in, with_heard, heard_place}
use Rattle.local_object.specs.May.{MayHappenHere}
use Rattle.local_object.specs.Starting.{first_number}
use Rattle.std.proofs.lemmas.Bool.{leb-true}
use Rattle.local_object.proofs.CarriedCallLemmas.{open_at}
use Rattle.local_object.proofs.PieceLemmas.{nil_right}
use Rattle.local_object.proofs.PlaceLemmas.{known_pushed}

-- where no call is found by an id, none has it
pub others_of : (node : ℕ) (calls : List Machine) (id : ℕ) → open_call (carried node calls) id ≡ None → HaveOtherIds id calls
others_of node [] id none = tt
others_of node (c ∷ cs) id none = go (eqb c.id id) refl none (λ rest. others_of node cs id rest)
  where
    go : (b : Bool) → eqb c.id id ≡ b → cond b (Some (at_node node c)) (open_call (carried node cs) id) ≡ None
        → (open_call (carried node cs) id ≡ None → HaveOtherIds id cs) → (c.id ≢ id) × HaveOtherIds id cs
    go true t none rest = absurd (cc)
    go false t none rest = (λ e. absurd (let h : eqb c.id id ≡ true = eq-eqb c.id id e in cc), rest none)

-- a call that is at an index is found
pub open_found : (node : ℕ) (calls : List Machine) (id index : ℕ) → HaveDistinctIds calls → (at : IsCallAt calls id index)
    → open_call (carried node calls) id ≡ Some (at_node node at.call)
open_found node calls id index distinct at =
    subst (λ n. open_call (carried node calls) n ≡ Some (at_node node at.call)) at.named
    (open_at node calls index at.call distinct.distinct at.there)

-- where there is no other cause, memory alone is wanting
pub for_memory : {T : Type 0} (cause : Option Refusal) (r : Result T Refusal) → cause ≡ None → IfErr r (λ e. e ≡ NoMemory)
    → IsByCause cause r
for_memory cause (Ok x) none memory = none
for_memory cause (Err e) none memory = inr (none, memory)

-- one event alone
pub one_done : (old : LocalObject) (event : LocalEvent) (new : LocalObject) (sent : List Letter) → MayHappenHere fragment old event
    → new ≡ (done_here fragment old event).local → sent ≡ (done_here fragment old event).sent → IsOutcome old (event ∷ []) new sent
one_done old event new sent may local letters = record {
  may = (may, tt);
  local = local;
  letters = letters ∙ sym (nil_right (done_here fragment old event).sent);
}

-- whether one of the calls is a move
pub no_move : (calls : List NodeCall) → list_any (λ (call : NodeCall). is_move call.kind) calls ≡ false
    → AllByRecursion (λ (call : NodeCall). call.kind ≢ Move) calls
no_move [] none = tt
no_move (c ∷ cs) none = go (is_move c.kind) refl none (λ rest. no_move cs rest)
  where
    go : (b : Bool) → is_move c.kind ≡ b → (b || list_any (λ (call : NodeCall). is_move call.kind) cs) ≡ false
        → (list_any (λ (call : NodeCall). is_move call.kind) cs ≡ false → AllByRecursion (λ (call : NodeCall). call.kind ≢ Move) cs)
        → (c.kind ≢ Move) × AllByRecursion (λ (call : NodeCall). call.kind ≢ Move) cs
    go true t none rest = absurd (cc)
    go false t none rest =
        (λ e. absurd (let h : is_move c.kind ≡ true = ap is_move e in cc), rest none)

pub any_carried : (node : ℕ) (calls : List Machine)
    → list_any (λ (call : Machine). is_move call.kind) calls ≡ list_any (λ (call : NodeCall). is_move call.kind) (carried node calls)
any_carried node [] = refl
any_carried node (c ∷ cs) = ap (λ b. is_move c.kind || b) (any_carried node cs)

-- why a move is refused
module _ (old : LocalObject) (id : ℕ) (new : open_call old.calls id ≡ None) where
  move_by : (moving room : Bool) → is_moving old ≡ moving → ltb (last_position old + 2) (2 ^ 32) ≡ room
      → move_refusal old id ≡ cond moving (Some MovePending) (cond room None (Some Full))
  move_by moving room moving_is room_is =
      ap (λ (o : Option NodeCall). cond (is_some o) (Some NotNow)
      (cond (is_moving old) (Some MovePending) (cond (ltb (last_position old + 2) (2 ^ 32)) None (Some Full)))) new
      ∙ ap (λ m. cond m (Some MovePending) (cond (ltb (last_position old + 2) (2 ^ 32)) None (Some Full))) moving_is
      ∙ ap (λ r. cond moving (Some MovePending) (cond r None (Some Full))) room_is

  pub move_pending : is_moving old ≡ true → move_refusal old id ≡ Some MovePending
  move_pending moving = move_by true (ltb (last_position old + 2) (2 ^ 32)) moving refl

  pub move_full : is_moving old ≡ false → ltb (last_position old + 2) (2 ^ 32) ≡ false → move_refusal old id ≡ Some Full
  move_full still room = move_by false false still room

  pub move_none : is_moving old ≡ false → ltb (last_position old + 2) (2 ^ 32) ≡ true → move_refusal old id ≡ None
  move_none still room = move_by false true still room

-- a position that is known stays known
pub known_added : (places : List Place) (o : Option Place) (m : ℕ) (layout : Layout) (n : ℕ) → IsSome (layout_in (heard_place places n))
    → IsSome (layout_in (heard_place (added_place places o m layout) n))
known_added places None m layout n known = known_pushed places (record { position = m; layout = layout; bank = None }) n known
known_added places (Some p) m layout n known = known

-- a move that begins
abbrev pub move_begun : LocalObject → (id : ℕ) → (last : ℕ) → Outcome
move_begun m id last = begun_here m id Move (MoveSpread last) (Spread Pending) 1 last (layout_here m last)

module _ {o old : LocalObject} (view : o ≡ old) (id : ℕ) {last : ℕ} (layout : Layout) {places : List Place}
    (last_is : last ≡ last_position old)
    (learnt_is : places ≡ added_place o.places (heard_place o.places (last + 1)) (last + 1) layout) where
  last_here : last ≡ last_position o
  last_here = last_is ∙ ap (λ (l : LocalObject). last_position l) (sym view)

  mid_is : record o { places = places } ≡ with_heard o (suc (last_position o)) layout
  mid_is =
      ap (λ (ps : List Place). record o { places = ps })
      (learnt_is
      ∙ ap (λ n. added_place o.places (heard_place o.places n) n layout)
      (let e : last + 1 ≡ suc (last_position o) = omega (arith, last_here) in e))

  begun_is : move_begun (record o { places = places }) id last ≡ moving_here o id layout
  begun_is = ap (λ m. move_begun m id last) mid_is ∙ ap (move_begun (with_heard o (suc (last_position o)) layout) id) last_here

  pub move_done : IsLawful layout → is_moving old ≡ false → (new : LocalObject) (sent : List Letter)
      → new ≡ (move_begun (record o { places = places }) id last).local
      → sent ≡ (move_begun (record o { places = places }) id last).sent → IsOutcome old (LocalEvent.BeginMove id layout ∷ []) new sent
  move_done lawful still new sent local letters =
      subst (λ (l : LocalObject). IsOutcome l (LocalEvent.BeginMove id layout ∷ []) new sent) view
      (one_done o (LocalEvent.BeginMove id layout) new sent
      (lawful, no_move o.calls (ap (λ (l : LocalObject). is_moving l) view ∙ still))
      (local ∙ ap (λ (t : Outcome). t.local) begun_is) (letters ∙ ap (λ (t : Outcome). t.sent) begun_is))

-- what holds of a result, by two things that do
pub ok_both : {T E : Type 0} (r : Result T E) {P : Type 0} {Q R : T → Type 0} → OnOk r P → IfOk r Q → ((x : T) → P → Q x → R x) → IfOk r R
ok_both (Ok x) p q both = both x p q
ok_both (Err e) p q both = q

-- a read or a write that begins at the start
pub start_begun : (old : LocalObject) (id : ℕ) (kind : CallKind) (number start : ℕ) → number ≡ first_number start → start ≡ old.start
    → begun_here old id kind (begun_at ReadBegin start) Next number start (layout_here old start) ≡ called_here old id kind
start_begun old id kind number start number_is start_is =
    ap (λ n. begun_here old id kind (begun_at ReadBegin start) Next n start (layout_here old start)) number_is
    ∙ ap (λ s. begun_here old id kind (begun_at ReadBegin s) Next (first_number s) s (layout_here old s)) start_is

-- a read that begins
pub read_done : (o : LocalObject) (id : ℕ) → IsSome (layout_here o o.start) → (new : LocalObject) (sent : List Letter)
    → new ≡ (called_here o id Read).local → sent ≡ (called_here o id Read).sent → IsOutcome o (LocalEvent.BeginRead id ∷ []) new sent
read_done o id known new sent local letters = one_done o (LocalEvent.BeginRead id) new sent known local letters

-- a write that begins
pub write_done : (o : LocalObject) (id : ℕ) (value : List ℕ) → IsSome (layout_here o o.start) → IsValue value
    → (new : LocalObject) (sent : List Letter) → new ≡ (called_here o id (Write value)).local
    → sent ≡ (called_here o id (Write value)).sent → IsOutcome o (LocalEvent.BeginWrite id value ∷ []) new sent
write_done o id value known is_value new sent local letters =
    one_done o (LocalEvent.BeginWrite id value) new sent (known, is_value) local letters

pub bytes_at : (xs : List ℕ) → ((i : ℕ) → get_or xs i 0 < 256) → AreBytes xs
bytes_at [] at = tt
bytes_at (x ∷ xs) at = (at 0, bytes_at xs (λ i. at (suc i)))

pub value_is : (value read : List ℕ) (b : Bool) → AreBytes read → b ≡ leb (length read) LONGEST_VALUE → b ≡ true → read ≡ value
    → IsValue value
value_is value read b bytes short is same =
    subst IsValue same (bytes, leb-true (length read) LONGEST_VALUE (sym short ∙ is))
