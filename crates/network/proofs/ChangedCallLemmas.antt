-- A world follows the record still where one call is changed in both.
use Rattle.std.proofs.Common.{◌≡◌, ℕ, zero, suc, Bool, true, false, cond, eqb, ◌⊎◌, List, [], ◌∷◌, map, set, Some, None, arith}
use Rattle.std.proofs.Common.{refl, sym, subst, ap, ◌∙◌, inl, inr, slice_get, eqb-true, eq-eqb}
use Rattle.std.proofs.lemmas.Option.{same_Some}
use Rattle.layout.specs.Layout.{Layout}
use Rattle.bank.specs.Bank.{Bank}
use Rattle.mail.specs.declared.message.Message.{Message}
use Rattle.record.specs.declared.call.CallKind.TheVariants.{Move}
use Rattle.record.specs.Journals.{entry_of}
use Rattle.record.specs.declared.call.Entry.{Entry}
use Rattle.record.specs.Records.{Call, Object}
use Rattle.soundness.proofs.ListLemmas.{get_set, set_there}
use Rattle.soundness.proofs.Sound.ChangedCallLemmas.{Others, moves_set}
use Rattle.network.specs.Unstamped.{unstamped_message}
use Rattle.network.specs.Worlds.{World}
use Rattle.open_calls.specs.OpenCalls.{NodeCall, open_call, with_open}
use Rattle.network.specs.Following.{Follows, IsOpenIn, IsOpenMove}
use Rattle.open_calls.proofs.OpenCallLemmas.{all_with, found_with}

-- the record with a call changed, and other mail
abbrev pub with_new : Object → List Message → (index : ℕ) → Call → Object
with_new object mail index new = Others object mail (set object.calls index new)

-- the entry of a call, which its id names
abbrev pub own_entry : Call → Entry
own_entry call = entry_of call.id call

-- a call is open, too, where the record has other mail, banks and layouts
pub still_open : (object : Object) (layouts : List Layout) (banks : List (List Bank)) (mail : List Message) (carried : NodeCall) →
    IsOpenIn object carried → IsOpenIn (record object { layouts = layouts; banks = banks; mail = mail }) carried
still_open object layouts banks mail carried is = record {
  index = is.index;
  call = is.call;
  at = is.at;
  id = is.id;
  kind = is.kind;
  settled = is.settled;
  unanswered = is.unanswered;
  earlier = is.earlier;
  last = is.last;
  phases = is.phases;
  phase = is.phase;
  stage = is.stage;
}

-- the entries of calls of which one is changed, but not its entry
pub entries_set : (calls : List Call) (index : ℕ) (old new : Call) → slice_get calls index ≡ Some old →
    own_entry new ≡ own_entry old → map own_entry (set calls index new) ≡ map own_entry calls
entries_set [] index old new at same = refl
entries_set (call ∷ calls) zero old new at same =
    ap (λ e. e ∷ map own_entry calls) (same ∙ ap own_entry (sym (same_Some call old at)))
entries_set (call ∷ calls) (suc index) old new at same = ap (λ l. own_entry call ∷ l) (entries_set calls index old new at same)

-- another call than the changed one
pub other_open : (object : Object) (mail : List Message) (index : ℕ) (old new : Call) (changed : ℕ) → changed ≡ old.id →
    slice_get object.calls index ≡ Some old → new.kind ≡ old.kind → (other : NodeCall) → eqb other.id changed ≡ false →
    IsOpenIn object other → IsOpenIn (with_new object mail index new) other
other_open object mail index old new changed id at kind other differs is = grind (arith, eq-eqb, moves_set, same_Some, set_there)

-- the world with a call changed, with other messages, one event later
abbrev pub with_one : World → NodeCall → List Message → World
with_one world new sent = record world { calls = with_open new world.calls; sent = sent; now = suc world.now }

module _ (world : World) (old new : NodeCall) (found : open_call world.calls new.id ≡ Some old) (kind : new.kind ≡ old.kind)
    (node : new.node ≡ old.node) where
  same_found : (id : ℕ) (carried : NodeCall) → open_call world.calls id ≡ Some carried → eqb id new.id ≡ true →
      carried ≡ old
  same_found id carried at equal =
      same_Some carried old (sym at ∙ ap (open_call world.calls) (eqb-true id new.id equal) ∙ found)

  -- a move that is open stays open
  pub move_with : (sent : List Message) (id : ℕ) → IsOpenMove world id → IsOpenMove (with_one world new sent) id
  move_with sent id move = record {
    carried = cond (eqb id new.id) new move.carried;
    found = found_with new world.calls id move.carried move.found;
    kind = is_move (eqb id new.id) refl;
    node = is_there (eqb id new.id) refl;
  }
    where
      is_move : (b : Bool) → eqb id new.id ≡ b → (cond b new move.carried).kind ≡ Move
      is_move true e = kind ∙ ap (λ (c : NodeCall). c.kind) (sym (same_found id move.carried move.found e)) ∙ move.kind
      is_move false e = move.kind

      is_there : (b : Bool) → eqb id new.id ≡ b → (cond b new move.carried).node ≡ (world.files 0).mover
      is_there true e = node ∙ ap (λ (c : NodeCall). c.node) (sym (same_found id move.carried move.found e)) ∙ move.node
      is_there false e = move.node

-- a call is changed in the world and in the record, but not its kind, its node, its answer and its entry
pub changed_follow : (world : World) (object : Object) (old new : NodeCall) (is : IsOpenIn object old) (call : Call)
    (mail sent : List Message) → Follows world object → open_call world.calls new.id ≡ Some old → new.id ≡ old.id →
    new.kind ≡ old.kind → new.node ≡ old.node → call.kind ≡ is.call.kind →
    own_entry call ≡ own_entry is.call → map unstamped_message mail ≡ sent →
    IsOpenIn (with_new object mail is.index call) new → Follows (with_one world new sent) (with_new object mail is.index call)
changed_follow world object old new is call mail sent follows found id kind node same_kind entry posted carried = record {
  one = follows.one;
  delta = follows.delta;
  layouts = follows.layouts;
  banks = follows.banks;
  sent = posted;
  history = entries_set object.calls is.index is.call call is.at entry ∙ follows.history;
  calls = all_with (IsOpenIn object) (IsOpenIn (with_new object mail is.index call)) new world.calls follows.calls carried
      (λ other differs open_other.
      other_open object mail is.index is.call call new.id (id ∙ is.id) is.at same_kind other differs open_other);
  moves = λ index other at move none.
      move_with world old new found kind node sent other.id (was_move index other move none
      (get_set object.calls is.index index is.call call other is.at at));
  kept = follows.kept;
}
  where
    was_move : (index : ℕ) (other : Call) → other.kind ≡ Move → other.answered ≡ None →
        ((index ≡ is.index) × (call ≡ other)) ⊎ (slice_get object.calls index ≡ Some other) → IsOpenMove world other.id
    was_move index other move none (inl here) =
        subst (IsOpenMove world) (sym (ap (λ (e : Entry). e.call) entry) ∙ ap (λ (c : Call). c.id) here.1)
        (follows.moves is.index is.call is.at (sym same_kind ∙ ap (λ (c : Call). c.kind) here.1 ∙ move) is.unanswered)
    was_move index other move none (inr there) = follows.moves index other there move none
