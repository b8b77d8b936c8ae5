-- Which calls are open at an object where only moves are, after the object does again what a log records.
use Rattle.std.proofs.Common.{◌≡◌, ℕ, suc, Bool, true, false, ◌||◌, cond, eqb, eqb-true, not, is_some}
use Rattle.std.proofs.Common.{List, [], ◌∷◌, ◌++◌, Option, None, Some, refl, sym, subst, ap, ◌∙◌}
use Rattle.std.specs.List.{AllByRecursion}
use Rattle.bank.specs.declared.kind.Kind.{Kind}
use Rattle.encoder.specs.Fragment.{fragment}
use Rattle.layout.specs.Layout.{Layout}
use Rattle.letter.specs.declared.letter.Letter.{Letter}
use Rattle.mail.specs.declared.message.Body.{Body}
use Rattle.mail.specs.declared.message.Body.TheVariants as body
use Rattle.record.specs.Legal.{first_stage, is_move}
use Rattle.record.specs.declared.call.CallKind.TheVariants.{Move}
use Rattle.bank.specs.declared.kind.Kind.TheVariants.{Spread}
use Rattle.bank.specs.declared.status.Status.TheVariants.{Pending}
use Rattle.open_calls.specs.OpenCalls.{NodeCall, due_phase, open_call, taking_open, with_open, without_call}
use Rattle.open_calls.proofs.CallsOfNodeLemmas.{differs}
use Rattle.open_calls.proofs.ListLemmas.{all_append}
use Rattle.open_calls.proofs.OpenCallLemmas.{found}
use Rattle.local_object.specs.Doing.{can_close, close_events, has_move_open, is_askable, is_move_call, is_sent_back}
use Rattle.local_object.specs.Doing.{is_served, serve_events, stray_events}
use Rattle.local_object.specs.Events.{LocalEvent, advanced_at, advanced_here, all_done, done_here, served_here, taking_here}
use Rattle.local_object.specs.Outcomes.{Outcome, begun_here, learnt_from, on_open_call, silent}
use Rattle.local_object.specs.Starting.{anew_number, reads_at, reads_here}
use Rattle.local_object.specs.Local.{LocalObject, last_position, layout_here, with_heard}
use Rattle.local_object.proofs.HeardLayoutLemmas.{calls_heard}
use Rattle.local_object.proofs.HeardPlaceLemmas.{layout_stays}
use Rattle.local_object.proofs.LastPositionLemmas.{last_known}

-- whether a call with this id is open here
abbrev pub is_open : LocalObject → (id : ℕ) → Bool
is_open local id = is_some (open_call local.calls id)

-- only moves are open here
abbrev pub HasOnlyMoves : LocalObject → Type 0
HasOnlyMoves local = AllByRecursion (λ (call : NodeCall). is_move call.kind ≡ true) local.calls

-- where only moves were open, only moves are, and under the same ids
abbrev pub KeepsOpen : (old new : LocalObject) → Type 0
KeepsOpen old new = HasOnlyMoves old → HasOnlyMoves new × ((id : ℕ) → is_open new id ≡ is_open old id)

-- where only moves are open, a call that is open is a move
pub open_moves : (local : LocalObject) → HasOnlyMoves local → (id : ℕ) → has_move_open local id ≡ is_open local id
open_moves local all id = go (open_call local.calls id) refl
  where
    go : (o : Option NodeCall) → open_call local.calls id ≡ o → is_move_call o ≡ is_some o
    go None e = refl
    go (Some call) e = (found (λ (call : NodeCall). is_move call.kind ≡ true) local.calls id call all e).0

-- Lists of calls

some_with : (new : NodeCall) (calls : List NodeCall) (id : ℕ) → is_some (open_call (with_open new calls) id) ≡ is_some (open_call calls id)
some_with new [] id = refl
some_with new (first ∷ calls) id = go (eqb first.id new.id) refl (some_with new calls id)
  where
    pick : (f g : NodeCall) (b : Bool) → is_some (open_call (with_open new calls) id) ≡ is_some (open_call calls id) →
        is_some (cond b (Some f) (open_call (with_open new calls) id)) ≡ is_some (cond b (Some g) (open_call calls id))
    pick f g true rest = refl
    pick f g false rest = rest

    go : (b : Bool) → eqb first.id new.id ≡ b → is_some (open_call (with_open new calls) id) ≡ is_some (open_call calls id) →
        is_some (open_call (cond b new first ∷ with_open new calls) id) ≡ is_some (cond (eqb first.id id) (Some first) (open_call calls id))
    go true s rest =
        ap (λ b. is_some (cond b (Some new) (open_call (with_open new calls) id)))
        (ap (λ k. eqb k id) (sym (eqb-true first.id new.id s)))
        ∙ pick new first (eqb first.id id) rest
    go false s rest = pick first first (eqb first.id id) rest

moves_with : (new : NodeCall) (calls : List NodeCall) → is_move new.kind ≡ true →
    AllByRecursion (λ (call : NodeCall). is_move call.kind ≡ true) calls →
    AllByRecursion (λ (call : NodeCall). is_move call.kind ≡ true) (with_open new calls)
moves_with new [] move all = tt
moves_with new (first ∷ calls) move all = (go (eqb first.id new.id), moves_with new calls move all.1)
  where
    go : (b : Bool) → is_move (cond b new first).kind ≡ true
    go true = move
    go false = all.0

-- a call that is removed is found no more
pub none_without : (id : ℕ) (calls : List NodeCall) → is_some (open_call (without_call id calls) id) ≡ false
none_without id [] = refl
none_without id (first ∷ calls) = go (eqb first.id id) refl (none_without id calls)
  where
    go : (b : Bool) → eqb first.id id ≡ b → is_some (open_call (without_call id calls) id) ≡ false →
        is_some (open_call (cond (not b) (first ∷ without_call id calls) (without_call id calls)) id) ≡ false
    go true s rest = rest
    go false s rest = ap (λ b. is_some (cond b (Some first) (open_call (without_call id calls) id))) s ∙ rest

-- and each other is found as before
pub others_without : (id other : ℕ) → (other ≡ id → ⊥) → (calls : List NodeCall) →
    is_some (open_call (without_call id calls) other) ≡ is_some (open_call calls other)
others_without id other apart [] = refl
others_without id other apart (first ∷ calls) = go (eqb first.id id) refl (others_without id other apart calls)
  where
    pick : (b : Bool) → is_some (open_call (without_call id calls) other) ≡ is_some (open_call calls other) →
        is_some (cond b (Some first) (open_call (without_call id calls) other)) ≡ is_some (cond b (Some first) (open_call calls other))
    pick true rest = refl
    pick false rest = rest

    go : (b : Bool) → eqb first.id id ≡ b →
        is_some (open_call (without_call id calls) other) ≡ is_some (open_call calls other) →
        is_some (open_call (cond (not b) (first ∷ without_call id calls) (without_call id calls)) other)
        ≡ is_some (cond (eqb first.id other) (Some first) (open_call calls other))
    go true s rest =
        rest ∙ ap (λ b. is_some (cond b (Some first) (open_call calls other)))
        (sym (differs first.id other (λ same. apart (sym same ∙ eqb-true first.id id s))))
    go false s rest = pick (eqb first.id other) rest

-- a call that is added is found, and each other as before
some_push : (calls : List NodeCall) (new : NodeCall) (id : ℕ) →
    is_some (open_call (calls ++ new ∷ []) id) ≡ (is_some (open_call calls id) || eqb new.id id)
some_push [] new id = go (eqb new.id id)
  where
    go : (b : Bool) → is_some (cond b (Some new) None) ≡ b
    go true = refl
    go false = refl
some_push (first ∷ calls) new id = go (eqb first.id id) (some_push calls new id)
  where
    go : (b : Bool) → is_some (open_call (calls ++ new ∷ []) id) ≡ (is_some (open_call calls id) || eqb new.id id) →
        is_some (cond b (Some first) (open_call (calls ++ new ∷ []) id))
        ≡ (is_some (cond b (Some first) (open_call calls id)) || eqb new.id id)
    go true rest = refl
    go false rest = rest

-- Events

pub keeps_then : (a b c : LocalObject) → KeepsOpen a b → KeepsOpen b c → KeepsOpen a c
keeps_then a b c first second all =
    let one = first all in
    let two = second one.0 in (two.0, λ id. two.1 id ∙ one.1 id)

pub same_keeps : (old new : LocalObject) → new.calls ≡ old.calls → KeepsOpen old new
same_keeps old new same all = (
  subst (λ calls. AllByRecursion (λ (call : NodeCall). is_move call.kind ≡ true) calls) (sym same) all,
  λ id. ap (λ calls. is_some (open_call calls id)) same,
)

with_keeps : (local : LocalObject) (new : NodeCall) → is_move new.kind ≡ true →
    KeepsOpen local (record local { calls = with_open new local.calls })
with_keeps local new move all = (moves_with new local.calls move all, λ id. some_with new local.calls id)

on_open_keeps : (local : LocalObject) (id : ℕ) (change : NodeCall → Outcome) →
    ((call : NodeCall) → is_move call.kind ≡ true → KeepsOpen local (change call).local) →
    KeepsOpen local (on_open_call local (open_call local.calls id) change).local
on_open_keeps local id change each all = go (open_call local.calls id) refl
  where
    go : (o : Option NodeCall) → open_call local.calls id ≡ o → HasOnlyMoves (on_open_call local o change).local
        × ((other : ℕ) → is_open (on_open_call local o change).local other ≡ is_open local other)
    go None e = (all, λ other. refl)
    go (Some call) e = each call (found (λ (call : NodeCall). is_move call.kind ≡ true) local.calls id call all e).0 all

advanced_keeps : (local : LocalObject) (call : NodeCall) → is_move call.kind ≡ true → (o : Option (Kind × ℕ)) →
    KeepsOpen local (advanced_here fragment local call o).local
advanced_keeps local call move None all = (all, λ id. refl)
advanced_keeps local call move (Some due) all = at (layout_here local due.1)
  where
    at : (o : Option Layout) → HasOnlyMoves (advanced_at fragment local call due o).local
        × ((id : ℕ) → is_open (advanced_at fragment local call due o).local id ≡ is_open local id)
    at None = (all, λ id. refl)
    at (Some layout) = with_keeps local _ move all

pub advance_keeps : (local : LocalObject) (id : ℕ) → KeepsOpen local (done_here fragment local (LocalEvent.Advance id)).local
advance_keeps local id =
    on_open_keeps local id (λ call. advanced_here fragment local call (due_phase call))
    (λ call move. advanced_keeps local call move (due_phase call))

-- a call reads at the start, in a phase of any number
reading_keeps : (local : LocalObject) (call : NodeCall) → is_move call.kind ≡ true → (number : ℕ) →
    KeepsOpen local (reads_here local call number).local
reading_keeps local call move number all = at (layout_here local local.start)
  where
    at : (o : Option Layout) → HasOnlyMoves (reads_at local call number local.start o).local
        × ((id : ℕ) → is_open (reads_at local call number local.start o).local id ≡ is_open local id)
    at None = (all, λ id. refl)
    at (Some layout) = with_keeps local _ move all

pub anew_keeps : (local : LocalObject) (id : ℕ) → KeepsOpen local (done_here fragment local (LocalEvent.BeginAnew id)).local
anew_keeps local id =
    on_open_keeps local id (λ call. reads_here local call (anew_number call local.start))
    (λ call move. reading_keeps local call move (anew_number call local.start))

pub settle_keeps : (local : LocalObject) (id : ℕ) (value : List ℕ) →
    KeepsOpen local (done_here fragment local (LocalEvent.Settle id value)).local
settle_keeps local id value =
    on_open_keeps local id (λ call. silent (record local { calls = with_open (record call { settled = Some value }) local.calls }))
    (λ call move. with_keeps local (record call { settled = Some value }) move)

pub take_keeps : (local : LocalObject) (letter : Letter) → KeepsOpen local (done_here fragment local (LocalEvent.Take letter)).local
take_keeps local letter =
    let heard = learnt_from local letter in
    keeps_then local heard (done_here fragment local (LocalEvent.Take letter)).local
    (same_keeps local heard (calls_heard local letter))
    (on_open_keeps heard letter.message.call
    (λ call. silent (taking_here heard call letter.message letter.told))
    (λ call move. with_keeps heard (taking_open letter.message call) move))

served_keeps : (local : LocalObject) (letter : Letter) (b : Body) → KeepsOpen local (served_here local letter b).local
served_keeps local letter (body.Request asked) all = (all, λ id. refl)
served_keeps local letter (body.Reply kind made) all = (all, λ id. refl)

pub serve_keeps : (local : LocalObject) (letter : Letter) → KeepsOpen local (all_done fragment local (serve_events local letter)).local
serve_keeps local letter = go (is_served local letter) (is_askable letter)
  where
    heard : KeepsOpen local (learnt_from local letter)
    heard = same_keeps local (learnt_from local letter) (calls_heard local letter)

    stray : (hears back : Bool) → KeepsOpen local (all_done fragment local
        (cond hears (LocalEvent.Hear letter ∷ []) [] ++ cond back (LocalEvent.Redirect letter ∷ []) [])).local
    stray true true = heard
    stray true false = heard
    stray false true = λ all. (all, λ id. refl)
    stray false false = λ all. (all, λ id. refl)

    go : (served askable : Bool) → KeepsOpen local (all_done fragment local
        (cond served (LocalEvent.Serve letter ∷ []) (cond askable (stray_events local letter) []))).local
    go true askable =
        keeps_then local (learnt_from local letter) (served_here (learnt_from local letter) letter letter.message.body).local
        heard (served_keeps (learnt_from local letter) letter letter.message.body)
    go false true = stray (is_some letter.start) (is_sent_back local letter)
    go false false = λ all. (all, λ id. refl)

-- a bank is closed
pub close_keeps : (local : LocalObject) (position : ℕ) →
    KeepsOpen local (all_done fragment local (close_events local position)).local
close_keeps local position = go (can_close local position)
  where
    go : (b : Bool) → KeepsOpen local (all_done fragment local (cond b (LocalEvent.Close position ∷ []) [])).local
    go true = λ all. (all, λ id. refl)
    go false = λ all. (all, λ id. refl)

-- a move begins, and otherwise the same calls are open
abbrev pub OpensMove : (old : LocalObject) → (id : ℕ) → (new : LocalObject) → Type 0
OpensMove old id new = HasOnlyMoves new × ((other : ℕ) → is_open new other ≡ (is_open old other || eqb id other))

pub move_opens : (local : LocalObject) (first : Layout) → layout_here local 0 ≡ Some first → (id : ℕ) (layout : Layout) →
    HasOnlyMoves local → OpensMove local id (done_here fragment local (LocalEvent.BeginMove id layout)).local
move_opens local first heard id layout all =
    let last = last_position local in
    let next = with_heard local (suc last) layout in
    let here = last_known local (ap is_some heard) in
    subst (λ (o : Option Layout). OpensMove local id (begun_here next id Move (first_stage Move last) (Spread Pending) 1 last o).local)
    (sym (layout_stays local (suc last) layout last here.0 here.1))
    (all_append (λ (call : NodeCall). is_move call.kind ≡ true) local.calls _ all (refl, tt), λ other. some_push local.calls _ other)
