-- What a call does as it asks again is fit: the letters that it sends again, and those of the phase in which it goes on.
use Rattle.std.proofs.Common.{◌≡◌, ℕ, ◌<◌, ◌^◌, ◌&&◌, not, Bool, true, false, cond, List, [], ◌∷◌, nat_lt, Option, Some, None, ltb-true}
use Rattle.std.proofs.Common.{refl, sym, subst, ap, ◌∙◌}
use Rattle.std.specs.List.{AllByRecursion, filter}
use Rattle.std.specs.Prelude.{IfSome}
use Rattle.std.proofs.lemmas.Bool.{and_parts}
use Rattle.call.specs.Call.{OpenCall as Machine}
use Rattle.encoder.specs.Fragment.{fragment}
use Rattle.layout.specs.Layout.{Layout}
use Rattle.letter.specs.declared.letter.Letter.{Letter}
use Rattle.local_object.specs.Coding.{is_sendable}
use Rattle.local_object.specs.Events.{LocalEvent, pieces_here}
use Rattle.local_object.specs.Going.{is_restart, next_here}
use Rattle.local_object.specs.Local.{LocalObject, layout_here}
use Rattle.local_object.specs.ReadingOn.{is_reading, read_on_events, reads_on}
use Rattle.local_object.specs.Resent.{current_letters, letters_again_at, letters_again_of}
use Rattle.local_object.specs.Sent.{asks_piece, due_again}
use Rattle.local_object.specs.Starting.{number_at}
use Rattle.local_object.specs.Taking.{machine_of}
use Rattle.mail.specs.Phase.{has_taken}
use Rattle.open_calls.specs.OpenCalls.{NodeCall, open_call}
use Rattle.open_calls.proofs.OpenCallLemmas.{found}
use Rattle.fitting.specs.Calls.{IsFitCall}
use Rattle.fitting.specs.Events.{HaveRoom}
use Rattle.fitting.specs.Letters.{IsFitLayout, IsFitLetter}
use Rattle.fitting.specs.Objects.{IsFitObject}
use Rattle.fitting.specs.Outcomes.{ReadingOnStaysFit, ResentIsFit}
use Rattle.fitting.proofs.RequestLemmas.{knows_fit, pieces_fit, requests_fit}
use Rattle.fitting.proofs.KnownLemmas.{known_fit, known_small}
use Rattle.fitting.proofs.GoingLemmas.{leave_fit}

-- Letters that are sent again

some_left : (test : Letter → Bool) (letters : List Letter) → AllByRecursion IsFitLetter letters →
    AllByRecursion IsFitLetter (filter test letters)
some_left test [] all = tt
some_left test (letter ∷ letters) all = go (test letter) (some_left test letters all.1)
  where
    go : (b : Bool) → AllByRecursion IsFitLetter (filter test letters) →
        AllByRecursion IsFitLetter (cond b (letter ∷ filter test letters) (filter test letters))
    go true rest = (all.0, rest)
    go false rest = rest

due_left : (call : Machine) (letters : List Letter) → AllByRecursion IsFitLetter letters →
    AllByRecursion IsFitLetter (due_again call letters)
due_left call letters all = go (is_restart (next_here call))
  where
    left : List Letter
    left = filter (λ letter. not (has_taken call.phase.replies letter.message.member)) letters

    go : (b : Bool) → AllByRecursion IsFitLetter (cond b letters left)
    go true = all
    go false = some_left (λ letter. not (has_taken call.phase.replies letter.message.member)) letters all

again_at : (local : LocalObject) (call : NodeCall) (o : Option Layout) → IsFitObject local → IsFitCall local.places call →
    layout_here local call.phase.position ≡ o → AllByRecursion IsFitLetter (letters_again_at fragment local call o)
again_at local call None fit is known = tt
again_at local call (Some layout) fit is known = go (is_sendable call.phase.kind (machine_of call)) refl
  where
    q : ℕ
    q = call.phase.position

    lawful : IsFitLayout layout
    lawful = subst (λ (l : Option Layout). IfSome l IsFitLayout) known (known_fit local fit q)

    go : (b : Bool) → is_sendable call.phase.kind (machine_of call) ≡ b →
        AllByRecursion IsFitLetter (cond b (due_again (machine_of call) (current_letters fragment local call layout)) [])
    go true can =
        due_left (machine_of call) (current_letters fragment local call layout)
        (requests_fit local (knows_fit local fit) (asks_piece call.kind call.stage) layout call.id call.phase.number call.phase.kind q
        (pieces_here fragment layout call) lawful is.id is.number
        (known_small local fit q layout known) is.kind is.next (pieces_fit layout call call.phase.kind lawful can))
    go false can = tt

pub resent_fit : ResentIsFit
resent_fit local id fit = go (open_call local.calls id) refl
  where
    go : (o : Option NodeCall) → open_call local.calls id ≡ o → AllByRecursion IsFitLetter (letters_again_of fragment local o)
    go None e = tt
    go (Some call) e =
        again_at local call (layout_here local call.phase.position) fit
        (found (IsFitCall local.places) local.calls id call fit.calls e).0 refl

-- Calls that go on at the object's start

pub read_on_room : (local : LocalObject) (id : ℕ) → HaveRoom local (read_on_events local id)
read_on_room local id = room (reads_on local (open_call local.calls id)) refl
  where
    small : (call : NodeCall) → reads_on local (Some call) ≡ true → number_at call local.start < 2 ^ 32
    small call on =
        let before : Bool = nat_lt call.phase.position local.start in
        let room : Bool = nat_lt (number_at call local.start) (2 ^ 32) in
        let rest = (and_parts (is_reading local.places (machine_of call)) (before && room) on).1 in
        ltb-true (number_at call local.start) (2 ^ 32) (and_parts before room rest).1

    number : (call : NodeCall) → open_call local.calls id ≡ Some call → reads_on local (open_call local.calls id) ≡ true →
        number_at call local.start < 2 ^ 32
    number call here on = small call (ap (reads_on local) (sym here) ∙ on)

    room : (b : Bool) → reads_on local (open_call local.calls id) ≡ b → HaveRoom local (cond b (LocalEvent.ReadOn id ∷ []) [])
    room true on = (λ call here. number call here on, tt)
    room false on = tt

pub reading_on_fit : ReadingOnStaysFit
reading_on_fit old id fit = leave_fit old (read_on_events old id) fit (read_on_room old id)
