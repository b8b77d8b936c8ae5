-- What a node does with a request has room, whether the node serves it, hears of it or sends it back.
use Rattle.std.proofs.Common.{◌≡◌, suc, ◌+◌, ◌<◌, ◌^◌, ◌&&◌, Bool, true, false, cond, [], ◌∷◌, nat_lt, is_some, ltb-true, refl, arith, ◌++◌}
use Rattle.std.proofs.lemmas.Bool.{and_parts}
use Rattle.letter.specs.declared.letter.Letter.{Letter}
use Rattle.local_object.specs.Doing.{is_member, is_served, serve_events, is_askable, is_sent_back, stray_events}
use Rattle.local_object.specs.Events.{LocalEvent}
use Rattle.local_object.specs.Local.{LocalObject, layout_here}
use Rattle.local_object.specs.Outcomes.{learnt_from}
use Rattle.mail.specs.Message.{is_request}
use Rattle.fitting.specs.Events.{HaveRoom}
use Rattle.fitting.specs.Letters.{IsFitLetter}
use Rattle.fitting.specs.Outcomes.{ServingStaysFit}
use Rattle.fitting.proofs.GoingLemmas.{leave_fit}

stray_room : (old : LocalObject) (letter : Letter) → IsFitLetter letter → suc letter.message.position < 2 ^ 32 → (hears back : Bool) →
    HaveRoom old (cond hears (LocalEvent.Hear letter ∷ []) [] ++ cond back (LocalEvent.Redirect letter ∷ []) [])
stray_room old letter is small true true = ((is, small), (is, tt))
stray_room old letter is small true false = ((is, small), tt)
stray_room old letter is small false true = (is, tt)
stray_room old letter is small false false = tt

pub serving_room : (old : LocalObject) (letter : Letter) → IsFitLetter letter → HaveRoom old (serve_events old letter)
serving_room old letter is = served (is_served old letter) refl
  where
    is_small : nat_lt (letter.message.position + 1) (2 ^ 32) ≡ true → suc letter.message.position < 2 ^ 32
    is_small test = let small = ltb-true (letter.message.position + 1) (2 ^ 32) test in omega (arith, small)

    askable_small : is_askable letter ≡ true → suc letter.message.position < 2 ^ 32
    askable_small asks = is_small (and_parts (is_request letter.message.body) (nat_lt (letter.message.position + 1) (2 ^ 32)) asks).1

    served_small : is_served old letter ≡ true → suc letter.message.position < 2 ^ 32
    served_small serves =
        let small : Bool = nat_lt (letter.message.position + 1) (2 ^ 32) in
        let named : Bool = is_member (layout_here (learnt_from old letter) letter.message.position) letter.message.member old.node in
        is_small (and_parts small named (and_parts (is_request letter.message.body) (small && named) serves).1).0

    asked : (b : Bool) → is_askable letter ≡ b → HaveRoom old (cond b (stray_events old letter) [])
    asked true e = stray_room old letter is (askable_small e) (is_some letter.start) (is_sent_back old letter)
    asked false e = tt

    served : (b : Bool) → is_served old letter ≡ b →
        HaveRoom old (cond b (LocalEvent.Serve letter ∷ []) (cond (is_askable letter) (stray_events old letter) []))
    served true e = ((is, served_small e), tt)
    served false e = asked (is_askable letter) refl

pub serving_fit : ServingStaysFit
serving_fit old letter fit is = leave_fit old (serve_events old letter) fit (serving_room old letter is)
