-- What a node does with a request that it does not serve.
use Rattle.std.proofs.Common.{◌≡◌, ◌+◌, ◌^◌, ◌<◌, ◌&&◌, ◌++◌, Bool, true, false, cond, ltb, is_some, List, [], ◌∷◌}
use Rattle.std.proofs.Common.{refl, sym, subst, ap, ◌∙◌}
use Rattle.std.proofs.lemmas.Bool.{ltb-true}
use Rattle.mail.specs.Message.{is_request}
use Rattle.letter.specs.declared.letter.Letter.{Letter}
use Rattle.local_object.specs.Doing.{IsOutcome, is_askable, is_sent_back, is_served, serve_events, stray_events}
use Rattle.local_object.specs.Events.{LocalEvent, redirected_here}
use Rattle.local_object.specs.Local.{LocalObject}
use Rattle.local_object.specs.Outcomes.{learnt_from}

and_second : (a b : Bool) → (a && b) ≡ true → b ≡ true
and_second true b e = e
and_second false b e = absurd (cc)

-- a request that may be answered has a next position
pub askable_next : (letter : Letter) → is_askable letter ≡ true → letter.message.position + 1 < 2 ^ 32
askable_next letter e =
    ltb-true (letter.message.position + 1) (2 ^ 32)
    (and_second (is_request letter.message.body) (ltb (letter.message.position + 1) (2 ^ 32)) e)

module _ (old : LocalObject) (letter : Letter) (unserved : is_served old letter ≡ false) where
  unserved_events : serve_events old letter ≡ cond (is_askable letter) (stray_events old letter) []
  unserved_events =
      ap (λ b. cond b (LocalEvent.Serve letter ∷ []) (cond (is_askable letter) (stray_events old letter) [])) unserved

  -- what is no request, or has no next position
  pub unasked : is_askable letter ≡ false → (new : LocalObject) → new ≡ old → IsOutcome old (serve_events old letter) new []
  unasked e new same =
      subst (λ events. IsOutcome old events new [])
      (sym (unserved_events ∙ ap (λ b. cond b (stray_events old letter) []) e))
      (record { may = tt; local = same; letters = refl })

  -- what the node keeps after a request that may tell of a start
  abbrev pub after_told : Bool → LocalObject
  after_told told = cond told (learnt_from old letter) old

  abbrev events_by : Bool → Bool → List LocalEvent
  events_by told back = cond told (LocalEvent.Hear letter ∷ []) [] ++ cond back (LocalEvent.Redirect letter ∷ []) []

  module _ (asked : is_askable letter ≡ true) (told : Bool) (told_is : is_some letter.start ≡ told) where
    events_are : (back : Bool) → is_sent_back old letter ≡ back → serve_events old letter ≡ events_by told back
    events_are back back_is =
        unserved_events ∙ ap (λ b. cond b (stray_events old letter) []) asked
        ∙ ap (λ b. events_by b (is_sent_back old letter)) told_is ∙ ap (events_by told) back_is

    -- a request that is dropped
    pub dropped : is_sent_back old letter ≡ false → (new : LocalObject) → new ≡ after_told told
        → IsOutcome old (serve_events old letter) new []
    dropped is new same = subst (λ events. IsOutcome old events new []) (sym (events_are false is)) (go told same)
      where
        go : (b : Bool) → new ≡ after_told b → IsOutcome old (events_by b false) new []
        go true same = record { may = (tt, tt); local = same; letters = refl }
        go false same = record { may = tt; local = same; letters = refl }

    -- a request that comes back
    pub sent_back : is_sent_back old letter ≡ true → (new : LocalObject) → new ≡ after_told told → (sent : Letter)
        → sent ∷ [] ≡ (redirected_here new letter).sent → IsOutcome old (serve_events old letter) new (sent ∷ [])
    sent_back is new same sent sent_is =
        subst (λ events. IsOutcome old events new (sent ∷ [])) (sym (events_are true is))
        (go told same (sent_is ∙ ap (λ (l : LocalObject). (redirected_here l letter).sent) same))
      where
        go : (b : Bool) → new ≡ after_told b → sent ∷ [] ≡ (redirected_here (after_told b) letter).sent
            → IsOutcome old (events_by b true) new (sent ∷ [])
        go true same sent_is = record { may = (tt, (tt, tt)); local = same; letters = sent_is }
        go false same sent_is = record { may = (tt, tt); local = same; letters = sent_is }
