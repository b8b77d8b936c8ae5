-- Replies that calls take.
use Rattle.std.proofs.Common.{◌≡◌, ◌+◌, ◌^◌, ◌&&◌, Bool, true, false, cond, ltb, is_some, [], refl, sym, ap, ◌∙◌}
use Rattle.bank.specs.declared.kind.Kind.{Kind}
use Rattle.encoder.specs.Fragment.{fragment}
use Rattle.bank.specs.declared.reply.Reply.{Reply}
use Rattle.mail.specs.declared.message.Body.{Body}
use Rattle.mail.specs.declared.message.Body.TheVariants as body
use Rattle.open_calls.specs.OpenCalls.{open_call}
use Rattle.std.proofs.Common.{ℕ, List, ◌∷◌, ◌++◌, Option, Some, inl, inr, subst}
use Rattle.letter.specs.declared.letter.Letter.{Letter}
use Rattle.local_object.specs.declared.progress.Ended.{Ended}
use Rattle.local_object.specs.Doing.{is_taken}
use Rattle.mail.specs.Message.{is_request}
use Rattle.local_object.specs.Events.{LocalEvent, all_done, taking_here}
use Rattle.local_object.specs.Outcomes.{learnt_from}
use Rattle.local_object.specs.Going.{taken_here}
use Rattle.local_object.specs.EarlyEnds.{CanEndEarly, EndedIf}
use Rattle.local_object.specs.Querying.{query_events}
use Rattle.local_object.specs.Replies.{IsReplyOutcome, taking_events}
use Rattle.local_object.specs.Taking.{AreSettling, IsOutcomeWithAnswers, SettlesFetched, going_events, grow_events}
use Rattle.local_object.specs.Taking.{lead_events, repeats}
use Rattle.local_object.specs.Local.{LocalObject}
use Rattle.local_object.proofs.DoneLemmas.{by_none, by_one, by_then}
use Rattle.local_object.proofs.OpenLemmas.{silent_sent}

not_request : (b c : Bool) → cond b false c ≡ true → b ≡ false
not_request true c e = absurd (cc)
not_request false c e = refl

reply_of : (b : Body) → is_request b ≡ false → (kind : Kind) × (made : Reply) × (b ≡ body.Reply kind made)
reply_of (body.Request asked) e = absurd (cc)
reply_of (body.Reply kind made) e = (kind, made, refl)

pub take_by : (old : LocalObject) (letter : Letter) (mid new : LocalObject) → is_taken old letter ≡ true
    → mid ≡ learnt_from old letter → new ≡ (taken_here mid letter.message letter.told).local
    → IsOutcomeWithAnswers old (LocalEvent.Take letter ∷ []) new [] []
take_by old letter mid new taken learnt is =
    let next = learnt_from old letter in
    by_one old (LocalEvent.Take letter) new [] []
    (reply_of letter.message.body
    (not_request (is_request letter.message.body)
    (ltb (letter.message.position + 1) (2 ^ 32) && is_some (open_call old.calls letter.message.call)) taken))
    (is ∙ ap (λ (l : LocalObject). (taken_here l letter.message letter.told).local) learnt)
    (sym (silent_sent next (open_call next.calls letter.message.call)
    (λ call. taking_here next call letter.message letter.told))) refl

pub taken_by : (local : LocalObject) (letter : Letter) (kind : Kind) (made : Reply) (r : Bool) → letter.message.body ≡ body.Reply kind made
    → ltb (letter.message.position + 1) (2 ^ 32) ≡ true → r ≡ is_some (open_call local.calls letter.message.call)
    → r ≡ is_taken local letter
taken_by local letter kind made r is next open_is =
    let open_here = is_some (open_call local.calls letter.message.call) in
    open_is ∙ sym (ap (λ b. b && open_here) next)
    ∙ sym (ap (λ b. cond (is_request b) false (ltb (letter.message.position + 1) (2 ^ 32) && open_here)) is)

-- a letter that no call takes
pub taken_none : (old : LocalObject) (letter : Letter) (new : LocalObject) (letters : List Letter) (ended : List Ended)
    → false ≡ is_taken old letter → new ≡ old → letters ≡ [] → ended ≡ []
    → IsReplyOutcome (is_taken old letter) old letter new letters ended
taken_none old letter new letters ended taken same sent tells =
    subst (λ b. IsReplyOutcome b old letter new letters ended) taken (by_none old new letters ended same sent tells)

-- what was done after a reply was taken
module _ {old mid asked settled grown new : LocalObject} {letter : Letter} {letters : List Letter} {ended : List Ended}
    (again : Bool) (first : IsOutcomeWithAnswers old (LocalEvent.Take letter ∷ []) mid [] [])
    (query : IsOutcomeWithAnswers mid (query_events mid letter.message.call) asked [] [])
    (second : SettlesFetched asked letter.message.call settled)
    (third : IsOutcomeWithAnswers settled (grow_events settled letter.message.call) grown [] [])
    (fourth : IsOutcomeWithAnswers grown (lead_events again grown letter.message.call) new letters ended) where
  -- the call takes the reply, and its first reading stands for its query, if it does
  taking : IsOutcomeWithAnswers old (taking_events old letter) asked [] []
  taking =
      subst (λ (l : LocalObject). IsOutcomeWithAnswers old (LocalEvent.Take letter ∷ query_events l letter.message.call) asked [] [])
      first.done.local
      (by_then old mid asked (LocalEvent.Take letter ∷ []) (query_events mid letter.message.call) [] [] [] [] first query)

  both : IsOutcomeWithAnswers old (taking_events old letter ++ second.events) settled [] []
  both = by_then old asked settled (taking_events old letter) second.events [] [] [] [] taking second.done

  -- the start grows, and then the call goes on
  going : IsOutcomeWithAnswers settled (going_events again settled letter.message.call) new letters ended
  going =
      subst (λ (l : LocalObject). IsOutcomeWithAnswers settled
      (grow_events settled letter.message.call ++ lead_events again l letter.message.call) new letters ended)
      third.done.local
      (by_then settled grown new (grow_events settled letter.message.call) (lead_events again grown letter.message.call) [] letters []
      ended third fourth)

  pub all_by : IsOutcomeWithAnswers old
      (taking_events old letter ++ second.events ++ going_events again settled letter.message.call) new letters ended
  all_by =
      by_then old settled new (taking_events old letter ++ second.events) (going_events again settled letter.message.call) [] letters []
      ended both going

  pub goes_on : is_taken old letter ≡ true → again ≡ repeats old letter
      → ((returned : Option (List ℕ)) → CanEndEarly mid letter.message.call returned → ⊥)
      → IsReplyOutcome (is_taken old letter) old letter new letters ended
  goes_on taken repeated waits =
      subst (λ b. IsReplyOutcome b old letter new letters ended) (sym taken) (inr (record {
        waits = subst (λ (l : LocalObject). (returned : Option (List ℕ)) → CanEndEarly l letter.message.call returned → ⊥)
            first.done.local waits;
        settling = second.events;
        settles = subst (λ (l : LocalObject). AreSettling l letter.message.call second.events) taking.done.local second.settles;
        leads = subst (λ (b : Bool). IsOutcomeWithAnswers old
            (taking_events old letter ++ second.events ++ going_events b (all_done fragment old
            (taking_events old letter ++ second.events)).local letter.message.call) new letters ended) repeated
            (subst (λ (l : LocalObject). IsOutcomeWithAnswers old
            (taking_events old letter ++ second.events ++ going_events again l letter.message.call) new letters ended)
            both.done.local all_by);
      }))

-- a call that took a reply ended early
module _ {old mid new : LocalObject} {letter : Letter} {ended : Ended}
    (first : IsOutcomeWithAnswers old (LocalEvent.Take letter ∷ []) mid [] [])
    (early : EndedIf mid letter.message.call new (Some ended)) where
  abbrev both_events : List LocalEvent
  both_events = LocalEvent.Take letter ∷ LocalEvent.EndEarly letter.message.call early.0 ∷ []

  pub both_done : (letters : List Letter) (told : List Ended) → letters ≡ [] → told ≡ ended ∷ []
      → IsOutcomeWithAnswers old both_events new letters told
  both_done letters told none tells =
      subst (λ t. IsOutcomeWithAnswers old both_events new letters t) (sym tells)
      (subst (λ ls. IsOutcomeWithAnswers old both_events new ls (ended ∷ [])) (sym none)
      (by_then old mid new (LocalEvent.Take letter ∷ []) (LocalEvent.EndEarly letter.message.call early.0 ∷ []) [] [] []
      (ended ∷ []) first early.2))

  pub ends_early : (letters : List Letter) (told : List Ended) → letters ≡ [] → told ≡ ended ∷ [] → is_taken old letter ≡ true
      → IsReplyOutcome (is_taken old letter) old letter new letters told
  ends_early letters told none tells taken =
      subst (λ b. IsReplyOutcome b old letter new letters told) (sym taken) (inl (record {
        returned = early.0;
        can = subst (λ (l : LocalObject). CanEndEarly l letter.message.call early.0) first.done.local early.1;
        done = both_done letters told none tells;
      }))
