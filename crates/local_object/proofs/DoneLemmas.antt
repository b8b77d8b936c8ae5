-- Events in a row.
use Rattle.std.proofs.Common.{◌≡◌, List, [], ◌∷◌, ◌++◌, append_assoc, refl, sym, subst, ap, ◌∙◌}
use Rattle.encoder.specs.Fragment.{fragment}
use Rattle.letter.specs.declared.letter.Letter.{Letter}
use Rattle.local_object.specs.declared.progress.Ended.{Ended}
use Rattle.local_object.specs.Ended.{all_told, told}
use Rattle.local_object.specs.Events.{LocalEvent, all_done, done_here}
use Rattle.local_object.specs.Going.{IsSomeOutcome}
use Rattle.local_object.specs.Taking.{IsOutcomeWithAnswers}
use Rattle.local_object.specs.Local.{LocalObject}
use Rattle.local_object.specs.May.{MayAllHappen, MayHappenHere}
use Rattle.local_object.proofs.PieceLemmas.{nil_right}

may_append : (local : LocalObject) (es fs : List LocalEvent) → MayAllHappen fragment local es
    → MayAllHappen fragment (all_done fragment local es).local fs → MayAllHappen fragment local (es ++ fs)
may_append local [] fs may later = later
may_append local (e ∷ es) fs may later = (may.0, may_append (done_here fragment local e).local es fs may.1 later)

local_append : (local : LocalObject) (es fs : List LocalEvent)
    → (all_done fragment local (es ++ fs)).local ≡ (all_done fragment (all_done fragment local es).local fs).local
local_append local [] fs = refl
local_append local (e ∷ es) fs = local_append (done_here fragment local e).local es fs

sent_append : (local : LocalObject) (es fs : List LocalEvent)
    → (all_done fragment local (es ++ fs)).sent
    ≡ (all_done fragment local es).sent ++ (all_done fragment (all_done fragment local es).local fs).sent
sent_append local [] fs = refl
sent_append local (e ∷ es) fs =
    let first = done_here fragment local e in
    ap (λ (s : List Letter). first.sent ++ s) (sent_append first.local es fs)
    ∙ sym (append_assoc first.sent (all_done fragment first.local es).sent
    (all_done fragment (all_done fragment first.local es).local fs).sent)

told_append : (local : LocalObject) (es fs : List LocalEvent)
    → all_told fragment local (es ++ fs)
    ≡ all_told fragment local es ++ all_told fragment (all_done fragment local es).local fs
told_append local [] fs = refl
told_append local (e ∷ es) fs =
    let next = (done_here fragment local e).local in
    ap (λ (s : List Ended). told local e ++ s) (told_append next es fs)
    ∙ sym (append_assoc (told local e) (all_told fragment next es) (all_told fragment (all_done fragment next es).local fs))

-- what was done by these events
pub done_by : {old new : LocalObject} {events : List LocalEvent} {letters : List Letter} {ended : List Ended}
    → IsOutcomeWithAnswers old events new letters ended → IsSomeOutcome old new letters ended
done_by {events = events} by = record { events = events; done = by.done; told = by.told }

-- nothing was done
pub by_none : (local new : LocalObject) (letters : List Letter) (ended : List Ended) → new ≡ local → letters ≡ [] → ended ≡ []
    → IsOutcomeWithAnswers local [] new letters ended
by_none local new letters ended same sent told = record {
  done = record { may = tt; local = same; letters = sent };
  told = told;
}

-- one event
pub by_one : (local : LocalObject) (event : LocalEvent) (new : LocalObject) (letters : List Letter) (ended : List Ended)
    → MayHappenHere fragment local event → new ≡ (done_here fragment local event).local
    → letters ≡ (done_here fragment local event).sent → ended ≡ told local event → IsOutcomeWithAnswers local (event ∷ []) new letters ended
by_one local event new letters ended may is sent tells = record {
  done = record { may = (may, tt); local = is; letters = sent ∙ sym (nil_right (done_here fragment local event).sent) };
  told = tells ∙ sym (nil_right (told local event));
}

-- one after another
pub by_then : (a b c : LocalObject) (es fs : List LocalEvent) (letters later : List Letter) (ended more : List Ended)
    → IsOutcomeWithAnswers a es b letters ended → IsOutcomeWithAnswers b fs c later more
    → IsOutcomeWithAnswers a (es ++ fs) c (letters ++ later) (ended ++ more)
by_then a b c es fs letters later ended more first second = record {
  done = record {
    may = may_append a es fs first.done.may (subst (λ (l : LocalObject). MayAllHappen fragment l fs) first.done.local second.done.may);
    local = second.done.local ∙ ap (λ (l : LocalObject). (all_done fragment l fs).local) first.done.local
        ∙ sym (local_append a es fs);
    letters = ap (λ (s : List Letter). s ++ later) first.done.letters
        ∙ ap (λ (s : List Letter). (all_done fragment a es).sent ++ s)
        (second.done.letters ∙ ap (λ (l : LocalObject). (all_done fragment l fs).sent) first.done.local)
        ∙ sym (sent_append a es fs);
  };
  told = ap (λ (s : List Ended). s ++ more) first.told
      ∙ ap (λ (s : List Ended). all_told fragment a es ++ s)
      (second.told ∙ ap (λ (l : LocalObject). all_told fragment l fs) first.done.local)
      ∙ sym (told_append a es fs);
}

-- the same for another description of the object before
pub by_from : {o old : LocalObject} {new : LocalObject} {letters : List Letter} {ended : List Ended}
    (events : LocalObject → List LocalEvent) → o ≡ old → IsOutcomeWithAnswers o (events o) new letters ended
    → IsOutcomeWithAnswers old (events old) new letters ended
by_from {new = new} {letters = letters} {ended = ended} events view done =
    subst (λ (l : LocalObject). IsOutcomeWithAnswers l (events l) new letters ended) view done
