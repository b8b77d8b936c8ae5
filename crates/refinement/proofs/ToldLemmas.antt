-- Answers that clients were told stay in the history.
use Rattle.std.proofs.Common.{◌≡◌, ℕ, Bool, true, false, eqb, eqb-true, List, [], ◌∷◌, ◌++◌, map}
use Rattle.std.proofs.Common.{Some, IsSome, is_some, option_map, refl, sym, ap, ◌∙◌}
use Rattle.std.proofs.lemmas.Option.{slice_get-map}
use Rattle.std.specs.List.{AllByRecursion}
use Rattle.record.specs.declared.call.Entry.{Entry}
use Rattle.open_calls.specs.OpenCalls.{NodeCall}
use Rattle.local_object.specs.declared.progress.Ended.{Ended}
use Rattle.refinement.specs.WellFormed.{HasEntry}
use Rattle.refinement.proofs.PlaceLemmas.{get_first}
use Rattle.refinement.proofs.ToldEntryLemmas.{IsAnswerTo, entry_if, same_call, told_there}
use Rattle.open_calls.proofs.ListLemmas.{all_append, all_at, all_weaker}
use Rattle.refinement.specs.Histories.{IsAnswered, told_entry}

-- the history has the answer, and so does each entry of the call's id
pub record IsToldIn (history : List Entry) (ended : Ended) : Type 0 where
  pub answered : IsAnswered history ended
  pub each : AllByRecursion (λ other. other.call ≡ ended.id → IsSome other.answered) history

pub now_told : (history : List Entry) (call : NodeCall) (ended : Ended) (now : ℕ) → HasEntry history call → IsAnswerTo call ended →
    IsToldIn (map (told_entry ended now) history) ended
now_told history call ended now has answers =
    let there = told_there history call ended now has answers in record {
      answered = record {
        place = there.place;
        entry = there.entry;
        at = there.at;
        call = there.call;
        kind = there.kind;
        answered = ap is_some there.answered;
        value = there.value;
      };
      each = all_weaker _ _ (λ other is same. ap is_some (is same).0) (map (told_entry ended now) history) there.each;
    }

-- a call that begins has another id
pub still_told : (history : List Entry) (entry : Entry) (ended : Ended) → IsToldIn history ended →
    AllByRecursion (λ other. other.call ≡ entry.call → ⊥) history → IsToldIn (history ++ entry ∷ []) ended
still_told history entry ended is free =
    let there = is.answered in record {
      answered = record {
        place = there.place;
        entry = there.entry;
        at = get_first history (entry ∷ []) there.place there.entry there.at;
        call = there.call;
        kind = there.kind;
        answered = there.answered;
        value = there.value;
      };
      each = all_append (λ (other : Entry). other.call ≡ ended.id → IsSome other.answered) history (entry ∷ []) is.each (
        (λ same. absurd (all_at (λ (other : Entry). other.call ≡ entry.call → ⊥) history there.place there.entry free there.at
            (there.call ∙ sym same))),
        tt,
      );
    }

-- a call whose client is told its answer later has another id
module _ (later : Ended) (now : ℕ) (ended : Ended) (apart : ended.id ≡ later.id → ⊥) where
  left_entry : (entry : Entry) → entry.call ≡ ended.id → told_entry later now entry ≡ entry
  left_entry entry same = go (eqb entry.call later.id) refl
    where
      go : (b : Bool) → eqb entry.call later.id ≡ b → entry_if later now entry b ≡ entry
      go true e = absurd (apart (sym same ∙ eqb-true entry.call later.id e))
      go false e = refl

  still_each : (history : List Entry) → AllByRecursion (λ other. other.call ≡ ended.id → IsSome other.answered) history →
      AllByRecursion (λ other. other.call ≡ ended.id → IsSome other.answered) (map (told_entry later now) history)
  still_each [] each = tt
  still_each (entry ∷ history) each = (
    (λ same. let own = sym (same_call later now entry) ∙ same in
        ap (λ (e : Entry). is_some e.answered) (left_entry entry own) ∙ each.0 own),
    still_each history each.1,
  )

  pub later_told : (history : List Entry) → IsToldIn history ended → IsToldIn (map (told_entry later now) history) ended
  later_told history is =
      let there = is.answered in record {
        answered = record {
          place = there.place;
          entry = there.entry;
          at = slice_get-map (told_entry later now) history there.place ∙ ap (option_map (told_entry later now)) there.at
              ∙ ap Some (left_entry there.entry there.call);
          call = there.call;
          kind = there.kind;
          answered = there.answered;
          value = there.value;
        };
        each = still_each history is.each;
      }

-- a call that is open was not told
pub open_apart : (history : List Entry) (call : NodeCall) (ended : Ended) → IsToldIn history ended → HasEntry history call →
    ended.id ≡ call.id → ⊥
open_apart history call ended is has same =
    let answered : IsSome has.entry.answered =
    all_at (λ (other : Entry). other.call ≡ ended.id → IsSome other.answered) history has.place has.entry is.each has.at
    (has.same_id ∙ sym same) in
    let wrong : false ≡ true = sym (ap is_some has.unanswered) ∙ answered in absurd (cc)
