-- The history with early answers, as calls begin, are answered, or end early.
use Rattle.std.proofs.Common.{◌≡◌, ℕ, Bool, true, false, cond, eqb, eqb-true, eq-eqb, List, [], ◌∷◌, ◌++◌, map, Option, None, Some}
use Rattle.std.proofs.Common.{option_map, refl, sym, subst, ap, ◌∙◌, slice_get}
use Rattle.std.proofs.lemmas.List.{map-append}
use Rattle.std.proofs.lemmas.Option.{same_Some, slice_get-map}
use Rattle.std.specs.List.{AllByRecursion}
use Rattle.record.specs.declared.call.CallKind.{CallKind}
use Rattle.record.specs.declared.call.CallKind.TheVariants.{Read, Write, Move}
use Rattle.record.specs.declared.call.Entry.{Entry}
use Rattle.record.specs.Journals.{entry_value, operation_of}
use Rattle.open_calls.specs.OpenCalls.{NodeCall}
use Rattle.network.specs.Events.{answered_entry}
use Rattle.local_object.specs.Ended.{early_value_of}
use Rattle.told_replies.specs.EarlyAnswers.{EarlyAnswer, as_answered, early_answer_to, early_history, early_value}
use Rattle.refinement.specs.Refined.{early_entry}
use Rattle.refinement.specs.WellFormed.{HasEntry}
use Rattle.refinement.proofs.WorldIdLemmas.{HasNot, from_ids, same_ids, to_ids}

-- Entries

pub seen_id : (o : Option EarlyAnswer) (entry : Entry) → (as_answered o entry).call ≡ entry.call
seen_id None entry = refl
seen_id (Some answer) entry = refl

pub seen_kind : (o : Option EarlyAnswer) (entry : Entry) → (as_answered o entry).kind ≡ entry.kind
seen_kind None entry = refl
seen_kind (Some answer) entry = refl

-- the entry of a history with these answers in place
abbrev pub as_seen : List EarlyAnswer → Entry → Entry
as_seen answers entry = as_answered (early_answer_to answers entry.call) entry

-- an id that is in no entry with its answer is in no entry
pub unused_seen : (answers : List EarlyAnswer) (id : ℕ) (history : List Entry) → HasNot id (early_history answers history) →
    HasNot id history
unused_seen answers id history none =
    from_ids id history (subst (AllByRecursion (λ other. other ≡ id → ⊥))
    (same_ids (as_seen answers) (λ entry. seen_id (early_answer_to answers entry.call) entry) history)
    (to_ids id (early_history answers history) none))

-- the entry that has its answer in place
pub entry_back : (answers : List EarlyAnswer) (history : List Entry) (place : ℕ) (seen : Entry) →
    slice_get (early_history answers history) place ≡ Some seen →
    (entry : Entry) × (slice_get history place ≡ Some entry) × (as_seen answers entry ≡ seen)
entry_back answers history place seen at =
    go (slice_get history place) refl (sym (slice_get-map (as_seen answers) history place) ∙ at)
  where
    go : (o : Option Entry) → slice_get history place ≡ o → option_map (as_seen answers) o ≡ Some seen →
        (entry : Entry) × (slice_get history place ≡ Some entry) × (as_seen answers entry ≡ seen)
    go None e is = absurd (cc)
    go (Some entry) e is = (entry, e, same_Some (as_seen answers entry) seen is)

pub entry_seen : (answers : List EarlyAnswer) (history : List Entry) (place : ℕ) (entry : Entry) → slice_get history place ≡ Some entry →
    slice_get (early_history answers history) place ≡ Some (as_seen answers entry)
entry_seen answers history place entry at =
    slice_get-map (as_seen answers) history place ∙ ap (option_map (as_seen answers)) at

-- a call without early answers has its entry
pub open_seen : (answers : List EarlyAnswer) (history : List Entry) (call : NodeCall) → early_answer_to answers call.id ≡ None →
    HasEntry history call → HasEntry (early_history answers history) call
open_seen answers history call none has = record {
  place = has.place;
  entry = has.entry;
  at = entry_seen answers history has.place has.entry has.at
      ∙ ap (λ o. Some (as_answered o has.entry)) (ap (early_answer_to answers) has.same_id ∙ none);
  same_id = has.same_id;
  kind = has.kind;
  unanswered = has.unanswered;
  value = has.value;
}

-- Histories

pub seen_push : (answers : List EarlyAnswer) (history : List Entry) (entry : Entry) → early_answer_to answers entry.call ≡ None →
    early_history answers (history ++ entry ∷ []) ≡ early_history answers history ++ entry ∷ []
seen_push answers history entry none =
    map-append (as_seen answers) history (entry ∷ [])
    ∙ ap (λ o. early_history answers history ++ as_answered o entry ∷ []) none

module _ (answers : List EarlyAnswer) (call : NodeCall) (none : early_answer_to answers call.id ≡ None) where
  none_to : (entry : Entry) → eqb entry.call call.id ≡ true → early_answer_to answers entry.call ≡ None
  none_to entry e = ap (early_answer_to answers) (eqb-true entry.call call.id e) ∙ none

  other_id : (entry : Entry) → eqb entry.call call.id ≡ false → eqb (as_seen answers entry).call call.id ≡ false
  other_id entry e = ap (λ id. eqb id call.id) (seen_id (early_answer_to answers entry.call) entry) ∙ e

  -- the call is answered
  answered_seen : (now : ℕ) (entry : Entry) →
      as_seen answers (answered_entry call now entry) ≡ answered_entry call now (as_seen answers entry)
  answered_seen now entry = go (eqb entry.call call.id) refl
    where
      answered : Entry → Entry
      answered from = record from { answered = Some now; value = entry_value call.kind (Some now) call.settled }

      go : (b : Bool) → eqb entry.call call.id ≡ b →
          as_seen answers (cond b (answered entry) entry) ≡ answered_entry call now (as_seen answers entry)
      go true e =
          ap (λ o. as_answered o (answered entry)) (none_to entry e)
          ∙ sym (ap (λ o. answered_entry call now (as_answered o entry)) (none_to entry e)
          ∙ ap (λ b. cond b (answered entry) entry) e)
      go false e = sym (ap (λ b. cond b (answered (as_seen answers entry)) (as_seen answers entry)) (other_id entry e))

  pub seen_answered : (now : ℕ) (history : List Entry) →
      early_history answers (map (answered_entry call now) history) ≡ map (answered_entry call now) (early_history answers history)
  seen_answered now [] = refl
  seen_answered now (entry ∷ history) =
      ap (λ e. e ∷ early_history answers (map (answered_entry call now) history)) (answered_seen now entry)
      ∙ ap (λ entries. answered_entry call now (as_seen answers entry) ∷ entries) (seen_answered now history)

  -- the call ends early
  module _ (returned : Option (List ℕ)) (now : ℕ) where
    -- its answer
    abbrev pub ending : EarlyAnswer
    ending = record { id = call.id; now = now; value = returned }

    -- the entries with its id, as they were
    abbrev pub IsOwn : Entry → Type 0
    IsOwn entry = entry.call ≡ call.id → (entry.kind ≡ operation_of call.kind) × (entry.value ≡ entry_value call.kind None None)

    same_value : (kind : CallKind) → early_value (operation_of kind) returned (entry_value kind None None) ≡ early_value_of kind returned
    same_value Read = refl
    same_value (Write value) = refl
    same_value Move = refl

    ended_seen : (entry : Entry) → IsOwn entry → as_seen (ending ∷ answers) entry ≡ early_entry call returned now (as_seen answers entry)
    ended_seen entry own = go (eqb entry.call call.id) refl (eqb call.id entry.call) refl
      where
        ended : Option (List ℕ) → Entry → Entry
        ended value from = record from { answered = Some now; value = value }

        go : (b : Bool) → eqb entry.call call.id ≡ b → (c : Bool) → eqb call.id entry.call ≡ c →
            as_answered (cond c (Some ending) (early_answer_to answers entry.call)) entry
            ≡ early_entry call returned now (as_seen answers entry)
        go true e true f =
            let is = own (eqb-true entry.call call.id e) in
            ap (λ value. ended value entry)
            (ap (λ k. early_value k returned entry.value) is.0 ∙ ap (early_value (operation_of call.kind) returned) is.1
            ∙ same_value call.kind)
            ∙ sym (ap (λ o. early_entry call returned now (as_answered o entry)) (none_to entry e)
            ∙ ap (λ b. cond b (ended (early_value_of call.kind returned) entry) entry) e)
        go false e false f =
            sym (ap (λ b. cond b (ended (early_value_of call.kind returned) (as_seen answers entry)) (as_seen answers entry))
            (other_id entry e))
        go true e false f =
            absurd (let wrong : true ≡ false = sym (eq-eqb call.id entry.call (sym (eqb-true entry.call call.id e))) ∙ f in cc)
        go false e true f =
            absurd (let wrong : true ≡ false = sym (eq-eqb entry.call call.id (sym (eqb-true call.id entry.call f))) ∙ e in cc)

    pub seen_ended : (history : List Entry) → AllByRecursion IsOwn history →
        early_history (ending ∷ answers) history ≡ map (early_entry call returned now) (early_history answers history)
    seen_ended [] own = refl
    seen_ended (entry ∷ history) own =
        ap (λ e. e ∷ early_history (ending ∷ answers) history) (ended_seen entry own.0)
        ∙ ap (λ entries. early_entry call returned now (as_seen answers entry) ∷ entries) (seen_ended history own.1)
