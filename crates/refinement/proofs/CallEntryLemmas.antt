-- The entries that the history has of open calls.
use Rattle.std.proofs.Common.{◌≡◌, ℕ, cond, List, [], ◌∷◌, ◌++◌, length, map, None, Some, option_map}
use Rattle.std.proofs.Common.{refl, sym, ap, ◌∙◌, slice_get}
use Rattle.std.proofs.lemmas.Option.{slice_get-map}
use Rattle.std.specs.List.{AllByRecursion}
use Rattle.record.specs.declared.call.Entry.{Entry}
use Rattle.record.specs.Journals.{operation_of, entry_value}
use Rattle.soundness.proofs.ListLemmas.{all_get, get_push}
use Rattle.open_calls.specs.OpenCalls.{NodeCall}
use Rattle.network.specs.Events.{answered_entry}
use Rattle.refinement.specs.Refined.{begun_entry}
use Rattle.refinement.specs.WellFormed.{HasEntry}
use Rattle.open_calls.proofs.CallsOfNodeLemmas.{differs}

pub at_end : {A : Type 0} (xs : List A) (x : A) → slice_get (xs ++ x ∷ []) (length xs) ≡ Some x
at_end [] x = refl
at_end (y ∷ xs) x = at_end xs x

pub entry_push : (history : List Entry) (new : Entry) (call : NodeCall) → HasEntry history call → HasEntry (history ++ new ∷ []) call
entry_push history new call has = record {
  place = has.place;
  entry = has.entry;
  at = get_push history new has.entry has.place has.at;
  same_id = has.same_id;
  kind = has.kind;
  unanswered = has.unanswered;
  value = has.value;
}

pub entry_new : (history : List Entry) (call : NodeCall) (now : ℕ) → HasEntry (history ++ begun_entry call.id call.kind now ∷ []) call
entry_new history call now = record {
  place = length history;
  entry = begun_entry call.id call.kind now;
  at = at_end history (begun_entry call.id call.kind now);
  same_id = refl;
  kind = refl;
  unanswered = refl;
  value = refl;
}

-- the answer of a call leaves the entries of others
pub entry_answered : (history : List Entry) (call : NodeCall) (now : ℕ) (other : NodeCall) → (other.id ≡ call.id → ⊥) →
    HasEntry history other → HasEntry (map (answered_entry call now) history) other
entry_answered history call now other apart has = record {
  place = has.place;
  entry = has.entry;
  at = slice_get-map (answered_entry call now) history has.place ∙ ap (option_map (answered_entry call now)) has.at
      ∙ ap (λ b. Some (cond b (record has.entry { answered = Some now; value = entry_value call.kind (Some now) call.settled }) has.entry))
      (differs has.entry.call call.id (λ same. apart (sym has.same_id ∙ same)));
  same_id = has.same_id;
  kind = has.kind;
  unanswered = has.unanswered;
  value = has.value;
}

-- a call that is changed has its entry
pub entry_of : (history : List Entry) (old new : NodeCall) → new.id ≡ old.id → new.kind ≡ old.kind → HasEntry history old →
    HasEntry history new
entry_of history old new id kind has = record {
  place = has.place;
  entry = has.entry;
  at = has.at;
  same_id = has.same_id ∙ sym id;
  kind = has.kind ∙ ap operation_of (sym kind);
  unanswered = has.unanswered;
  value = has.value ∙ ap (λ k. entry_value k None None) (sym kind);
}

-- an id that no entry has is that of no open call
pub unused_apart : (history : List Entry) (id : ℕ) → AllByRecursion (λ entry. entry.call ≡ id → ⊥) history →
    (calls : List NodeCall) → AllByRecursion (HasEntry history) calls → AllByRecursion (λ call. call.id ≡ id → ⊥) calls
unused_apart history id unused [] has = tt
unused_apart history id unused (first ∷ calls) has = (
  λ same. all_get (λ (entry : Entry). entry.call ≡ id → ⊥) history has.0.place has.0.entry unused has.0.at (has.0.same_id ∙ same),
  unused_apart history id unused calls has.1,
)
