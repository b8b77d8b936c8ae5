-- The entries of a history, after the client of an open call is told its answer.
use Rattle.std.proofs.Common.{◌≡◌, ℕ, Bool, true, false, cond, eqb, eq-eqb, List, [], ◌∷◌, map, Option, None, Some}
use Rattle.std.proofs.Common.{option_map, slice_get, refl, sym, ap, ◌∙◌}
use Rattle.std.proofs.lemmas.Option.{slice_get-map}
use Rattle.std.specs.List.{AllByRecursion}
use Rattle.record.specs.declared.call.CallKind.{CallKind}
use Rattle.record.specs.declared.call.CallKind.TheVariants.{Read, Write, Move}
use Rattle.record.specs.declared.call.Entry.{Entry}
use Rattle.record.specs.declared.call.Operation.TheVariants as operation
use Rattle.record.specs.Journals.{entry_value, operation_of}
use Rattle.open_calls.specs.OpenCalls.{NodeCall}
use Rattle.network.specs.Events.{answered_entry}
use Rattle.local_object.specs.declared.progress.Ended.{Ended}
use Rattle.local_object.specs.Ended.{early_value_of, told_early, told_of}
use Rattle.refinement.specs.Histories.{told_entry}
use Rattle.refinement.specs.WellFormed.{HasEntry}

-- What clients are told

-- the client of a call may be told this: it names the call, and the value of a write is its own
pub record IsAnswerTo (call : NodeCall) (ended : Ended) : Type 0 where
  pub same_id : ended.id ≡ call.id
  pub kind : ended.kind ≡ operation_of call.kind
  pub written : operation_of call.kind ≡ operation.Write → entry_value call.kind None None ≡ ended.value

-- the value of a write does not change with its answer
written_same : (kind : CallKind) (settled : Option (List ℕ)) → operation_of kind ≡ operation.Write →
    entry_value kind None None ≡ entry_value kind (Some 0) settled
written_same Read settled e = absurd (cc)
written_same (Write value) settled e = refl
written_same Move settled e = absurd (cc)

written_early : (kind : CallKind) (value : Option (List ℕ)) → operation_of kind ≡ operation.Write →
    entry_value kind None None ≡ early_value_of kind value
written_early Read value e = absurd (cc)
written_early (Write written) value e = refl
written_early Move value e = absurd (cc)

-- a call is answered
pub answer_of : (call : NodeCall) → IsAnswerTo call (told_of call)
answer_of call = record { same_id = refl; kind = refl; written = written_same call.kind call.settled }

-- and a call ends early
pub early_of : (call : NodeCall) (value : Option (List ℕ)) → IsAnswerTo call (told_early call value)
early_of call value = record { same_id = refl; kind = refl; written = written_early call.kind value }

-- the answer of a call does not depend on the time
value_told : (kind : CallKind) (settled : Option (List ℕ)) (now : ℕ) →
    entry_value kind (Some 0) settled ≡ entry_value kind (Some now) settled
value_told Read settled now = refl
value_told (Write value) settled now = refl
value_told Move settled now = refl

-- the answer of a call, as what its client is told
pub told_answer : (call : NodeCall) (now : ℕ) (history : List Entry) →
    map (answered_entry call now) history ≡ map (told_entry (told_of call) now) history
told_answer call now history =
    ap (λ (v : Option (List ℕ)). map (λ (entry : Entry).
    cond (eqb entry.call call.id) (record entry { answered = Some now; value = v }) entry) history)
    (sym (value_told call.kind call.settled now))

-- The history

-- the entry, with what is told if it is the call's own
abbrev pub entry_if : Ended → (time : ℕ) → Entry → (is_own : Bool) → Entry
entry_if ended time entry is_own = cond is_own (record entry { answered = Some time; value = ended.value }) entry

-- the history has the answer at this time, and so does each entry of the call's id
pub record HasTold (history : List Entry) (ended : Ended) (time : ℕ) : Type 0 where
  pub place : ℕ
  pub entry : Entry
  pub at : slice_get history place ≡ Some entry
  pub call : entry.call ≡ ended.id
  pub kind : entry.kind ≡ ended.kind
  pub answered : entry.answered ≡ Some time
  pub value : entry.value ≡ ended.value
  pub each : AllByRecursion (λ other. other.call ≡ ended.id → (other.answered ≡ Some time) × (other.value ≡ ended.value)) history

each_told : (ended : Ended) (time : ℕ) (history : List Entry) →
    AllByRecursion (λ other. other.call ≡ ended.id → (other.answered ≡ Some time) × (other.value ≡ ended.value))
    (map (told_entry ended time) history)
each_told ended time [] = tt
each_told ended time (entry ∷ history) = (go (eqb entry.call ended.id) refl, each_told ended time history)
  where
    go : (b : Bool) → eqb entry.call ended.id ≡ b → (entry_if ended time entry b).call ≡ ended.id →
        ((entry_if ended time entry b).answered ≡ Some time) × ((entry_if ended time entry b).value ≡ ended.value)
    go true e same = (refl, refl)
    go false e same = absurd (let wrong : false ≡ true = sym e ∙ eq-eqb entry.call ended.id same in cc)

pub told_there : (history : List Entry) (call : NodeCall) (ended : Ended) (time : ℕ) → HasEntry history call → IsAnswerTo call ended →
    HasTold (map (told_entry ended time) history) ended time
told_there history call ended time has answers =
    let entry : Entry = record has.entry { answered = Some time; value = ended.value } in
    let own = has.same_id ∙ sym answers.same_id in record {
      place = has.place;
      entry = entry;
      at = slice_get-map (told_entry ended time) history has.place ∙ ap (option_map (told_entry ended time)) has.at
          ∙ ap (λ b. Some (cond b entry has.entry)) (eq-eqb has.entry.call ended.id own);
      call = own;
      kind = has.kind ∙ sym answers.kind;
      answered = refl;
      value = refl;
      each = each_told ended time history;
    }

-- an entry keeps its call
pub same_call : (ended : Ended) (time : ℕ) (entry : Entry) → (told_entry ended time entry).call ≡ entry.call
same_call ended time entry = go (eqb entry.call ended.id)
  where
    go : (b : Bool) → (entry_if ended time entry b).call ≡ entry.call
    go true = refl
    go false = refl
