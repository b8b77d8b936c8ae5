-- The history with early answers is that of the record with answers that may be told, so it is atomic.
use Rattle.std.proofs.Common.{◌≡◌, ℕ, suc, ◌+◌, Bool, true, false, cond, eqb, List, [], ◌∷◌, map, Option, None, Some, slice_get}
use Rattle.std.proofs.Common.{refl, sym, subst, ap, ◌∙◌, arith, eqb-true, eq-eqb}
use Rattle.std.proofs.lemmas.Option.{same_Some}
use Rattle.std.specs.List.{AllByRecursion}
use Rattle.record.specs.declared.call.CallKind.{CallKind}
use Rattle.record.specs.declared.call.CallKind.TheVariants.{Read, Write, Move}
use Rattle.record.specs.declared.call.Entry.{Entry}
use Rattle.record.specs.declared.call.Operation.{Operation}
use Rattle.record.specs.Fragments.{Code, IsCode}
use Rattle.record.specs.Journals.{entry_of, entry_value, operation_of}
use Rattle.record.specs.Records.{Call}
use Rattle.atomicity.specs.Atomic.{IsAtomic}
use Rattle.network.specs.Worlds.{ClusterFile, World, opened_world}
use Rattle.network.specs.Events.{Event, world_after}
use Rattle.network.specs.Following.{entry_in_steps, last_step_after}
use Rattle.network.specs.Premises.{MayHappenInTurn}
use Rattle.network.proofs.WorldAtomicLemmas.{atomic_back}
use Rattle.early_ends.specs.Told.{IsTold, Told, answer_to, as_told, told_from}
use Rattle.early_ends.proofs.ToldEntryLemmas.{told_atomic}
use Rattle.told_replies.specs.EarlyAnswers.{EarlyAnswer, IsEarly, as_answered, early_answer_to, early_history, early_value}
use Rattle.told_replies.specs.Laws.{EarlyAnswersAreAtomic}
use Rattle.told_replies.specs.Tellings.{Run}
use Rattle.told_replies.proofs.EarlyEndLemmas.{told_answer, told_call, told_early}
use Rattle.told_replies.proofs.TracedRunLemmas.{IsRecorded, recorded}

-- Entries

-- both are no answer, or they are one answer, in steps and in events
abbrev AreOneAnswer : Option Told → Option EarlyAnswer → Type 0
AreOneAnswer None None = Unit {0}
AreOneAnswer (Some told) (Some answer) = (told.step ≡ last_step_after answer.now) × (told.value ≡ answer.value)
AreOneAnswer None (Some answer) = ⊥
AreOneAnswer (Some told) None = ⊥

-- the entry of a call
abbrev own : Call → Entry
own call = entry_of call.id call

value_same : (kind : CallKind) (step : ℕ) (answered : Option ℕ) (settled returned : Option (List ℕ)) →
    early_value (operation_of kind) returned (entry_value kind answered settled) ≡ entry_value kind (Some step) returned
value_same Read step answered settled returned = refl
value_same (Write value) step answered settled returned = refl
value_same Move step answered settled returned = refl

-- an entry of these parts
abbrev entry_with : (call : ℕ) → Operation → (called answered : ℕ) → (value : Option (List ℕ)) → Entry
entry_with call kind called answered value =
    record { call = call; kind = kind; called = called; answered = Some answered; value = value }

entry_same : (call : Call) (entry : Entry) (told : Option Told) (answer : Option EarlyAnswer) → own call ≡ entry_in_steps entry →
    AreOneAnswer told answer → entry_of call.id (as_told told call) ≡ entry_in_steps (as_answered answer entry)
entry_same call entry None None same one = same
entry_same call entry (Some told) (Some answer) same one =
    let kind : operation_of call.kind ≡ entry.kind = ap (λ (e : Entry). e.kind) same in
    ap (λ c. entry_with c (operation_of call.kind) call.called told.step (entry_value call.kind (Some told.step) told.value))
    (ap (λ (e : Entry). e.call) same)
    ∙ ap (λ n. entry_with entry.call (operation_of call.kind) n told.step (entry_value call.kind (Some told.step) told.value))
    (ap (λ (e : Entry). e.called) same)
    ∙ ap (λ v. entry_with entry.call (operation_of call.kind) (last_step_after entry.called) told.step v)
    (ap (entry_value call.kind (Some told.step)) one.1
    ∙ sym (value_same call.kind told.step call.answered call.settled answer.value)
    ∙ ap (early_value (operation_of call.kind) answer.value) (ap (λ (e : Entry). e.value) same)
    ∙ ap (λ k. early_value k answer.value entry.value) kind)
    ∙ ap (λ k. entry_with entry.call k (last_step_after entry.called) told.step (early_value entry.kind answer.value entry.value)) kind
    ∙ ap (λ n. entry_with entry.call entry.kind (last_step_after entry.called) n (early_value entry.kind answer.value entry.value)) one.0
entry_same call entry None (Some answer) same one = absurd one
entry_same call entry (Some told) None same one = absurd one

-- the answers to calls from an index on agree
abbrev Agree : List Told → List EarlyAnswer → (index : ℕ) → List Call → Type 0
Agree told answers index calls = (j : ℕ) (call : Call) → slice_get calls j ≡ Some call →
    AreOneAnswer (answer_to told (index + j)) (early_answer_to answers call.id)

entries_same : (told : List Told) (answers : List EarlyAnswer) (index : ℕ) (calls : List Call) (history : List Entry) →
    map own calls ≡ map entry_in_steps history → Agree told answers index calls →
    told_from told index calls ≡ map entry_in_steps (early_history answers history)
entries_same told answers index [] [] same agree = refl
entries_same told answers index [] (entry ∷ history) same agree = absurd (cc)
entries_same told answers index (call ∷ calls) [] same agree = absurd (cc)
entries_same told answers index (call ∷ calls) (entry ∷ history) same agree =
    let first : own call ≡ entry_in_steps entry = cc in
    let rest : map own calls ≡ map entry_in_steps history = cc in
    let here : index + 0 ≡ index = omega arith in
    let id : call.id ≡ entry.call = ap (λ (e : Entry). e.call) first in
    let one : AreOneAnswer (answer_to told index) (early_answer_to answers entry.call) =
    subst (λ i. AreOneAnswer (answer_to told i) (early_answer_to answers entry.call)) here
    (subst (λ n. AreOneAnswer (answer_to told (index + 0)) (early_answer_to answers n)) id (agree 0 call refl)) in
    let later = entries_same told answers (suc index) calls history rest (λ j other at.
    let next : index + suc j ≡ suc index + j = omega arith in
    subst (λ i. AreOneAnswer (answer_to told i) (early_answer_to answers other.id)) next (agree (suc j) other at)) in
    ap (λ e. e ∷ told_from told (suc index) calls)
    (entry_same call entry (answer_to told index) (early_answer_to answers entry.call) first one)
    ∙ ap (λ l. entry_in_steps (as_answered (early_answer_to answers entry.call) entry) ∷ l) later

-- A run

module _ (fragment : Code) (files : ℕ → ClusterFile) (events : List Event)
    (may : MayHappenInTurn fragment events (opened_world files)) (traced : IsRecorded fragment files events) where
  abbrev run : Run
  run = record { files = files; events = events }

  -- the answers as the record has them
  abbrev told_answers : (answers : List EarlyAnswer) → AllByRecursion (IsEarly fragment run) answers → List Told
  told_answers [] all = []
  told_answers (answer ∷ answers) all =
      told_answer fragment files events may traced answer all.0 ∷ told_answers answers all.1

  all_told : (answers : List EarlyAnswer) (all : AllByRecursion (IsEarly fragment run) answers) →
      AllByRecursion (IsTold fragment traced.last) (told_answers answers all)
  all_told [] all = tt
  all_told (answer ∷ answers) all = ((told_early fragment files events may traced answer all.0).0, all_told answers all.1)

  looked_up : (answers : List EarlyAnswer) (all : AllByRecursion (IsEarly fragment run) answers) (index : ℕ) (call : Call) →
      slice_get traced.last.calls index ≡ Some call →
      AreOneAnswer (answer_to (told_answers answers all) index) (early_answer_to answers call.id)
  looked_up [] all index call at = tt
  looked_up (answer ∷ answers) all index call at =
      go (eqb told.index index) refl (eqb answer.id call.id) refl (looked_up answers all.1 index call at)
    where
      told : Told
      told = told_answer fragment files events may traced answer all.0

      there : (recorded : Call) × (slice_get traced.last.calls told.index ≡ Some recorded) × (recorded.id ≡ answer.id)
      there = told_call fragment files events may traced answer all.0

      go : (b : Bool) → eqb told.index index ≡ b → (c : Bool) → eqb answer.id call.id ≡ c →
          AreOneAnswer (answer_to (told_answers answers all.1) index) (early_answer_to answers call.id) →
          AreOneAnswer (cond b (Some told) (answer_to (told_answers answers all.1) index))
          (cond c (Some answer) (early_answer_to answers call.id))
      go true e true f rest = (refl, refl)
      go false e false f rest = rest
      go true e false f rest =
          let index_is = eqb-true told.index index e in
          let one = same_Some there.0 call (sym there.1 ∙ ap (slice_get traced.last.calls) index_is ∙ at) in
          let same : answer.id ≡ call.id = sym there.2 ∙ ap (λ (c : Call). c.id) one in
          absurd (let clash : true ≡ false = sym (eq-eqb answer.id call.id same) ∙ f in cc)
      go false e true f rest =
          let same : told.index ≡ index =
          traced.sound.legal.ids told.index index there.0 call there.1 at (there.2 ∙ eqb-true answer.id call.id f) in
          absurd (let clash : true ≡ false = sym (eq-eqb told.index index same) ∙ e in cc)

  from_first : (answers : List EarlyAnswer) (all : AllByRecursion (IsEarly fragment run) answers) →
      Agree (told_answers answers all) answers 0 traced.last.calls
  from_first answers all j call at =
      let same : j ≡ 0 + j = omega arith in
      subst (λ i. AreOneAnswer (answer_to (told_answers answers all) i) (early_answer_to answers call.id)) same
      (looked_up answers all j call at)

  run_atomic : IsCode fragment → (answers : List EarlyAnswer) → AllByRecursion (IsEarly fragment run) answers →
      IsAtomic (early_history answers (world_after fragment events (opened_world files)).history)
  run_atomic code answers all =
      atomic_back (early_history answers (world_after fragment events (opened_world files)).history)
      (subst IsAtomic (entries_same (told_answers answers all) answers 0 traced.last.calls
      (world_after fragment events (opened_world files)).history traced.follows.history (from_first answers all))
      (told_atomic fragment traced.last _ code.determines traced.sound (told_answers answers all) (all_told answers all)))

pub early_atomic : EarlyAnswersAreAtomic
early_atomic fragment world code reached answers all =
    subst (λ (w : World). IsAtomic (early_history answers w.history)) reached.result
    (run_atomic fragment reached.files reached.events reached.may
    (recorded fragment code reached.files reached.events reached.one reached.lawful reached.may) code answers all)
