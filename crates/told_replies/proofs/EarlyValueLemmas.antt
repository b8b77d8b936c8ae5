-- The record has each early answer as one that may be told, and early answers to reads returned values of tags.
use Rattle.std.proofs.Common.{◌≡◌, ℕ, List, Some, refl, sym, subst, ap, ◌∙◌, inl, inr}
use Rattle.tag.specs.declared.tag.Tag.{Tag}
use Rattle.record.specs.declared.call.Entry.{Entry}
use Rattle.record.specs.Fragments.{Code, IsCode}
use Rattle.record.specs.Journals.{IsJournaled, entry_value, operation_of}
use Rattle.record.specs.Legal.{IsLegal}
use Rattle.record.specs.Records.{Object}
use Rattle.soundness.proofs.Values.WrittenTagLemmas.{written_above, written_id}
use Rattle.network.specs.Worlds.{World, opened_world}
use Rattle.network.specs.Events.{world_after}
use Rattle.network.specs.Following.{Follows}
use Rattle.network.specs.Laws.{IsReached, IsValueOf}
use Rattle.network.proofs.EntryOfCallLemmas.{entry_there}
use Rattle.early_ends.specs.Told.{IsTold, Told}
use Rattle.early_ends.proofs.ToldValueLemmas.{told_value}
use Rattle.told_replies.specs.Laws.{AllowsEarlyAnswers, EarlyAnswersMayBeTold, EarlyReadsReturnValues, run_to}
use Rattle.told_replies.proofs.EarlyEndLemmas.{told_answer, told_early}
use Rattle.told_replies.proofs.TracedRunLemmas.{IsRecorded, recorded}

record_of : (fragment : Code) (world : World) → IsCode fragment → (reached : IsReached fragment world) →
    IsRecorded fragment reached.files reached.events
record_of fragment world code reached =
    recorded fragment code reached.files reached.events reached.one reached.lawful reached.may

pub early_answers_told : EarlyAnswersMayBeTold
early_answers_told fragment world code reached =
    subst (AllowsEarlyAnswers fragment (run_to fragment world reached)) reached.result (record {
      object = traced.last;
      sound = traced.sound;
      follows = traced.follows;
      allows = λ answer early.
          let told = told_early fragment reached.files reached.events reached.may traced answer early in record {
            told = told_answer fragment reached.files reached.events reached.may traced answer early;
            may = told.0;
            same_call = told.1;
            step = refl;
            value = refl;
          };
    })
  where
    traced : IsRecorded fragment reached.files reached.events
    traced = record_of fragment world code reached

-- what the journal has for a tag is the tag's value
pub value_there : (world : World) (object : Object) → IsLegal object → Follows world object → (tag : Tag) (value : List ℕ) →
    IsJournaled object tag value → IsValueOf world tag value
value_there world object legal follows tag value (inl opening) = inl opening
value_there world object legal follows tag value (inr written) =
    let there = entry_there world object follows written.index written.call written.at in
    let same = there.2 in
    inr (
      written_above object legal tag value written,
      record {
        place = written.index;
        entry = there.0;
        at = there.1;
        same_id = ap (λ (x : Entry). x.call) same ∙ sym (written_id object legal tag value written);
        kind = ap (λ (x : Entry). x.kind) same ∙ ap operation_of written.kind;
        writes = ap (λ (x : Entry). x.value) same
            ∙ ap (λ k. entry_value k written.call.answered written.call.settled) written.kind;
      },
    )

pub early_reads : EarlyReadsReturnValues
early_reads fragment world code reached answer early reads =
    subst (λ w. (tag : Tag) × (value : List ℕ) × (answer.value ≡ Some value) × IsValueOf w tag value) reached.result
    (read.0.tag, value.0, value.1, value_there last traced.last traced.sound.legal traced.follows read.0.tag value.0 value.2)
  where
    traced : IsRecorded fragment reached.files reached.events
    traced = record_of fragment world code reached

    last : World
    last = world_after fragment reached.events (opened_world reached.files)

    told : Told
    told = told_answer fragment reached.files reached.events reached.may traced answer early

    read : (may : IsTold fragment traced.last told) × (may.call.id ≡ answer.id) × (may.call.kind ≡ early.call.kind)
    read = told_early fragment reached.files reached.events reached.may traced answer early

    value : (value : List ℕ) × (answer.value ≡ Some value) × IsJournaled traced.last read.0.tag value
    value = told_value fragment traced.last _ code.determines traced.sound told read.0 (read.2 ∙ reads)
