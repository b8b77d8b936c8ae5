use Rattle.encoder.specs.Fragment.{fragment}
use Rattle.record.specs.Fragments.{AreCoded}
use Rattle.record.specs.Journals.{entries, ReadsJournaled}
use Rattle.soundness.specs.Sound.{IsSound}
use Rattle.atomicity.specs.Atomic.{IsAtomic}
use Rattle.register.specs.State.{State}
use Rattle.cluster.specs.Atomic.{CarriesJournaled, FetchesHaveEnough, HasOneValue, KeepsFew, LacksWhereOvertaken}
use Rattle.cluster.proofs.AllObjectsLemmas.{all_weaker}
use Rattle.cluster.proofs.cluster.Cluster.atomic.Goals as goal

-- the record is sound, as it is of each object
abbrev IsSoundState : State → Type 0
IsSoundState s = IsSound fragment s.object s.last

pub returns-clause-atomic : goal.returns-clause-atomic
returns-clause-atomic c =
    all_weaker IsSoundState (λ s. IsAtomic (entries s.object))
    (λ s sound. c.sound_records_are_atomic.ensures fragment s.object s.last c.fragments_are_a_code.ensures sound)
    c.args.self.now.objects c.soundness.ensures.sound

pub returns-clause-fragments : goal.returns-clause-fragments
returns-clause-fragments c =
    all_weaker IsSoundState (λ s. AreCoded fragment s.object) (λ s sound. sound.coded) c.args.self.now.objects
    c.soundness.ensures.sound

pub returns-clause-enough : goal.returns-clause-enough
returns-clause-enough c =
    all_weaker IsSoundState (λ s. FetchesHaveEnough s.object)
    (λ s sound index place end call phase at within fetch e.
    c.complete_fetches_have_enough.ensures fragment s.object s.last index place end call phase sound at within fetch e)
    c.args.self.now.objects c.soundness.ensures.sound

pub returns-clause-few : goal.returns-clause-few
returns-clause-few c =
    all_weaker IsSoundState (λ s. KeepsFew s.object)
    (λ s sound position member delta there is_member kept.
    c.few_pieces_are_kept.ensures fragment s.object s.last position member delta sound there is_member kept)
    c.args.self.now.objects c.soundness.ensures.sound

pub returns-clause-overtaken : goal.returns-clause-overtaken
returns-clause-overtaken c =
    all_weaker IsSoundState (λ s. LacksWhereOvertaken s.object)
    (λ s sound index place end call phase tag lacking.
    c.lacking_fetches_are_overlapped.ensures fragment s.object s.last index place end call phase tag sound lacking)
    c.args.self.now.objects c.soundness.ensures.sound

pub returns-clause-phases : goal.returns-clause-phases
returns-clause-phases c =
    all_weaker IsSoundState (λ s. CarriesJournaled s.object)
    (λ s sound index place call phase tag at within named.
    c.sent_tags_are_journaled.ensures fragment s.object s.last index place call phase tag sound at within named)
    c.args.self.now.objects c.soundness.ensures.sound

pub returns-clause-reads : goal.returns-clause-reads
returns-clause-reads c =
    all_weaker IsSoundState (λ s. ReadsJournaled s.object)
    (λ s sound. c.reads_return_journaled_values.ensures fragment s.object s.last c.fragments_are_a_code.ensures sound)
    c.args.self.now.objects c.soundness.ensures.sound

pub returns-clause-journal : goal.returns-clause-journal
returns-clause-journal c =
    all_weaker IsSoundState (λ s. HasOneValue s.object)
    (λ s sound tag v w first second.
    c.journaled_values_are_unique.ensures fragment s.object s.last tag v w sound first second)
    c.args.self.now.objects c.soundness.ensures.sound
