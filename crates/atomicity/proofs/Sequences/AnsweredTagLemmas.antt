-- The tags of answered calls stand in the order of the calls.
use Rattle.std.proofs.Common.{◌≡◌, ℕ, ◌≤◌, false, List, Some, None, sym, subst, arith, slice_get}
use Rattle.tag.specs.declared.tag.Tag.{Tag}
use Rattle.tag.specs.Tag.{IsBelow}
use Rattle.record.specs.declared.call.CallKind.{CallKind}
use Rattle.record.specs.Records.{Call, Object}
use Rattle.record.specs.declared.call.CallKind.TheVariants.{Read, Write, Move}
use Rattle.record.specs.declared.stage.Stage.{Stage}
use Rattle.record.specs.PhaseOrder.{due}
use Rattle.record.specs.Legal.{is_move, source_of, stage_of, IsLegal}
use Rattle.record.specs.Journals.{stage_tag}
use Rattle.atomicity.proofs.Stages.CallFactLemmas.{call_at_end}
use Rattle.atomicity.proofs.Stages.RisingTagLemmas.{later_found}
use Rattle.atomicity.proofs.Stages.StageFactLemmas.{Facts, HasTag, Put, Reached}
use Rattle.record.proofs.TagOrderLemmas.{below-next_tag, IsAtMost}

-- the tag of a read or a write is the one that its queries give it
pub tag_facts : (object : Object) (kind : CallKind) (from number called now : ℕ) (stage : Stage) (tag : Tag) →
    stage_tag stage ≡ Some tag → is_move kind ≡ false → Facts object kind from number called now stage →
    HasTag object kind number called tag
tag_facts object kind from number called now stage tag e reads facts = grind arith

-- an answered read or write has put its tag
pub record Finished (object : Object) (stage : Stage) (now : ℕ) : Type 0 where
  pub last : ℕ
  pub tag : Tag
  pub tagged : stage_tag stage ≡ Some tag
  pub reached : Reached object last now
  pub put : Put object now last tag

finished_facts : (object : Object) (kind : CallKind) (from number called now : ℕ) (stage : Stage) → due stage ≡ None →
    is_move kind ≡ false → Facts object kind from number called now stage → Finished object stage now
finished_facts object kind from number called now stage e reads facts = grind arith

pub answered_facts : (object : Object) → IsLegal object → (index : ℕ) (call : Call) →
    slice_get object.calls index ≡ Some call → is_move call.kind ≡ false → (step : ℕ) → call.answered ≡ Some step →
    (now : ℕ) × (now ≤ step) × (call.called ≤ now) × Finished object (stage_of object index call) now
answered_facts object legal index call at reads step e =
    let end = call_at_end object legal index call at in
    let answer = (legal.calls index call at).answer step e in (
      end.now,
      end.until step answer.1,
      end.since,
      finished_facts object call.kind (source_of object index) call.id call.called end.now
          (stage_of object index call) answer.0 reads end.facts,
    )

-- a later call's tag is at least an answered one's, and a later write's is greater
pub tag_order : (object : Object) → IsLegal object → (number called now last : ℕ) (tag other : Tag) (kind : CallKind) →
    Reached object last now → Put object now last tag → now ≤ called → HasTag object kind number called other →
    IsAtMost tag other × ((value : List ℕ) → kind ≡ Write value → IsBelow tag other)
tag_order object legal number called now last tag other Read reached put after found =
    (later_found object legal now last tag reached put called found.0 other found.1 after, λ value e. absurd (cc))
tag_order object legal number called now last tag other (Write value) reached put after found =
    let least = later_found object legal now last tag reached put called found.2 found.0 found.3 after in
    let below = subst (λ t. IsBelow tag t) (sym found.1) (below-next_tag tag found.0 number least) in
    (at_most_below tag other below, λ value e. below)
  where
    at_most_below : (a b : Tag) → IsBelow a b → IsAtMost a b
    at_most_below a b p = grind arith
tag_order object legal number called now last tag other Move reached put after found = absurd found
