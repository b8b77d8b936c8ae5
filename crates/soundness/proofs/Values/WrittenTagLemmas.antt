-- Each tag of the journal is the tag of one write.
use Rattle.std.proofs.Common.{◌≡◌, ℕ, ◌+◌, ◌<◌, List, Some, subst, ap, arith}
use Rattle.tag.specs.declared.tag.Tag.{Tag}
use Rattle.tag.specs.Tag.{next_tag, opening_tag}
use Rattle.record.specs.declared.call.CallKind.TheVariants.{Write}
use Rattle.record.specs.Records.{Object}
use Rattle.record.specs.PhaseOrder.{IsCourse, stage_after}
use Rattle.record.specs.Legal.{IsLegal, source_of, first_stage}
use Rattle.record.specs.Grammar.{greatest_shown}
use Rattle.record.specs.Journals.{stage_tag, IsWritten}
use Rattle.record.proofs.Phases.AttemptLemmas.{finds_tag}

-- a written tag is the one next to a tag, with its call's id
written_next : (object : Object) → IsLegal object → (tag : Tag) (value : List ℕ) → (w : IsWritten object tag value) →
    (greatest : Tag) × (tag ≡ next_tag greatest w.call.id)
written_next object legal tag value w =
    let from = source_of object w.index in
    let course = subst (λ kind. IsCourse kind w.call.id (first_stage kind from) w.call.phases) w.kind
    (legal.calls w.index w.call w.at).course in
    let tagged = subst (λ kind. stage_tag (stage_after kind w.call.id (first_stage kind from) w.call.phases) ≡ Some tag) w.kind
    w.tagged in
    let found = finds_tag (Write value) w.call.id (λ e. cc) w.call.phases tag course tagged in
    (greatest_shown opening_tag found.queries, found.takes)

-- so it has this id
pub written_id : (object : Object) → IsLegal object → (tag : Tag) (value : List ℕ) → (w : IsWritten object tag value) →
    tag.call ≡ w.call.id
written_id object legal tag value w = ap (λ (t : Tag). t.call) (written_next object legal tag value w).1

-- and a number above that of the opening tag
pub written_above : (object : Object) → IsLegal object → (tag : Tag) (value : List ℕ) → IsWritten object tag value →
    0 < tag.number
written_above object legal tag value w =
    let next = written_next object legal tag value w in
    let number : tag.number ≡ next.0.number + 1 = ap (λ (t : Tag). t.number) next.1 in omega arith
