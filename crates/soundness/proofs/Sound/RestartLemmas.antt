-- A call whose complete fetch lacks pieces begins anew: a read reads the sequence from the first position, a move asks again.
use Rattle.std.proofs.Common.{◌≡◌, ℕ, true, List, [], ◌∷◌, Some, sym, subst, ap, ◌∙◌, slice_get, arith}
use Rattle.std.proofs.lemmas.Option.{same_Some}
use Rattle.tag.specs.declared.tag.Tag.{Tag}
use Rattle.bank.specs.declared.kind.Kind.{Kind}
use Rattle.bank.specs.declared.kind.Kind.TheVariants.{Fetch}
use Rattle.mail.specs.declared.phase.Taken.{Taken}
use Rattle.mail.specs.Phase.{Phase, lacks_pieces}
use Rattle.record.specs.declared.call.CallKind.{CallKind}
use Rattle.record.specs.Records.{Call, Object, base_of}
use Rattle.record.specs.PhaseOrder.{due, after, passed, stage_after, IsCourse, begun_at, stage_past}
use Rattle.record.specs.declared.stage.Stage.{Stage}
use Rattle.record.specs.Legal.{first_stage, source_of, IsLegal, due_of}
use Rattle.record.specs.Wants.{current_phase}
use Rattle.soundness.proofs.Sound.WantCaseLemmas.{Unsettled}
use Rattle.soundness.proofs.Sound.WantPreconditionLemmas.{Plain}

-- after a fetch that lacks pieces a phase is due that sends none
after_lacking : (kind : CallKind) (number : ℕ) (stage : Stage) (replies : List Taken) (tag : Tag) (position : ℕ) →
    due stage ≡ Some (Fetch tag, position) → (base : ℕ) → Plain (due (begun_at (after kind number stage replies true) base))
after_lacking kind number stage replies tag position e base = grind arith

last_lacking : (kind : CallKind) (number : ℕ) (phases : List Phase) (stage : Stage) (phase : Phase) (tag : Tag) (end : ℕ) →
    IsCourse kind number stage phases → current_phase phases ≡ Some phase → phase.end ≡ Some end → phase.kind ≡ Fetch tag →
    lacks_pieces phase ≡ true → (base : ℕ) → Plain (due (begun_at (stage_after kind number stage phases) base))
last_lacking kind number [] stage phase tag end course current ended fetch lacks base = absurd (cc)
last_lacking kind number (first ∷ []) stage phase tag end course current ended fetch lacks base =
    let same = same_Some first phase current in
    let end_is : first.end ≡ Some end = ap (λ (p : Phase). p.end) same ∙ ended in
    let asked : first.kind ≡ Fetch tag = ap (λ (p : Phase). p.kind) same ∙ fetch in
    let lacking : lacks_pieces first ≡ true = ap (λ (p : Phase). lacks_pieces p) same ∙ lacks in
    subst (λ o. Plain (due (begun_at (passed kind number (begun_at stage first.position) o first.replies (lacks_pieces first)) base)))
    (sym end_is)
    (subst (λ b. Plain (due (begun_at (after kind number (begun_at stage first.position) first.replies b) base))) (sym lacking)
    (after_lacking kind number (begun_at stage first.position) first.replies tag first.position
    (course.0 ∙ ap (λ (k : Kind). Some (k, first.position)) asked) base))
last_lacking kind number (first ∷ next ∷ later) stage phase tag end course current ended fetch lacks base =
    last_lacking kind number (next ∷ later) (stage_past kind number stage first) phase tag end course.2
    current ended fetch lacks base

pub anew_due : (object : Object) → IsLegal object → (index : ℕ) (call : Call) → slice_get object.calls index ≡ Some call →
    Unsettled call true → Plain (due_of object index call)
anew_due object legal index call at wanting =
    last_lacking call.kind call.id call.phases (first_stage call.kind (source_of object index)) wanting.phase wanting.fetch.0
    wanting.end (legal.calls index call at).course wanting.current wanting.ended wanting.fetch.1 wanting.lacking
    (base_of object)
