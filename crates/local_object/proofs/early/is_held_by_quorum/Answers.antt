use Rattle.std.proofs.Common.{◌&&◌, ap, leb, sym, ◌∙◌}
use Rattle.std.specs.List.{count_by}
use Rattle.layout.specs.Layout.{quorum_of}
use Rattle.mail.specs.Phase.{Phase}
use Rattle.local_object.specs.Early.{exceeds_rest}
use Rattle.local_object.specs.Reports.{tells_held, tells_no_greater}
use Rattle.local_object.proofs.early.is_held_by_quorum.Goals as goal

pub returns-then-not-is_quorum : goal.returns-then-not-is_quorum
returns-then-not-is_quorum c =
    let call = c.args.call.now in
    let layout = c.args.layout.now in
    let reports = c.args.reports.now in
    let tag = c.args.tag in
    let number = c.number-phase.ensures ∙ ap (λ (p : Phase). p.number) c.phase.ensures.value in
    let held = count_by (tells_held tag call.id call.phase.number) reports in
    let counted = c.count_no_greater.ensures
    ∙ ap (λ i. count_by (tells_no_greater tag i c.number-phase.result) reports) c.id-id.ensures
    ∙ ap (λ n. count_by (tells_no_greater tag call.id n) reports) number in
    sym (ap (λ b. b && exceeds_rest layout held)
    (ap (leb (quorum_of layout)) (sym counted) ∙ sym c.is_quorum.ensures.value ∙ c.if-not-is_quorum.true))

pub returns : goal.returns
returns c =
    let call = c.args.call.now in
    let layout = c.args.layout.now in
    let reports = c.args.reports.now in
    let tag = c.args.tag in
    let number = c.number-phase.ensures ∙ ap (λ (p : Phase). p.number) c.phase.ensures.value in
    let held = count_by (tells_held tag call.id call.phase.number) reports in
    let counted = c.count_no_greater.ensures
    ∙ ap (λ i. count_by (tells_no_greater tag i c.number-phase.result) reports) c.id-id.ensures
    ∙ ap (λ n. count_by (tells_no_greater tag call.id n) reports) number in
    c.exceeds_rest.ensures
    ∙ ap (exceeds_rest layout) (c.count_held.ensures
    ∙ ap (λ i. count_by (tells_held tag i c.number-phase.result) reports) c.id-id.ensures
    ∙ ap (λ n. count_by (tells_held tag call.id n) reports) number)
    ∙ sym (ap (λ b. b && exceeds_rest layout held)
    (ap (leb (quorum_of layout)) (sym counted) ∙ sym c.is_quorum.ensures.value ∙ c.if-not-is_quorum.false))
