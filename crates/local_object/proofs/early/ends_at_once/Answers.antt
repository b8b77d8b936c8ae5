use Rattle.std.proofs.Common.{◌≡◌, ◌&&◌, true, ap, sym, ◌∙◌}
use Rattle.local_object.specs.Early.{greatest_of, is_first_counting, is_held_by_quorum}
use Rattle.local_object.specs.Outcomes.{is_read}
use Rattle.local_object.proofs.early.ends_at_once.Goals as goal

pub returns : goal.returns
returns c =
    let call = c.args.call.now in
    let layout = c.args.layout.now in
    let reports = c.args.reports.now in
    let held = is_held_by_quorum call layout reports (greatest_of call reports) in
    let read : is_read call.kind ≡ true = sym c.is_read.ensures ∙ c.if-not-is_read.false in
    let first : is_first_counting call.stage ≡ true =
    ap is_first_counting (sym c.stage.ensures) ∙ sym c.is_first_counting.ensures ∙ c.if-not-is_first_counting.false in
    c.is_held_by_quorum.ensures ∙ ap (is_held_by_quorum call layout reports) c.greatest_of.ensures
    ∙ sym (ap (λ b. b && (is_first_counting call.stage && held)) read ∙ ap (λ b. b && held) first)
