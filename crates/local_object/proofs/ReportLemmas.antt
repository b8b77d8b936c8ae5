-- What members told, one report after another.
use Rattle.std.proofs.Common.{◌≡◌, ℕ, zero, suc, ◌<◌, List, [], ◌∷◌, ◌++◌, length, take, get_or, sym, ap, ◌∙◌, append_assoc, arith}
use Rattle.std.specs.Option.{option_to_list}
use Rattle.tag.specs.declared.tag.Tag.{Tag}
use Rattle.local_object.specs.declared.report.Report.{Report}
use Rattle.local_object.specs.Reports.{greatest_told, later_told, told_piece, told_pieces}
use Rattle.local_object.proofs.PieceLemmas.{nil_right}

-- one more report
pub greatest_more : (call phase : ℕ) (reports : List Report) (i : ℕ) (g : Tag) (report : Report) → i < length reports →
    report ≡ get_or reports i report →
    greatest_told call phase (take (suc i) reports) g ≡ later_told call phase (greatest_told call phase (take i reports) g) report
greatest_more call phase [] i g report within is = absurd (omega (arith, within))
greatest_more call phase (r ∷ rs) zero g report within is = ap (later_told call phase g) (sym is)
greatest_more call phase (r ∷ rs) (suc i) g report within is =
    greatest_more call phase rs i (later_told call phase g r) report (omega (arith, within)) is

pub told_more : (tag : Tag) (call phase : ℕ) (reports : List Report) (i : ℕ) (report : Report) → i < length reports →
    report ≡ get_or reports i report →
    told_pieces tag call phase (take (suc i) reports)
    ≡ told_pieces tag call phase (take i reports) ++ option_to_list (told_piece tag call phase report)
told_more tag call phase [] i report within is = absurd (omega (arith, within))
told_more tag call phase (r ∷ rs) zero report within is =
    nil_right (option_to_list (told_piece tag call phase r))
    ∙ ap (λ (t : Report). option_to_list (told_piece tag call phase t)) (sym is)
told_more tag call phase (r ∷ rs) (suc i) report within is =
    ap (λ ps. option_to_list (told_piece tag call phase r) ++ ps) (told_more tag call phase rs i report (omega (arith, within)) is)
    ∙ sym (append_assoc (option_to_list (told_piece tag call phase r)) (told_pieces tag call phase (take i rs))
    (option_to_list (told_piece tag call phase report)))
