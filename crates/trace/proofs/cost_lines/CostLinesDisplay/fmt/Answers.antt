use Rattle.std.proofs.Common.{◌++◌, ◌≤◌, List, length, codes, sym, ap, ap₂, ◌∙◌, rules, arith}
use Rattle.std.specs.List.{flat_map}
use Rattle.std.proofs.Output.{has_written_append, has_written_of_eq}
use Rattle.std.proofs.lemmas.List.{take_all}
use Rattle.record.specs.declared.call.Entry.{Entry}
use Rattle.trace.specs.declared.cost.Cost.{Cost}
use Rattle.trace.specs.Cost.{plus}
use Rattle.trace.specs.CostLines.{cost_line, line_text, total_of, total_text}
use Rattle.printing.proofs.FlattenedListLemmas.{flat_map-take_item}
use Rattle.trace.proofs.CostSumLemmas.{total_of-take_item}
use Rattle.trace.proofs.cost_lines.CostLinesDisplay.fmt.Goals as goal

pub loop-entry-preserved : goal.loop-entry-preserved
loop-entry-preserved g c =
    let entries = c.args.self.now.entries.now in
    let object = c.args.self.now.register.now.object in
    let line = λ (cost : Cost). line_text c.entry-item.result cost ++ codes "\n" in
    record {
      total = c.plus-total.ensures
          ∙ (ap₂ (λ (a b : Cost). plus a b) c.loop-entry.invariant.total c.cost_of-cost.ensures
          ∙ sym (total_of-take_item object entries c.loop-entry.entry-index c.entry-item.result (omega arith) c.entry-item.is));
      written = λ plain.
          has_written_of_eq _ _ _ _ _
          (sym (flat_map-take_item (cost_line object) entries c.loop-entry.entry-index c.entry-item.result (omega arith) c.entry-item.is))
          (has_written_append _ _ _ _ _ _ (c.loop-entry.invariant.written plain)
          (has_written_of_eq _ _ _ _ _ (ap line c.cost_of-cost.ensures) (search rules)));
    }

pub returns-clause-writes : goal.returns-clause-writes
returns-clause-writes g c = λ plain ok.
    let entries = c.args.self.now.entries.now in
    let object = c.args.self.now.register.now.object in
    let all : length entries ≤ c.loop-entry.entry-index = omega arith in
    let same = take_all c.loop-entry.entry-index entries all in
    let text = λ (cost : Cost). total_text (length entries) cost ++ codes "\n" in
    has_written_append _ _ _ _ _ _
    (has_written_of_eq _ _ _ _ _ (ap (λ (es : List Entry). flat_map (cost_line object) es) same) (c.loop-entry.invariant.written plain))
    (has_written_of_eq _ _ _ _ _ (ap text (c.loop-entry.invariant.total ∙ ap (λ (es : List Entry). total_of object es) same))
    (search rules))
