use Rattle.std.proofs.Common.{[], ◌∷◌, codes, arith, rules, sym}
use Rattle.std.proofs.Output.{has_written_append, has_written_of_eq}
use Rattle.std.specs.FinMap as map
use Rattle.std.specs.Fmt.{HasWritten}
use Rattle.bank.specs.Pointer.{status_of}
use Rattle.printing.specs.BankLine.{kept_text}
use Rattle.printing.specs.Vocabulary.{word_of_status}
use Rattle.printing.specs.Words.{in_words}
use Rattle.printing.proofs.FlattenedListLemmas.{flat_map-all, flat_map-take_at}
use Rattle.printing.proofs.bank_line.BankLineDisplay.fmt.Goals as goal

pub loop-i-preserved : goal.loop-i-preserved
loop-i-preserved g c = λ plain.
    has_written_of_eq _ _ _ _ _
    (sym (flat_map-take_at kept_text (map.entries c.args.self.now.0.now.rows) c.loop-i.i
    (c.kept.result.0, c.kept.result.1.now) c.kept.ensures))
    (has_written_append _ _ _ _ _ _ (c.loop-i.invariant plain) (search rules))

pub returns-clause-writes : goal.returns-clause-writes
returns-clause-writes g c = λ plain _.
    let bank = c.args.self.now.0.now in
    let status = in_words (codes "next" ∷ word_of_status (status_of bank.pointer) ∷ []) in
    let head : HasWritten g.W.Write.write_str_gives c.args.f.now status c.write.new.self = search rules in
    has_written_of_eq _ _ _ _ _
    (flat_map-all status kept_text (map.entries bank.rows) c.loop-i.i (omega (arith, map.len-entries bank.rows)))
    (has_written_append _ _ _ _ _ _ head (c.loop-i.invariant head.plain))

pub loop-i-init : goal.loop-i-init
loop-i-init g c = search rules
