use Rattle.std.proofs.Common.{[], ◌∷◌, ◌++◌, length, codes, arith, rules, sym}
use Rattle.std.proofs.Output.{has_written_append, has_written_of_eq}
use Rattle.std.specs.Fmt.{HasWritten, decimal}
use Rattle.printing.specs.MailLines.{message_line}
use Rattle.printing.specs.Words.{in_words}
use Rattle.printing.proofs.FlattenedListLemmas.{flat_map-numbered_all, flat_map-numbered_at}
use Rattle.printing.proofs.mail_lines.MailLinesDisplay.fmt.Goals as goal

pub loop-place-preserved : goal.loop-place-preserved
loop-place-preserved g c = λ plain.
    has_written_of_eq _ _ _ _ _
    (sym (flat_map-numbered_at message_line c.args.self.now.0.now c.loop-place.place c.at-message.result.now c.at-message.ensures))
    (has_written_append _ _ _ _ _ _ (c.loop-place.invariant plain) (search rules))

pub returns-clause-writes : goal.returns-clause-writes
returns-clause-writes g c = λ plain _.
    let mail = c.args.self.now.0.now in
    let count = in_words (codes "mail" ∷ decimal (length mail) ∷ []) ++ codes "\n" in
    let head : HasWritten g.W.Write.write_str_gives c.args.f.now count c.writeln.new.self = search rules in
    has_written_of_eq _ _ _ _ _ (flat_map-numbered_all count message_line mail c.loop-place.place (omega arith))
    (has_written_append _ _ _ _ _ _ head (c.loop-place.invariant head.plain))
