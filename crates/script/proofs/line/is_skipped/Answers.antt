use Rattle.std.proofs.Common.{◌∙◌, sym}
use Rattle.script.proofs.LineWordLemmas.{skipped-none, skipped-some}
use Rattle.script.proofs.line.is_skipped.Goals as goal

pub returns-in-Some : goal.returns-in-Some
returns-in-Some c = skipped-some c.args.line.now c.in-Some.first (sym c.first_of_words.ensures ∙ c.in-Some.is)

pub returns-in-None : goal.returns-in-None
returns-in-None c = skipped-none c.args.line.now (sym c.first_of_words.ensures ∙ c.in-None.is)
