use Rattle.local_object.proofs.StartLemmas.{told_zero}
use Rattle.local_object.proofs.letters.told_start.Goals as goal

pub returns-then-start-eq0-clause-start : goal.returns-then-start-eq0-clause-start
returns-then-start-eq0-clause-start c = told_zero c.args.places.now c.args.start c.if-start-eq0.true
