use Rattle.std.proofs.lemmas.Bool.{false≢true}
use Rattle.soak_parts.proofs.setting.add.Goals as goal

pub returns-in_err-new-clause-refused : goal.returns-in_err-new-clause-refused
returns-in_err-new-clause-refused c = absurd (false≢true (c.in_err-new.ensures.lawful.1 c.requires.lawful))
