use Rattle.register.proofs.FragmentCodeLemmas.{fragments_are_code}
use Rattle.register.proofs.code.fragments_are_a_code.Goals as goal

pub returns : goal.returns
returns c = fragments_are_code
