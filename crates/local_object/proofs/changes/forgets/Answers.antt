use Rattle.std.proofs.Common.{option_copied, ap, sym, ◌∙◌}
use Rattle.bank.specs.Floor.{is_forgotten}
use Rattle.local_object.specs.ChangedBanks.{whole_or_opened}
use Rattle.local_object.proofs.UnchangedBankLemmas.{opened_forgets_none}
use Rattle.local_object.proofs.changes.forgets.Goals as goal

pub returns-in-None : goal.returns-in-None
returns-in-None c = λ member delta.
    sym (ap (λ o. is_forgotten (whole_or_opened (option_copied o) member delta) c.args.tag) c.in-None.is
    ∙ opened_forgets_none member delta c.args.tag)
