use Rattle.std.proofs.Common.{option_copied, ap, sym, ◌∙◌}
use Rattle.bank.specs.Serve.{greatest_final}
use Rattle.bank.proofs.GreatestTagLemmas.{greatest-opened}
use Rattle.local_object.specs.ChangedBanks.{whole_or_opened}
use Rattle.local_object.proofs.changes.greatest_of.Goals as goal

pub returns : goal.returns
returns c = λ member delta.
    sym (ap (λ o. greatest_final (whole_or_opened (option_copied o) member delta)) c.in-None.is ∙ greatest-opened member delta 0)
