use Rattle.std.proofs.Common.{None, ap, sym, ◌∙◌}
use Rattle.local_object.specs.ChangedBanks.{changes_kept}
use Rattle.local_object.proofs.kept_bank.KeptBank.is_changed_by.Goals as goal

pub returns-in-Open : goal.returns-in-Open
returns-in-Open c = c.is_whole_changed.ensures 0 None ∙ ap (λ b. changes_kept b c.args.request.now) (sym c.in-Open.is)
