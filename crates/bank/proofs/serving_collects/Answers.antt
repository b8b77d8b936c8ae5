use Rattle.bank.proofs.PieceRetentionLemmas.{opened_collected, served_collected, retired_collected}
use Rattle.bank.proofs.serving_collects.Goals as goal

pub returns-clause-opened : goal.returns-clause-opened
returns-clause-opened c = opened_collected

pub returns-clause-served : goal.returns-clause-served
returns-clause-served c = served_collected

pub returns-clause-retired : goal.returns-clause-retired
returns-clause-retired c = retired_collected
