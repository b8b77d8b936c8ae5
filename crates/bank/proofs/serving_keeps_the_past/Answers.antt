use Rattle.bank.specs.Collect.{retired_bank}
use Rattle.bank.specs.Serve.{served_bank}
use Rattle.bank.proofs.MonotoneLemmas.{served_grows, retired_grows}
use Rattle.bank.proofs.TrueAnswerLemmas.{grows_past}
use Rattle.bank.proofs.serving_keeps_the_past.Goals as goal

pub returns-clause-served : goal.returns-clause-served
returns-clause-served c b q now = grows_past b (served_bank b q now) now (served_grows b q now)

pub returns-clause-retired : goal.returns-clause-retired
returns-clause-retired c b now = grows_past b (retired_bank b now) now (retired_grows b now)
