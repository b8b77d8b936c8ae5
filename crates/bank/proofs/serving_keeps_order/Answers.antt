use Rattle.bank.specs.Collect.{retired_bank}
use Rattle.bank.specs.Serve.{served_bank}
use Rattle.bank.proofs.MonotoneLemmas.{served_grows, retired_grows}
use Rattle.bank.proofs.TrueAnswerLemmas.{grows_order}
use Rattle.bank.proofs.serving_keeps_order.Goals as goal

pub returns-clause-served : goal.returns-clause-served
returns-clause-served c b q now later after before = grows_order b (served_bank b q now) now later (served_grows b q now) after before

pub returns-clause-retired : goal.returns-clause-retired
returns-clause-retired c b now later after before = grows_order b (retired_bank b now) now later (retired_grows b now) after before
