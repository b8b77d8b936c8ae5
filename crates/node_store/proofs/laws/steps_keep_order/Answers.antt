use Rattle.node_store.proofs.StepLemmas.{all_carried_out, cut_off}
use Rattle.node_store.proofs.laws.steps_keep_order.Goals as goal

pub returns-clause-all : goal.returns-clause-all
returns-clause-all c = λ chain batch outputs before after has. all_carried_out chain batch outputs has before after

pub returns-clause-cut : goal.returns-clause-cut
returns-clause-cut c = λ chain batch outputs before after has. cut_off chain batch outputs has before after
