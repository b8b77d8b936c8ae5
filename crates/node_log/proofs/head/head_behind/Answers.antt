use Rattle.node_log.proofs.HeadLemmas.{assembled}
use Rattle.node_log.proofs.head.head_behind.Goals as goal

pub returns : goal.returns
returns c = assembled c.args.chain.state c.args.says.now c.digest_behind.result c.told-says c.digest_behind.ensures
