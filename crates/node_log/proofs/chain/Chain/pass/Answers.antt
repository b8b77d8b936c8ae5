use Rattle.std.proofs.Common.{List, ℕ, ap, ◌∙◌}
use Rattle.node_log.specs.Crc32c.{after_bytes}
use Rattle.node_log.specs.Entry.{chain_after}
use Rattle.node_log.proofs.chain.Chain.pass.Goals as goal

pub returns : goal.returns
unfolding chain_after
returns c = c.after_bytes-self.ensures ∙ ap (λ (t : List ℕ). after_bytes c.args.self.now.state t) c.says.ensures
