use Rattle.std.proofs.Common.{sym, rules}
use Rattle.node_exports.proofs.log.casnode_keep_log.Goals as goal

pub returns-clause-kept : goal.returns-clause-kept
returns-clause-kept c =
    λ _. (
      c.in-Some.held.value,
      sym c.in-Some.ensures.value,
      (
        c.keep_log.new.self,
        search rules,
        (
          c.keep_log.result,
          search rules,
          search rules,
          search rules,
        ),
      ),
    )
