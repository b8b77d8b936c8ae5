use Rattle.std.proofs.Common.{arith}
use Rattle.std.specs.BTreeMap.{is_at}
use Rattle.tag.specs.Tag.{tag_cmp}
use Rattle.bank.proofs.ForgottenRowLemmas.{removed_bytes}
use Rattle.bank.proofs.bank.forgetting.remove.Goals as goal

pub returns-in-Some-clause-freed : goal.returns-in-Some-clause-freed
returns-in-Some-clause-freed c = grind (arith, removed_bytes (is_at (tag_cmp c.args.tag)) c.args.rows.now.entries)
