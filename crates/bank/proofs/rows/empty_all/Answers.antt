use Rattle.std.proofs.Common.{rules}
use Rattle.std.proofs.lemmas.Map.Made.{map_same_pairs}
use Rattle.bank.specs.Collect.{emptied_row}
use Rattle.bank.proofs.rows.empty_all.Goals as goal

pub returns : goal.returns
returns c = map_same_pairs _ emptied_row _ (λ k v b w f' t. search rules) _ _ c.retain.ensures.filtered
