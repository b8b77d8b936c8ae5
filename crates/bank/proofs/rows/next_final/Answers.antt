use Rattle.std.proofs.Common.{ap, ◌∙◌, option_map, tests, rules}
use Rattle.std.specs.Map.Iter.{deref_pair}
use Rattle.std.proofs.lemmas.Iterator.Consumers.{YieldsList-from_rest}
use Rattle.std.proofs.lemmas.Iterator.Search.{find_from_yields_List}
use Rattle.tag.specs.declared.tag.Tag.{Tag}
use Rattle.bank.specs.declared.row.Row.{Row}
use Rattle.bank.proofs.NextTagSearchLemmas.{is_next, after-found, next_mapped}
use Rattle.bank.proofs.rows.next_final.Goals as goal

pub returns-clause-next : goal.returns-clause-next
returns-clause-next c =
    next_mapped _ deref_pair _ _ (λ x t is. search rules) c.map.ensures.cases
    ∙ ap (option_map (λ (e : Tag × Row). e.0)) (find_from_yields_List (is_next c.args.tag) _ _ _ c.find.ensures.ran
    (YieldsList-from_rest _ (c.range.ensures.between tt)) (λ x b q k. search (rules, tests)))
    ∙ after-found c.args.tag c.args.rows.now.entries
