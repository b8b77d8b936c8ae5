use Rattle.std.proofs.Common.{◌<◌, length, sym, ap, ◌∙◌, option_map, arith}
use Rattle.std.specs.FinMap as map
use Rattle.std.specs.Map.Iter.{deref_pair}
use Rattle.std.proofs.lemmas.Iterator.Consumers.{nth_from_yields_List, YieldsList-from_rest}
use Rattle.bank.proofs.EntryOrderLemmas.{there}
use Rattle.bank.proofs.bank.Bank.kept.Goals as goal

pub unreachable-requires : goal.unreachable-requires
unreachable-requires c =
    let es = map.entries c.args.self.now.rows in
    let nth = nth_from_yields_List c.nth.result c.nth.new.self c.args.i c.nth.ensures.ran (YieldsList-from_rest es c.rows.ensures) in
    let within : c.args.i < length es = omega (arith, c.requires, map.len-entries c.args.self.now.rows) in
    there es c.args.i within (sym nth ∙ ap (option_map deref_pair) c.in-None.is)

pub returns : goal.returns
returns c =
    sym (nth_from_yields_List c.nth.result c.nth.new.self c.args.i c.nth.ensures.ran (YieldsList-from_rest _ c.rows.ensures))
    ∙ ap (option_map deref_pair) c.in-Some.is ∙ search
