use Rattle.cluster_file.proofs.NumberLemmas.{decimal_text, too_great}
use Rattle.cluster_file.proofs.number.value_of.Goals as goal

pub unreachable-requires : goal.unreachable-requires
unreachable-requires c = c.in-Err.ensures.cases.0 (decimal_text c.args.digits.now c.requires)

pub returns-clause-none : goal.returns-clause-none
returns-clause-none c =
    too_great c.parse.result c.in-Ok.text.now c.args.digits.now c.ok.result c.requires c.in-Ok.ensures.cases.0 c.parse.ensures.value.0
    c.ok.ensures.value
