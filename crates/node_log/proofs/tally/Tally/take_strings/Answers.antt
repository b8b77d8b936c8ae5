use Rattle.std.proofs.Common.{◌<◌, ◌^◌, ◌∙◌, arith}
use Rattle.node_log.proofs.TallyLemmas.{strings_done, strings_more, takes_none}
use Rattle.node_log.proofs.tally.Tally.take_strings.Goals as goal

pub loop-string-init : goal.loop-string-init
loop-string-init c =
    let small : c.args.self.now.count < 2 ^ 64 = omega arith in
    takes_none c.args.self.now small

pub loop-string-preserved : goal.loop-string-preserved
loop-string-preserved c =
    strings_more _ _ _ c.args.strings.now c.loop-string.string-index c.deref.result.now c.string-item.result c.loop-string-test.true
    (c.deref.ensures ∙ c.string-item.is) c.loop-string.invariant c.take_string.ensures

pub returns : goal.returns
returns c = strings_done _ _ c.args.strings.now c.loop-string.string-index c.loop-string-test.false c.loop-string.invariant
