use Rattle.std.proofs.Common.{Some}
use Rattle.frames.specs.Frame.{string_bytes}
use Rattle.frames.proofs.WriteSequenceLemmas.{Appends_none, strings_done, strings_more}
use Rattle.frames.proofs.gathering.push_strings.Goals as goal

pub loop-string-init : goal.loop-string-init
loop-string-init c = Appends_none (Some c.args.bytes.now)

pub loop-string-preserved : goal.loop-string-preserved
loop-string-preserved c =
    strings_more string_bytes (Some c.args.bytes.now) (Some c.loop-string.bytes) (Some c.push_string.new.bytes) c.args.strings.now
    c.loop-string.string-index c.string-item.result c.string-item.result c.loop-string-test.true c.string-item.is
    c.loop-string.invariant c.in_ok-push_string.ensures

pub returns : goal.returns
returns c =
    strings_done string_bytes (Some c.args.bytes.now) (Some c.loop-string.bytes) c.args.strings.now c.loop-string.string-index
    c.loop-string-test.false c.loop-string.invariant
