use Rattle.std.proofs.Common.{◌∙◌}
use Rattle.std.proofs.lemmas.Result.{err_from_is_err_and}
use Rattle.frames.specs.Frame.{string_bytes}
use Rattle.frames.proofs.WriteSequenceLemmas.{Appends_none, strings_more, strings_lost, strings_done}
use Rattle.frames.proofs.writing.write_strings.Goals as goal

pub loop-string-init : goal.loop-string-init
loop-string-init g c = Appends_none _

pub returns-in_err-write_string : goal.returns-in_err-write_string
returns-in_err-write_string g c =
    let p = err_from_is_err_and c.from_residual.result c.from_residual.ensures.1 in
    rw p.1 (strings_lost string_bytes _ _ _ c.in_err-write_string.field-0.0 c.args.strings.now c.loop-string.string-index c.deref.result.now
    c.string-item.result c.loop-string-test.true (c.deref.ensures ∙ c.string-item.is) c.loop-string.invariant c.in_err-write_string.ensures)

pub loop-string-preserved : goal.loop-string-preserved
loop-string-preserved g c =
    strings_more string_bytes _ _ _ c.args.strings.now c.loop-string.string-index c.deref.result.now c.string-item.result
    c.loop-string-test.true (c.deref.ensures ∙ c.string-item.is) c.loop-string.invariant c.in_ok-write_string.ensures

pub returns : goal.returns
returns g c = strings_done string_bytes _ _ c.args.strings.now c.loop-string.string-index c.loop-string-test.false c.loop-string.invariant
