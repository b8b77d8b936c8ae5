use Rattle.std.proofs.Common.{◌∙◌, sym}
use Rattle.std.proofs.lemmas.List.Concat.{concat_is}
use Rattle.std.proofs.lemmas.Result.{err_from_is_err_and}
use Rattle.frames.proofs.WriteSequenceLemmas.{Appends_none, Writes_as, as_it_is, lost, strings_done, strings_lost, strings_more}
use Rattle.frames.proofs.gathering.write_parts.Goals as goal

pub loop-part-init : goal.loop-part-init
loop-part-init g c = Appends_none _

pub returns-in_err-write_bytes : goal.returns-in_err-write_bytes
returns-in_err-write_bytes g c =
    let p = err_from_is_err_and c.from_residual.result c.from_residual.ensures.1 in
    let error = c.in_err-write_bytes.field-0.0 in
    rw p.1 (Writes_as _ _ (lost (Unit {0}) error) _ _ (sym (concat_is c.args.parts.now))
    (strings_lost as_it_is _ _ _ error c.args.parts.now c.loop-part.part-index c.deref.result.now
    c.part-item.result c.loop-part-test.true (c.deref.ensures ∙ c.part-item.is) c.loop-part.invariant c.in_err-write_bytes.ensures))

pub loop-part-preserved : goal.loop-part-preserved
loop-part-preserved g c =
    strings_more as_it_is _ _ _ c.args.parts.now c.loop-part.part-index c.deref.result.now c.part-item.result c.loop-part-test.true
    (c.deref.ensures ∙ c.part-item.is) c.loop-part.invariant c.in_ok-write_bytes.ensures

pub returns : goal.returns
returns g c =
    rw (concat_is c.args.parts.now)
    (strings_done as_it_is _ _ c.args.parts.now c.loop-part.part-index c.loop-part-test.false c.loop-part.invariant)
