use Rattle.std.proofs.Common.{◌++◌, sym, ◌∙◌}
use Rattle.std.specs.List.{concat}
use Rattle.frames.proofs.WriteSequenceLemmas.{Writes_as, Writes_lost, Writes_then, lost}
use Rattle.std.proofs.lemmas.Result.{err_from_is_err_and}
use Rattle.node_store.proofs.GrowthLemmas.{grows_twice}
use Rattle.node_store.proofs.writing.append_parts.Goals as goal

pub returns-clause-written : goal.returns-clause-written
returns-clause-written g c =
    Writes_as _ _ c.append.result (concat c.parts.result.0.now ++ c.parts.result.1.now) c.args.bytes.now (sym c.parts.ensures)
    (Writes_then _ _ _ (tt {0}) c.append.result (concat c.parts.result.0.now) c.parts.result.1.now c.in_ok-append_each.ensures.written
    c.append.ensures.written)

pub returns-clause-kept : goal.returns-clause-kept
returns-clause-kept g c = grows_twice _ _ _ c.append_each.ensures.kept c.append.ensures.kept

pub returns-clause-within : goal.returns-clause-within
returns-clause-within g c =
    λ sound within. c.append.ensures.within (c.append_each.ensures.sound ∙ sound) (c.append_each.ensures.within sound within)

pub returns-in_err-append_each-clause-written : goal.returns-in_err-append_each-clause-written
returns-in_err-append_each-clause-written g c =
    let p = err_from_is_err_and c.from_residual.result c.from_residual.ensures.1 in
    let error = c.in_err-append_each.field-0.0 in
    rw p.1
    (Writes_as _ _ (lost (Unit {0}) error) (concat c.parts.result.0.now ++ c.parts.result.1.now) c.args.bytes.now
    (sym c.parts.ensures)
    (Writes_lost (Unit {0}) (Unit {0}) _ _ error (concat c.parts.result.0.now) c.parts.result.1.now
    c.in_err-append_each.ensures.written))
