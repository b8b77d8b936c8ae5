use Rattle.std.proofs.Common.{◌∙◌, refl}
use Rattle.std.proofs.lemmas.List.Concat.{concat_is}
use Rattle.std.proofs.lemmas.Result.{err_from_is_err_and}
use Rattle.frames.proofs.WriteSequenceLemmas.{as_it_is, strings_done, strings_lost, strings_more}
use Rattle.node_store.proofs.GrowthLemmas.{appends_none, grows_none, grows_twice}
use Rattle.node_store.proofs.writing.append_each.Goals as goal

pub loop-part-init : goal.loop-part-init
loop-part-init g c = (appends_none _, grows_none _, λ sound within. within, refl, refl)

pub returns-in_err-append-clause-kept : goal.returns-in_err-append-clause-kept
returns-in_err-append-clause-kept g c = grows_twice _ _ _ c.loop-part.invariant.1 c.append.ensures.kept

pub returns-in_err-append-clause-within : goal.returns-in_err-append-clause-within
returns-in_err-append-clause-within g c =
    λ sound within. c.append.ensures.within (c.loop-part.invariant.3 ∙ sound) (c.loop-part.invariant.2 sound within)

pub loop-part-preserved : goal.loop-part-preserved
loop-part-preserved g c = (
  strings_more as_it_is _ _ _ c.args.parts.now c.loop-part.part-index c.deref.result.now c.part-item.result c.loop-part-test.true
      (c.deref.ensures ∙ c.part-item.is) c.loop-part.invariant.0 c.in_ok-append.ensures.written,
  grows_twice _ _ _ c.loop-part.invariant.1 c.append.ensures.kept,
  λ sound within. c.append.ensures.within (c.loop-part.invariant.3 ∙ sound) (c.loop-part.invariant.2 sound within),
  c.append.ensures.sound ∙ c.loop-part.invariant.3,
  c.in_ok-append.ensures.failure ∙ c.loop-part.invariant.4,
)

pub returns-in_err-append-clause-written : goal.returns-in_err-append-clause-written
returns-in_err-append-clause-written g c =
    let p = err_from_is_err_and c.from_residual.result c.from_residual.ensures.1 in
    rw (p.1, concat_is c.args.parts.now)
    (strings_lost as_it_is _ _ _ c.in_err-append.field-0.0 c.args.parts.now c.loop-part.part-index c.deref.result.now
    c.part-item.result c.loop-part-test.true (c.deref.ensures ∙ c.part-item.is) c.loop-part.invariant.0
    c.in_err-append.ensures.written)

pub returns-clause-written : goal.returns-clause-written
returns-clause-written g c =
    rw (concat_is c.args.parts.now)
    (strings_done as_it_is _ _ c.args.parts.now c.loop-part.part-index c.loop-part-test.false c.loop-part.invariant.0)
