use Rattle.std.proofs.Common.{◌≡◌, ℕ, ◌++◌, ◌∷◌, [], ap, sym, ◌∙◌, arith, rules, subst, All, List}
use Rattle.std.proofs.lemmas.List.Elements.{All-push}
use Rattle.crossbeam_queue.specs.Passes.{view, IsPassOf}
use Rattle.encoder.specs.Fragment.{piece_at_point}
use Rattle.piece.specs.declared.piece.Piece.{Piece}
use Rattle.coding_pool.specs.declared.jobs.Known.{Known}
use Rattle.coding_pool.specs.Jobs.{known}
use Rattle.coding_pool.specs.Worker.{point_of}
use Rattle.coding_pool.proofs.PoppedJobLemmas.{each_popped, popped_more}
use Rattle.coding_pool.proofs.QueueRuleLemmas.{pops, learns_whole}
use Rattle.coding_pool.proofs.worker.Worker.work.Goals as goal

pub pop_as-requires-clause-rule : goal.pop_as-requires-clause-rule
pop_as-requires-clause-rule g c =
    let p = c.loop.invariant.parts in (pops _ _ (omega (arith, p, c.requires.part)), learns_whole _ _)

pub returns-in_default-clause-whole : goal.returns-in_default-clause-whole
returns-in_default-clause-whole g c =
    let old = c.loop.invariant in
    each_popped (view c.loop.self.pass) _ _ _ old.parts old.pushed old.worker.popped c.in_default.ensures.rule.1

pub loop-preserved : goal.loop-preserved
loop-preserved g c =
    let old = c.loop.invariant in
    let made : c.in_ok-made.field-0 ≡ piece_at_point c.args.errand.value.now c.args.errand.k c.in-Some-pop_as.job = search rules in
    let at = ap point_of made in
    let v = view c.loop.self.pass in
    let step : view c.pop_as.new.pass
    ≡ known v.parts v.pushed (v.popped ++ c.in-Some-pop_as.job ∷ []) = c.in-Some-pop_as.ensures.rule in
    let parts : (view c.pop_as.new.pass).parts ≡ v.parts = ap (λ (u : Known). u.parts) step in
    let pushed : (view c.pop_as.new.pass).pushed ≡ v.pushed = ap (λ (u : Known). u.pushed) step in
    let ok : IsPassOf c.args.errand.jobs.now c.pop_as.new.pass = search rules in
    let items : c.push.new.self.items ≡ c.loop.self.pieces.items ++ c.in_ok-made.field-0 ∷ [] = search rules in
    let P : Piece → Type 0 = λ p. p ≡ piece_at_point c.args.errand.value.now c.args.errand.k p.point in
    let is : P c.in_ok-made.field-0 = subst (λ (i : ℕ). c.in_ok-made.field-0 ≡ piece_at_point c.args.errand.value.now c.args.errand.k i)
    (sym at) made in
    record {
      worker = record {
        pass = ok;
        popped = rw items (popped_more (view c.loop.self.pass) (view c.pop_as.new.pass) _ _ _ old.worker.popped step at);
        made = subst (λ (l : List Piece). All P l) (sym items) (All-push P _ _ old.worker.made is);
      };
      parts = parts ∙ old.parts;
      pushed = pushed ∙ old.pushed;
    }
