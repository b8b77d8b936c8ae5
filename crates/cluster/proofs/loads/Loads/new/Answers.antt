use Rattle.std.proofs.Common.{◌≡◌, ℕ, zero, suc, [], ◌∷◌, ◌++◌, refl, sym, ap, ◌∙◌, arith, add-one}
use Rattle.cluster.specs.Summed.{all_none}
use Rattle.cluster.proofs.loads.Loads.new.Goals as goal

one_more : (count : ℕ) → all_none count ++ 0 ∷ [] ≡ all_none (suc count)
one_more zero = refl
one_more (suc count) = ap (λ loads. 0 ∷ loads) (one_more count)

pub loop-preserved : goal.loop-preserved
loop-preserved c = record {
  made = c.push.ensures.items ∙ ap (λ loads. loads ++ 0 ∷ []) c.loop.invariant.made ∙ one_more c.loop.counter
      ∙ ap all_none (sym (add-one c.loop.counter));
  len = let before = c.loop.invariant.len in let more = c.push.ensures.len in omega (arith, before, more);
}
