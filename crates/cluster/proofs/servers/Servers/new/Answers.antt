use Rattle.std.proofs.Common.{◌≡◌, ℕ, zero, suc, [], ◌∷◌, ◌++◌, true, refl, sym, ap, ◌∙◌, arith, add-one}
use Rattle.cluster.specs.Cluster.{all_up}
use Rattle.cluster.proofs.servers.Servers.new.Goals as goal

one_more : (count : ℕ) → all_up count ++ true ∷ [] ≡ all_up (suc count)
one_more zero = refl
one_more (suc count) = ap (λ servers. true ∷ servers) (one_more count)

pub loop-preserved : goal.loop-preserved
loop-preserved c = record {
  made = c.push.ensures.items ∙ ap (λ servers. servers ++ true ∷ []) c.loop.invariant.made ∙ one_more c.loop.counter
      ∙ ap all_up (sym (add-one c.loop.counter));
  len = let before = c.loop.invariant.len in let more = c.push.ensures.len in omega (arith, before, more);
}
