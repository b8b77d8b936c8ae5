use Rattle.std.proofs.Common.{List, [], ◌∷◌, ◌++◌, ℕ, take, ◌∙◌, ap}
use Rattle.cluster_file.specs.Digest.{delta_bytes, fixed_digest, hashed_fixed}
use Rattle.cluster_file.specs.Gives.{shown}
use Rattle.cluster_file.proofs.digest.fixed_digest.Goals as goal

pub returns : goal.returns
unfolding fixed_digest
returns c =
    let fixed = c.args.fixed.now in
    let front : List ℕ = fixed.k ∷ fixed.n ∷ fixed.mover ∷ [] in
    let fed = c.update-2.ensures (front ++ delta_bytes fixed.delta)
    (c.hash_delta.ensures front (c.update.ensures [] c.new-hasher.ensures)) in
    c.first_sixteen.ensures ∙ ap (λ (bytes : List ℕ). take 16 bytes) (c.finalize.ensures (hashed_fixed (shown fixed)) fed)
