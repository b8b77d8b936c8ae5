use Rattle.std.proofs.Common.{◌≡◌, ℕ, ◌%◌, List, [], ◌∷◌, get_or, true, eqb, eqb-true, refl, ap, ◌∙◌, arith}
use Rattle.std.proofs.lemmas.List.{get_or-map}
use Rattle.std.proofs.lemmas.Simd.{length-chunk, get_or-chunk, pick_l_left}
use Rattle.gf256.proofs.AdditiveFunctionLemmas.{all_below, all_below-at}
use Rattle.kernels.proofs.tables.twice.Goals as goal
use lib.Lanes.{chunk}

places : List ℕ
places = 0 ∷ 1 ∷ 2 ∷ 3 ∷ 4 ∷ 5 ∷ 6 ∷ 7 ∷ 8 ∷ 9 ∷ 10 ∷ 11 ∷ 12 ∷ 13 ∷ 14 ∷ 15
    ∷ 0 ∷ 1 ∷ 2 ∷ 3 ∷ 4 ∷ 5 ∷ 6 ∷ 7 ∷ 8 ∷ 9 ∷ 10 ∷ 11 ∷ 12 ∷ 13 ∷ 14 ∷ 15 ∷ []

places_repeat : all_below 32 (λ n. eqb (get_or places n 0) (n % 16)) ≡ true
unfolding places
places_repeat = refl

pub returns : goal.returns
unfolding places
returns c n hn =
    let lanes = chunk c.args.start 16 c.args.bytes.now in
    let long = length-chunk c.args.start 16 c.args.bytes.now c.requires in
    ap (λ l. get_or l n 0) (pick_l_left 0 lanes lanes 16 places long tt)
    ∙ get_or-map (λ k. get_or lanes k 0) places n 0 0 hn
    ∙ ap (λ k. get_or lanes k 0) (eqb-true _ _ (all_below-at 32 (λ n. eqb (get_or places n 0) (n % 16)) places_repeat n hn))
    ∙ get_or-chunk c.args.start 16 c.args.bytes.now (n % 16) 0 (omega arith)
