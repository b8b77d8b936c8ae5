use Rattle.std.proofs.Common.{get_or, sym, ap, ◌∙◌, arith}
use Rattle.std.proofs.lemmas.List.{ext_get_or}
use Rattle.std.proofs.lemmas.Simd.{length-chunk, get_or-chunk}
use Rattle.kernels.proofs.EqualityMaskLemmas.{same_from_full, full_from_same}
use Rattle.kernels.proofs.equality.is_block_same.Goals as goal
use lib.Lanes.{chunk}

pub returns : goal.returns
returns c =
    let start = c.args.start in
    let a = c.args.a.now in
    let b = c.args.b.now in
    let xs = chunk start 32 a in
    let ys = chunk start 32 b in
    let long_a = length-chunk start 32 a c.requires.left in
    let long_b = length-chunk start 32 b c.requires.right in (
      λ full n hn.
          sym (get_or-chunk start 32 a n 0 hn)
          ∙ ap (λ zs. get_or zs n 0) (same_from_full xs ys long_a long_b full)
          ∙ get_or-chunk start 32 b n 0 hn,
      λ same.
          full_from_same xs ys long_a long_b
          (ext_get_or 0 xs ys (long_a ∙ sym long_b)
          (λ n hn. get_or-chunk start 32 a n 0 (omega arith) ∙ same n (omega arith) ∙ sym (get_or-chunk start 32 b n 0 (omega arith)))),
    )
