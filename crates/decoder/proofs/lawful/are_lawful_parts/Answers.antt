use Rattle.std.proofs.Common.{sym, ◌∙◌, arith, true≢false, Bool, true, false}
use Rattle.std.specs.Bool.{OnTrue}
use Rattle.kernels.specs.Dot.{bytes_of}
use Rattle.kernels.proofs.LaneSumLemmas.{length-bytes_of}
use Rattle.decoder.proofs.PointAndFragmentLemmas.{AreLawfulParts-from, AreOfBytes-from, counts, fragment_at-len, distinct_points}
use Rattle.decoder.proofs.lawful.are_lawful_parts.Goals as goal

pub returns-then-not-are_counts_lawful-clause-lawful : goal.returns-then-not-are_counts_lawful-clause-lawful
returns-then-not-are_counts_lawful-clause-lawful c =
    let same = length-bytes_of c.args.fragments.now in (
      λ no. absurd (true≢false (sym no)),
      λ parts.
          let known = counts c.args.k c.args.len c.args.points.now (bytes_of c.args.fragments.now) parts in
          absurd (true≢false
          (sym (c.are_counts_lawful.ensures.1 (known.0, known.1, known.2, sym same ∙ known.3)) ∙ c.if-not-are_counts_lawful.true)),
    )

pub returns-then-not-have_len-clause-lawful : goal.returns-then-not-have_len-clause-lawful
returns-then-not-have_len-clause-lawful c =
    let fragments = c.args.fragments.now in
    let same = length-bytes_of fragments in (
      λ no. absurd (true≢false (sym no)),
      λ parts.
          absurd (true≢false
          (sym (c.have_len.ensures.lens.1
          (λ i hi.
          fragment_at-len c.args.k c.args.len c.args.points.now (bytes_of fragments) parts i (omega arith)
          ∙ sym c.div_ceil.ensures))
          ∙ c.if-not-have_len.true)),
    )

pub returns-clause-lawful : goal.returns-clause-lawful
returns-clause-lawful c =
    let k = c.args.k in
    let len = c.args.len in
    let points = c.args.points.now in
    let fragments = c.args.fragments.now in
    let same = length-bytes_of fragments in
    let known = c.are_counts_lawful.ensures.0 c.if-not-are_counts_lawful.false in
    let lens = c.have_len.ensures.lens.0 c.if-not-have_len.false in (
      λ distinct.
          AreLawfulParts-from len points (bytes_of fragments) k (known.0, known.1, known.2, same ∙ known.3) c.ranges.k.fits
          (λ i hi. lens i (omega arith) ∙ c.div_ceil.ensures) (c.are_distinct.ensures.distinct.0 distinct),
      λ parts. c.are_distinct.ensures.distinct.1 (distinct_points k len points (bytes_of fragments) parts),
    )

-- a fact that holds in any case also holds if the test is true
on_true : (b : Bool) (A : Type 0) → A → OnTrue b A
on_true true A a = a
on_true false A a = tt

pub returns-clause-bytes : goal.returns-clause-bytes
returns-clause-bytes c =
    let fragments = c.args.fragments.now in
    let same = length-bytes_of fragments in
    let known = c.are_counts_lawful.ensures.0 c.if-not-are_counts_lawful.false in
    on_true c.are_distinct.result _
    (AreOfBytes-from c.args.len c.args.points.now (bytes_of fragments) c.are_distinct.ensures.bytes (same ∙ known.3 ∙ sym known.2)
    (λ i hi. c.if-not-have_len.ensures.bytes i (omega arith)))
