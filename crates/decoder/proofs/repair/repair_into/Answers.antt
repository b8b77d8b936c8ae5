use Rattle.std.proofs.Common.{sym, ◌∙◌, true≢false, rules}
use Rattle.kernels.specs.Dot.{bytes_of}
use Rattle.kernels.proofs.LaneSumLemmas.{length-bytes_of}
use Rattle.decoder.specs.Parts.{AreLawfulParts, pieces_at}
use Rattle.decoder.proofs.ValuePrefixLemmas.{AreLawful-pieces_of}
use Rattle.decoder.proofs.repair.repair_into.Goals as goal

pub returns-then-not-are_lawful_parts-clause-from_any : goal.returns-then-not-are_lawful_parts-clause-from_any
returns-then-not-are_lawful_parts-clause-from_any c v len as_many known =
    let fragments = c.args.fragments.now in
    let pieces = pieces_at c.args.len c.args.points.now (bytes_of fragments) in
    let parts : AreLawfulParts c.args.k c.args.len c.args.points.now (bytes_of fragments) =
    record {
      as_many = length-bytes_of fragments ∙ as_many;
      lawful = AreLawful-pieces_of v c.args.k c.args.len pieces len known;
    } in
    absurd (true≢false (sym (c.are_lawful_parts.ensures.lawful.1 parts) ∙ c.if-not-are_lawful_parts.true))

pub returns-clause-repaired : goal.returns-clause-repaired
returns-clause-repaired c = search rules
