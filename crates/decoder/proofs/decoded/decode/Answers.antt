use Rattle.std.proofs.Common.{sym, subst, ◌∙◌, true≢false, rules}
use Rattle.decoder.specs.Pieces.{AreLawful}
use Rattle.decoder.proofs.ValuePrefixLemmas.{AreLawful-pieces_of}
use Rattle.decoder.proofs.decoded.decode.Goals as goal

pub returns-then-not-are_lawful-clause-round_trip : goal.returns-then-not-are_lawful-clause-round_trip
returns-then-not-are_lawful-clause-round_trip c v len known =
    let lawful =
    subst (AreLawful c.args.k c.args.len) (sym c.deref.ensures.value)
    (AreLawful-pieces_of v c.args.k c.args.len c.args.pieces.items len known) in
    absurd (true≢false (sym (c.are_lawful.ensures.lawful.1 lawful) ∙ c.if-not-are_lawful.true))

pub returns-then-not-are_lawful-clause-bad_pieces : goal.returns-then-not-are_lawful-clause-bad_pieces
returns-then-not-are_lawful-clause-bad_pieces c = search rules
