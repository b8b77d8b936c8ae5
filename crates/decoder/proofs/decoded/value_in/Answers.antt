use Rattle.std.proofs.Common.{◌≡◌, ◌⊎◌, ◌≤◌, List, length, take, IfOk, IfErr, sym, subst, ◌∙◌, arith}
use Rattle.tag.specs.declared.refusal.Refusal.TheVariants.{BadPieces, NoMemory}
use Rattle.kernels.specs.Dot.{bytes_of}
use Rattle.piece.specs.declared.piece.Piece.{Piece}
use Rattle.decoder.specs.Parts.{pieces_at}
use Rattle.decoder.specs.Pieces.{AreOfBytes, HaveNoValue, IsInterpolated}
use Rattle.decoder.proofs.PointAndFragmentLemmas.{pieces_at-slices, AreLawfulParts-slices}
use Rattle.decoder.proofs.decoded.value_in.Goals as goal

-- the points and the slices make the pieces
same_pieces : (c : goal.After-as_slice) →
    pieces_at c.args.len c.as_slice.result.now (bytes_of (take c.args.k c.fill_fragments.new.fragments)) ≡ c.args.pieces.now
same_pieces c =
    let lawful = c.requires.lawful in
    let enough : c.args.k ≤ length c.fill_fragments.new.fragments = omega (arith, c.fill_fragments.auto.fragments, c.requires.room) in
    pieces_at-slices c.args.k c.args.len c.args.pieces.now c.as_slice.result.now c.fill_fragments.new.fragments
    (c.as_slice.ensures.value ∙ c.points-points.ensures.points) lawful.count enough c.fill_fragments.ensures lawful.lens

pub make_value-requires-clause-lawful : goal.make_value-requires-clause-lawful
make_value-requires-clause-lawful c =
    let lawful = c.requires.lawful in
    let enough : c.args.k ≤ length c.fill_fragments.new.fragments = omega (arith, c.fill_fragments.auto.fragments, c.requires.room) in
    AreLawfulParts-slices c.args.k c.args.len c.args.pieces.now c.as_slice.result.now c.fill_fragments.new.fragments
    (c.as_slice.ensures.value ∙ c.points-points.ensures.points) lawful.count enough (same_pieces c) lawful

pub make_value-requires-clause-bytes : goal.make_value-requires-clause-bytes
make_value-requires-clause-bytes c = subst AreOfBytes (sym (same_pieces c)) c.requires.bytes

pub returns-clause-interpolated : goal.returns-clause-interpolated
returns-clause-interpolated c =
    let lawful = c.requires.lawful in
    let enough : c.args.k ≤ length c.fill_fragments.new.fragments = omega (arith, c.fill_fragments.auto.fragments, c.requires.room) in
    let same =
    pieces_at-slices c.args.k c.args.len c.args.pieces.now c.as_slice.result.now c.fill_fragments.new.fragments
    (c.as_slice.ensures.value ∙ c.points-points.ensures.points) lawful.count enough c.fill_fragments.ensures lawful.lens in
    subst (λ (pieces : List Piece). IfOk c.make_value.result (λ value. IsInterpolated c.args.k c.args.len pieces value.items)) same
    c.make_value.ensures.interpolated

pub returns-clause-refused : goal.returns-clause-refused
returns-clause-refused c =
    let lawful = c.requires.lawful in
    let enough : c.args.k ≤ length c.fill_fragments.new.fragments = omega (arith, c.fill_fragments.auto.fragments, c.requires.room) in
    let same =
    pieces_at-slices c.args.k c.args.len c.args.pieces.now c.as_slice.result.now c.fill_fragments.new.fragments
    (c.as_slice.ensures.value ∙ c.points-points.ensures.points) lawful.count enough c.fill_fragments.ensures lawful.lens in
    subst (λ (pieces : List Piece). IfErr c.make_value.result
    (λ e. ((e ≡ BadPieces) × HaveNoValue c.args.k c.args.len pieces) ⊎ ((e ≡ NoMemory) × (¬ HaveNoValue c.args.k c.args.len pieces)))) same
    c.make_value.ensures.refused
