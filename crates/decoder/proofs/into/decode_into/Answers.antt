use Rattle.std.proofs.Common.{length, Result, Ok, Err, OnOk, OnErr, IsOk, refl, sym, ◌∙◌, true≢false}
use Rattle.kernels.specs.Dot.{bytes_of}
use Rattle.kernels.proofs.LaneSumLemmas.{length-bytes_of}
use Rattle.decoder.specs.Parts.{AreLawfulParts, pieces_at}
use Rattle.decoder.proofs.ValuePrefixLemmas.{AreLawful-pieces_of, IsInterpolated-pieces_of, value-only}
use Rattle.decoder.proofs.into.decode_into.Goals as goal

-- what follows from what an answer gives, or a refusal
on_ok : {T E : Type 0} (r : Result T E) (A B : Type 0) → OnOk r A → (A → B) → OnOk r B
on_ok (Ok x) A B a f = f a
on_ok (Err e) A B a f = tt

on_err : {T E : Type 0} (r : Result T E) (A B : Type 0) → OnErr r A → (A → B) → OnErr r B
on_err (Ok x) A B a f = tt
on_err (Err e) A B a f = f a

-- a result that cannot be a refusal is an answer, and what follows from an answer holds
ok_and : {T E : Type 0} (r : Result T E) (A B : Type 0) → OnOk r A → OnErr r ⊥ → (A → B) → IsOk r × B
ok_and (Ok x) A B a none f = (refl, f a)
ok_and (Err e) A B a none f = absurd none

pub returns-then-not-are_lawful_parts-clause-round_trip : goal.returns-then-not-are_lawful_parts-clause-round_trip
returns-then-not-are_lawful_parts-clause-round_trip c v len as_many known =
    let fragments = c.args.fragments.now in
    let points = c.args.points.now in
    let pieces = pieces_at (length c.args.out.now) points (bytes_of fragments) in
    let parts : AreLawfulParts c.args.k (length c.args.out.now) points (bytes_of fragments) =
    record {
      as_many = length-bytes_of fragments ∙ as_many;
      lawful = AreLawful-pieces_of v c.args.k (length c.args.out.now) pieces len known;
    } in
    absurd (true≢false (sym (c.are_lawful_parts.ensures.lawful.1 parts) ∙ c.if-not-are_lawful_parts.true))

pub returns-clause-only : goal.returns-clause-only
returns-clause-only c =
    let fragments = c.args.fragments.now in
    let points = c.args.points.now in
    let len = length c.args.out.now in
    let lawful = c.are_lawful_parts.ensures.lawful.0 c.if-not-are_lawful_parts.false in
    on_ok c.write_value.result _ _ c.write_value.ensures.interpolated
    (λ made v known.
    value-only c.args.k len (pieces_at len points (bytes_of fragments)) lawful.lawful c.if-not-are_lawful_parts.ensures.bytes
    v c.write_value.new.out known made)

pub returns-clause-round_trip : goal.returns-clause-round_trip
returns-clause-round_trip c v len as_many known =
    let fragments = c.args.fragments.now in
    let points = c.args.points.now in
    let size = length c.args.out.now in
    let lawful = c.are_lawful_parts.ensures.lawful.0 c.if-not-are_lawful_parts.false in
    let pieces = pieces_at size points (bytes_of fragments) in
    let given = IsInterpolated-pieces_of v c.args.k size pieces len known in
    ok_and c.write_value.result _ _ c.write_value.ensures.interpolated
    (on_err c.write_value.result _ _ c.write_value.ensures.none (λ none. none v given))
    (λ made.
    value-only c.args.k size pieces lawful.lawful c.if-not-are_lawful_parts.ensures.bytes c.write_value.new.out v made given)
