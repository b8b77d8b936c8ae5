use Rattle.std.proofs.Common.{◌≡◌, ℕ, List, IfOk, OnOk, Ok, Err, rules, subst}
use Rattle.std.specs.Prelude.{Result}
use Rattle.tag.specs.declared.refusal.Refusal.{Refusal}
use Rattle.piece.specs.declared.piece.Piece.{Piece}
use Rattle.decoder.specs.Decoded.{Decoding}
use Rattle.decoder.specs.Pieces.{AreLawful, IsInterpolated}
use Rattle.coding_commands.specs.Answer.{IsDecodedValue}
use Rattle.coding_commands.proofs.value.value_of.Goals as goal

-- the decoder's three facts on a value are one
decoded : (k len : ℕ) (pieces : List Piece) (r : Result Decoding Refusal) → OnOk r (AreLawful k len pieces)
    → IfOk r (λ d. IsInterpolated k len pieces d.value)
    → IfOk r (λ d. (v : List ℕ) → IsInterpolated k len pieces v → v ≡ d.value) → IfOk r (λ d. IsDecodedValue k len pieces d.value)
decoded k len pieces (Ok d) lawful interpolated only = record { lawful = lawful; interpolated = interpolated; only = only }
decoded k len pieces (Err e) lawful interpolated only = tt

pub returns-clause-value : goal.returns-clause-value
returns-clause-value c =
    let same_k : c.in-Ok-Ok.k ≡ c.args.k = search rules in
    let same_len : c.in-Ok-Ok.len ≡ c.args.len = search rules in
    subst (λ k. IfOk c.decode.result (λ d. IsDecodedValue k c.args.len c.args.pieces.items d.value)) same_k
    (subst (λ len. IfOk c.decode.result (λ d. IsDecodedValue c.in-Ok-Ok.k len c.args.pieces.items d.value)) same_len
    (decoded c.in-Ok-Ok.k c.in-Ok-Ok.len c.args.pieces.items c.decode.result c.decode.ensures.lawful
    c.decode.ensures.interpolated c.decode.ensures.only))
