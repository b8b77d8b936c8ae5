use Rattle.std.proofs.Common.{◌≡◌, ◌⊎◌, IfErr, IsErrAnd, Result, Ok, Err, sym, subst, inr, refl, ◌∙◌}
use Rattle.tag.specs.declared.refusal.Refusal.{Refusal}
use Rattle.tag.specs.declared.refusal.Refusal.TheVariants.{BadPieces, NoMemory}
use Rattle.decoder.specs.Pieces.{HaveNoValue}
use Rattle.decoder.proofs.ValuePrefixLemmas.{value-only}
use Rattle.decoder.proofs.decoded.value_of.Goals as goal

-- what holds of NoMemory holds where it is the only error
only_no_memory : {T : Type 0} (r : Result T Refusal) (P : Refusal → Type 0) → IsErrAnd r (λ e. e ≡ NoMemory) → P NoMemory → IfErr r P
only_no_memory (Ok value) P only here = tt
only_no_memory (Err e) P only here = subst P (sym only) here

pub returns-in_err-from_vec-clause-refused : goal.returns-in_err-from_vec-clause-refused
returns-in_err-from_vec-clause-refused c =
    only_no_memory c.from_residual-in_err-from_vec.result
    (λ e. ((e ≡ BadPieces) × HaveNoValue c.args.k c.args.len c.args.pieces.now)
    ⊎ ((e ≡ NoMemory) × (¬ HaveNoValue c.args.k c.args.len c.args.pieces.now)))
    c.from_residual-in_err-from_vec.ensures.1 (inr (refl, λ none. none c.in_ok-value.value.items c.in_ok-value.ensures.interpolated))

pub returns-clause-only : goal.returns-clause-only
returns-clause-only c v known =
    value-only c.args.k c.args.len c.args.pieces.now c.requires.lawful c.requires.bytes v c.in_ok-value.value.items known
    c.in_ok-value.ensures.interpolated
    ∙ sym c.in_ok-from_vec.ensures.ok
