use Rattle.std.proofs.Common.{◌≡◌, ℕ, ◌+◌, min, [], ap₂, ◌∙◌}
use Rattle.std.proofs.Math.Nat.{zero-div, zero-mod}
use Rattle.std.proofs.lemmas.List.{nil_from_length}
use Rattle.encoder.specs.Fragment.{fragment, fragment_len}
use Rattle.encoder.proofs.ColumnLemmas.{length-fragment}
use Rattle.decoder.proofs.code.empty_values_have_empty_fragments.Goals as goal

no_len : (k : ℕ) → fragment_len k 0 ≡ 0
no_len k = ap₂ (λ a b. a + min 1 b) (zero-div k) (zero-mod k)

pub returns : goal.returns
returns c = λ k x. nil_from_length (fragment [] k x) (length-fragment [] k x ∙ no_len k)
