use Rattle.std.proofs.Common.{◌≡◌, get_or, sym, ap, ◌∙◌}
use Rattle.gf256.specs.Polynomial.{scaled}
use Rattle.gf256.proofs.FieldLemmas.{product-one_right}
use Rattle.kernels.specs.declared.tables.TheConstants.{HALVES}
use Rattle.kernels.proofs.tables.Tables.new.Goals as goal

is_first : (c : goal.After-products) → get_or c.products.result 1 0 ≡ c.args.c
is_first c = ap (λ ps. get_or ps 1 0) c.products.ensures ∙ product-one_right c.args.c c.ranges.c.fits

pub invariant_of-result : goal.invariant_of-result
invariant_of-result c = c.products.ensures ∙ ap (λ a. scaled a HALVES) (sym (is_first c))

pub returns : goal.returns
returns c = is_first c
