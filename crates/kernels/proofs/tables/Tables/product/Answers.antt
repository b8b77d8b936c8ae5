use Rattle.std.proofs.Common.{◌≡◌, get_or, refl, sym, ap, ap₂, ◌∙◌}
use Rattle.gf256.specs.Field.{field_product}
use Rattle.gf256.specs.Polynomial.{scaled}
use Rattle.kernels.specs.declared.tables.TheConstants.{HALVES}
use Rattle.kernels.proofs.HalfByteLemmas.{products_of_products}
use Rattle.kernels.proofs.tables.Tables.product.Goals as goal

-- the products, and the first of them
known : (c : goal.After-row_known-1)
    → (c.looked_up-products.result ≡ scaled (field_product (get_or c.self.inside.products 1 0)
    (get_or c.other.inside.products 1 0)) HALVES)
    × (get_or c.looked_up-products.result 1 0 ≡ field_product (get_or c.self.inside.products 1 0) (get_or c.other.inside.products 1 0))
known c =
    products_of_products (get_or c.self.inside.products 1 0)
    (get_or c.other.inside.products 1 0) c.self.inside.products c.other.inside.products
    c.looked_up-products.result refl refl c.self.invariant c.other.invariant c.looked_up-products.ensures

pub invariant_of-result : goal.invariant_of-result
invariant_of-result c = (known c).0 ∙ ap (λ a. scaled a HALVES) (sym (known c).1)

pub returns : goal.returns
returns c = (known c).1 ∙ ap₂ field_product c.self.view_is c.other.view_is
