-- The field of 256 elements. A number is a polynomial over two elements, with bit i as the coefficient of x^i, and a
-- byte is one of degree below 8. The sum of two polynomials, and their difference, is `bit_xor`.
use Rattle.std.specs.Prelude.{◌≡◌, ℕ, zero, suc, ◌+◌, ◌*◌, ◌^◌, ◌<◌, bit_xor}
use Rattle.std.specs.Int.{bit_at}

-- the modulus of the field: the polynomial x^8 + x^4 + x^3 + x^2 + 1
abbrev pub modulus : ℕ
modulus = 0x11D

-- the product of two polynomials, the first of degree below n: the sum over i of its term at x^i times the second
unfoldable pub polynomial_product : ℕ → ℕ → ℕ → ℕ
polynomial_product zero a b = 0
polynomial_product (suc n) a b = bit_xor (polynomial_product n a b) (bit_at a n * (b * 2 ^ n))

-- the remainder of a polynomial of degree below 8 + n by the modulus, by long division from the highest term down
unfoldable pub remainder : ℕ → ℕ → ℕ
remainder zero p = p
remainder (suc n) p = remainder n (bit_xor p (bit_at p (8 + n) * (modulus * 2 ^ n)))

-- r has degree below 8, and p is the modulus times a polynomial of degree below 7, plus r
pub record IsRemainder (p r : ℕ) : Type 0 where
  pub quotient : ℕ
  pub fits : r < 2 ^ 8
  pub division : p ≡ bit_xor (polynomial_product 7 quotient modulus) r

-- the product of two bytes in the field
unfoldable pub field_product : ℕ → ℕ → ℕ
field_product a b = remainder 7 (polynomial_product 8 a b)

-- a to the power e: the product of e factors a, in the field
unfoldable pub field_power : ℕ → ℕ → ℕ
field_power a zero = 1
field_power a (suc e) = field_product a (field_power a e)

-- the sum of f i over all i below n, in the field
unfoldable pub field_sum : ℕ → (ℕ → ℕ) → ℕ
field_sum zero f = 0
field_sum (suc n) f = bit_xor (field_sum n f) (f n)
