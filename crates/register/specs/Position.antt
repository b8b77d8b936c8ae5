-- A position of an object, with its banks and their bytes.
use Rattle.std.specs.Prelude.{ℕ, List, refl, map, sum_by}
use Rattle.std.specs.Coded.{Coded, code_by, coded×, coded_list}
use Rattle.layout.specs.Layout.{Layout}
use Rattle.bank.specs.Bank.{Bank}
use Rattle.bank.specs.Bytes.{bank_bytes}

-- a position of an object: its layout, and a bank for each member
pub record Position : Type 0 where
  pub layout : Layout
  pub banks : List Bank

-- how a position is encoded: as the pair of its parts
abbrev pub position_code : Coded Layout → Coded Bank → Coded Position
position_code layout bank =
    code_by (Layout × List Bank) (coded× layout (coded_list bank)) (λ p. (p.layout, p.banks))
    (λ p. record { layout = p.0; banks = p.1 }) (λ _. refl)

-- the layouts of these positions
abbrev pub layouts_of : List Position → List Layout
layouts_of positions = map (λ p. p.layout) positions

-- the banks of these positions
abbrev pub banks_of : List Position → List (List Bank)
banks_of positions = map (λ p. p.banks) positions

-- the number of bytes of all pieces in these banks
abbrev pub banks_bytes : List Bank → ℕ
banks_bytes banks = sum_by bank_bytes banks

-- the number of bytes of all pieces in all banks of an object
abbrev pub all_bytes : List (List Bank) → ℕ
all_bytes banks = sum_by banks_bytes banks
