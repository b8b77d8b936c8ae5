-- The last position of a register.
use Rattle.std.proofs.Common.{get_or, ◌≡◌, ℕ, zero, suc, pred, ◌-◌}
use Rattle.std.proofs.Common.{length, Some, sym, subst, arith}
use Rattle.std.proofs.Common.{slice_get}
use Rattle.std.proofs.lemmas.Option.{slice_get_read}
use Rattle.layout.specs.Layout.{Layout, IsLawful}
use Rattle.soundness.proofs.ListLemmas.{all_get}
use Rattle.register.specs.Kept.{IsKept}
use Rattle.register.specs.Position.{Position, layouts_of}
use Rattle.register.specs.State.{Contents}
use Rattle.register.proofs.ListLemmas.{found_map}
use Rattle.register.proofs.NewReadOrWriteLemmas.{some_position}

-- the last position of a register
pub record IsLast (c : Contents) (from : ℕ) (source : Layout) : Type 0 where
  pub position : Position
  pub at : slice_get c.positions from ≡ Some position
  pub last : suc from ≡ length c.positions
  pub same : source ≡ position.layout

-- the last of so many positions, as it was read
pub last_of : (c : Contents) (count : ℕ) (p : Position) (source : Layout) → IsKept c → count ≡ length c.positions
    → p ≡ get_or c.positions (count - 1) p →
    source ≡ p.layout → IsLast c (count - 1) source
last_of c count p source kept all read same =
    let some = some_position c kept in
    record {
      position = p;
      at = slice_get_read c.positions count (count - 1) p all (omega (arith, all, some)) read;
      last = omega (arith, all, some);
      same = same;
    }

pub last_lawful : (c : Contents) (from : ℕ) (source : Layout) → IsKept c → IsLast c from source → IsLawful source
last_lawful c from source kept is_last =
    subst IsLawful (sym is_last.same)
    (all_get IsLawful (layouts_of c.positions) from is_last.position.layout kept.sound.legal.layouts
    (found_map (λ (p : Position). p.layout) c.positions from is_last.position is_last.at))

pub pred_is : (n from : ℕ) → suc from ≡ n → pred n ≡ from
pred_is zero from e = absurd (cc)
pred_is (suc n) from e = omega (arith, e)
