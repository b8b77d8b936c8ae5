-- Words of a command line that are three.
use Rattle.std.proofs.Common.{◌≡◌, ℕ, List, [], ◌∷◌, map, length, ◌≤◌, ◌<◌, subst, arith}
use Rattle.std.specs.Prelude.{Result, get_or}
use Rattle.words.specs.Word.{Word}
use Rattle.casd.specs.declared.arguments.Request.{Request}
use Rattle.casd.specs.declared.fault.Fault.{Fault}
use Rattle.casd.specs.Request.{ParsesTo}

-- what three words ask for, where each of them is the item at its place, and is seen as it is given
pub of_three : {A : Type 0} (see : A → List ℕ) (xs : List A) (a b c : A) (x y z : Word) (r : Result Request Fault) →
    3 ≤ length xs → length xs < 4 → a ≡ get_or xs 0 a → b ≡ get_or xs 1 b → c ≡ get_or xs 2 c →
    x ≡ see a → y ≡ see b → z ≡ see c → ParsesTo (x ∷ y ∷ z ∷ []) r → ParsesTo (map see xs) r
of_three see [] a b c x y z r least most at next last first second third asks = absurd (omega arith)
of_three see (d ∷ []) a b c x y z r least most at next last first second third asks = absurd (omega arith)
of_three see (d ∷ e ∷ []) a b c x y z r least most at next last first second third asks = absurd (omega arith)
of_three see (d ∷ e ∷ f ∷ []) a b c x y z r least most at next last first second third asks =
    subst (λ words. ParsesTo words r) (cc) asks
of_three see (d ∷ e ∷ f ∷ g ∷ more) a b c x y z r least most at next last first second third asks = absurd (omega arith)
