-- Lists of open calls in which the call that asks is another one, and one more change of them.
use Rattle.std.proofs.Common.{◌≡◌, ℕ, Bool, true, false, cond, eqb, eqb-true, not, List, [], ◌∷◌, ◌++◌, refl, sym, ap, ◌∙◌}
use Rattle.std.specs.List.{AllByRecursion}
use Rattle.open_calls.specs.OpenCalls.{NodeCall, with_open, without_call}
use Rattle.open_calls.proofs.CallsOfNodeLemmas.{with_here}

-- what is so of each call is so of these
all_of : (P : NodeCall → Type 0) → ((call : NodeCall) → P call) → (calls : List NodeCall) → AllByRecursion P calls
all_of P each [] = tt
all_of P each (call ∷ calls) = (each call, all_of P each calls)

-- one more call
pub with_push : (asking new : NodeCall) (calls : List NodeCall) → eqb new.id asking.id ≡ false →
    with_open asking (calls ++ new ∷ []) ≡ with_open asking calls ++ new ∷ []
with_push asking new [] apart = ap (λ b. cond b asking new ∷ []) apart
with_push asking new (first ∷ calls) apart =
    ap (λ l. cond (eqb first.id asking.id) asking first ∷ l) (with_push asking new calls apart)

-- one call less
pub with_without : (asking : NodeCall) (id : ℕ) (calls : List NodeCall) → eqb asking.id id ≡ false →
    without_call id (with_open asking calls) ≡ with_open asking (without_call id calls)
with_without asking id calls apart =
    with_here (λ c. not (eqb c.id id)) asking calls (ap not apart)
    (all_of (λ (other : NodeCall). other.id ≡ asking.id → not (eqb other.id id) ≡ not (eqb asking.id id))
    (λ other same. ap (λ n. not (eqb n id)) same) calls)

-- another call is changed
one_swapped : (asking new first : NodeCall) → eqb asking.id new.id ≡ false → eqb new.id asking.id ≡ false → (a : Bool) →
    eqb first.id asking.id ≡ a → (b : Bool) → eqb first.id new.id ≡ b →
    cond (eqb (cond a asking first).id new.id) new (cond a asking first)
    ≡ cond (eqb (cond b new first).id asking.id) asking (cond b new first)
one_swapped asking new first apart other true s true t =
    absurd (let wrong : false ≡ true = sym apart ∙ ap (λ n. eqb n new.id) (sym (eqb-true first.id asking.id s)) ∙ t in cc)
one_swapped asking new first apart other true s false t =
    ap (λ c. cond c new asking) apart ∙ ap (λ c. cond c asking first) (sym s)
one_swapped asking new first apart other false s true t =
    ap (λ c. cond c new first) t ∙ sym (ap (λ c. cond c asking new) other)
one_swapped asking new first apart other false s false t =
    ap (λ c. cond c new first) t ∙ sym (ap (λ c. cond c asking first) s)

pub with_swap : (asking new : NodeCall) (calls : List NodeCall) → eqb asking.id new.id ≡ false → eqb new.id asking.id ≡ false →
    with_open new (with_open asking calls) ≡ with_open asking (with_open new calls)
with_swap asking new [] apart other = refl
with_swap asking new (first ∷ calls) apart other =
    ap (λ c. c ∷ with_open new (with_open asking calls))
    (one_swapped asking new first apart other (eqb first.id asking.id) refl (eqb first.id new.id) refl)
    ∙ ap (λ l. (let c : NodeCall = cond (eqb first.id new.id) new first in cond (eqb c.id asking.id) asking c) ∷ l)
    (with_swap asking new calls apart other)

-- the call itself is changed
one_again : (asking new first : NodeCall) → new.id ≡ asking.id → (b : Bool) → eqb first.id new.id ≡ b →
    cond (eqb (cond b new first).id asking.id) asking (cond b new first) ≡ cond (eqb first.id asking.id) asking first
one_again asking new first same true t =
    ap (λ n. cond (eqb n asking.id) asking new) (sym (eqb-true first.id new.id t))
    ∙ ap (λ c. cond c asking new) (ap (eqb first.id) (sym same) ∙ t)
    ∙ sym (ap (λ c. cond c asking first) (ap (eqb first.id) (sym same) ∙ t))
one_again asking new first same false t = refl

pub with_again : (asking new : NodeCall) (calls : List NodeCall) → new.id ≡ asking.id →
    with_open asking (with_open new calls) ≡ with_open asking calls
with_again asking new [] same = refl
with_again asking new (first ∷ calls) same =
    ap (λ c. c ∷ with_open asking (with_open new calls)) (one_again asking new first same (eqb first.id new.id) refl)
    ∙ ap (λ l. cond (eqb first.id asking.id) asking first ∷ l) (with_again asking new calls same)
