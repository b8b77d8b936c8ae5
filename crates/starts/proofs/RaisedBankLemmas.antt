-- A pointer that is final now was final before, or was raised by a request.
use Rattle.std.proofs.Common.{◌≡◌, ◌⊎◌, inl, inr, ℕ, zero, suc, ◌<◌, List, [], ◌∷◌, ◌++◌, length, get_or, set, refl, ap, arith}
use Rattle.bank.specs.Bank.{Bank}
use Rattle.bank.specs.Pointer.{raised, status_of}
use Rattle.bank.specs.Serve.{served_bank}
use Rattle.bank.specs.declared.request.Request.{Request}
use Rattle.bank.specs.declared.request.Request.TheVariants as request
use Rattle.bank.specs.declared.status.Pointer.{Pointer}
use Rattle.bank.specs.declared.status.Pointer.TheVariants as pointer
use Rattle.bank.specs.declared.status.Status.{Status}
use Rattle.bank.specs.declared.status.Status.TheVariants as status
use Rattle.record.specs.Records.{no_bank}
use Rattle.network.specs.Worlds.{ClusterFile, new_banks}
use Rattle.starts.proofs.FinalPointerLemmas.{IsFinal, bank_in}

-- A bank that serves

raised_from : (p : Pointer) (s : Status) (now : ℕ) → status_of (raised p s now) ≡ status.Final →
    (status_of p ≡ status.Final) ⊎ (s ≡ status.Final)
raised_from p status.Final now final = inr refl
raised_from (pointer.Final pending since) s now final = inl refl
raised_from pointer.Unset status.Unset now final = absurd (cc)
raised_from pointer.Unset status.Pending now final = absurd (cc)
raised_from (pointer.Pending since) status.Unset now final = absurd (cc)
raised_from (pointer.Pending since) status.Pending now final = absurd (cc)

-- a bank that is final after it served a request was so before, or the request was to raise the pointer to final
pub served_from : (bank : Bank) (asked : Request) (now : ℕ) → IsFinal (served_bank bank asked now) →
    IsFinal bank ⊎ (asked ≡ request.Spread status.Final)
served_from bank request.Next now final = inl final
served_from bank (request.Spread s) now final = go (raised_from bank.pointer s now final)
  where
    go : IsFinal bank ⊎ (s ≡ status.Final) → IsFinal bank ⊎ (request.Spread s ≡ request.Spread status.Final)
    go (inl before) = inl before
    go (inr is) = inr (ap request.Spread is)
served_from bank request.Query now final = inl final
served_from bank (request.PreWrite tag piece) now final = inl final
served_from bank (request.Finalize tag) now final = inl final
served_from bank (request.Fetch tag) now final = inl final

-- Banks by member and position

-- where one bank of a list is exchanged, a bank that is final was final before, or is the new one
final_of_set : (banks : List Bank) (place other : ℕ) (new : Bank) → IsFinal (get_or (set banks place new) other no_bank) →
    IsFinal (get_or banks other no_bank) ⊎ ((place ≡ other) × IsFinal new)
final_of_set [] place other new final = inl final
final_of_set (bank ∷ banks) zero zero new final = inr (refl, final)
final_of_set (bank ∷ banks) zero (suc other) new final = inl final
final_of_set (bank ∷ banks) (suc place) zero new final = inl final
final_of_set (bank ∷ banks) (suc place) (suc other) new final = go (final_of_set banks place other new final)
  where
    go : IsFinal (get_or banks other no_bank) ⊎ ((place ≡ other) × IsFinal new) →
        IsFinal (get_or banks other no_bank) ⊎ ((suc place ≡ suc other) × IsFinal new)
    go (inl before) = inl before
    go (inr here) = inr (ap suc here.0, here.1)

-- the same of the banks of all positions
pub final_of_set_in : (banks : List (List Bank)) (position member other member2 : ℕ) (new : Bank) →
    IsFinal (bank_in (set banks position (set (get_or banks position []) member new)) other member2) →
    IsFinal (bank_in banks other member2) ⊎ ((position ≡ other) × (member ≡ member2) × IsFinal new)
final_of_set_in [] position member other member2 new final = inl final
final_of_set_in (first ∷ later) zero member zero member2 new final = go (final_of_set first member member2 new final)
  where
    go : IsFinal (get_or first member2 no_bank) ⊎ ((member ≡ member2) × IsFinal new) →
        IsFinal (get_or first member2 no_bank) ⊎ ((zero ≡ zero) × (member ≡ member2) × IsFinal new)
    go (inl before) = inl before
    go (inr here) = inr (refl, here.0, here.1)
final_of_set_in (first ∷ later) zero member (suc other) member2 new final = inl final
final_of_set_in (first ∷ later) (suc position) member zero member2 new final = inl final
final_of_set_in (first ∷ later) (suc position) member (suc other) member2 new final =
    go (final_of_set_in later position member other member2 new final)
  where
    go : IsFinal (bank_in later other member2) ⊎ ((position ≡ other) × (member ≡ member2) × IsFinal new) →
        IsFinal (bank_in later other member2) ⊎ ((suc position ≡ suc other) × (member ≡ member2) × IsFinal new)
    go (inl before) = inl before
    go (inr here) = inr (ap suc here.0, here.1, here.2)

-- a bank that is opened has no final pointer
pub no_new_final : (files : ℕ → ClusterFile) (servers : List ℕ) (first member : ℕ) →
    IsFinal (get_or (new_banks files servers first) member no_bank) → ⊥
no_new_final files [] first member final = cc
no_new_final files (server ∷ servers) first zero final = cc
no_new_final files (server ∷ servers) first (suc member) final = no_new_final files servers (suc first) member final

-- a bank of more positions that is final is one of those of before, if none of the last position is final
pub final_of_more : (banks : List (List Bank)) (row : List Bank) → ((member : ℕ) → IsFinal (get_or row member no_bank) → ⊥) →
    (position member : ℕ) → IsFinal (bank_in (banks ++ row ∷ []) position member) → IsFinal (bank_in banks position member)
final_of_more [] row none zero member final = absurd (none member final)
final_of_more [] row none (suc position) member final = final
final_of_more (first ∷ later) row none zero member final = final
final_of_more (first ∷ later) row none (suc position) member final = final_of_more later row none position member final

-- a bank that is final exists
pub final_exists : (banks : List Bank) (member : ℕ) → IsFinal (get_or banks member no_bank) → member < length banks
final_exists [] member final = absurd (cc)
final_exists (bank ∷ banks) zero final = omega arith
final_exists (bank ∷ banks) (suc member) final = let rest = final_exists banks member final in omega (arith, rest)
