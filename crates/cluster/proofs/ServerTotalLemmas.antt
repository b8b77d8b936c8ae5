-- What all servers store is what all banks store, where each member is a server and has a bank.
use Rattle.std.proofs.Common.{◌≡◌, ℕ, zero, suc, ◌+◌, ◌≤◌, ◌<◌, ◌==◌, Bool}
use Rattle.std.proofs.Common.{true, false, if◌then◌else◌, List, [], ◌∷◌, length, refl, arith}
use Rattle.std.specs.List.{AllByRecursion}
use Rattle.std.proofs.lemmas.Bool.Decides.{nat_tests}
use Rattle.std.proofs.lemmas.List.Sums.{sum_by-cons}
use Rattle.layout.specs.Layout.{Layout}
use Rattle.bank.specs.Bank.{Bank}
use Rattle.bank.specs.Bytes.{bank_bytes}
use Rattle.record.specs.Accounts.{member_sum, position_bytes, stored_bytes}
use Rattle.record.specs.Accounts as of
use Rattle.register.specs.Position.{banks_bytes, all_bytes}
use Rattle.cluster.specs.Accounts.{object_sum, banks_all}
use Rattle.cluster.specs.Cluster.{Named}
use Rattle.cluster.specs.Kept.{HasMembersBelow, AreBanked, IsPlaced}

sum_none : (from count : ℕ) → member_sum (λ s. 0) from count ≡ 0
sum_none from zero = refl
sum_none from (suc count) = let rest = sum_none (suc from) count in omega (arith, rest)

-- functions that have the same value at each server have the same sum over the servers
pub sum_same : (f g : ℕ → ℕ) (from count : ℕ) → ((s : ℕ) → f s ≡ g s) →
    member_sum f from count ≡ member_sum g from count
sum_same f g from zero same = refl
sum_same f g from (suc count) same = let rest = sum_same f g (suc from) count same in let here = same from in omega (arith, rest, here)

pub sum_added : (f g : ℕ → ℕ) (from count : ℕ) →
    member_sum (λ s. f s + g s) from count ≡ member_sum f from count + member_sum g from count
sum_added f g from zero = refl
sum_added f g from (suc count) = let rest = sum_added f g (suc from) count in omega (arith, rest)

pub chosen : (b : Bool) (n : ℕ) → b ≡ true → (if b then n else 0) ≡ n
chosen true n e = refl
chosen false n e = absurd (cc)

pub passed : (b : Bool) (n : ℕ) → b ≡ false → (if b then n else 0) ≡ 0
passed true n e = absurd (cc)
passed false n e = refl

sum_past : (k n from count : ℕ) → k < from → member_sum (λ s. if k == s then n else 0) from count ≡ 0
sum_past k n from zero before = refl
sum_past k n from (suc count) before =
    let rest = sum_past k n (suc from) count (omega (arith, before)) in
    let other : (k == from) ≡ false = grind (arith, nat_tests, before) in
    omega (arith, rest, passed (k == from) n other)

-- one server counts it
pub sum_one : (k n from count : ℕ) → from ≤ k → k < from + count → member_sum (λ s. if k == s then n else 0) from count ≡ n
sum_one k n from zero low high = absurd (omega (arith, low, high))
sum_one k n from (suc count) low high = pick (k == from) refl (λ above. sum_one k n (suc from) count above (omega (arith, high)))
  where
    pick : (b : Bool) → (k == from) ≡ b → (suc from ≤ k → member_sum (λ s. if k == s then n else 0) (suc from) count ≡ n)
        → (if k == from then n else 0) + member_sum (λ s. if k == s then n else 0) (suc from) count ≡ n
    pick true e later =
        let same : k ≡ from = grind (arith, nat_tests, e) in
        let rest = sum_past k n (suc from) count (omega (arith, same)) in
        omega (arith, rest, chosen (k == from) n e)
    pick false e later =
        let above : suc from ≤ k = grind (arith, nat_tests, e, low) in
        omega (arith, later above, passed (k == from) n e)

position_total : (servers : ℕ) (members : List ℕ) (banks : List Bank) → AllByRecursion (λ member. member < servers) members →
    length banks ≡ length members → member_sum (λ s. position_bytes s members banks) 0 servers ≡ banks_bytes banks
position_total servers [] [] below same = sum_none 0 servers
position_total servers (m ∷ members) (b ∷ banks) below same =
    let rest = position_total servers members banks below.1 (omega (arith, same)) in
    let first = below.0 in
    let one = sum_one m (bank_bytes b) 0 servers (omega arith) (omega (arith, first)) in
    let both = sum_added (λ s. if m == s then bank_bytes b else 0) (λ s. position_bytes s members banks) 0 servers in
    omega (arith, rest, one, both, sum_by-cons bank_bytes b banks)
position_total servers _ _ below same = absurd (omega (arith, same))

-- over all servers, the stored bytes of one object are the bytes of its banks
pub object_total : (servers : ℕ) (layouts : List Layout) (banks : List (List Bank)) →
    AllByRecursion (HasMembersBelow servers) layouts → AreBanked layouts banks →
    member_sum (λ s. stored_bytes s layouts banks) 0 servers ≡ all_bytes banks
object_total servers [] [] below banked = sum_none 0 servers
object_total servers (l ∷ layouts) (b ∷ banks) below banked =
    let rest = object_total servers layouts banks below.1 banked.1 in
    let one = position_total servers l.members b below.0 banked.0 in
    let both = sum_added (λ s. position_bytes s l.members b) (λ s. stored_bytes s layouts banks) 0 servers in
    omega (arith, rest, one, both, sum_by-cons banks_bytes b banks)
object_total servers _ _ below banked = absurd banked

-- over all servers, the stored bytes of all objects are the bytes of all their banks
pub objects_total : (servers counter : ℕ) (objects : List Named) → AllByRecursion (IsPlaced servers counter) objects
    → member_sum (λ s. object_sum (λ o. of.stored o.state.object s) objects) 0 servers ≡ banks_all objects
objects_total servers counter [] placed = sum_none 0 servers
objects_total servers counter (o ∷ objects) placed =
    let rest = objects_total servers counter objects placed.1 in
    let one = object_total servers o.state.object.layouts o.state.object.banks placed.0.layouts placed.0.banked in
    let both = sum_added (λ s. of.stored o.state.object s) (λ s. object_sum (λ o. of.stored o.state.object s) objects) 0 servers in
    omega (arith, rest, one, both)
