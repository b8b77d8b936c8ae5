-- What retiring the base frees.
use Rattle.std.proofs.Common.{◌≡◌, ℕ, zero, suc, ◌+◌, ◌<◌, ◌≤◌, ◌||◌, ◌&&◌, eqb, Bool, true, false, cond, is_some, sum_by, List, [], ◌∷◌}
use Rattle.std.proofs.Common.{eqb-true}
use Rattle.std.proofs.Common.{length, map, Option, Some, None, refl, sym, ap, arith, eq-eqb, ne_eqb}
use Rattle.std.proofs.lemmas.List.Sums.{sum_by-cons}
use Rattle.std.specs.List.{AllByRecursion}
use Rattle.std.specs.FinMap as map
use Rattle.tag.specs.declared.tag.Tag.{Tag}
use Rattle.bank.specs.declared.row.Row.{Row}
use Rattle.bank.specs.Bank.{Bank}
use Rattle.bank.specs.Bytes.{bank_bytes, entry_bytes}
use Rattle.bank.specs.Collect.{retired_bank, dropped_bytes}
use Rattle.bank.specs.Knowledge.{since, is_dropped, finalized_at, exceeds, finals_above}
use Rattle.bank.proofs.BankBytesLemmas.{collected_bytes}
use Rattle.record.specs.Accounts.{position_bytes, for_server, member_sum}
use Rattle.std.proofs.lemmas.Bool.{eqb-false}

-- a bank that is retired, before it drops its pieces
abbrev retiring : Bank → (now : ℕ) → Bank
retiring bank now = record { rows = bank.rows; pointer = bank.pointer; delta = bank.delta; retired = since bank.retired now }

drops_each : (bank : Bank) (now : ℕ) (tag : Tag) → is_dropped (retiring bank now) tag ≡ true
drops_each bank now tag = go bank.retired
  where
    rest : Bool
    rest = is_some (finalized_at (retiring bank now) tag) && exceeds bank.delta (finals_above (retiring bank now) tag)

    go : (o : Option ℕ) → (is_some (since o now) || rest) ≡ true
    go None = refl
    go (Some at) = refl

dropped_all : (test : Tag → Bool) → ((tag : Tag) → test tag ≡ true) → (es : List (Tag × Row)) →
    sum_by (λ (e : Tag × Row). cond (test e.0) (entry_bytes e) 0) es ≡ sum_by entry_bytes es
dropped_all test all [] = refl
dropped_all test all (e ∷ es) =
    let rest = dropped_all test all es in
    let first : cond (test e.0) (entry_bytes e) 0 ≡ entry_bytes e = ap (λ b. cond b (entry_bytes e) 0) (all e.0) in
    omega (arith, sum_by-cons (λ (e : Tag × Row). cond (test e.0) (entry_bytes e) 0) e es, sum_by-cons entry_bytes e es)

-- a bank stores no bytes once it is retired and has dropped its pieces
pub retired_bytes : (bank : Bank) (now : ℕ) → bank_bytes (retired_bank bank now) ≡ 0
retired_bytes bank now =
    let whole = collected_bytes (retiring bank now) in
    let all : dropped_bytes (retiring bank now) ≡ bank_bytes (retiring bank now) =
    dropped_all (is_dropped (retiring bank now)) (drops_each bank now) (map.entries bank.rows) in
    omega arith

-- a server stores nothing at a position whose banks are all retired
pub position-retired : (server : ℕ) (members : List ℕ) (banks : List Bank) (now : ℕ) →
    position_bytes server members (map (λ bank. retired_bank bank now) banks) ≡ 0
position-retired server (member ∷ members) (bank ∷ banks) now =
    none (eqb member server) (bank_bytes (retired_bank bank now))
    (position_bytes server members (map (λ bank. retired_bank bank now) banks)) (retired_bytes bank now)
    (position-retired server members banks now)
  where
    none : (b : Bool) (n m : ℕ) → n ≡ 0 → m ≡ 0 → cond b n 0 + m ≡ 0
    none true n m e f = omega arith
    none false n m e f = omega arith
position-retired server _ _ now = refl

-- In sum over the servers, what they store at a position is what its banks store

sum_two : (f g : ℕ → ℕ) (first count : ℕ) →
    member_sum (λ i. f i + g i) first count ≡ member_sum f first count + member_sum g first count
sum_two f g first zero = refl
sum_two f g first (suc count) = let rest = sum_two f g (suc first) count in omega arith

sum_past : (member bytes first count : ℕ) → member < first → member_sum (λ server. for_server server member bytes) first count ≡ 0
sum_past member bytes first zero h = refl
sum_past member bytes first (suc count) h =
    let rest = sum_past member bytes (suc first) count (omega arith) in
    let none : for_server first member bytes ≡ 0 =
    ap (λ b. cond b bytes 0) (ne_eqb member first (λ same. omega arith)) in omega arith

sum_one : (member bytes first count : ℕ) → first ≤ member → member < first + count →
    member_sum (λ server. for_server server member bytes) first count ≡ bytes
sum_one member bytes first zero low high = absurd (omega arith)
sum_one member bytes first (suc count) low high = go (eqb first member) refl (λ l. sum_one member bytes (suc first) count l (omega arith))
  where
    go : (b : Bool) → eqb first member ≡ b →
        (suc first ≤ member → member_sum (λ server. for_server server member bytes) (suc first) count ≡ bytes) →
        for_server first member bytes + member_sum (λ server. for_server server member bytes) (suc first) count ≡ bytes
    go true e rest =
        let same : first ≡ member = eqb-true first member e in
        let here : for_server first member bytes ≡ bytes = ap (λ b. cond b bytes 0) (eq-eqb member first (sym same)) in
        let none = sum_past member bytes (suc first) count (omega arith) in omega arith
    go false e rest =
        let other : member ≡ first → ⊥ = λ same. eqb-false first member e (sym same) in
        let here : for_server first member bytes ≡ 0 = ap (λ b. cond b bytes 0) (ne_eqb member first other) in
        let more : suc first ≤ member = omega (arith, other) in
        let all = rest more in omega arith

no_sum : (first count : ℕ) → member_sum (λ server. 0) first count ≡ 0
no_sum first zero = refl
no_sum first (suc count) = let rest = no_sum (suc first) count in omega arith

pub sum_position : (servers : ℕ) (members : List ℕ) (banks : List Bank) → length banks ≡ length members →
    AllByRecursion (λ server. server < servers) members →
    member_sum (λ server. position_bytes server members banks) 0 servers ≡ sum_by bank_bytes banks
sum_position servers [] [] e all = no_sum 0 servers
sum_position servers (member ∷ members) (bank ∷ banks) e all =
    let rest = sum_position servers members banks (omega arith) all.1 in
    let two = sum_two (λ server. for_server server member (bank_bytes bank)) (λ server. position_bytes server members banks) 0 servers in
    let one = sum_one member (bank_bytes bank) 0 servers (omega arith) (let h = all.0 in omega arith) in
    omega (arith, sum_by-cons bank_bytes bank banks)
sum_position servers _ _ e all = absurd (omega arith)
