-- The bytes that a server stores.
use Rattle.std.proofs.Common.{◌≡◌, ℕ, zero, suc, ◌+◌, ◌<◌, ◌==◌, Bool, true, false, cond, List, []}
use Rattle.std.proofs.Common.{◌∷◌, ◌++◌, length, set, get_or, Option, refl, ap, ◌∙◌, arith}
use Rattle.layout.specs.Layout.{Layout}
use Rattle.bank.specs.Bank.{Bank, opened_bank}
use Rattle.bank.specs.Bytes.{bank_bytes, added_bytes}
use Rattle.bank.specs.Serve.{served_bank, freed_bytes}
use Rattle.bank.specs.declared.request.Request.{Request}
use Rattle.bank.proofs.BankBytesLemmas.{served_bytes, opened_bytes}
use Rattle.record.specs.Records.{Object, layout_at, bank_at, no_bank, no_layout}
use Rattle.record.specs.Accounts.{position_bytes, stored_bytes, stored, server_at, for_server}
use Rattle.record.specs.Steps.{with_bank, opened_banks, moving_object}
use Rattle.soundness.proofs.Sound.LeftBankLemmas.{SameBanks}

-- Banks

for_server-sum : (server other a b : ℕ) → for_server server other (a + b) ≡ for_server server other a + for_server server other b
for_server-sum server other a b = grind arith

exchanged : (new rest old : ℕ) → new + rest + old ≡ old + rest + new
exchanged new rest old = omega arith

behind : (first p q old new : ℕ) → p + old ≡ q + new → first + p + old ≡ first + q + new
behind first p q old new e = omega arith

-- another bank for a member of a position
position-set : (server : ℕ) (members : List ℕ) (banks : List Bank) (member : ℕ) (bank : Bank) →
    member < length members → member < length banks → position_bytes server members (set banks member bank)
    + for_server server (get_or members member 0) (bank_bytes (get_or banks member no_bank))
    ≡ position_bytes server members banks + for_server server (get_or members member 0) (bank_bytes bank)
position-set server (x ∷ members) (old ∷ banks) zero bank m b =
    exchanged (for_server server x (bank_bytes bank)) (position_bytes server members banks) (for_server server x (bank_bytes old))
position-set server (x ∷ members) (old ∷ banks) (suc member) bank m b =
    let below : member < length members = omega arith in
    let there : member < length banks = omega arith in
    behind (for_server server x (bank_bytes old)) (position_bytes server members (set banks member bank))
    (position_bytes server members banks)
    (for_server server (get_or members member 0) (bank_bytes (get_or banks member no_bank)))
    (for_server server (get_or members member 0) (bank_bytes bank))
    (position-set server members banks member bank below there)
position-set server _ _ member bank m b = absurd (omega arith)

-- other banks for a position
pub stored-set : (server : ℕ) (layouts : List Layout) (banks : List (List Bank)) (position : ℕ) (row : List Bank) →
    position < length layouts → position < length banks → stored_bytes server layouts (set banks position row)
    + position_bytes server (get_or layouts position no_layout).members (get_or banks position [])
    ≡ stored_bytes server layouts banks + position_bytes server (get_or layouts position no_layout).members row
stored-set server (layout ∷ layouts) (old ∷ banks) zero row p b =
    exchanged (position_bytes server layout.members row) (stored_bytes server layouts banks) (position_bytes server layout.members old)
stored-set server (layout ∷ layouts) (old ∷ banks) (suc position) row p b =
    let below : position < length layouts = omega arith in
    let there : position < length banks = omega arith in
    behind (position_bytes server layout.members old) (stored_bytes server layouts (set banks position row))
    (stored_bytes server layouts banks)
    (position_bytes server (get_or layouts position no_layout).members (get_or banks position []))
    (position_bytes server (get_or layouts position no_layout).members row)
    (stored-set server layouts banks position row below there)
stored-set server _ _ position row p b = absurd (omega arith)

two_steps : (s t p q old new : ℕ) → s + p ≡ t + q → q + old ≡ p + new → s + old ≡ t + new
two_steps s t p q old new e f = omega arith

-- the record with another bank of one member
pub stored-with_bank : (object : Object) (position member : ℕ) (bank : Bank) (server : ℕ) →
    position < length object.layouts → position < length object.banks → member < length (layout_at object position).members →
    member < length (get_or object.banks position []) → stored (with_bank object position member bank) server
    + for_server server (server_at object position member) (bank_bytes (bank_at object position member))
    ≡ stored object server + for_server server (server_at object position member) (bank_bytes bank)
stored-with_bank object position member bank server p b m n = grind (arith, position-set, stored-set, two_steps)

-- what is there after a request, by what it adds and what it frees
more_and_less : (s t old new added freed : ℕ) → s + old ≡ t + new → new + freed ≡ old + added → s + freed ≡ t + added
more_and_less s t old new added freed e f = omega arith

pub stored-served : (object : Object) (position member : ℕ) (asked : Request) (now server : ℕ) → position < length object.layouts →
    position < length object.banks →
    member < length (layout_at object position).members → member < length (get_or object.banks position []) →
    stored (with_bank object position member (served_bank (bank_at object position member) asked now)) server
    + for_server server (server_at object position member) (freed_bytes (bank_at object position member) asked now)
    ≡ stored object server + for_server server (server_at object position member) (added_bytes (bank_at object position member) asked)
stored-served object position member asked now server p b m n = grind (arith, for_server-sum, more_and_less, served_bytes, stored-with_bank)

-- banks that were just opened
pub position-opened : (server : ℕ) (members servers : List ℕ) (member : ℕ) (delta : Option ℕ) (now : ℕ) →
    position_bytes server members (opened_banks servers member delta now) ≡ 0
position-opened server (x ∷ members) (y ∷ servers) member delta now =
    let rest = position-opened server members servers (suc member) delta now in
    let first : for_server server x (bank_bytes (opened_bank member delta now)) ≡ 0 = ap (for_server server x)
    (opened_bytes member delta now)
    ∙ none (x == server) 0 in
    sum_none (for_server server x (bank_bytes (opened_bank member delta now)))
    (position_bytes server members (opened_banks servers (suc member) delta now)) first rest
  where
    none : (c : Bool) (n : ℕ) → cond c n n ≡ n
    none true n = refl
    none false n = refl

    sum_none : (a b : ℕ) → a ≡ 0 → b ≡ 0 → a + b ≡ 0
    sum_none a b e f = omega arith
position-opened server _ _ member delta now = refl

stored-append : (server : ℕ) (layouts : List Layout) (banks : List (List Bank)) (layout : Layout) (row : List Bank) →
    length banks ≡ length layouts → stored_bytes server (layouts ++ layout ∷ []) (banks ++ row ∷ [])
    ≡ stored_bytes server layouts banks + position_bytes server layout.members row
stored-append server [] [] layout row e = omega arith
stored-append server (l ∷ layouts) (b ∷ banks) layout row e =
    let rest = stored-append server layouts banks layout row (omega arith) in
    placed (position_bytes server l.members b)
    (stored_bytes server (layouts ++ layout ∷ []) (banks ++ row ∷ [])) (stored_bytes server layouts banks)
    (position_bytes server layout.members row) rest
  where
    placed : (a s t r : ℕ) → s ≡ t + r → a + s ≡ a + t + r
    placed a s t r e = omega arith
stored-append server _ _ layout row e = absurd (omega arith)

-- Each step, by the records that it leaves

module _ (object : Object) (server : ℕ) where
  -- where layouts and banks are left as they are
  pub stored-left : (new : Object) → SameBanks object new → stored new server ≡ stored object server
  stored-left new same = grind arith

  -- a call of a move appends a position, whose banks store nothing
  pub stored-moving : (id : ℕ) (layout : Layout) (now : ℕ) → length object.banks ≡ length object.layouts →
      stored (moving_object object id layout now) server ≡ stored object server
  stored-moving id layout now e = grind (arith, position-opened, stored-append)
