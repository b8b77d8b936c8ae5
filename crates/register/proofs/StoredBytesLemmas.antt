-- What a server stores is no more than what all banks store.
use Rattle.std.proofs.Common.{◌≡◌, ℕ, suc, ◌+◌, ◌<◌, ◌≤◌, ◌==◌, Bool, true, false, if◌then◌else◌, List, [], ◌∷◌, length, get_or, drop, sym}
use Rattle.std.proofs.Common.{ap, ◌∙◌, refl, arith, lit<}
use Rattle.std.specs.List.{AllByRecursion}
use Rattle.std.proofs.lemmas.Option.{slice_get_read, get_or_from_slice_get}
use Rattle.std.proofs.Math.Seq.{drop-cons}
use Rattle.std.proofs.lemmas.List.Sums.{sum_by-cons}
use Rattle.layout.specs.Layout.{IsLawful}
use Rattle.bank.specs.Bank.{Bank}
use Rattle.bank.specs.Bytes.{bank_bytes}
use Rattle.record.specs.Accounts.{base_bytes_of, position_bytes, stored_bytes}
use Rattle.record.specs.Records.{no_layout}
use Rattle.tag.specs.declared.limits.TheConstants.{MOST_BYTES}
use Rattle.register.specs.Position.{Position, layouts_of, banks_of, banks_bytes, all_bytes}
use Rattle.register.specs.Kept.{IsKept}
use Rattle.register.specs.State.{Contents, state_of}
use Rattle.soundness.proofs.ListLemmas.{all_get}
use Rattle.register.proofs.ListLemmas.{found_map, sum_at}

counted : (b : Bool) (n : ℕ) → (if b then n else 0) ≤ n
counted true n = omega arith
counted false n = omega arith

position_least : (server : ℕ) (members : List ℕ) (banks : List Bank) → position_bytes server members banks ≤ banks_bytes banks
position_least server (m ∷ members) (b ∷ banks) =
    let rest = position_least server members banks in
    omega (arith, rest, counted (m == server) (bank_bytes b), sum_by-cons bank_bytes b banks)
position_least server _ _ = omega arith

pub stored_least : (server : ℕ) (ps : List Position) → stored_bytes server (layouts_of ps) (banks_of ps) ≤ all_bytes (banks_of ps)
stored_least server [] = omega arith
stored_least server (p ∷ ps) =
    let rest = stored_least server ps in
    let here = position_least server p.layout.members p.banks in
    omega (arith, rest, here, sum_by-cons banks_bytes p.banks (banks_of ps))

-- the bytes of a position, with those of the positions before it
pub stored_next : (server : ℕ) (ps : List Position) (i total : ℕ) (p : Position) → i < length ps → p ≡ get_or ps i p
    → stored_bytes server (layouts_of ps) (banks_of ps) ≡ total + stored_bytes server (layouts_of (drop i ps)) (banks_of (drop i ps))
    → all_bytes (banks_of ps) ≤ MOST_BYTES → total + position_bytes server p.layout.members p.banks < 18446744073709551616
stored_next server ps i total p within read is most =
    let least = stored_least server ps in
    let here : stored_bytes server (layouts_of (drop i ps)) (banks_of (drop i ps))
    ≡ position_bytes server p.layout.members p.banks + stored_bytes server (layouts_of (drop (suc i) ps)) (banks_of (drop (suc i) ps)) =
    ap (λ qs. stored_bytes server (layouts_of qs) (banks_of qs)) (drop-cons ps i p within)
    ∙ ap (λ (q : Position). position_bytes server q.layout.members q.banks + stored_bytes server (layouts_of (drop (suc i) ps))
    (banks_of (drop (suc i) ps))) (sym read) in
    let limit : MOST_BYTES < 18446744073709551616 = lit< tt in
    omega (arith, least, here, limit, is, most)

pub stored_most : (server : ℕ) (ps : List Position) (total rest : ℕ) → stored_bytes server (layouts_of ps) (banks_of ps) ≡ total + rest
    → all_bytes (banks_of ps) ≤ MOST_BYTES → total ≤ MOST_BYTES
stored_most server ps total rest is most = let least = stored_least server ps in omega (arith, least, is, most)

-- the layout that is read at a position is lawful
pub layout_at_lawful : (ps : List Position) (i : ℕ) (p : Position) → i < length ps → p ≡ get_or ps i p
    → AllByRecursion IsLawful (layouts_of ps) → IsLawful p.layout
layout_at_lawful ps i p within read all =
    all_get IsLawful (layouts_of ps) i p.layout all
    (found_map (λ (p : Position). p.layout) ps i p (slice_get_read ps (length ps) i p refl within read))

-- what a server stores at one position is no more than what all banks store
pub part_of : (server : ℕ) (ps : List Position) (i : ℕ) (p : Position) → i < length ps → p ≡ get_or ps i p
    → all_bytes (banks_of ps) ≤ MOST_BYTES → position_bytes server p.layout.members p.banks ≤ MOST_BYTES
part_of server ps i p within read most =
    let here = position_least server p.layout.members p.banks in
    let part = sum_at banks_bytes (banks_of ps) i p.banks
    (found_map (λ (p : Position). p.banks) ps i p (slice_get_read ps (length ps) i p refl within read)) in
    omega (arith, here, part, most)

-- what it stores at the base, as it is read
pub base_stored : (c : Contents) (server : ℕ) (p : Position) → IsKept c → c.base < length c.positions → p ≡ get_or c.positions c.base p
    → position_bytes server p.layout.members p.banks ≡ base_bytes_of (state_of c).object server
base_stored c server p kept within read =
    let at = slice_get_read c.positions (length c.positions) c.base p refl within read in
    let placed = found_map (λ (p : Position). p.layout) c.positions c.base p at in
    let banked = found_map (λ (p : Position). p.banks) c.positions c.base p at in
    let layout = get_or_from_slice_get (layouts_of c.positions) c.base p.layout no_layout placed in
    let banks = get_or_from_slice_get (banks_of c.positions) c.base p.banks [] banked in
    cc (layout, banks, kept.based)
