-- The banks of a world by position and member, after one of them changes.
use Rattle.std.proofs.Common.{◌≡◌, ℕ, zero, suc, ◌<◌, Bool, true, false, eqb, length, List, [], ◌∷◌, map, set}
use Rattle.std.proofs.Common.{Some, get_or, slice_get, refl, sym, subst, ap, ◌∙◌, eqb-true, eq-eqb, arith}
use Rattle.std.proofs.lemmas.List.{get_or-set_same, get_or-set_other}
use Rattle.std.proofs.lemmas.Option.{get_or_from_slice_get, slice_get_within}
use Rattle.std.proofs.Math.ListN.{get_or-map, length-set}
use Rattle.std.proofs.Math.Seq.{map-set_same}
use Rattle.layout.specs.Layout.{Layout}
use Rattle.bank.specs.Bank.{Bank}
use Rattle.record.specs.Records.{no_bank, no_layout}
use Rattle.network.specs.Worlds.{ClusterFile, new_banks}

-- the number of members of a layout
abbrev pub member_count : Layout → ℕ
member_count layout = length layout.members

-- a position has as many banks as its layout has members
pub row_count : (banks : List (List Bank)) (layouts : List Layout) (p : ℕ) → map length banks ≡ map member_count layouts →
    length (get_or banks p []) ≡ length (get_or layouts p no_layout).members
row_count banks layouts p counts =
    sym (get_or-map length banks p []) ∙ ap (λ l. get_or l p 0) counts ∙ get_or-map member_count layouts p no_layout

-- a member of a layout has a bank
pub has_bank : (banks : List (List Bank)) (layouts : List Layout) (p member server : ℕ) (layout : Layout) →
    map length banks ≡ map member_count layouts → slice_get layouts p ≡ Some layout →
    slice_get layout.members member ≡ Some server → member < length (get_or banks p [])
has_bank banks layouts p member server layout counts at is =
    let within = slice_get_within layout.members member server is in
    let count : length (get_or banks p []) ≡ length layout.members =
    row_count banks layouts p counts ∙ ap member_count (get_or_from_slice_get layouts p layout no_layout at) in omega (arith, within, count)

-- a position that is opened has as many banks as its layout has members
pub new_count : (files : ℕ → ClusterFile) (servers : List ℕ) (member : ℕ) → length (new_banks files servers member) ≡ length servers
new_count files [] member = refl
new_count files (server ∷ servers) member = ap suc (new_count files servers (suc member))

-- where a position has banks, it is one of the list
pub has_row : (banks : List (List Bank)) (p member : ℕ) → member < length (get_or banks p []) → p < length banks
has_row [] p member within = absurd (omega (arith, within))
has_row (row ∷ banks) zero member within = omega arith
has_row (row ∷ banks) (suc p) member within = let rest = has_row banks p member within in omega (arith, rest)

module _ (banks : List (List Bank)) (p member : ℕ) (new : Bank) where
  -- the banks with another one for this member
  abbrev pub with_served : List (List Bank)
  with_served = set banks p (set (get_or banks p []) member new)

  pub bank_set_here : member < length (get_or banks p []) → get_or (get_or with_served p []) member no_bank ≡ new
  bank_set_here within =
      ap (λ row. get_or row member no_bank)
      (get_or-set_same banks p (set (get_or banks p []) member new) [] (has_row banks p member within))
      ∙ get_or-set_same (get_or banks p []) member new no_bank within

  pub bank_set_there : member < length (get_or banks p []) → (q other : ℕ) → (p ≡ q → member ≡ other → ⊥) →
      get_or (get_or with_served q []) other no_bank ≡ get_or (get_or banks q []) other no_bank
  bank_set_there within q other apart = go (eqb q p) refl
    where
      go : (b : Bool) → eqb q p ≡ b → get_or (get_or with_served q []) other no_bank ≡ get_or (get_or banks q []) other no_bank
      go true t =
          let same = eqb-true q p t in
          subst (λ n. get_or (get_or with_served n []) other no_bank ≡ get_or (get_or banks n []) other no_bank) (sym same)
          (ap (λ row. get_or row other no_bank)
          (get_or-set_same banks p (set (get_or banks p []) member new) [] (has_row banks p member within))
          ∙ get_or-set_other (get_or banks p []) member other new no_bank (λ e. apart (sym same) (sym e)))
      go false t =
          ap (λ row. get_or row other no_bank) (get_or-set_other banks p q (set (get_or banks p []) member new) [] (apart_rows t))
        where
          apart_rows : eqb q p ≡ false → q ≡ p → ⊥
          apart_rows t e = absurd (let wrong : false ≡ true = sym t ∙ eq-eqb q p e in cc)

  pub counts_set : map length with_served ≡ map length banks
  counts_set = map-set_same length banks p (set (get_or banks p []) member new) [] (length-set (get_or banks p []) member new)
