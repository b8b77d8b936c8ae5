-- A log that is cut, and the entries that stand at the front of some bytes.
use Rattle.std.proofs.Common.{◌≡◌, ◌⊎◌, ℕ, ◌<◌, ◌^◌, suc, List, [], ◌∷◌, ◌++◌, length, take, replicate}
use Rattle.std.proofs.Common.{sym, ap, subst, ◌∙◌, refl, inl, inr, append_assoc, arith}
use Rattle.std.specs.List.{AllByRecursion}
use Rattle.frames.specs.Frame.{IsFrame}
use Rattle.node_log.specs.Entry.{chain_after, chain_behind, first_chain, log_entry_bytes}
use Rattle.node_log.specs.Reading.{HasLogEntry, IsEnd}
use Rattle.node_log.specs.Laws.{CutIsEnd, BeginsOneEntry, MovedIsDamaged}
use Rattle.node_store.specs.Recovery.{IsWholeEntry, log_bytes, BeginsWith}
use Rattle.node_store.specs.Laws.{MovedIsNoticed}
use Rattle.node_store.proofs.LogBytesLemmas.{chain_behind_lt, has_bytes}

-- where two lists are put together of two parts each, one of the first parts begins the other
pub split : (a c b d : List ℕ) → a ++ b ≡ c ++ d
    → ((m : List ℕ) × (c ≡ a ++ m) × (b ≡ m ++ d)) ⊎ ((m : List ℕ) × (a ≡ c ++ m) × (m ≡ [] → ⊥))
split [] c b d e = inl (c, refl, e)
split (x ∷ a) [] b d e = inr (x ∷ a, refl, λ (none : (x ∷ a) ≡ []). absurd cc)
split (x ∷ a) (y ∷ c) b d e =
    let same : x ≡ y = cc in
    let others : a ++ b ≡ c ++ d = cc in
    elim (split a c b d others) [
      | inl p ↦ inl (p.0, ap (λ (z : ℕ). z ∷ c) (sym same) ∙ ap (λ (t : List ℕ). x ∷ t) p.1, p.2)
      | inr p ↦ inr (p.0, ap (λ (z : ℕ). z ∷ a) same ∙ ap (λ (t : List ℕ). y ∷ t) p.1, p.2)
    ]

no_strings : IsFrame []
no_strings = record { few = omega arith; short = tt }

some_bytes : (chain : ℕ) → log_entry_bytes chain [] ≡ [] → ⊥
some_bytes chain none =
    let len = ap length none in
    let some = has_bytes chain [] in absurd (omega arith)

pub cut_log : CutIsEnd → (chain : ℕ) (entries : List (List (List ℕ))) (front back : List ℕ) (count : ℕ)
    → AllByRecursion IsWholeEntry entries → log_bytes chain entries ≡ front ++ back
    → (whole : ℕ) × BeginsWith chain (take whole entries) IsEnd (front ++ replicate count 0)
cut_log cut chain [] [] back count all e =
    (0, (replicate count 0, refl, cut chain [] [] (log_entry_bytes chain []) count no_strings refl (some_bytes chain)))
cut_log cut chain [] (byte ∷ front) back count all e = absurd cc
cut_log cut chain (x ∷ xs) front back count all e =
    let behind : List ℕ = replicate count 0 in
    let next = chain_after chain x in
    elim (split (log_entry_bytes chain x) front (log_bytes next xs) back e) [
      | inl p ↦
          let rec = cut_log cut next xs p.0 back count all.1 p.2 in (
            suc rec.0,
            (
              rec.1.0,
              ap (λ (t : List ℕ). t ++ behind) p.1
                  ∙ append_assoc (log_entry_bytes chain x) p.0 behind
                  ∙ ap (λ (t : List ℕ). log_entry_bytes chain x ++ t) rec.1.1
                  ∙ sym (append_assoc (log_entry_bytes chain x) (log_bytes next (take rec.0 xs)) rec.1.0),
              rec.1.2,
            ),
          )
      | inr p ↦ (0, (front ++ behind, refl, cut chain x front p.0 count all.0 p.1 p.2))
    ]

pub one_log : BeginsOneEntry → (chain : ℕ) (es fs : List (List (List ℕ))) (x y : List ℕ) → AllByRecursion IsWholeEntry es
    → AllByRecursion IsWholeEntry fs → log_bytes chain es ++ x ≡ log_bytes chain fs ++ y
    → (HasLogEntry (chain_behind chain es) x → ⊥) → (HasLogEntry (chain_behind chain fs) y → ⊥) → (es ≡ fs) × (x ≡ y)
one_log one chain [] [] x y ae af e ex ey = (refl, e)
one_log one chain [] (f ∷ fs) x y ae af e ex ey =
    let bytes = log_bytes (chain_after chain f) fs in
    absurd (ex (f, bytes ++ y, af.0, e ∙ append_assoc (log_entry_bytes chain f) bytes y))
one_log one chain (h ∷ es) [] x y ae af e ex ey =
    let bytes = log_bytes (chain_after chain h) es in
    absurd (ey (h, bytes ++ x, ae.0, sym e ∙ append_assoc (log_entry_bytes chain h) bytes x))
one_log one chain (h ∷ es) (f ∷ fs) x y ae af e ex ey =
    let next = chain_after chain h in
    let other = chain_after chain f in
    let begins : log_entry_bytes chain h ++ (log_bytes (chain_after chain h) es ++ x)
    ≡ log_entry_bytes chain f ++ (log_bytes (chain_after chain f) fs ++ y) =
    sym (append_assoc (log_entry_bytes chain h) (log_bytes next es) x) ∙ e
    ∙ append_assoc (log_entry_bytes chain f) (log_bytes other fs) y in
    let same = one chain h f (log_bytes next es ++ x) (log_bytes other fs ++ y) ae.0 af.0 begins in
    let links : chain_after chain f ≡ chain_after chain h = ap (λ (t : List (List ℕ)). chain_after chain t) (sym same.0) in
    let rest = one_log one next es fs x y ae.1 af.1
    (same.1 ∙ ap (λ (c : ℕ). log_bytes c fs ++ y) links) ex
    (λ has. ey (subst (λ (c : ℕ). HasLogEntry (chain_behind c fs) y) (sym links) has)) in
    (ap (λ (t : List (List ℕ)). t ∷ es) same.0 ∙ ap (λ (t : List (List (List ℕ))). f ∷ t) rest.0, rest.1)

first_lt : first_chain < 2 ^ 32
first_lt = omega arith

pub moved_log : MovedIsDamaged → MovedIsNoticed
moved_log moved entries entry other rest whole small differs = (
  log_entry_bytes other entry ++ rest,
  refl,
  moved (chain_behind first_chain entries) other entry rest whole (chain_behind_lt first_chain entries first_lt) small differs,
)
