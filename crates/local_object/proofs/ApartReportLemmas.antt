-- No two reports are of the same member, to the same phase of the same call.
use Rattle.std.proofs.Common.{◌≡◌, ℕ, zero, suc, ◌&&◌, ◌||◌, Bool, true, false, cond, eqb, eqb-true, nat_eq, List, [], ◌∷◌, ◌++◌, filter}
use Rattle.std.proofs.Common.{map, take, refl, sym, ap, ◌∙◌}
use Rattle.std.specs.List.{AllByRecursion, IsDistinct, list_any}
use Rattle.open_calls.specs.Queries.{telling_members}
use Rattle.local_object.specs.declared.report.Report.{Report}
use Rattle.local_object.specs.Distinct.{DifferInMembers}
use Rattle.local_object.specs.Reports.{is_kept_beside, is_of, is_same, is_unset, tag_told, tells_unset}
use Rattle.local_object.proofs.CarriedCallLemmas.{equal}
use Rattle.local_object.proofs.NewObjectLemmas.{both}

-- fewer reports

pub all_kept : (P : Report → Type 0) (test : Report → Bool) (reports : List Report) → AllByRecursion P reports →
    AllByRecursion P (filter test reports)
all_kept P test [] all = tt
all_kept P test (report ∷ reports) all = go (test report) (all_kept P test reports all.1)
  where
    go : (b : Bool) → AllByRecursion P (filter test reports) →
        AllByRecursion P (cond b (report ∷ filter test reports) (filter test reports))
    go true rest = (all.0, rest)
    go false rest = rest

pub differ_kept : (test : Report → Bool) (reports : List Report) → DifferInMembers reports → DifferInMembers (filter test reports)
differ_kept test [] differ = tt
differ_kept test (report ∷ reports) differ = go (test report) (differ_kept test reports differ.1)
  where
    go : (b : Bool) → DifferInMembers (filter test reports) →
        DifferInMembers (cond b (report ∷ filter test reports) (filter test reports))
    go true rest = (all_kept (λ other. is_same other report ≡ false) test reports differ.0, rest)
    go false rest = rest

-- one more

neither : (a b : Bool) → (a || b) ≡ false → (a ≡ false) × (b ≡ false)
neither true b e = absurd (cc)
neither false b e = (refl, e)

pub none_same : (report : Report) (reports : List Report) → list_any (is_same report) reports ≡ false →
    AllByRecursion (λ other. is_same report other ≡ false) reports
none_same report [] none = tt
none_same report (other ∷ reports) none =
    let parts = neither (is_same report other) (list_any (is_same report) reports) none in
    (parts.0, none_same report reports parts.1)

all_more : (P : Report → Type 0) (reports : List Report) (report : Report) → AllByRecursion P reports → P report →
    AllByRecursion P (reports ++ report ∷ [])
all_more P [] report all one = (one, tt)
all_more P (other ∷ reports) report all one = (all.0, all_more P reports report all.1 one)

differ_more : (report : Report) (reports : List Report) → DifferInMembers reports →
    AllByRecursion (λ other. is_same report other ≡ false) reports → DifferInMembers (reports ++ report ∷ [])
differ_more report [] differ new = (tt, tt)
differ_more report (other ∷ reports) differ new = (
  all_more (λ one. is_same one other ≡ false) reports report differ.0 new.0,
  differ_more report reports differ.1 new.1,
)

-- a report whose member had not reported to the phase before, beside those that are kept
pub differ_beside : (report : Report) (reports : List Report) → DifferInMembers reports →
    list_any (is_same report) reports ≡ false → DifferInMembers (filter (is_kept_beside report) reports ++ report ∷ [])
differ_beside report reports differ none =
    differ_more report (filter (is_kept_beside report) reports) (differ_kept (is_kept_beside report) reports differ)
    (all_kept (λ other. is_same report other ≡ false) (is_kept_beside report) reports (none_same report reports none))

-- The members that told one phase of a call an unset pointer

module _ (call phase : ℕ) where
  abbrev IsOwn : Report → Type 0
  IsOwn report = is_of call phase report ≡ true

  own_kept : (reports : List Report) → AllByRecursion IsOwn (filter (tells_unset call phase) reports)
  own_kept [] = tt
  own_kept (report ∷ reports) = go (tells_unset call phase report) refl (own_kept reports)
    where
      kept : List Report
      kept = filter (tells_unset call phase) reports

      go : (b : Bool) → tells_unset call phase report ≡ b → AllByRecursion IsOwn kept → AllByRecursion IsOwn (cond b (report ∷ kept) kept)
      go true e rest = ((both (is_of call phase report) (is_unset report.telling.status) e).0, rest)
      go false e rest = rest

  same_phase : (report other : Report) → IsOwn report → IsOwn other → is_of other.call other.phase report ≡ true
  same_phase report other own others =
      let one = both (eqb report.call call) (eqb report.phase phase) own in
      let two = both (eqb other.call call) (eqb other.phase phase) others in
      ap (λ b. b && eqb report.phase other.phase)
      (equal report.call other.call (eqb-true report.call call one.0 ∙ sym (eqb-true other.call call two.0)))
      ∙ equal report.phase other.phase (eqb-true report.phase phase one.1 ∙ sym (eqb-true other.phase phase two.1))

  other_members : (report : Report) → IsOwn report → (reports : List Report) → AllByRecursion IsOwn reports →
      AllByRecursion (λ other. is_same other report ≡ false) reports → (n : ℕ) →
      AllByRecursion (λ m. nat_eq report.member m ≡ false) (telling_members (take n (map tag_told reports)))
  other_members report is [] own differ zero = tt
  other_members report is [] own differ (suc n) = tt
  other_members report is (other ∷ reports) own differ zero = tt
  other_members report is (other ∷ reports) own differ (suc n) = (
    sym (ap (λ b. b && nat_eq report.member other.member) (same_phase report other is own.0)) ∙ differ.0,
    other_members report is reports own.1 differ.1 n,
  )

  distinct_own : (reports : List Report) → AllByRecursion IsOwn reports → DifferInMembers reports → (n : ℕ) →
      IsDistinct nat_eq (telling_members (take n (map tag_told reports)))
  unfolding IsDistinct
  distinct_own [] own differ zero = tt
  distinct_own [] own differ (suc n) = tt
  distinct_own (report ∷ reports) own differ zero = tt
  distinct_own (report ∷ reports) own differ (suc n) =
      (other_members report own.0 reports own.1 differ.0 n, distinct_own reports own.1 differ.1 n)

  -- they are distinct
  pub distinct_telling : (reports : List Report) → DifferInMembers reports → (n : ℕ) →
      IsDistinct nat_eq (telling_members (take n (map tag_told (filter (tells_unset call phase) reports))))
  distinct_telling reports differ n =
      distinct_own (filter (tells_unset call phase) reports) (own_kept reports)
      (differ_kept (tells_unset call phase) reports differ) n
