-- What reports say to a phase of a call, the call was told.
use Rattle.std.proofs.Common.{◌≡◌, ℕ, suc, nat_eq, eqb, eqb-true, eq-eqb, Bool, true, false, cond}
use Rattle.std.proofs.Common.{List, [], ◌∷◌, length, map, filter, refl, sym, ap, ◌∙◌}
use Rattle.std.specs.List.{AllByRecursion, IsDistinct, count_by}
use Rattle.std.proofs.lemmas.List.Sums.{length-filter}
use Rattle.record.specs.Fragments.{Code}
use Rattle.letter.specs.Tellings.{SaysNoMore}
use Rattle.letter.specs.declared.telling.Telling.{Telling}
use Rattle.open_calls.specs.OpenCalls.{NodeCall}
use Rattle.local_object.specs.declared.report.Report.{Report}
use Rattle.local_object.specs.Reports.{is_of, is_same}
use Rattle.told_replies.specs.Tellings.{HasTold, HaveTold, Run}
use Rattle.refinement.specs.ToldLetters.{AreApart}
use Rattle.refinement.proofs.EarlyRunLemmas.{IsReportOf}
use Rattle.local_object.proofs.NewObjectLemmas.{are_both, both}

module _ (fragment : Code) (run : Run) (call : NodeCall) where
  -- a report to the call's current phase is something that the call was told
  pub told_by_report : (report : Report) → IsReportOf fragment run report → is_of call.id call.phase.number report ≡ true →
      (whole : Telling) × SaysNoMore report.telling whole × HasTold fragment run call report.member whole
  told_by_report report is of =
      let names = both (eqb report.call call.id) (eqb report.phase call.phase.number) of in (
        is.whole,
        is.less,
        record {
          request = is.request;
          told = is.told;
          same_call = is.same_call ∙ eqb-true report.call call.id names.0;
          same_phase = is.same_phase ∙ eqb-true report.phase call.phase.number names.1;
          same_member = is.same_member;
        },
      )

  module _ (test : Report → Bool) (Says : (member : ℕ) → Telling → Type 0)
      (of_call : (report : Report) → test report ≡ true → is_of call.id call.phase.number report ≡ true)
      (says : (report : Report) (whole : Telling) → test report ≡ true → SaysNoMore report.telling whole → Says report.member whole)
    where
      -- the members of the reports that pass the test
      abbrev members : List Report → List ℕ
      members reports = map (λ (r : Report). r.member) (filter test reports)

      abbrev Told : ℕ → Type 0
      Told member = (telling : Telling) × HasTold fragment run call member telling × Says member telling

      told_if : (report : Report) (reports : List Report) → IsReportOf fragment run report →
          AllByRecursion Told (members reports) → (b : Bool) → test report ≡ b →
          AllByRecursion Told (map (λ (r : Report). r.member) (cond b (report ∷ filter test reports) (filter test reports)))
      told_if report reports is others true e =
          let told = told_by_report report is (of_call report e) in
          ((told.0, told.2, says report told.0 e told.1), others)
      told_if report reports is others false e = others

      all_told : (reports : List Report) → AllByRecursion (IsReportOf fragment run) reports → AllByRecursion Told (members reports)
      all_told [] are = tt
      all_told (report ∷ reports) are = told_if report reports are.0 (all_told reports are.1) (test report) refl

      -- of reports to one phase that are apart, the members are
      other_member : (report other : Report) → test report ≡ true → test other ≡ true → is_same report other ≡ false →
          eqb report.member other.member ≡ false
      other_member report other mine its apart = go (eqb report.member other.member) refl
        where
          go : (b : Bool) → eqb report.member other.member ≡ b → eqb report.member other.member ≡ false
          go false e = e
          go true e =
              let a = both (eqb report.call call.id) (eqb report.phase call.phase.number) (of_call report mine) in
              let b = both (eqb other.call call.id) (eqb other.phase call.phase.number) (of_call other its) in
              let one = eq-eqb other.call report.call
              (eqb-true other.call call.id b.0 ∙ sym (eqb-true report.call call.id a.0)) in
              let two = eq-eqb other.phase report.phase
              (eqb-true other.phase call.phase.number b.1 ∙ sym (eqb-true report.phase call.phase.number a.1)) in
              let three = eq-eqb other.member report.member (sym (eqb-true report.member other.member e)) in
              let wrong : true ≡ false =
              sym (are_both (is_of report.call report.phase other) (eqb other.member report.member)
              (are_both (eqb other.call report.call) (eqb other.phase report.phase) one two) three) ∙ apart in
              absurd (cc)

      apart_if : (report other : Report) (reports : List Report) → test report ≡ true → is_same report other ≡ false →
          AllByRecursion (λ m. eqb report.member m ≡ false) (members reports) → (b : Bool) → test other ≡ b →
          AllByRecursion (λ m. eqb report.member m ≡ false)
          (map (λ (r : Report). r.member) (cond b (other ∷ filter test reports) (filter test reports)))
      apart_if report other reports mine apart others true e = (other_member report other mine e apart, others)
      apart_if report other reports mine apart others false e = others

      apart_from : (report : Report) (reports : List Report) → test report ≡ true →
          AllByRecursion (λ other. is_same report other ≡ false) reports →
          AllByRecursion (λ m. eqb report.member m ≡ false) (members reports)
      apart_from report [] mine all = tt
      apart_from report (other ∷ reports) mine all =
          apart_if report other reports mine all.0 (apart_from report reports mine all.1) (test other) refl

      distinct_if : (report : Report) (reports : List Report) → AllByRecursion (λ other. is_same report other ≡ false) reports →
          IsDistinct nat_eq (members reports) → (b : Bool) → test report ≡ b →
          IsDistinct nat_eq (map (λ (r : Report). r.member) (cond b (report ∷ filter test reports) (filter test reports)))
      unfolding IsDistinct
      distinct_if report reports apart others true e = (apart_from report reports e apart, others)
      distinct_if report reports apart others false e = others

      all_distinct : (reports : List Report) → AreApart reports → IsDistinct nat_eq (members reports)
      unfolding IsDistinct
      all_distinct [] apart = tt
      all_distinct (report ∷ reports) apart = distinct_if report reports apart.0 (all_distinct reports apart.1) (test report) refl

      length_members : (reports : List Report) → length (map (λ (r : Report). r.member) reports) ≡ length reports
      length_members [] = refl
      length_members (r ∷ rs) = ap suc (length_members rs)

      pub count_is : (reports : List Report) → length (members reports) ≡ count_by test reports
      count_is reports = length_members (filter test reports) ∙ length-filter test reports

      pub have_told : (reports : List Report) → AllByRecursion (IsReportOf fragment run) reports → AreApart reports →
          HaveTold fragment run call Says (members reports)
      have_told reports are apart = record { distinct = all_distinct reports apart; each = all_told reports are }
