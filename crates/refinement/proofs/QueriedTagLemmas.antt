-- The tags that a quorum told a call, by what its node keeps, were told in the course of the world.
use Rattle.std.proofs.Common.{◌≡◌, ◌≤◌, ℕ, zero, suc, nat_eq, eqb, eqb-true, Bool, true, false, cond}
use Rattle.std.proofs.Common.{List, [], ◌∷◌, length, map, filter, take, Some, refl, sym, subst, ap, ◌∙◌}
use Rattle.std.specs.List.{AllByRecursion, IsDistinct, count_by}
use Rattle.std.proofs.lemmas.List.{length-take-le, take-map}
use Rattle.std.proofs.lemmas.Option.{get_or_from_slice_get}
use Rattle.layout.specs.Layout.{IsLawful, Layout, quorum_of}
use Rattle.bank.specs.declared.status.Status.{Status}
use Rattle.bank.specs.declared.status.Status.TheVariants as status
use Rattle.record.specs.Fragments.{Code}
use Rattle.record.specs.Records.{no_layout}
use Rattle.letter.specs.Tellings.{SaysNoMore}
use Rattle.letter.specs.declared.telling.Telling.{Telling}
use Rattle.network.specs.Worlds.{known_layout, known_layouts}
use Rattle.open_calls.specs.OpenCalls.{NodeCall}
use Rattle.open_calls.specs.Queries.{ToldTag, telling_members}
use Rattle.local_object.specs.declared.report.Report.{Report}
use Rattle.local_object.specs.Local.{LocalObject, layout_here}
use Rattle.local_object.specs.Reports.{is_of, is_unset, tag_told, tags_told, tells_unset}
use Rattle.local_object.proofs.NewObjectLemmas.{both}
use Rattle.soundness.proofs.ListLemmas.{all_get, all_weaker}
use Rattle.told_queries.specs.Courses.{Course, run_of}
use Rattle.told_queries.specs.Laws.{HasToldTag, IsToldTags}
use Rattle.told_replies.specs.Tellings.{world_of}
use Rattle.refinement.specs.Parts.{IsPartOf}
use Rattle.refinement.specs.ToldLetters.{AreApart, IsTrueReport}
use Rattle.refinement.specs.WellFormed.{IsWellFormed}
use Rattle.refinement.proofs.EarlyRunLemmas.{report_in_run}
use Rattle.refinement.proofs.LearntPartLemmas.{known_by_all}
use Rattle.refinement.proofs.ToldReportLemmas.{count_is, have_told}

-- The first of a list

all_take : {A : Type 0} (P : A → Type 0) (count : ℕ) (xs : List A) → AllByRecursion P xs → AllByRecursion P (take count xs)
all_take P zero xs all = tt
all_take P (suc count) [] all = tt
all_take P (suc count) (x ∷ xs) all = (all.0, all_take P count xs all.1)

distinct_take : (count : ℕ) (xs : List ℕ) → IsDistinct nat_eq xs → IsDistinct nat_eq (take count xs)
unfolding IsDistinct
distinct_take zero xs distinct = tt
distinct_take (suc count) [] distinct = tt
distinct_take (suc count) (x ∷ xs) distinct =
    (all_take (λ y. nat_eq x y ≡ false) count xs distinct.0, distinct_take count xs distinct.1)

-- The reports of unset pointers

unset_is : (s : Status) → is_unset s ≡ true → s ≡ status.Unset
unset_is status.Unset e = refl
unset_is status.Pending e = absurd (cc)
unset_is status.Final e = absurd (cc)

-- the members of reports tell the tags of the reports
members_told : (reports : List Report) → telling_members (map tag_told reports) ≡ map (λ (r : Report). r.member) reports
members_told [] = refl
members_told (report ∷ reports) = ap (λ members. report.member ∷ members) (members_told reports)

length_map : {A B : Type 0} (f : A → B) (xs : List A) → length (map f xs) ≡ length xs
length_map f [] = refl
length_map f (x ∷ xs) = ap suc (length_map f xs)

module _ (fragment : Code) (course : Course) (call : NodeCall) where
  abbrev unset : Report → Bool
  unset report = tells_unset call.id call.phase.number report

  -- the tag that such a report tells is one that the call was told
  told_tag : (report : Report) → IsTrueReport fragment course report → unset report ≡ true →
      HasToldTag fragment course call (tag_told report)
  told_tag report is e =
      let parts = both (is_of call.id call.phase.number report) (is_unset report.telling.status) e in
      let names = both (eqb report.call call.id) (eqb report.phase call.phase.number) parts.0 in record {
        request = is.request;
        telling = is.whole;
        was = is.told;
        same_call = is.same_call ∙ eqb-true report.call call.id names.0;
        same_phase = is.same_phase ∙ eqb-true report.phase call.phase.number names.1;
        same_member = is.same_member;
        status = sym is.less.status ∙ unset_is report.telling.status parts.1;
        greatest = sym is.less.greatest;
      }

  told_if : (report : Report) (reports : List Report) → IsTrueReport fragment course report →
      AllByRecursion (HasToldTag fragment course call) (map tag_told (filter unset reports)) → (b : Bool) → unset report ≡ b →
      AllByRecursion (HasToldTag fragment course call)
      (map tag_told (cond b (report ∷ filter unset reports) (filter unset reports)))
  told_if report reports is others true e = (told_tag report is e, others)
  told_if report reports is others false e = others

  all_told : (reports : List Report) → AllByRecursion (IsTrueReport fragment course) reports →
      AllByRecursion (HasToldTag fragment course call) (map tag_told (filter unset reports))
  all_told [] are = tt
  all_told (report ∷ reports) are = told_if report reports are.0 (all_told reports are.1) (unset report) refl

  -- what counts these reports, and sets their members apart
  abbrev Says : (member : ℕ) → Telling → Type 0
  Says member telling = Unit {0}

  of_call : (report : Report) → unset report ≡ true → is_of call.id call.phase.number report ≡ true
  of_call report e = (both (is_of call.id call.phase.number report) (is_unset report.telling.status) e).0

  says : (report : Report) (whole : Telling) → unset report ≡ true → SaysNoMore report.telling whole → Says report.member whole
  says report whole e less = tt

  length_told : (reports : List Report) → length (map tag_told (filter unset reports)) ≡ count_by unset reports
  length_told reports =
      length_map tag_told (filter unset reports) ∙ sym (length_map (λ (r : Report). r.member) (filter unset reports))
      ∙ count_is fragment (run_of course) call unset Says of_call says reports

  module _ (local : LocalObject) (formed : IsWellFormed fragment (world_of fragment (run_of course)))
      (part : IsPartOf (world_of fragment (run_of course)) local) (own : call.node ≡ local.node)
      (are : AllByRecursion (IsTrueReport fragment course) local.reports) (apart : AreApart local.reports) (layout : Layout)
      (known : layout_here local call.phase.position ≡ Some layout)
      (enough : quorum_of layout ≤ count_by unset local.reports) where
    abbrev told : List ToldTag
    told = map tag_told (filter unset local.reports)

    distinct : IsDistinct nat_eq (map (λ (r : Report). r.member) (filter unset local.reports))
    distinct =
        (have_told fragment (run_of course) call unset Says of_call says local.reports
        (all_weaker (IsTrueReport fragment course) _ (report_in_run fragment course) local.reports are) apart).distinct

    -- the first of these tags, as many as a quorum has members, are what a quorum told the call
    pub told_by_quorum : IsToldTags fragment course call layout (tags_told layout call.id call.phase.number local.reports)
    told_by_quorum = record {
      known = ap (λ node. known_layout (world_of fragment (run_of course)) node call.phase.position) own
          ∙ get_or_from_slice_get (known_layouts (world_of fragment (run_of course)) local.node) call.phase.position layout no_layout
          (part.layouts call.phase.position layout known);
      lawful = all_get IsLawful (known_layouts (world_of fragment (run_of course)) 0) call.phase.position layout formed.lawful
          (known_by_all (world_of fragment (run_of course)) formed.one local.node call.phase.position layout
          (part.layouts call.phase.position layout known));
      distinct = subst (IsDistinct nat_eq)
          (ap (take (quorum_of layout)) (sym (members_told (filter unset local.reports)))
          ∙ take-map (λ (one : ToldTag). one.member) (quorum_of layout) told)
          (distinct_take (quorum_of layout) (map (λ (r : Report). r.member) (filter unset local.reports)) distinct);
      quorum = length-take-le (quorum_of layout) told
          (subst (λ n. quorum_of layout ≤ n) (sym (length_told local.reports)) enough);
      each = all_take (HasToldTag fragment course call) (quorum_of layout) told (all_told local.reports are);
    }
