-- The tags that members told the calls of a fit object are within their bits, and so are those of the query that a
-- reading stands for.
use Rattle.std.proofs.Common.{ℕ, zero, suc, Bool, true, false, cond, List, [], ◌∷◌, ◌++◌, map, take, Option, Some, None}
use Rattle.std.specs.List.{AllByRecursion, filter, list_any}
use Rattle.std.specs.Prelude.{IfSome, ◌==◌}
use Rattle.layout.specs.Layout.{Layout, quorum_of}
use Rattle.letter.specs.declared.telling.Telling.{Telling}
use Rattle.local_object.specs.Reports.{is_kept_beside, is_same, report_of, reports_after, tag_told, tags_told, tells_unset, told_to}
use Rattle.local_object.specs.declared.report.Report.{Report}
use Rattle.mail.specs.declared.message.Message.{Message}
use Rattle.open_calls.specs.Queries.{taken_tag}
use Rattle.record.specs.declared.call.CallKind.{CallKind}
use Rattle.record.specs.Legal.{is_move}
use Rattle.fitting.specs.Calls.{IsFitTaken}
use Rattle.fitting.specs.Letters.{IsFitTelling}
use Rattle.fitting.specs.Objects.{IsFitReport}
use Rattle.fitting.proofs.ListLemmas.{all_push}

pub reports_filter : (test : Report → Bool) (reports : List Report) → AllByRecursion IsFitReport reports →
    AllByRecursion IsFitReport (filter test reports)
reports_filter test [] fit = tt
reports_filter test (report ∷ reports) fit = go (test report) (reports_filter test reports fit.1)
  where
    go : (b : Bool) → AllByRecursion IsFitReport (filter test reports) →
        AllByRecursion IsFitReport (cond b (report ∷ filter test reports) (filter test reports))
    go true rest = (fit.0, rest)
    go false rest = rest

-- What a call is told

telling_to : (kind : CallKind) (told : Option Telling) → IfSome told IsFitTelling → IfSome (told_to kind told) IsFitTelling
telling_to kind told is = go (is_move kind)
  where
    go : (b : Bool) → IfSome (cond b None told) IsFitTelling
    go true = tt
    go false = is

after_telling : (number : ℕ) (message : Message) (told : Option Telling) (reports : List Report) → IfSome told IsFitTelling →
    AllByRecursion IsFitReport reports → AllByRecursion IsFitReport (reports_after number message told reports)
after_telling number message None reports is fit = fit
after_telling number message (Some telling) reports is fit = go (message.phase == number) (list_any (is_same new) reports)
  where
    new : Report
    new = report_of message telling

    go : (current same : Bool) → AllByRecursion IsFitReport
        (cond current (cond same reports (filter (is_kept_beside new) reports ++ new ∷ [])) reports)
    go false same = fit
    go true true = fit
    go true false =
        all_push IsFitReport (filter (is_kept_beside new) reports) new (reports_filter (is_kept_beside new) reports fit) is.greatest

-- after a call took a letter with which its member told something
pub reports_fit : (kind : CallKind) (number : ℕ) (message : Message) (told : Option Telling) (reports : List Report) →
    IfSome told IsFitTelling → AllByRecursion IsFitReport reports →
    AllByRecursion IsFitReport (reports_after number message (told_to kind told) reports)
reports_fit kind number message told reports is fit =
    after_telling number message (told_to kind told) reports (telling_to kind told is) fit

-- The query that a reading stands for

first_taken : (n : ℕ) (reports : List Report) → AllByRecursion IsFitReport reports →
    AllByRecursion IsFitTaken (map taken_tag (take n (map tag_told reports)))
first_taken zero reports fit = tt
first_taken (suc n) [] fit = tt
first_taken (suc n) (report ∷ reports) fit = (fit.0, first_taken n reports fit.1)

pub told_taken : (layout : Layout) (call phase : ℕ) (reports : List Report) → AllByRecursion IsFitReport reports →
    AllByRecursion IsFitTaken (map taken_tag (tags_told layout call phase reports))
told_taken layout call phase reports fit =
    first_taken (quorum_of layout) (filter (tells_unset call phase) reports) (reports_filter (tells_unset call phase) reports fit)
