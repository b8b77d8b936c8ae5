-- What a node keeps of what it was told stays true, and tells each phase of a call once by each member.
use Rattle.std.proofs.Common.{◌≡◌, ℕ, ◌||◌, Bool, true, false, cond, eqb, suc, List, [], ◌∷◌, ◌++◌, filter}
use Rattle.std.proofs.Common.{Option, Some, None, not, refl, sym, subst, ◌∙◌, arith}
use Rattle.std.specs.List.{AllByRecursion, list_any}
use Rattle.std.proofs.lemmas.Bool.Decides.{nat_tests}
use Rattle.layout.specs.Layout.{Layout}
use Rattle.bank.specs.declared.kind.Kind.{Kind}
use Rattle.bank.specs.declared.kind.Kind.TheVariants.{Next, Spread}
use Rattle.bank.specs.declared.status.Status.TheVariants.{Pending}
use Rattle.mail.specs.declared.message.Body.{Body}
use Rattle.mail.specs.declared.message.Body.TheVariants as body
use Rattle.record.specs.declared.call.CallKind.{CallKind}
use Rattle.record.specs.declared.call.CallKind.TheVariants.{Read, Write, Move}
use Rattle.record.specs.declared.stage.Stage.{Stage}
use Rattle.record.specs.declared.stage.Stage.TheVariants.{ReadNext}
use Rattle.record.specs.Fragments.{Code}
use Rattle.record.specs.Legal.{first_stage}
use Rattle.soundness.proofs.ListLemmas.{all_push}
use Rattle.open_calls.specs.OpenCalls.{NodeCall, due_phase, open_call, with_open}
use Rattle.letter.specs.declared.letter.Letter.{Letter}
use Rattle.letter.specs.declared.start.Start.{Start}
use Rattle.letter.specs.declared.telling.Telling.{Telling}
use Rattle.local_object.specs.declared.report.Report.{Report}
use Rattle.local_object.specs.Events.{LocalEvent, advanced_at, advanced_here, done_here, queried_here, served_here, taking_here}
use Rattle.local_object.specs.Local.{LocalObject, heard_start_if, last_position, layout_here, learnt_if, with_heard}
use Rattle.local_object.specs.Outcomes.{Outcome, begun_here, layouts_learnt, learnt_from, on_open_call, silent}
use Rattle.local_object.specs.Reports.{is_kept_beside, is_same, report_of, reports_after, told_to, with_report}
use Rattle.local_object.specs.Starting.{anew_number, first_number, number_at, reads_at, reads_here}
use Rattle.told_queries.specs.Courses.{Course}
use Rattle.refinement.specs.ToldLetters.{AreApart, IsTrueReport, TellsTruth}

-- Reports that are left

pub all_left : {A : Type 0} (P : A → Type 0) (test : A → Bool) (xs : List A) → AllByRecursion P xs → AllByRecursion P (filter test xs)
all_left P test [] all = tt
all_left P test (x ∷ xs) all = go (test x) (all_left P test xs all.1)
  where
    go : (b : Bool) → AllByRecursion P (filter test xs) → AllByRecursion P (cond b (x ∷ filter test xs) (filter test xs))
    go true rest = (all.0, rest)
    go false rest = rest

pub apart_left : (test : Report → Bool) (reports : List Report) → AreApart reports → AreApart (filter test reports)
apart_left test [] apart = tt
apart_left test (report ∷ reports) apart = go (test report) (apart_left test reports apart.1)
  where
    go : (b : Bool) → AreApart (filter test reports) → AreApart (cond b (report ∷ filter test reports) (filter test reports))
    go true rest = (all_left (λ other. is_same report other ≡ false) test reports apart.0, rest)
    go false rest = rest

-- One report more

eqb_back : (n m : ℕ) → eqb n m ≡ eqb m n
eqb_back n m = grind (arith, nat_tests)

-- a report is the same as another one only if the other one is the same as it
same_back : (report other : Report) → is_same report other ≡ false → is_same other report ≡ false
same_back report other e =
    let call = eqb_back report.call other.call in
    let phase = eqb_back report.phase other.phase in
    let member = eqb_back report.member other.member in cc

either : (a b : Bool) → (a || b) ≡ false → (a ≡ false) × (b ≡ false)
either false false e = (refl, refl)
either false true e = absurd (cc)
either true b e = absurd (cc)

none_same : (report : Report) (reports : List Report) → list_any (is_same report) reports ≡ false →
    AllByRecursion (λ other. is_same other report ≡ false) reports
none_same report [] none = tt
none_same report (other ∷ reports) none =
    let parts = either (is_same report other) (list_any (is_same report) reports) none in
    (same_back report other parts.0, none_same report reports parts.1)

apart_push : (reports : List Report) (report : Report) → AllByRecursion (λ other. is_same other report ≡ false) reports →
    AreApart reports → AreApart (reports ++ report ∷ [])
apart_push [] report others apart = (tt, tt)
apart_push (r ∷ rs) report others apart =
    (all_push (λ other. is_same r other ≡ false) rs report apart.0 others.0, apart_push rs report others.1 apart.1)

pub apart_with : (report : Report) (reports : List Report) → AreApart reports → AreApart (with_report report reports)
apart_with report reports apart = go (list_any (is_same report) reports) refl
  where
    go : (b : Bool) → list_any (is_same report) reports ≡ b →
        AreApart (cond b reports (filter (is_kept_beside report) reports ++ report ∷ []))
    go true e = apart
    go false e =
        apart_push (filter (is_kept_beside report) reports) report
        (all_left (λ other. is_same other report ≡ false) (is_kept_beside report) reports (none_same report reports e))
        (apart_left (is_kept_beside report) reports apart)

pub all_with : (P : Report → Type 0) (report : Report) (reports : List Report) → P report → AllByRecursion P reports →
    AllByRecursion P (with_report report reports)
all_with P report reports one all = go (list_any (is_same report) reports)
  where
    go : (b : Bool) → AllByRecursion P (cond b reports (filter (is_kept_beside report) reports ++ report ∷ []))
    go true = all
    go false =
        all_push P (filter (is_kept_beside report) reports) report (all_left P (is_kept_beside report) reports all) one

-- After an event

told_some : (kind : CallKind) (told : Option Telling) (telling : Telling) → told_to kind told ≡ Some telling → told ≡ Some telling
told_some Read told telling e = e
told_some (Write value) told telling e = e
told_some Move told telling e = absurd (cc)

reports_learnt : (local : LocalObject) (position : ℕ) (next : Option Layout) → (learnt_if local position next).reports ≡ local.reports
reports_learnt local position None = refl
reports_learnt local position (Some layout) = refl

reports_started : (local : LocalObject) (start : Option Start) → (heard_start_if local start).reports ≡ local.reports
reports_started local None = refl
reports_started local (Some start) = refl

pub reports_heard : (local : LocalObject) (letter : Letter) → (learnt_from local letter).reports ≡ local.reports
reports_heard local letter =
    reports_started (layouts_learnt local letter) letter.start
    ∙ reports_learnt (with_heard local letter.message.position letter.layout) (suc letter.message.position) letter.next

-- what is so of a node's reports, and stays so as reports are left out or one that a letter tells is added
module _ (P : List Report → Type 0) (left : (test : Report → Bool) (reports : List Report) → P reports → P (filter test reports))
    (fragment : Code) (local : LocalObject) (holds : P local.reports) where
  -- the letter that is taken, if one is, leaves it so
  abbrev pub AddsWell : LocalEvent → Type 0
  AddsWell event = (letter : Letter) (telling : Telling) → event ≡ LocalEvent.Take letter → letter.told ≡ Some telling →
      P (with_report (report_of letter.message telling) local.reports)

  begun : (id : ℕ) (call_kind : CallKind) (stage : Stage) (kind : Kind) (number position : ℕ) (o : Option Layout) →
      P (begun_here local id call_kind stage kind number position o).local.reports
  begun id call_kind stage kind number position None = holds
  begun id call_kind stage kind number position (Some layout) = holds

  moving : (id position : ℕ) (next : LocalObject) → next.reports ≡ local.reports → (o : Option Layout) →
      P (begun_here next id Move (first_stage Move position) (Spread Pending) 1 position o).local.reports
  moving id position next same None = subst P (sym same) holds
  moving id position next same (Some layout) = subst P (sym same) holds

  advanced : (call : NodeCall) (o : Option (Kind × ℕ)) → P (advanced_here fragment local call o).local.reports
  advanced call None = holds
  advanced call (Some next) = go (layout_here local next.1)
    where
      go : (o : Option Layout) → P (advanced_at fragment local call next o).local.reports
      go None = holds
      go (Some layout) = holds

  read_at : (call : NodeCall) (number start : ℕ) (o : Option Layout) → P (reads_at local call number start o).local.reports
  read_at call number start None = holds
  read_at call number start (Some layout) = holds

  queries : (call : NodeCall) (o : Option Layout) → P (queried_here local call o).local.reports
  queries call None = holds
  queries call (Some layout) = holds

  carried : (o : Option NodeCall) (change : NodeCall → Outcome) → ((call : NodeCall) → P (change call).local.reports) →
      P (on_open_call local o change).local.reports
  carried None change each = holds
  carried (Some call) change each = each call

  heard : (letter : Letter) → P (learnt_from local letter).reports
  heard letter = subst P (sym (reports_heard local letter)) holds

  served : (letter : Letter) (b : Body) → P (served_here (learnt_from local letter) letter b).local.reports
  served letter (body.Request asked) = heard letter
  served letter (body.Reply kind made) = heard letter

  taken : (letter : Letter) (number : ℕ) (o : Option Telling) →
      ((telling : Telling) → o ≡ Some telling → P (with_report (report_of letter.message telling) local.reports)) →
      P (reports_after number letter.message o local.reports)
  taken letter number None adds = holds
  taken letter number (Some telling) adds = go (eqb letter.message.phase number)
    where
      go : (b : Bool) → P (cond b (with_report (report_of letter.message telling) local.reports) local.reports)
      go true = adds telling refl
      go false = holds

  takes : (letter : Letter) → AddsWell (LocalEvent.Take letter) → (o : Option NodeCall) →
      P (on_open_call (learnt_from local letter) o
      (λ call. silent (taking_here (learnt_from local letter) call letter.message letter.told))).local.reports
  takes letter adds None = heard letter
  takes letter adds (Some call) =
      subst (λ reports. P (reports_after call.phase.number letter.message (told_to call.kind letter.told) reports))
      (sym (reports_heard local letter))
      (taken letter call.phase.number (told_to call.kind letter.told)
      (λ telling e. adds letter telling refl (told_some call.kind letter.told telling e)))

  pub reports_done : (event : LocalEvent) → AddsWell event → P (done_here fragment local event).local.reports
  reports_done (LocalEvent.BeginRead id) adds =
      begun id Read (ReadNext local.start local.start) Next (first_number local.start) local.start (layout_here local local.start)
  reports_done (LocalEvent.BeginWrite id value) adds =
      begun id (Write value) (ReadNext local.start local.start) Next (first_number local.start) local.start
      (layout_here local local.start)
  reports_done (LocalEvent.BeginMove id layout) adds =
      let last = last_position local in
      let next = with_heard local (suc last) layout in
      moving id last next refl (layout_here next last)
  reports_done (LocalEvent.Advance id) adds =
      carried (open_call local.calls id) (λ call. advanced_here fragment local call (due_phase call))
      (λ call. advanced call (due_phase call))
  reports_done (LocalEvent.Serve letter) adds = served letter letter.message.body
  reports_done (LocalEvent.Take letter) adds =
      takes letter adds (open_call (learnt_from local letter).calls letter.message.call)
  reports_done (LocalEvent.Settle id value) adds =
      carried (open_call local.calls id)
      (λ call. silent (record local { calls = with_open (record call { settled = Some value }) local.calls })) (λ call. holds)
  reports_done (LocalEvent.Answer id) adds = left (λ report. not (eqb report.call id)) local.reports holds
  reports_done (LocalEvent.GiveUp id) adds = left (λ report. not (eqb report.call id)) local.reports holds
  reports_done (LocalEvent.Close position) adds = holds
  reports_done (LocalEvent.Grow id) adds = holds
  reports_done (LocalEvent.Hear letter) adds = heard letter
  reports_done (LocalEvent.Redirect letter) adds = holds
  reports_done (LocalEvent.ReadOn id) adds =
      carried (open_call local.calls id) (λ call. reads_here local call (number_at call local.start))
      (λ call. read_at call (number_at call local.start) local.start (layout_here local local.start))
  reports_done (LocalEvent.BeginAnew id) adds =
      carried (open_call local.calls id) (λ call. reads_here local call (anew_number call local.start))
      (λ call. read_at call (anew_number call local.start) local.start (layout_here local local.start))
  reports_done (LocalEvent.Raise position) adds = holds
  reports_done (LocalEvent.Query id) adds =
      carried (open_call local.calls id) (λ call. queried_here local call (layout_here local call.phase.position))
      (λ call. queries call (layout_here local call.phase.position))
  reports_done (LocalEvent.EndEarly id value) adds = left (λ report. not (eqb report.call id)) local.reports holds

-- no two reports are of the same member, to the same phase of the same call
pub apart_done : (fragment : Code) (local : LocalObject) (event : LocalEvent) → AreApart local.reports →
    AreApart (done_here fragment local event).local.reports
apart_done fragment local event apart =
    reports_done AreApart apart_left fragment local apart event
    (λ letter telling is told. apart_with (report_of letter.message telling) local.reports apart)

-- the reports are true, if the letter that is taken tells the truth
pub true_done : (fragment : Code) (course : Course) (local : LocalObject) (event : LocalEvent) →
    ((letter : Letter) → event ≡ LocalEvent.Take letter → TellsTruth fragment course letter) →
    AllByRecursion (IsTrueReport fragment course) local.reports →
    AllByRecursion (IsTrueReport fragment course) (done_here fragment local event).local.reports
true_done fragment course local event tells are =
    reports_done (AllByRecursion (IsTrueReport fragment course)) (all_left (IsTrueReport fragment course)) fragment local are event
    (λ letter telling is told. all_with (IsTrueReport fragment course) (report_of letter.message telling) local.reports
    (tells letter is telling told).0 are)
