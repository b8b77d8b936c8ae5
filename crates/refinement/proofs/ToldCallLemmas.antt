-- A call that may end early by what its node keeps may be answered early in the run.
use Rattle.std.proofs.Common.{◌≡◌, ◌⊎◌, ◌+◌, ◌<◌, ◌≤◌, ℕ, eqb, eqb-true, eq-eqb, Bool, true, false, not}
use Rattle.std.proofs.Common.{List, length, map, filter, Option, Some, None, inl, inr, refl, sym, subst, ap, ◌∙◌}
use Rattle.std.specs.List.{AllByRecursion, count_by}
use Rattle.std.proofs.lemmas.Option.{get_or_from_slice_get, none-some}
use Rattle.tag.specs.declared.tag.Tag.{Tag}
use Rattle.tag.specs.Tag.{tag_eq, tag_lt}
use Rattle.tag.proofs.TagOrderLemmas.{tag_eq-true}
use Rattle.layout.specs.Layout.{Layout, quorum_of}
use Rattle.bank.specs.declared.kind.Kind.{Kind}
use Rattle.bank.specs.declared.kind.Kind.TheVariants as kind
use Rattle.bank.specs.declared.status.Status.{Status}
use Rattle.bank.specs.declared.status.Status.TheVariants as status
use Rattle.record.specs.Fragments.{Code, IsFragment}
use Rattle.record.specs.Records.{no_layout}
use Rattle.record.specs.declared.stage.Stage.{Stage}
use Rattle.record.specs.declared.stage.Stage.TheVariants as stage
use Rattle.soundness.proofs.ListLemmas.{all_get, all_weaker}
use Rattle.early_ends.specs.Told.{last_of}
use Rattle.letter.specs.Tellings.{SaysNoMore}
use Rattle.letter.specs.declared.telling.Telling.{Telling}
use Rattle.network.specs.Worlds.{known_layout, known_layouts, parts_of}
use Rattle.open_calls.specs.OpenCalls.{NodeCall}
use Rattle.local_object.specs.declared.report.Report.{Report}
use Rattle.local_object.specs.Early.{EndsAtOnceHere, EndsHeldHere, HasToldPieceHere, HasValueHere, HaveToldValueHere}
use Rattle.local_object.specs.Early.{is_finalizing, is_first_counting, is_last_at}
use Rattle.local_object.specs.Local.{LocalObject, layout_here}
use Rattle.local_object.specs.Reports.{is_of, is_unset, tells_held, tells_no_greater, tells_unset}
use Rattle.told_replies.specs.EarlyAnswers.{EndsAtOnce, EndsHeld, Finalizes, HasValue, IsToldGreatest, IsToldHeld, IsToldValue}
use Rattle.told_replies.specs.EarlyAnswers.{TellsHeld, TellsNoGreater, TellsPiece, asked_layout}
use Rattle.told_replies.specs.Tellings.{HasTold, Run, world_of}
use Rattle.refinement.specs.Parts.{IsPartOf}
use Rattle.refinement.specs.ToldLetters.{AreApart}
use Rattle.refinement.proofs.EarlyRunLemmas.{IsReportOf}
use Rattle.refinement.proofs.ToldReportLemmas.{count_is, have_told, told_by_report}
use Rattle.local_object.proofs.NewObjectLemmas.{are_both, both}

unset_of : (s : Status) → is_unset s ≡ true → s ≡ status.Unset
unset_of status.Unset e = refl
unset_of status.Pending e = absurd (cc)
unset_of status.Final e = absurd (cc)

put_of : (k : Kind) → is_finalizing k ≡ true → (tag : Tag) × Finalizes k tag
put_of kind.Next e = absurd (cc)
put_of (kind.Spread s) e = absurd (cc)
put_of kind.Query e = absurd (cc)
put_of (kind.PreWrite tag) e = absurd (cc)
put_of (kind.Finalize tag) e = (tag, inl refl)
put_of (kind.Fetch tag) e = (tag, inr refl)

last_is : (s : Stage) (position : ℕ) → is_last_at s position ≡ true → last_of s ≡ Some position
last_is (stage.FetchAt shown_at last tag) position e = ap Some (eqb-true last position e)
last_is (stage.FinalizeAt last tag) position e = ap Some (eqb-true last position e)
last_is _ position e = absurd (cc)

first_is : (s : Stage) → is_first_counting s ≡ true → (position : ℕ) × (s ≡ stage.ReadNext position position)
first_is (stage.ReadNext position finalized) e =
    (position, ap (λ n. stage.ReadNext position n) (sym (eqb-true position finalized e)))
first_is _ e = absurd (cc)

not_true : (b : Bool) → not b ≡ true → b ≡ false
not_true true e = absurd (cc)
not_true false e = refl

-- the call with what its node keeps
module _ (fragment : Code) (run : Run) (local : LocalObject) (call : NodeCall) (part : IsPartOf (world_of fragment run) local)
    (own : call.node ≡ local.node) (are : AllByRecursion (IsReportOf fragment run) local.reports) (apart : AreApart local.reports) where
  abbrev asked : Layout
  asked = asked_layout (world_of fragment run) call

  asked_is : (layout : Layout) → layout_here local call.phase.position ≡ Some layout → asked ≡ layout
  asked_is layout known =
      ap (λ node. known_layout (world_of fragment run) node call.phase.position) own
      ∙ get_or_from_slice_get (known_layouts (world_of fragment run) local.node) call.phase.position layout no_layout
      (part.layouts call.phase.position layout known)

  abbrev of_phase : Report → Bool
  of_phase report = is_of call.id call.phase.number report

  abbrev unset : Report → Bool
  unset report = tells_unset call.id call.phase.number report

  of_unset : (report : Report) → unset report ≡ true → of_phase report ≡ true
  of_unset report e = (both (of_phase report) (is_unset report.telling.status) e).0

  -- what a report of an unset pointer leaves out is unset, too
  is_unset_there : (report : Report) (whole : Telling) → unset report ≡ true → SaysNoMore report.telling whole →
      whole.status ≡ status.Unset
  is_unset_there report whole e less =
      sym less.status ∙ unset_of report.telling.status (both (of_phase report) (is_unset report.telling.status) e).1

  module _ (layout : Layout) (known : layout_here local call.phase.position ≡ Some layout) where
    -- more than n - k told that the tag is held, as far as a test says
    module _ (tag : Tag) (test : Report → Bool) (of_call : (report : Report) → test report ≡ true → of_phase report ≡ true)
        (says : (report : Report) (whole : Telling) → test report ≡ true → SaysNoMore report.telling whole →
        TellsHeld call.phase.kind tag report.member whole) where
      told_held : length layout.members < layout.k + count_by test local.reports → IsToldHeld fragment run call tag
      told_held enough =
          let Says : ℕ → Telling → Type 0 = TellsHeld call.phase.kind tag in record {
            members = map (λ (r : Report). r.member) (filter test local.reports);
            told = have_told fragment run call test Says of_call says local.reports are apart;
            enough = subst (λ (l : Layout). length l.members < l.k + length (map (λ (r : Report). r.member) (filter test local.reports)))
                (sym (asked_is layout known))
                (subst (λ n. length layout.members < layout.k + n)
                (sym (count_is fragment run call test Says of_call says local.reports)) enough);
          }

    -- a request that finalizes the tag, and an unset pointer
    held_by_request : (tag : Tag) → Finalizes call.phase.kind tag →
        length layout.members < layout.k + count_by unset local.reports → IsToldHeld fragment run call tag
    held_by_request tag puts enough =
        told_held tag unset of_unset (λ report whole e less. (is_unset_there report whole e less, inr puts)) enough

    module _ (tag : Tag) where
      abbrev held : Report → Bool
      held report = tells_held tag call.id call.phase.number report

      -- the tag is the greatest finalized one, and an unset pointer
      held_before : length layout.members < layout.k + count_by held local.reports → IsToldHeld fragment run call tag
      held_before enough =
          told_held tag held
          (λ report e. of_unset report (both (unset report) (tag_eq report.telling.greatest tag) e).0)
          (λ report whole e less.
          let parts = both (unset report) (tag_eq report.telling.greatest tag) e in
          (is_unset_there report whole parts.0 less, inl (sym less.greatest ∙ tag_eq-true report.telling.greatest tag parts.1))) enough

      abbrev no_greater : Report → Bool
      no_greater report = tells_no_greater tag call.id call.phase.number report

      told_greatest : quorum_of layout ≤ count_by no_greater local.reports → IsToldGreatest fragment run call tag
      told_greatest enough =
          let of_call : (report : Report) → no_greater report ≡ true → of_phase report ≡ true =
          λ report e. (both (of_phase report) (not (tag_lt tag report.telling.greatest)) e).0 in
          let says : (report : Report) (whole : Telling) → no_greater report ≡ true → SaysNoMore report.telling whole →
          TellsNoGreater tag report.member whole =
          λ report whole e less. ap (tag_lt tag) (sym less.greatest)
          ∙ not_true (tag_lt tag report.telling.greatest) (both (of_phase report) (not (tag_lt tag report.telling.greatest)) e).1 in
          record {
            members = map (λ (r : Report). r.member) (filter no_greater local.reports);
            told = have_told fragment run call no_greater (TellsNoGreater tag) of_call says local.reports are apart;
            enough = subst (λ (l : Layout). quorum_of l ≤ length (map (λ (r : Report). r.member) (filter no_greater local.reports)))
                (sym (asked_is layout known))
                (subst (λ n. quorum_of layout ≤ n)
                (sym (count_is fragment run call no_greater (TellsNoGreater tag) of_call says local.reports)) enough);
          }

      -- a told piece is the one that the whole telling has
      module _ (value : List ℕ) (member : ℕ) (has : HasToldPieceHere fragment local call layout tag value member) where
        whole_piece : (whole : Telling) → SaysNoMore has.report.telling whole → whole.piece ≡ Some has.piece
        whole_piece whole less = go less.piece
          where
            go : (has.report.telling.piece ≡ None) ⊎ (has.report.telling.piece ≡ whole.piece) → whole.piece ≡ Some has.piece
            go (inl none) = absurd (let wrong : None ≡ Some has.piece = sym none ∙ has.told in none-some has.piece wrong)
            go (inr same) = sym same ∙ has.told

        piece_there : (telling : Telling) × HasTold fragment run call member telling
            × TellsPiece fragment asked tag value member telling
        piece_there =
            let told = told_by_report fragment run call has.report
            (all_get (IsReportOf fragment run) local.reports has.place has.report are has.at)
            (are_both (eqb has.report.call call.id) (eqb has.report.phase call.phase.number)
            (eq-eqb has.report.call call.id has.same_call) (eq-eqb has.report.phase call.phase.number has.same_phase)) in (
              told.0,
              subst (λ m. HasTold fragment run call m told.0) has.same_member told.2,
              (
                sym told.1.greatest ∙ has.greatest,
                (
                  has.piece,
                  whole_piece told.0 told.1,
                  subst (λ (l : Layout). IsFragment fragment l member value has.piece) (sym (asked_is layout known)) has.fits,
                ),
              ),
            )

      told_value : (value : List ℕ) → HaveToldValueHere fragment local call layout tag value → IsToldValue fragment run call tag value
      told_value value here = record {
        members = here.members;
        told = record {
          distinct = here.distinct;
          each = all_weaker (HasToldPieceHere fragment local call layout tag value)
              (λ member. (telling : Telling) × HasTold fragment run call member telling
              × TellsPiece fragment asked tag value member telling)
              (λ member has. piece_there value member has) here.members here.each;
        };
        enough = subst (λ (l : Layout). l.k ≤ length here.members) (sym (asked_is layout known)) here.enough;
        is_value = here.is_value;
      }

    has_value : (value : List ℕ) → HasValueHere fragment call layout value → HasValue fragment (world_of fragment run) call value
    has_value value (inl settled) = inl settled
    has_value value (inr has) =
        inr (has.0, has.2 (parts_of (world_of fragment run) call.node) (asked_is layout known), has.1)

-- what the node knows to be enough for an early answer is enough in the run
pub held_there : (fragment : Code) (run : Run) (local : LocalObject) (call : NodeCall) (value : Option (List ℕ)) →
    IsPartOf (world_of fragment run) local → call.node ≡ local.node →
    AllByRecursion (IsReportOf fragment run) local.reports → AreApart local.reports →
    EndsHeldHere fragment local call value → EndsHeld fragment run call value
held_there fragment run local call value part own are apart here =
    let put = put_of call.phase.kind here.puts in record {
      client = here.client;
      last = last_is call.stage call.phase.position here.last;
      tag = put.0;
      puts = put.1;
      held = held_by_request fragment run local call part own are apart here.layout here.known put.0 put.1 here.held;
      returns = λ reads.
          let has = here.returns reads in
          (has.0, has.1, has_value fragment run local call part own are apart here.layout here.known has.0 has.2);
    }

pub at_once_there : (fragment : Code) (run : Run) (local : LocalObject) (call : NodeCall) (value : Option (List ℕ)) →
    IsPartOf (world_of fragment run) local → call.node ≡ local.node →
    AllByRecursion (IsReportOf fragment run) local.reports → AreApart local.reports →
    EndsAtOnceHere fragment local call value → EndsAtOnce fragment run call value
at_once_there fragment run local call value part own are apart here =
    let first = first_is call.stage here.first in record {
      reads = here.reads;
      position = first.0;
      stage = first.1;
      tag = here.tag;
      greatest = told_greatest fragment run local call part own are apart here.layout here.known here.tag here.greatest;
      held = held_before fragment run local call part own are apart here.layout here.known here.tag here.held;
      value = here.value;
      is_returned = here.is_returned;
      pieces = told_value fragment run local call part own are apart here.layout here.known here.tag here.value here.pieces;
    }
