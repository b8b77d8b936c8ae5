-- A call that takes replies to its query, one report after another.
use Rattle.std.proofs.Common.{◌≡◌, ℕ, zero, suc, ◌<◌, ◌≤◌, ◌&&◌, Bool, true, false, cond, eqb, not, nat_eq, is_some, List, [], ◌∷◌}
use Rattle.std.proofs.Common.{length, take, filter, map, get_or, Some, refl, sym, ap, ◌∙◌, subst, arith}
use Rattle.std.specs.List.{IsDistinct, count_by}
use Rattle.std.proofs.lemmas.List.{length-map, length-take-le}
use Rattle.std.proofs.lemmas.List.Sums.{length-filter}
use Rattle.bank.specs.declared.kind.Kind.TheVariants.{Query}
use Rattle.layout.specs.Layout.{Layout, quorum_of}
use Rattle.mail.specs.declared.message.Message.{Message}
use Rattle.mail.specs.declared.phase.Taken.{Taken}
use Rattle.mail.specs.Phase.{Phase, after_take, has_taken, members_of, with_reply}
use Rattle.record.specs.PhaseOrder.{begun_at}
use Rattle.record.specs.declared.stage.Stage.{Stage}
use Rattle.call.specs.Call.{OpenCall as Machine, reached}
use Rattle.call.specs.Steps.{entered, phase_next, taken_call}
use Rattle.open_calls.specs.Queries.{ToldTag, queried, query_stage, taken_tag}
use Rattle.open_calls.proofs.TakenRepliesLemmas.{reply_message, tag_members, tags_now, takes_quorum, taking}
use Rattle.local_object.specs.Codes.{at_node}
use Rattle.local_object.specs.declared.report.Report.{Report}
use Rattle.local_object.specs.Distinct.{DifferInMembers}
use Rattle.local_object.specs.Queried.{heeding, heeding_all, query_reply, querying}
use Rattle.local_object.specs.Reports.{tag_told, tags_told, tells_unset}
use Rattle.local_object.proofs.ApartReportLemmas.{distinct_telling}

-- one more report
pub heeding_more : (call phase position : ℕ) (machine : Machine) (reports : List Report) (i : ℕ) (report : Report) → i < length reports →
    report ≡ get_or reports i report →
    heeding_all call phase position machine (take (suc i) reports)
    ≡ heeding call phase position (heeding_all call phase position machine (take i reports)) report
heeding_more call phase position machine [] i report within is = absurd (omega (arith, within))
heeding_more call phase position machine (r ∷ rs) zero report within is = ap (heeding call phase position machine) (sym is)
heeding_more call phase position machine (r ∷ rs) (suc i) report within is =
    heeding_more call phase position (heeding call phase position machine r) rs i report (omega (arith, within)) is

-- the reports of members that told this phase of a call an unset pointer
abbrev telling : (call phase : ℕ) → List Report → List Report
telling call phase reports = filter (tells_unset call phase) reports

-- the phase takes the messages made from the reports
module _ (call phase position : ℕ) where
  abbrev message_of : ToldTag → Message
  message_of told = reply_message call (suc phase) Query position (taken_tag told)

  pub heeding_phase : (machine : Machine) (reports : List Report) → heeding_all call phase position machine reports
      ≡ record machine { phase = taking machine.phase (map message_of (map tag_told (telling call phase reports))) }
  heeding_phase machine [] = refl
  heeding_phase machine (report ∷ reports) = go (tells_unset call phase report)
      (heeding_phase (taken_call (query_reply call phase position report) 0 machine) reports) (heeding_phase machine reports)
    where
      one : Machine
      one = taken_call (query_reply call phase position report) 0 machine

      rest : Machine → Machine
      rest m = record m { phase = taking m.phase (map message_of (map tag_told (telling call phase reports))) }

      told : List Report
      told = telling call phase reports

      go : (b : Bool) → heeding_all call phase position one reports ≡ rest one →
          heeding_all call phase position machine reports ≡ rest machine →
          heeding_all call phase position (cond b one machine) reports ≡ record machine {
            phase = taking machine.phase (map message_of (map tag_told (cond b (report ∷ told) told)));
          }
      go true taken passed = taken
      go false taken passed = passed

  pub heeding_id : (machine : Machine) (reports : List Report) → (heeding_all call phase position machine reports).id ≡ machine.id
  heeding_id machine reports = ap (λ (m : Machine). m.id) (heeding_phase machine reports)

-- a phase that has ended takes no more

not_current : (a b e : Bool) → e ≡ true → (a && (b && not e)) ≡ false
not_current true true true is = refl
not_current true false true is = refl
not_current false b true is = refl
not_current a b false is = absurd (cc)

takes_none : (p : Phase) → is_some p.end ≡ true → (call number position : ℕ) (told : ToldTag) →
    after_take p (reply_message call number Query position (taken_tag told)) 0 ≡ p
takes_none p ended call number position told =
    ap (λ b. cond b (cond (has_taken p.replies told.member) p (with_reply p told.member (taken_tag told).reply 0)) p)
    (not_current (eqb call p.call) (eqb number p.number) (is_some p.end) ended)

takes_no_more : (p : Phase) → is_some p.end ≡ true → (call phase position : ℕ) (told : List ToldTag) →
    taking p (map (message_of call phase position) told) ≡ p
takes_no_more p ended call phase position [] = refl
takes_no_more p ended call phase position (one ∷ told) =
    ap (λ (q : Phase). taking q (map (message_of call phase position) told)) (takes_none p ended call (suc phase) position one)
    ∙ takes_no_more p ended call phase position told

-- so the first ones that end it are enough
takes_first : (n : ℕ) (told : List ToldTag) (p after : Phase) → is_some after.end ≡ true → (call phase position : ℕ) →
    taking p (map (message_of call phase position) (take n told)) ≡ after →
    taking p (map (message_of call phase position) told) ≡ after
takes_first zero told p after ended call phase position is =
    takes_no_more p (subst (λ (q : Phase). is_some q.end ≡ true) (sym is) ended) call phase position told ∙ is
takes_first (suc n) [] p after ended call phase position is = is
takes_first (suc n) (one ∷ told) p after ended call phase position is =
    takes_first n told (after_take p (message_of call phase position one) 0) after ended call phase position is

map_twice : (f : Taken → Message) (told : List ToldTag) → map (λ t. f (taken_tag t)) told ≡ map f (map taken_tag told)
map_twice f [] = refl
map_twice f (one ∷ told) = ap (λ ms. f (taken_tag one) ∷ ms) (map_twice f told)

-- the call after its query
module _ (node : ℕ) (call : Machine) (layout : Layout) (reports : List Report) where
  abbrev all_told : List ToldTag
  all_told = map tag_told (telling call.id call.phase.number reports)

  abbrev told : List ToldTag
  told = tags_told layout call.id call.phase.number reports

  abbrev begun_phase : Phase
  begun_phase = phase_next call Query call.phase.position layout 0

  abbrev ended_phase : Phase
  ended_phase = record begun_phase { replies = map taken_tag told; end = Some 0 }

  module _ (some : 1 ≤ quorum_of layout)
      (quorum : quorum_of layout ≤ count_by (tells_unset call.id call.phase.number) reports) (differ : DifferInMembers reports) where
    as_many : length all_told ≡ count_by (tells_unset call.id call.phase.number) reports
    as_many = length-map (telling call.id call.phase.number reports) tag_told
        ∙ length-filter (tells_unset call.id call.phase.number) reports

    enough : length (map taken_tag told) ≡ quorum_of layout
    enough = length-map told taken_tag
        ∙ length-take-le (quorum_of layout) all_told (subst (λ n. quorum_of layout ≤ n) (sym as_many) quorum)

    distinct : IsDistinct nat_eq (members_of (map taken_tag told))
    distinct = subst (IsDistinct nat_eq) (sym (tag_members told))
        (distinct_telling call.id call.phase.number reports differ (quorum_of layout))

    took : taking begun_phase (map (message_of call.id call.phase.number call.phase.position) told) ≡ ended_phase
    took = ap (taking begun_phase) (map_twice (reply_message call.id (suc call.phase.number) Query call.phase.position) told)
        ∙ takes_quorum begun_phase Query call.phase.position (map taken_tag told) refl refl some enough distinct (tags_now told)

    took_all : taking begun_phase (map (message_of call.id call.phase.number call.phase.position) all_told) ≡ ended_phase
    took_all = takes_first (quorum_of layout) all_told begun_phase ended_phase refl call.id call.phase.number call.phase.position took

    pub queried_is : reached call ≡ query_stage call.phase.position →
        at_node node (querying call layout reports) ≡ queried (at_node node call) layout told
    queried_is at =
        ap (at_node node) (heeding_phase call.id call.phase.number call.phase.position (entered call begun_phase) reports)
        ∙ ap (λ (p : Phase). at_node node (record (entered call begun_phase) { phase = p })) took_all
        ∙ ap (λ (s : Stage). at_node node (record call { stage = begun_at s call.phase.position; phase = ended_phase })) at

  pub querying_id : (querying call layout reports).id ≡ call.id
  querying_id = heeding_id call.id call.phase.number call.phase.position (entered call begun_phase) reports
