-- What all nodes keep after one of them changed in a turn of their course.
use Rattle.std.proofs.Common.{◌≡◌, ℕ, inl, inr, Bool, true, false, cond, eqb, eq-eqb, eqb-true, List, Some, length}
use Rattle.std.proofs.Common.{refl, sym, subst, ◌∙◌}
use Rattle.std.specs.List.{AllByRecursion}
use Rattle.record.specs.Fragments.{Code}
use Rattle.soundness.proofs.ListLemmas.{all_both, all_weaker}
use Rattle.open_calls.specs.OpenCalls.{NodeCall, open_call}
use Rattle.open_calls.proofs.OpenCallLemmas.{all_filter}
use Rattle.network.specs.Worlds.{World}
use Rattle.network.specs.Events.{world_after}
use Rattle.local_object.specs.declared.report.Report.{Report}
use Rattle.local_object.specs.Events.{LocalEvent}
use Rattle.local_object.specs.Local.{LocalObject}
use Rattle.told_replies.specs.Tellings.{world_of}
use Rattle.told_queries.specs.Courses.{AreWaits, Course, Turn, run_of, spare_events}
use Rattle.refinement.specs.Parts.{IsPartOf}
use Rattle.refinement.specs.Starting.{about}
use Rattle.refinement.specs.Systems.{HasPartsOf, HasRoomIfReading, IsToldTruth, System, with_object_at}
use Rattle.refinement.specs.ToldLetters.{AreApart, IsTrueReport, TellsTruth}
use Rattle.refinement.specs.WellFormed.{IsWellFormed}
use Rattle.refinement.proofs.CallRoomLemmas.{HasRoomOrBegins}
use Rattle.refinement.proofs.EarlyRunLemmas.{course_longer, letter_later, report_later}
use Rattle.refinement.proofs.RoomLemmas.{LeavesRoom, all_open, room_later, room_new}
use Rattle.refinement.proofs.SystemPremiseLemmas.{HasRun}

-- Calls whose phases began in the last turn

-- there is room for the calls of a node, where there was or their phases began in this turn
pub rooms_here : (fragment : Code) (course : Course) (turn : Turn) (event : LocalEvent) (local : LocalObject) →
    turn.call ≡ about event → IsWellFormed fragment (world_after fragment turn.acts (world_of fragment (run_of course))) →
    IsPartOf (world_after fragment turn.acts (world_of fragment (run_of course))) local →
    AreWaits (world_after fragment turn.acts (world_of fragment (run_of course))) turn.spare → length turn.spare ≡ spare_events →
    AllByRecursion (HasRoomOrBegins fragment (course_longer course turn) (world_of fragment (run_of course)) event) local.calls →
    AllByRecursion (HasRoomIfReading fragment (course_longer course turn)) local.calls
rooms_here fragment course turn event local about_it formed part waits enough rooms =
    all_both (λ call room open_there. go call open_there room) local.calls rooms opens
  where
    later : World
    later = world_after fragment turn.acts (world_of fragment (run_of course))

    Opens : NodeCall → Type 0
    Opens call = open_call later.calls call.id ≡ Some call

    opens : AllByRecursion Opens local.calls
    opens =
        subst (AllByRecursion Opens) (sym part.calls)
        (all_filter Opens (λ call. eqb call.node local.node) later.calls (all_open later.calls formed.ids))

    go : (call : NodeCall) → Opens call →
        HasRoomOrBegins fragment (course_longer course turn) (world_of fragment (run_of course)) event call →
        HasRoomIfReading fragment (course_longer course turn) call
    go call open_there (inl room) = room
    go call open_there (inr begins) =
        room_new fragment course turn call (about_it ∙ sym begins.is_about) begins.new begins.fresh formed open_there waits enough

module _ (fragment : Code) (system : System) (has : HasRun fragment system) where
  abbrev course : Course
  course = has.course

  abbrev world : World
  world = world_of fragment (run_of course)

  abbrev is : HasPartsOf world system
  is = has.is.parts

  -- What each node keeps after one of them changed

  pub at_each : (P : LocalObject → Type 0) (node : ℕ) (local : LocalObject) → P local → ((other : ℕ) → P (system.objects other)) →
      (other : ℕ) → P (with_object_at system.objects node local other)
  at_each P node local here there other = go (eqb other node)
    where
      go : (b : Bool) → P (cond b local (system.objects other))
      go true = here
      go false = there other

  pub nodes_after : (node : ℕ) (local : LocalObject) → local.node ≡ node → (other : ℕ) →
      (with_object_at system.objects node local other).node ≡ other
  nodes_after node local own other = go (eqb other node) refl
    where
      go : (b : Bool) → eqb other node ≡ b → (cond b local (system.objects other)).node ≡ other
      go true e = own ∙ sym (eqb-true other node e)
      go false e = is.nodes other

  pub parts_after : (later : World) (node : ℕ) (local : LocalObject) → local.node ≡ node → IsPartOf later local →
      ((other : LocalObject) → (other.node ≡ local.node → ⊥) → IsPartOf world other → IsPartOf later other) → (other : ℕ) →
      IsPartOf later (with_object_at system.objects node local other)
  parts_after later node local own part others other = go (eqb other node) refl
    where
      go : (b : Bool) → eqb other node ≡ b → IsPartOf later (cond b local (system.objects other))
      go true e = part
      go false e = others (system.objects other) (λ same. apart (sym (is.nodes other) ∙ same ∙ own)) (is.parts other)
        where
          apart : other ≡ node → ⊥
          apart same = absurd (let wrong : false ≡ true = sym e ∙ eq-eqb other node same in cc)

  -- What was told, in a longer course

  abbrev AreTrue : Course → List Report → Type 0
  AreTrue another reports = AllByRecursion (IsTrueReport fragment another) reports

  module _ (turn : Turn) where
    abbrev further : Course
    further = course_longer course turn

    reports_later : (reports : List Report) → AreTrue course reports → AreTrue further reports
    reports_later reports are =
        all_weaker (IsTrueReport fragment course) (IsTrueReport fragment further) (report_later fragment course turn) reports are

    pub letters_later : AllByRecursion (TellsTruth fragment further) system.letters
    letters_later =
        all_weaker (TellsTruth fragment course) (TellsTruth fragment further) (letter_later fragment course turn) system.letters
        has.is.told.letters

    -- what nodes were told after one of them changed, and sent these letters
    pub told_after : (node : ℕ) (local : LocalObject) (later : System) →
        later.objects ≡ with_object_at system.objects node local → AllByRecursion (TellsTruth fragment further) later.letters →
        AreTrue course local.reports → AreApart local.reports → IsToldTruth fragment further later
    told_after node local later same letters are apart = record {
      letters = letters;
      reports = subst (λ (objects : ℕ → LocalObject). (other : ℕ) → AreTrue further (objects other).reports) (sym same)
          (at_each (λ object. AreTrue further object.reports) node local (reports_later local.reports are)
          (λ other. reports_later (system.objects other).reports (has.is.told.reports other)));
      apart = subst (λ (objects : ℕ → LocalObject). (other : ℕ) → AreApart (objects other).reports) (sym same)
          (at_each (λ object. AreApart object.reports) node local apart has.is.told.apart);
    }

    -- there is room for calls of before
    pub rooms_later : LeavesRoom fragment world turn → (node : ℕ) →
        AllByRecursion (HasRoomIfReading fragment further) (system.objects node).calls
    rooms_later leaves node =
        all_weaker (HasRoomIfReading fragment course) (HasRoomIfReading fragment further)
        (λ call room reads. room_later fragment course turn call leaves (room reads)) (system.objects node).calls (has.is.rooms node)

    pub rooms_after : LeavesRoom fragment world turn → (node : ℕ) (local : LocalObject) →
        AllByRecursion (HasRoomIfReading fragment further) local.calls → (other : ℕ) →
        AllByRecursion (HasRoomIfReading fragment further) (with_object_at system.objects node local other).calls
    rooms_after leaves node local here =
        at_each (λ object. AllByRecursion (HasRoomIfReading fragment further) object.calls) node local here (rooms_later leaves)
