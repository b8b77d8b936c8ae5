-- Events of a process among events of other processes.
use Rattle.std.proofs.Common.{◌≡◌, ◌≢◌, ℕ, cond, eq-eqb, ne_eqb, List, [], ◌∷◌, ◌++◌}
use Rattle.std.proofs.Common.{refl, sym, subst, ap, ◌∙◌, append_assoc, append-nil}
use Rattle.std.specs.List.{flat_map}
use Rattle.std.specs.Io.KnownBytes.{Appends}
use Rattle.frames.specs.Frame.{frame_bytes}
use Rattle.deeds.specs.Kept.{FileOfNames}
use Rattle.node.specs.declared.node.Node.{Node}
use Rattle.node_store.specs.Rounds.{BetweenRounds}
use Rattle.node_store.proofs.GrowthLemmas.{Known}
use Rattle.processes.specs.Events.{ProcessEvent, number_of, process_after, processes_after}
use Rattle.processes.specs.Interleaved.{AreOfOthers, IsAsProgram, bytes_of, written_by}
use Rattle.processes.specs.Loops.{AreOf, HaveEvents, IsBetweenRounds, frames_in, written_in}
use Rattle.processes.specs.Processes.{Process, Processes}
use Rattle.processes.specs.Runs.{AreOfPrograms, MayAllHappenTo, processes_run}
use Rattle.processes.proofs.LeadLemmas.{may_then, programs_then, run_then}

-- Others

other_process : (processes : Processes) (event : ProcessEvent) (number : ℕ) → number_of event ≢ number →
    (processes_after processes event).at number ≡ processes.at number
other_process processes event number other =
    ap (λ b. cond b (process_after (processes.at (number_of event)) event) (processes.at number))
    (ne_eqb number (number_of event) (λ same. other (sym same)))

others_leave : (number : ℕ) (events : List ProcessEvent) (processes : Processes) → AreOfOthers number events →
    (processes_run events processes).at number ≡ processes.at number
others_leave number [] processes others = refl
others_leave number (event ∷ events) processes others =
    others_leave number events (processes_after processes event) others.1
    ∙ other_process processes event number others.0

others_write : (number : ℕ) (events : List ProcessEvent) (processes : Processes) → AreOfOthers number events →
    written_by number events processes ≡ []
others_write number [] processes others = refl
others_write number (event ∷ events) processes others =
    let bytes = flat_map frame_bytes (frames_in (processes.at (number_of event)) event) in
    ap (λ b. cond b bytes [] ++ written_by number events (processes_after processes event))
    (ne_eqb (number_of event) number others.0)
    ∙ others_write number events (processes_after processes event) others.1

others_programs : (number : ℕ) (events : List ProcessEvent) (processes : Processes) → AreOfOthers number events →
    AreOfPrograms number events processes
others_programs number [] processes others = tt
others_programs number (event ∷ events) processes others =
    (λ own. absurd (others.0 own), others_programs number events (processes_after processes event) others.1)

-- Own events

own_write : (number : ℕ) (events : List ProcessEvent) (processes : Processes) → AreOf number events →
    written_by number events processes ≡ written_in events processes
own_write number [] processes own = refl
own_write number (event ∷ events) processes own =
    let bytes = flat_map frame_bytes (frames_in (processes.at (number_of event)) event) in
    let next = processes_after processes event in
    ap (λ b. cond b bytes [] ++ written_by number events next) (eq-eqb (number_of event) number own.0)
    ∙ ap (λ (t : List ℕ). bytes ++ t) (own_write number events next own.1)

by_then : (number : ℕ) (xs ys : List ProcessEvent) (from : Processes) →
    written_by number (xs ++ ys) from ≡ written_by number xs from ++ written_by number ys (processes_run xs from)
by_then number [] ys from = refl
by_then number (x ∷ xs) ys from =
    let next = processes_after from x in
    ap (λ (t : List ℕ). bytes_of number x from ++ t) (by_then number xs ys next)
    ∙ sym (append_assoc (bytes_of number x from) (written_by number xs next) (written_by number ys (processes_run xs next)))

module _ (names : FileOfNames) (number : ℕ) (from : Processes) where
  -- behind events of others, the process is still as the program
  pub as_among : (held : Known) (now : BetweenRounds Node) (done others : List ProcessEvent) → AreOfOthers number others →
      MayAllHappenTo names (done ++ others) from → IsAsProgram names number from held now done →
      IsAsProgram names number from held now (done ++ others)
  as_among held now done others are may at =
      let before = written_by number done from in
      let wrote : written_by number (done ++ others) from ≡ before =
      by_then number done others from
      ∙ ap (λ (t : List ℕ). before ++ t) (others_write number others (processes_run done from) are) ∙ append-nil before in
      let same : (processes_run (done ++ others) from).at number ≡ (processes_run done from).at number =
      ap (λ (ps : Processes). ps.at number) (run_then done others from)
      ∙ others_leave number others (processes_run done from) are in record {
        may = may;
        programs = programs_then number done others from at.programs (others_programs number others (processes_run done from) are);
        wrote = subst (λ (t : List ℕ). Appends held now.held t) (sym wrote) at.wrote;
        rests = subst (λ (p : Process). IsBetweenRounds p now.machine now.chain now.kept) (sym same) at.rests;
      }

  -- what follows from own events behind these
  abbrev pub FollowsFrom : (all : List ProcessEvent) → (Holds : (written : List ℕ) → Process → Type 0)
      → (Then : List ProcessEvent → Type 0) → Type 0
  FollowsFrom all Holds Then = (own : List ProcessEvent) (written : List ℕ) → MayAllHappenTo names (all ++ own) from
      → AreOfPrograms number (all ++ own) from
      → written_by number (all ++ own) from ≡ written_by number all from ++ written
      → Holds written ((processes_run (all ++ own) from).at number) → Then (all ++ own)

  pub own_behind : (all : List ProcessEvent) (Holds : (written : List ℕ) → Process → Type 0)
      (Then : List ProcessEvent → Type 0) → MayAllHappenTo names all from → AreOfPrograms number all from →
      HaveEvents names number (processes_run all from) Holds → FollowsFrom all Holds Then →
      (own : List ProcessEvent) × AreOf number own × MayAllHappenTo names (all ++ own) from
      × AreOfPrograms number (all ++ own) from × Then (all ++ own)
  own_behind all Holds Then may of have then =
      let own = have.events in
      let at = processes_run all from in
      let both = may_then names all own from may have.may in
      let programs = programs_then number all own from of have.programs in
      let wrote = by_then number all own from
      ∙ ap (λ (t : List ℕ). written_by number all from ++ t) (own_write number own at have.own) in
      let holds = subst (λ (ps : Processes). Holds (written_in own at) (ps.at number)) (sym (run_then all own from)) have.holds in
      (own, have.own, both, programs, then own (written_in own at) both programs wrote holds)
