-- What a program does step by step is a list of events of its process, among events of other processes.
use Rattle.std.proofs.Common.{◌≡◌, ℕ, zero, suc, true, List, [], ◌∷◌, ◌++◌, Option, None, Some, Ok}
use Rattle.std.proofs.Common.{refl, sym, subst, ap, ◌∙◌}
use Rattle.std.specs.List.{flat_map}
use Rattle.std.specs.Io.KnownBytes.{Appends, Consumes}
use Rattle.deeds.specs.Kept.{FileOfNames}
use Rattle.node.specs.Handles.{Handles as HandlesFrame}
use Rattle.node.specs.Recovering.{Notes as NotesLength}
use Rattle.node.specs.declared.node.Node.{Node}
use Rattle.node_strings.specs.Strings.{Strings}
use Rattle.node_store.specs.Rounds.{BetweenRounds, GoesRounds}
use Rattle.node_store.specs.Serving.{ReadsFrames, ServesSome, read_by}
use Rattle.node_store.specs.declared.end.LogEnd.{LogEnd}
use Rattle.node_store.proofs.GrowthLemmas.{Known, appends_none, appends_then}
use Rattle.processes.specs.Events.{AreAnewIf, ProcessEvent}
use Rattle.processes.specs.Interleaved.{IsAsProgram, ServesAmongOthers, SessionStep, TakesSteps, after_step, written_by}
use Rattle.processes.specs.Loops.{BringsWritten, HaveEvents, IsBetweenRounds}
use Rattle.processes.specs.Processes.{Process, Processes}
use Rattle.processes.specs.Programs.{IsRewrittenIf}
use Rattle.processes.specs.Runs.{processes_run}
use Rattle.processes.specs.Sessions.{GoesOn, IsRenewal}
use Rattle.processes.proofs.AmongLemmas.{as_among, own_behind}
use Rattle.processes.proofs.LeadLemmas.{leads_nowhere}
use Rattle.processes.proofs.ProgramLemmas.{rewrites_are_events}
use Rattle.processes.proofs.RoundLawLemmas.{have_events, rounds_are_events}

-- The steps of a session

takes_then : (xs ys : List SessionStep) (first between last : BetweenRounds Node) → TakesSteps first xs between →
    TakesSteps between ys last → TakesSteps first (xs ++ ys) last
takes_then [] ys first between last same more = subst (λ (b : BetweenRounds Node). TakesSteps b ys last) same more
takes_then (x ∷ xs) ys first between last taken more = (taken.0, takes_then xs ys (after_step x) between last taken.1 more)

-- some steps lead from the one to the other
abbrev pub HasSteps : (old new : BetweenRounds Node) → Type 0
HasSteps old new = (steps : List SessionStep) × TakesSteps old steps new

pub steps_then : (first between last : BetweenRounds Node) → HasSteps first between → HasSteps between last → HasSteps first last
steps_then first between last (xs, taken) (ys, more) = (xs ++ ys, takes_then xs ys first between last taken more)

pub round_steps : (begin count : ℕ) (old new : BetweenRounds Node) → GoesRounds HandlesFrame NotesLength begin count old new →
    HasSteps old new
round_steps begin zero old new same = ([], same)
round_steps begin (suc count) old new (between, gone, short, round) =
    steps_then old between new (round_steps begin count old between gone) (SessionStep.Serves new ∷ [], (round, refl))

pub session_steps : (count : ℕ) (first last : BetweenRounds Node) → GoesOn count first last → HasSteps first last
session_steps zero first last same = ([], same)
session_steps (suc count) first last (between, served, gone, rounds, renewal) =
    steps_then first served last
    (steps_then first between served (session_steps count first between gone)
    (round_steps between.length rounds.1 between served rounds.2))
    (SessionStep.Renews last ∷ [], (renewal, refl))

-- A rewriting

rests_as : (process : Process) (node now : Node) (chain then : ℕ) (kept keeps : Known) → now ≡ node → then ≡ chain →
    keeps ≡ kept → IsBetweenRounds process node chain kept → IsBetweenRounds process now then keeps
rests_as process node now chain then kept keeps is_node is_chain is_kept rests =
    subst (λ (n : Node). IsBetweenRounds process n then keeps) (sym is_node)
    (subst (λ (c : ℕ). IsBetweenRounds process node c keeps) (sym is_chain)
    (subst (λ (k : Known). IsBetweenRounds process node chain k) (sym is_kept) rests))

-- events that write nothing, and after which the process rests as the program
abbrev pub RestsSo : BetweenRounds Node → (written : List ℕ) → Process → Type 0
RestsSo now written process = (written ≡ []) × IsBetweenRounds process now.machine now.chain now.kept

renewals_are_events : (names : FileOfNames) (number : ℕ) (processes : Processes) (old new : BetweenRounds Node) →
    IsBetweenRounds (processes.at number) old.machine old.chain old.kept → IsRenewal old new →
    HaveEvents names number processes (RestsSo new)
renewals_are_events names number processes old new rests renewal =
    go renewal.rewritten.0 renewal.rewritten.1 renewal.rewritten.2
  where
    go : (anew : Option (List Strings)) → AreAnewIf old.machine anew →
        IsRewrittenIf anew old.kept renewal.end new.kept renewal.then → HaveEvents names number processes (RestsSo new)
    go None any is =
        have_events names number processes processes [] (RestsSo new) (leads_nowhere names number processes) (
          refl,
          rests_as (processes.at number) old.machine new.machine old.chain new.chain old.kept new.kept renewal.machine
              (renewal.chained ∙ ap (λ (e : LogEnd). e.chain.state) is.1 ∙ renewal.ends) is.0 rests,
        )
    go (Some entries) anew is =
        let have = rewrites_are_events names number processes old.machine old.chain old.kept new.kept entries renewal.then
        rests anew is.0 is.1 in record {
          events = have.events;
          own = have.own;
          may = have.may;
          programs = have.programs;
          holds = (
            have.holds.0,
            rests_as ((processes_run have.events processes).at number) old.machine new.machine renewal.then.chain.state
                new.chain new.kept new.kept renewal.machine renewal.chained refl have.holds.1,
          );
        }

-- Steps among events of others

-- what is left of a known input is known
pub left_known : (input : List ℕ) (left : Known) (bytes : List ℕ) → Consumes (Some input) left bytes →
    (rest : List ℕ) × (left ≡ Some rest)
left_known input None bytes consumes = absurd consumes
left_known input (Some rest) bytes consumes = (rest, refl)

module _ (names : FileOfNames) (number : ℕ) (from : Processes) (held : Known) where
  -- the process is as the program, whose input is known
  pub record IsAt (now : BetweenRounds Node) (done : List ProcessEvent) : Type 0 where
    pub is : IsAsProgram names number from held now done
    pub input : List ℕ
    pub known : now.left ≡ Some input

  pub serves_among : (steps : List SessionStep) (now last : BetweenRounds Node) (done : List ProcessEvent)
      (Holds : List ProcessEvent → Type 0) → IsAt now done → TakesSteps now steps last →
      ((all : List ProcessEvent) → IsAt last all → Holds all) → ServesAmongOthers names number from held steps now done Holds
  serves_among [] now last done Holds at same ends =
      (at.is, ends done (subst (λ (b : BetweenRounds Node). IsAt b done) (sym same) at))
  serves_among (SessionStep.Serves new ∷ steps) now last done Holds at taken ends = (
    at.is,
    λ others are may brings.
        let all = done ++ others in
        let here = as_among names number from held now done others are may at.is in
        let round = subst (λ (left : Known). ServesSome HandlesFrame NotesLength now.chain new.chain now.machine new.machine left
        new.left now.kept new.kept now.held new.held (Ok true)) at.known taken.0.0 in
        let rest = left_known at.input new.left (flat_map read_by round.0) round.2 in
        let have = rounds_are_events names number (processes_run all from) now.chain new.chain now.machine new.machine at.input
        new.left now.kept new.kept now.held new.held true here.rests round
        (subst (λ (left : Known). BringsWritten (processes_run all from) number (λ events. ReadsFrames left new.left events true))
        at.known brings) in
        own_behind names number from all _ (λ them. ServesAmongOthers names number from held steps new them Holds) may here.programs have
        (λ own written both programs wrote holds. serves_among steps new last (all ++ own) Holds
        (record {
          is = record {
            may = both;
            programs = programs;
            wrote = subst (λ (t : List ℕ). Appends held new.held t) (sym wrote)
                (appends_then held now.held new.held (written_by number all from) written here.wrote holds.0);
            rests = holds.1;
          };
          input = rest.0;
          known = rest.1;
        }) taken.1 ends),
  )
  serves_among (SessionStep.Renews new ∷ steps) now last done Holds at taken ends = (
    at.is,
    λ others are may brings.
        let all = done ++ others in
        let here = as_among names number from held now done others are may at.is in
        let have = renewals_are_events names number (processes_run all from) now new here.rests taken.0 in
        own_behind names number from all _ (λ them. ServesAmongOthers names number from held steps new them Holds) may here.programs have
        (λ own written both programs wrote holds. serves_among steps new last (all ++ own) Holds
        (record {
          is = record {
            may = both;
            programs = programs;
            wrote = subst (λ (t : List ℕ). Appends held new.held t)
                (sym (wrote ∙ ap (λ (t : List ℕ). written_by number all from ++ t) holds.0))
                (appends_then held now.held new.held (written_by number all from) [] here.wrote
                (subst (λ (h : Known). Appends now.held h []) (sym taken.0.held) (appends_none now.held)));
            rests = holds.1;
          };
          input = at.input;
          known = taken.0.left ∙ at.known;
        }) taken.1 ends),
  )
