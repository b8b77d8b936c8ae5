-- Events of one process, one after another: what they make of the process, and what they write and show.
use Rattle.std.proofs.Common.{◌≡◌, ◌≢◌, ℕ, cond, eq-eqb, ne_eqb, List, [], ◌∷◌, ◌++◌}
use Rattle.std.proofs.Common.{refl, sym, subst, ap, ◌∙◌, append_assoc, append-nil}
use Rattle.deeds.specs.Deeds.{Notice}
use Rattle.deeds.specs.Kept.{FileOfNames}
use Rattle.processes.specs.Events.{MayHappenTo, ProcessEvent, number_of, process_after, processes_after, seen_in, sent_by}
use Rattle.processes.specs.Processes.{Process, Processes, SentFrame}
use Rattle.processes.specs.Runs.{AreOfPrograms, IsOfPrograms, MayAllHappenTo, processes_run}
use Rattle.processes.proofs.LeadLemmas.{may_then, programs_then, run_then}

module _ (names : FileOfNames) (number : ℕ) where
  -- Events lead from these processes to others: this process then is so, and no other has changed. They wrote these
  -- frames to nodes, and clients saw this.
  pub record Goes (from : Processes) (process : Process) (sent : List SentFrame) (seen : List Notice) : Type 0 where
    pub events : List ProcessEvent
    pub may : MayAllHappenTo names events from
    pub programs : (any : ℕ) → AreOfPrograms any events from
    pub to : Processes
    pub ends : processes_run events from ≡ to
    pub own : to.at number ≡ process
    pub others : (other : ℕ) → other ≢ number → to.at other ≡ from.at other
    pub sent_is : to.sent ≡ from.sent ++ sent
    pub seen_is : to.seen ≡ from.seen ++ seen

  pub goes_nowhere : (from : Processes) → Goes from (from.at number) [] []
  goes_nowhere from = record {
    events = [];
    may = tt;
    programs = λ any. tt;
    to = from;
    ends = refl;
    own = refl;
    others = λ other not. refl;
    sent_is = sym (append-nil from.sent);
    seen_is = sym (append-nil from.seen);
  }

  pub goes_once : (from : Processes) (event : ProcessEvent) → number_of event ≡ number → MayHappenTo names from event →
      IsOfPrograms from event →
      Goes from (process_after (from.at (number_of event)) event) (sent_by event) (seen_in (from.at (number_of event)) event)
  goes_once from event own may program =
      let after = process_after (from.at (number_of event)) event in record {
        events = event ∷ [];
        may = (may, tt);
        programs = λ any. (λ is. program, tt);
        to = processes_after from event;
        ends = refl;
        own = ap (λ b. cond b after (from.at number)) (eq-eqb number (number_of event) (sym own));
        others = λ other not. ap (λ b. cond b after (from.at other))
            (ne_eqb other (number_of event) (λ same. not (same ∙ own)));
        sent_is = refl;
        seen_is = refl;
      }

  pub goes_on : (from : Processes) (process after : Process) (sent more_sent : List SentFrame) (seen more_seen : List Notice)
      (first : Goes from process sent seen) → Goes first.to after more_sent more_seen →
      Goes from after (sent ++ more_sent) (seen ++ more_seen)
  goes_on from process after sent more_sent seen more_seen first more = record {
    events = first.events ++ more.events;
    may = may_then names first.events more.events from first.may
        (subst (λ at. MayAllHappenTo names more.events at) (sym first.ends) more.may);
    programs = λ any. programs_then any first.events more.events from (first.programs any)
        (subst (λ at. AreOfPrograms any more.events at) (sym first.ends) (more.programs any));
    to = more.to;
    ends = run_then first.events more.events from ∙ ap (processes_run more.events) first.ends ∙ more.ends;
    own = more.own;
    others = λ other not. more.others other not ∙ first.others other not;
    sent_is = more.sent_is ∙ ap (λ (ss : List SentFrame). ss ++ more_sent) first.sent_is ∙ append_assoc from.sent sent more_sent;
    seen_is = more.seen_is ∙ ap (λ (ns : List Notice). ns ++ more_seen) first.seen_is ∙ append_assoc from.seen seen more_seen;
  }

  -- the same with another way to say how the process is then
  pub goes_as : (from : Processes) (process same : Process) (sent : List SentFrame) (seen : List Notice) → process ≡ same →
      Goes from process sent seen → Goes from same sent seen
  goes_as from process same sent seen is goes = subst (λ (p : Process). Goes from p sent seen) is goes
