-- A run whose processes were led on by events has the processes that these make.
use Rattle.std.proofs.Common.{◌≡◌, ◌≢◌, ℕ, zero, suc, Bool, true, false, eqb, List, [], ◌∷◌, ◌++◌, set}
use Rattle.std.proofs.Common.{Some, slice_get, refl, sym, subst, ap, ◌∙◌}
use Rattle.std.proofs.lemmas.Bool.{eqb-false}
use Rattle.std.proofs.lemmas.Option.{same_Some}
use Rattle.std.proofs.lemmas.Map.Views.{exact_unsigned_eq}
use Rattle.deeds.specs.Deeds.{Notice}
use Rattle.deeds.specs.Kept.{FileOfNames}
use Rattle.node_effects.specs.Seen.{all_seen}
use Rattle.processes.specs.Events.{ProcessEvent}
use Rattle.processes.specs.Processes.{Process, Processes, SentFrame}
use Rattle.processes.specs.Runs.{AreOfPrograms, MayAllHappenTo, processes_run}
use Rattle.example_runs.specs.Reached.{AreIn, IsAt}
use Rattle.example_runs.specs.declared.members.Member.{Member}
use Rattle.example_runs.specs.declared.process_run.ProcessRun.{ProcessRun}
use Rattle.example_runs.proofs.GoingLemmas.{Goes}

-- Lists in which one element was exchanged

get_set : {A : Type 0} (xs : List A) (i : ℕ) (new x : A) → slice_get (set xs i new) i ≡ Some x → x ≡ new
get_set [] i new x is = absurd (cc)
get_set (y ∷ ys) zero new x is = same_Some x new (sym is)
get_set (y ∷ ys) (suc i) new x is = get_set ys i new x is

get_set_other : {A : Type 0} (xs : List A) (i j : ℕ) (new : A) → j ≢ i → slice_get (set xs i new) j ≡ slice_get xs j
get_set_other [] i j new not = refl
get_set_other (y ∷ ys) zero zero new not = absurd (not refl)
get_set_other (y ∷ ys) zero (suc j) new not = refl
get_set_other (y ∷ ys) (suc i) zero new not = refl
get_set_other (y ∷ ys) (suc i) (suc j) new not = get_set_other ys i j new (λ same. not (ap suc same))

-- events of the process of one number, as which one process of the run then is, lead from the one run to the other
pub led_on : (names : FileOfNames) (number : ℕ) (old new : ProcessRun) (processes : Processes) (process : Process)
    (member : Member) (sent : List SentFrame) (seen : List Notice) → AreIn processes old →
    Goes names number processes process sent seen → IsAt process member →
    new.members.items ≡ set old.members.items number member → new.sent.items ≡ old.sent.items ++ sent →
    all_seen new.seen.items ≡ all_seen old.seen.items ++ seen →
    (events : List ProcessEvent) × MayAllHappenTo names events processes
    × ((any : ℕ) → AreOfPrograms any events processes) × AreIn (processes_run events processes) new
led_on names number old new processes process member sent seen are goes at members frames notices = (
  goes.events,
  goes.may,
  goes.programs,
  subst (λ (to : Processes). AreIn to new) (sym goes.ends) (record {
    at = λ other it there. each other it (eqb other number) refl
        (sym (ap (λ (ms : List Member). slice_get ms other) members) ∙ there);
    sent = frames ∙ ap (λ (ss : List SentFrame). ss ++ sent) are.sent ∙ sym goes.sent_is;
    seen = notices ∙ ap (λ (ns : List Notice). ns ++ seen) are.seen ∙ sym goes.seen_is;
  }),
)
  where
    each : (other : ℕ) (it : Member) (b : Bool) → eqb other number ≡ b →
        slice_get (set old.members.items number member) other ≡ Some it → IsAt (goes.to.at other) it
    each other it true same there =
        let e = exact_unsigned_eq other number same in
        let is : it ≡ member = get_set old.members.items number member it
        (ap (slice_get (set old.members.items number member)) (sym e) ∙ there) in
        subst (λ (m : Member). IsAt (goes.to.at other) m) (sym is)
        (subst (λ (n : ℕ). IsAt (goes.to.at n) member) (sym e)
        (subst (λ (p : Process). IsAt p member) (sym goes.own) at))
    each other it false differ there =
        let not : other ≢ number = eqb-false other number differ in
        subst (λ (p : Process). IsAt p it) (sym (goes.others other not))
        (are.at other it (sym (get_set_other old.members.items number other member not) ∙ there))
