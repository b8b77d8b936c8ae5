-- A start and a stop in a run of processes lead on, by events that may happen; and a new run is reached.
use Rattle.std.proofs.Common.{◌≡◌, ℕ, zero, suc, false, List, [], ◌∷◌, ◌++◌, Option, None, Some, is_some}
use Rattle.std.proofs.Common.{Result, Ok, Err, OnOk, slice_get, refl, sym, subst, ap, ◌∙◌, append-nil}
use Rattle.std.proofs.lemmas.Option.{same_Some}
use Rattle.std.specs.List.{AllByRecursion}
use Rattle.std.specs.Vec.{with_item}
use Rattle.cluster_file.specs.File.{FileContents, IsLawfulFile}
use Rattle.cluster_file.specs.Reading.{file_of}
use Rattle.cluster_file.specs.declared.error.FileFault.{FileFault}
use Rattle.node_effects.specs.Seen.{all_seen}
use Rattle.node_keeper.specs.Keeping.{names_of}
use Rattle.node_store.specs.Laws.{LeftLogIsRead}
use Rattle.processes.specs.Events.{ProcessEvent}
use Rattle.processes.specs.Processes.{Processes, new_process, new_processes}
use Rattle.processes.specs.Runs.{AreOfPrograms, MayAllHappenTo, processes_run}
use Rattle.processes.proofs.LeadLemmas.{may_then, programs_then, run_then}
use Rattle.example_runs.specs.Members.{HasStarted, IsNewMember}
use Rattle.example_runs.specs.Reached.{IsAt, IsReached, LeadsOn}
use Rattle.example_runs.specs.Steps.{IsStartedIn, IsStoppedIn}
use Rattle.example_runs.specs.declared.members.Member.{Member}
use Rattle.example_runs.specs.declared.process_run.ProcessRun.{ProcessRun}
use Rattle.example_runs.proofs.GoingLemmas.{goes_once}
use Rattle.example_runs.proofs.MemberLemmas.{started_goes}
use Rattle.example_runs.proofs.ReachedLemmas.{led_on}

ok_is : (file other : FileContents) (read : Result FileContents FileFault) → read ≡ Ok file → read ≡ Ok other → file ≡ other
ok_is file other read one two = let same = sym one ∙ two in cc

pub started_leads : LeftLogIsRead → (number : ℕ) (old new : ProcessRun) → IsStartedIn number old new → LeadsOn old new
started_leads law number old new is = (
  is.changed.text,
  λ processes by are.
      let at = are.at number is.member is.changed.at in
      let same : by.file ≡ is.file = ok_is by.file is.file (file_of old.text) by.read is.read in
      let goes = started_goes law processes by.reached is.file (by.names ∙ ap names_of same) number is.member is.after at is.started in
      led_on by.reached.names number old new processes goes.0 is.after [] [] are goes.1 goes.2 is.changed.members
      (is.sent ∙ sym (append-nil old.sent.items)) (ap all_seen is.seen ∙ sym (append-nil (all_seen old.seen.items))),
)

pub stopped_leads : (number : ℕ) (old new : ProcessRun) → IsStoppedIn number old new → LeadsOn old new
stopped_leads number old new is = (
  is.changed.text,
  λ processes by are.
      let at = are.at number is.member is.changed.at in
      let process = processes.at number in
      led_on by.reached.names number old new processes (record process { running = None; frames = []; answers = [] })
      (record is.member { node = None }) [] [] are
      (goes_once by.reached.names number processes (ProcessEvent.Stops number) refl tt tt)
      (record { runs = refl; synced = at.synced; told = refl; bytes = at.bytes; chained = at.chained })
      is.changed.members (is.sent ∙ sym (append-nil old.sent.items))
      (ap all_seen is.seen ∙ sym (append-nil (all_seen old.seen.items))),
)

-- a run to which nothing happened
pub stays_leads : (run : ProcessRun) → LeadsOn run run
stays_leads run = (refl, λ processes by are. ([], tt, λ any. tt, are))

-- a run that is led on from a reached one is reached
pub reached_on : (old new : ProcessRun) → LeadsOn old new → IsReached old → IsReached new
reached_on old new (text, leads) is =
    let by = is.reached in
    let more = leads is.processes by is.are in
    let reached = by.reached in record {
      processes = processes_run more.0 is.processes;
      reached = record {
        reached = record {
          file = reached.file;
          lawful = reached.lawful;
          names = reached.names;
          same = reached.same;
          events = reached.events ++ more.0;
          may = may_then reached.names reached.events more.0 new_processes reached.may
              (subst (λ (ps : Processes). MayAllHappenTo reached.names more.0 ps) (sym reached.result) more.1);
          result = run_then reached.events more.0 new_processes ∙ ap (processes_run more.0) reached.result;
        };
        file = by.file;
        read = ap file_of text ∙ by.read;
        names = by.names;
      };
      programs = λ any. programs_then any reached.events more.0 new_processes (is.programs any)
          (subst (λ (ps : Processes). AreOfPrograms any more.0 ps) (sym reached.result) (more.2 any));
      are = more.3;
    }

-- For contracts

pub on_ok : {T E P Q : Type 0} (r : Result T E) → (P → Q) → OnOk r P → OnOk r Q
on_ok (Ok x) so is = so is
on_ok (Err e) so is = tt

pub none_of : {A : Type 0} (o : Option A) → is_some o ≡ false → o ≡ None
none_of None e = refl
none_of (Some x) e = absurd (cc)

-- the run after one of its processes has changed
abbrev pub changed_run : ProcessRun → (number : ℕ) → Member → ProcessRun
changed_run old number after = record old { members = with_item old.members number after }

module _ (number : ℕ) (old : ProcessRun) (member : Member) (at : slice_get old.members.items number ≡ Some member) where
  pub started_in : (file : FileContents) (after : Member) → file_of old.text ≡ Ok file →
      HasStarted file number member after → IsStartedIn number old (changed_run old number after)
  started_in file after read is = record {
    member = member;
    after = after;
    file = file;
    read = read;
    started = is;
    changed = record { at = at; members = refl; text = refl };
    sent = refl;
    seen = refl;
  }

  pub stopped_in : IsStoppedIn number old (changed_run old number (record member { node = None }))
  stopped_in = record { member = member; changed = record { at = at; members = refl; text = refl }; sent = refl; seen = refl }

-- New runs

all_at : {A : Type 0} (P : A → Type 0) (xs : List A) (i : ℕ) (x : A) → AllByRecursion P xs → slice_get xs i ≡ Some x → P x
all_at P [] i x all is = absurd (cc)
all_at P (y ∷ ys) zero x all is = subst P (same_Some y x is) all.0
all_at P (y ∷ ys) (suc i) x all is = all_at P ys i x all.1 is

at_first : (member : Member) → IsNewMember member → IsAt new_process member
at_first member new =
    record { runs = sym new.stopped; synced = refl; told = refl; bytes = new.log; chained = new.chain }

pub new_reached : (run : ProcessRun) (file : FileContents) → file_of run.text ≡ Ok file → IsLawfulFile file →
    AllByRecursion IsNewMember run.members.items → run.sent.items ≡ [] → run.seen.items ≡ [] → IsReached run
new_reached run file read lawful new sent seen = record {
  processes = new_processes;
  reached = record {
    reached = record {
      file = file;
      lawful = lawful;
      names = names_of file;
      same = refl;
      events = [];
      may = tt;
      result = refl;
    };
    file = file;
    read = read;
    names = refl;
  };
  programs = λ any. tt;
  are = record {
    at = λ number member there. at_first member (all_at IsNewMember run.members.items number member new there);
    sent = sent;
    seen = ap all_seen seen;
  };
}
