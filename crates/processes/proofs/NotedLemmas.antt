-- A node that is told the length of its log.
use Rattle.std.proofs.Common.{◌≡◌, ℕ, List}
use Rattle.std.proofs.Common.{Option, Some, sym, subst, ap, ◌∙◌}
use Rattle.deeds.specs.Deeds.{Notice}
use Rattle.deeds.specs.Kept.{FileOfNames, KeptNode}
use Rattle.deeds.specs.Named.{NamedLetter as Named}
use Rattle.recoveries.specs.RewritingNodes.{HasOwnObjects}
use Rattle.node_keeper.specs.Keeping.{kept_of}
use Rattle.node_keeper.specs.declared.keeper.Keeper.{Keeper}
use Rattle.node.specs.declared.node.Node.{Node}
use Rattle.node.specs.Recovering.{Notes as NotesLength}
use Rattle.processes.specs.Processes.{Process}
use Rattle.processes.proofs.FateLemmas.{fate}
use Rattle.processes.proofs.LogLemmas.{some_is}
use Rattle.processes.proofs.StandingLemmas.{Stands}

pub noted_stands : (names : FileOfNames) (number : ℕ) (fate : Option ℕ) (process : Process) (kept : KeptNode) (letters : List Named)
    (notices : List Notice) (node after : Node) (bytes : ℕ) → Stands names number fate process kept letters notices →
    process.running ≡ Some node → NotesLength node bytes after →
    Stands names number fate (record process { running = Some after }) kept letters notices
noted_stands names number fate process kept letters notices node after bytes is runs notes =
    let same : after.keeper ≡ node.keeper = ap (λ (n : Node). n.keeper) notes in record {
      recorded = is.recorded;
      alive = λ next runs_as e.
          ap kept_of (ap (λ (n : Node). n.keeper) (sym (some_is after next runs_as)) ∙ same) ∙ is.alive node runs e;
      runs = λ next runs_as.
          let own = is.runs node runs in
          let now : next.keeper ≡ node.keeper = ap (λ (n : Node). n.keeper) (sym (some_is after next runs_as)) ∙ same in record {
            number_is = ap (λ (k : Keeper). k.ids.node) now ∙ own.number_is;
            own = subst (λ (k : Keeper). HasOwnObjects (kept_of k)) (sym now) own.own;
          };
      frames = is.frames;
      answers = is.answers;
      sound = record { whole = is.sound.whole; fits = is.sound.fits };
      own_calls = is.own_calls;
      file = is.file;
    }
