-- What waits after a node has handled a frame.
use Rattle.std.proofs.Common.{◌≡◌, ◌<◌, ◌≤◌, ◌+◌, ℕ, zero, List, ◌++◌}
use Rattle.std.proofs.Common.{length, map, sym, subst, ap, ◌∙◌, arith}
use Rattle.std.proofs.lemmas.List.{length-append, length-map}
use Rattle.std.specs.List.{AllByRecursion}
use Rattle.deeds.specs.Named.{NamedLetter as Named, IsOneOf}
use Rattle.open_calls.proofs.ListLemmas.{all_append, all_weaker}
use Rattle.recoveries.specs.Records.{LogRecord}
use Rattle.node_strings.specs.Strings.{Strings}
use Rattle.node_effects.specs.Work.{entries_in}
use Rattle.node_effects.specs.declared.effects.Effects.{Effects}
use Rattle.node_effects.specs.declared.output.Output.{Output}
use Rattle.node_keeper.specs.Logging.{log_entry_of}
use Rattle.node_keeper.specs.Sendings.{letters_of}
use Rattle.node_keeper.specs.Wants.{Want, outputs_of, records_in, sends_in}
use Rattle.node.specs.declared.node.Node.{Node}
use Rattle.node.specs.Handles.{Handles}
use Rattle.processes.specs.Events.{handled_process}
use Rattle.processes.specs.Processes.{Process, frames_behind}
use Rattle.node_store.specs.Recovery.{IsWholeEntry}
use Rattle.processes.proofs.LogLemmas.{all_whole}
use Rattle.processes.proofs.LogLemmas.{entries_wanted}
use Rattle.processes.proofs.StandingLemmas.{FrameStands, HasWholeLog}
use Rattle.processes.proofs.WantLemmas.{WaitsBetween, carried_among, frames_wait, until}
use Rattle.processes.proofs.StandingLemmas.{HasWholeLog}

module _ (process : Process) (node after : Node) (frame : Strings) (effects : Effects) (handles : Handles node frame effects after)
  where
    abbrev wants : List Want
    wants = handles.wants

    abbrev records : List LogRecord
    records = records_in handles.wants

    abbrev mine : ℕ
    mine = node.keeper.ids.node

    abbrev digest : List ℕ
    digest = node.keeper.digest

    abbrev log : List Strings
    log = process.log

    abbrev more : List Strings
    more = entries_in effects.outputs.items

    pub more_are : more ≡ map (log_entry_of digest) records
    more_are = ap entries_in handles.outputs ∙ entries_wanted mine digest wants

    pub long : length (log ++ more) ≡ length log + length records
    long =
        length-append log more
        ∙ ap (λ n. length log + n) (ap (λ (es : List Strings). length es) more_are ∙ length-map records (log_entry_of digest))

    pub longer : length log ≤ length (log ++ more)
    longer = let e = long in omega arith

    -- the frames that now wait, where so many entries remain
    pub new_frames : (count left : ℕ) (all : List Named) → left ≤ length log + count →
        ((letter : Named) → IsOneOf (letters_of (sends_in (until count wants))) letter → IsOneOf all letter) →
        AllByRecursion (FrameStands (length (log ++ more)) left all) (frames_behind (length log) effects.outputs.items)
    new_frames count left all le among =
        subst (λ (os : List Output). AllByRecursion (FrameStands (length (log ++ more)) left all) (frames_behind (length log) os))
        (sym handles.outputs)
        (all_weaker (WaitsBetween (length log) (length records) count (letters_of (sends_in (until count wants))))
        (FrameStands (length (log ++ more)) left all)
        (λ waiting waits. let most = waits.most in let e = long in (
          omega arith,
          λ early. carried_among (letters_of (sends_in (until count wants))) all among waiting.frame (waits.carried (omega arith)),
        ))
        (frames_behind (length log) (outputs_of mine digest wants))
        (frames_wait mine digest (length log) count wants handles.sent))

    -- none of them may go out, where not even the log from before remains
    pub lost_frames : (left : ℕ) (all : List Named) → left < length log →
        AllByRecursion (FrameStands (length (log ++ more)) left all) (frames_behind (length log) effects.outputs.items)
    lost_frames left all less =
        subst (λ (os : List Output). AllByRecursion (FrameStands (length (log ++ more)) left all) (frames_behind (length log) os))
        (sym handles.outputs)
        (all_weaker (WaitsBetween (length log) (length records) zero (letters_of (sends_in (until zero wants))))
        (FrameStands (length (log ++ more)) left all)
        (λ waiting waits. let most = waits.most in let least = waits.least in let e = long in (
          omega arith,
          λ early. absurd (omega arith),
        ))
        (frames_behind (length log) (outputs_of mine digest wants))
        (frames_wait mine digest (length log) zero wants handles.sent))

    -- the log stays whole
    pub handled_whole : HasWholeLog process → HasWholeLog (handled_process process effects after)
    handled_whole sound =
        let fits = sound.fits in
        let far = longer in record {
          whole = all_append IsWholeEntry log more sound.whole
              (subst (AllByRecursion IsWholeEntry) (sym more_are) (all_whole digest records handles.read));
          fits = omega arith;
        }
