-- What a command comes to, from what its own function says.
use Rattle.std.proofs.Common.{◌≡◌, List, [], ℕ, Option, Some, None, Result, Ok, Err, sym, subst}
use Rattle.script.specs.declared.change.Change.{Change}
use Rattle.script.specs.declared.command.Command.{Command}
use Rattle.script.specs.declared.command.Command.TheVariants as of
use Rattle.printing.specs.Outcome.{outcome_text}
use Rattle.printing.specs.declared.outcome.Outcome.TheVariants as outcome
use Rattle.cluster.specs.Cluster.{Cluster, all_up}
use Rattle.player.specs.declared.player.Stop.{Stop}
use Rattle.player.specs.declared.player.Stop.TheVariants as stop
use Rattle.player.specs.declared.report.Report.{Report}
use Rattle.player.specs.Report.{report_text}
use Rattle.player.specs.Shown.{line_of}
use Rattle.player.specs.Play.{Prints, IsPlayed, IsBad, Plays, IsBadAt, Changes}
use Rattle.words.specs.Written.{Written}

-- a result about a printed text stays true if what it says of the text and of a bad line is replaced by weaker facts
pub prints_more : (old new : Written) (Is More : List ℕ → Type 0) (Bad Worse : Type 0) (r : Result Unit Stop)
    → ((text : List ℕ) → Is text → More text) → (Bad → Worse) → Prints old new Is Bad r → Prints old new More Worse r
prints_more old new Is More Bad Worse (Ok x) more worse printed = (printed.0, more printed.0 printed.1, printed.2)
prints_more old new Is More Bad Worse (Err stop.Bad) more worse printed = (worse printed.0, printed.1)
prints_more old new Is More Bad Worse (Err stop.NoMemory) more worse printed = (printed.0, more printed.0 printed.1)
prints_more old new Is More Bad Worse (Err stop.OutputLost) more worse printed = (printed.0, more printed.0 printed.1)

pub no_bad : {Bad : Type 0} → ⊥ → Bad
no_bad bad = absurd bad

-- the command is this one, and only shows something
pub shown : (old new : Written) (before after : Cluster) (command arm : Command) (r : Result Unit Stop) (is : command
    ≡ arm) (Is : List ℕ → Type 0) (Bad : Type 0) → ((text : List ℕ) → Is text → IsPlayed before arm after text) →
    (Bad → IsBad before arm × (after ≡ before)) → Prints old new Is Bad r →
    Prints old new (IsPlayed before command after) (IsBad before command × (after ≡ before)) r
shown old new before after command arm r is Is Bad played bad printed =
    subst (λ (x : Command). Prints old new (IsPlayed before x after) (IsBad before x × (after ≡ before)) r) (sym is)
    (prints_more old new Is (IsPlayed before arm after) Bad (IsBad before arm × (after ≡ before)) r played bad printed)

-- the command is this change, and its report is printed
pub changed : (old new : Written) (before after : Cluster) (command : Command) (asked : Change) (report : Report) (r : Result Unit Stop) →
    command ≡ of.Change asked → Changes before asked after report →
    Prints old new (λ text. text ≡ line_of (report_text report)) ⊥ r →
    Prints old new (IsPlayed before command after) (IsBad before command × (after ≡ before)) r
changed old new before after command asked report r is made printed =
    subst (λ (x : Command). Prints old new (IsPlayed before x after) (IsBad before x × (after ≡ before)) r) (sym is)
    (prints_more old new (λ text. text ≡ line_of (report_text report)) (IsPlayed before (of.Change asked) after) ⊥
    (IsBad before (of.Change asked) × (after ≡ before)) r (λ text line. (report, made, line)) no_bad printed)

-- the first command made the cluster
pub begun : (old new : Written) (at : Option Cluster) (after : Cluster) (command : Command) (count : ℕ) (r : Result Unit Stop) →
    at ≡ None → command ≡ of.Servers count →
    after ≡ record { servers = all_up count; layouts = []; objects = []; counter = 0 } →
    Prints old new (λ text. text ≡ line_of (outcome_text outcome.Done)) ⊥ r →
    Prints old new (Plays at command (Some after)) (IsBadAt at command × (Some after ≡ at)) r
begun old new at after command count r none is made printed =
    subst (λ (x : Option Cluster). Prints old new (Plays x command (Some after)) (IsBadAt x command × (Some after ≡ x)) r) (sym none)
    (subst (λ (x : Command). Prints old new (Plays None x (Some after)) (IsBadAt None x × (Some after ≡ None)) r) (sym is)
    (prints_more old new (λ text. text ≡ line_of (outcome_text outcome.Done)) (Plays None (of.Servers count) (Some after)) ⊥
    (IsBadAt None (of.Servers count) × (Some after ≡ None)) r (λ text e. (made, e)) no_bad printed))
