-- The contracts that docs/trusted.md lists do not depend on this file; other contracts and proofs do.
-- What each command does to a cluster, and which text it prints.
use Rattle.std.specs.Prelude.{◌≡◌, ℕ, true, false, List, [], ⊤, Option, Some, None, Result, Ok, Err}
use Rattle.printing.specs.Outcome.{outcome_text}
use Rattle.printing.specs.declared.outcome.Outcome.TheVariants as outcome
use Rattle.std.specs.Io.KnownBytes.{Appends, Keeps}
use Rattle.script.specs.declared.change.Change.{Change}
use Rattle.script.specs.declared.change.Change.TheVariants as change
use Rattle.script.specs.declared.command.Command.{Command}
use Rattle.script.specs.declared.command.Command.TheVariants as of
use Rattle.cluster.specs.Cluster.{Cluster, all_up}
use Rattle.player.specs.declared.player.Stop.{Stop}
use Rattle.player.specs.declared.player.Stop.TheVariants as stop
use Rattle.player.specs.declared.report.Report.{Report}
use Rattle.player.specs.Report.{report_text}
use Rattle.player.specs.ClusterCommands.{AddsLayout, MakesObject, Retires, SetsServer}
use Rattle.player.specs.CallCommands.{CallsRead, CallsWrite, CallsMove, Advances, BeginsAnew, Posts, AnswersCall}
use Rattle.player.specs.CodingCommands.{Supplies, SuppliesAs, SettlesValue}
use Rattle.player.specs.MailCommands.{Serves, Takes, Loses, Repeats}
use Rattle.player.specs.Deliver.{DeliversAll}
use Rattle.player.specs.WholeCalls.{Reads, WritesValue, Moves, Resumes}
use Rattle.player.specs.Shown.{line_of, ShowsCall, ShowsMail, ShowsBank, HasNoBank}
use Rattle.player.specs.Shown.{ShowsAccount, ShowsHistory, ShowsSequence, ShowsCheck, HasNoCall}
use Rattle.words.specs.Written.{Written}

-- the command was carried out and its text printed; or its line is bad, and nothing was printed; or it was carried out,
-- and its text was lost
abbrev pub Prints : (old new : Written) → (Is : List ℕ → Type 0) → (Bad : Type 0) → Result Unit Stop → Type 0
Prints old new Is Bad (Ok x) = (text : List ℕ) × Is text × Appends old new text
Prints old new Is Bad (Err stop.Bad) = Bad × Keeps old new
Prints old new Is Bad (Err stop.NoMemory) = (text : List ℕ) × Is text
Prints old new Is Bad (Err stop.OutputLost) = (text : List ℕ) × Is text

-- the text is the line of a report for which `Is` holds
abbrev pub Tells : (Report → Type 0) → (text : List ℕ) → Type 0
Tells Is text = (report : Report) × Is report × (text ≡ line_of (report_text report))

-- a command that may change the cluster leads from the old one to the new one, and makes this report
abbrev pub Changes : Cluster → Change → Cluster → Report → Type 0
Changes old (change.Layout k members) new report = AddsLayout old k members.items new report
Changes old (change.Object name layout delta) new report = MakesObject old name.now layout delta new report
Changes old (change.Retire name position) new report = Retires old name.now position new report
Changes old (change.Down server) new report = SetsServer old server false new report
Changes old (change.Up server) new report = SetsServer old server true new report
Changes old (change.CallRead name) new report = CallsRead old name.now new report
Changes old (change.CallWrite name value) new report = CallsWrite old name.now value new report
Changes old (change.CallMove name layout) new report = CallsMove old name.now layout new report
Changes old (change.Advance name call) new report = Advances old name.now call new report
Changes old (change.Supply name call) new report = Supplies old name.now call new report
Changes old (change.SupplyAs name call value) new report = SuppliesAs old name.now call value new report
Changes old (change.Settle name call) new report = SettlesValue old name.now call new report
Changes old (change.Post name call) new report = Posts old name.now call new report
Changes old (change.Again name call) new report = BeginsAnew old name.now call new report
Changes old (change.Answer name call) new report = AnswersCall old name.now call new report
Changes old (change.Serve name place) new report = Serves old name.now place new report
Changes old (change.Take name place) new report = Takes old name.now place new report
Changes old (change.Lose name place) new report = Loses old name.now place new report
Changes old (change.Repeat name place) new report = Repeats old name.now place new report
Changes old (change.Deliver name) new report = DeliversAll old name.now new report
Changes old (change.Read name turns) new report = Reads old name.now turns new report
Changes old (change.Write name value turns) new report = WritesValue old name.now value turns new report
Changes old (change.Move name layout turns) new report = Moves old name.now layout turns new report
Changes old (change.Resume name call turns) new report = Resumes old name.now call turns new report

-- a command after the first leads from the old cluster to the new one, and prints this text
abbrev pub IsPlayed : Cluster → Command → Cluster → (text : List ℕ) → Type 0
IsPlayed old (of.Servers count) new text = ⊥
IsPlayed old (of.Change asked) new text = Tells (Changes old asked new) text
IsPlayed old (of.Show name call) new text = (new ≡ old) × ShowsCall old name.now call text
IsPlayed old (of.Mail name) new text = (new ≡ old) × ShowsMail old name.now text
IsPlayed old (of.Bank name position member) new text = (new ≡ old) × ShowsBank old name.now position member text
IsPlayed old of.Account new text = (new ≡ old) × ShowsAccount old text
IsPlayed old (of.History name) new text = (new ≡ old) × ShowsHistory old name.now text
IsPlayed old (of.Sequence name) new text = (new ≡ old) × ShowsSequence old name.now text
IsPlayed old (of.Check name calls) new text = (new ≡ old) × ShowsCheck old name.now calls.items text

-- a command after the first makes its line bad: it is a second `servers`, or it names something that is not there
abbrev pub IsBad : Cluster → Command → Type 0
IsBad cluster (of.Servers count) = ⊤
IsBad cluster (of.Bank name position member) = HasNoBank cluster name.now position member
IsBad cluster (of.Check name calls) = HasNoCall cluster name.now calls.items
IsBad cluster _ = ⊥

-- the first command makes the cluster, with this many servers, all up, and prints this text
abbrev pub IsBegun : Command → Cluster → (text : List ℕ) → Type 0
IsBegun (of.Servers count) new text =
    (new ≡ record { servers = all_up count; layouts = []; objects = []; counter = 0 })
    × (text ≡ line_of (outcome_text outcome.Done))
IsBegun _ new text = ⊥

-- a command, the first or a later one, leads from the old cluster to the new one, and prints this text
abbrev pub Plays : Option Cluster → Command → Option Cluster → (text : List ℕ) → Type 0
Plays None command (Some new) text = IsBegun command new text
Plays (Some old) command (Some new) text = IsPlayed old command new text
Plays old command None text = ⊥

-- a command makes its line bad: it comes first and is not `servers`, or it comes later and is bad there
abbrev pub IsBadAt : Option Cluster → Command → Type 0
IsBadAt None (of.Servers count) = ⊥
IsBadAt None _ = ⊤
IsBadAt (Some cluster) command = IsBad cluster command
