-- A core that was opened, put together from what the functions of the opening do.
use Rattle.std.proofs.Common.{◌≡◌, ◌+◌, ◌-◌, ◌^◌, ℕ, false, List, length, min, Some, Result, Ok, Err, IfErr, IfOk, MatchResult}
use Rattle.std.proofs.Common.{[], refl, sym, ap, subst, ◌∙◌}
use Rattle.cluster_file.specs.File.{FileContents}
use Rattle.deeds.specs.Kept.{FileOfNames, new_node}
use Rattle.node.specs.Recovering.{CarriesOutEntry}
use Rattle.node.specs.Starts.{CanBeNamed, start_entries}
use Rattle.node.specs.declared.node.Node.{Node}
use Rattle.node_keeper.specs.Keeping.{kept_of, names_of}
use Rattle.node_log.specs.Entry.{chain_behind}
use Rattle.node_store.specs.Recovery.{HasRecovered, log_bytes}
use Rattle.node_store.specs.declared.end.LogEnd.{LogEnd}
use Rattle.node_strings.specs.Strings.{Strings}
use Rattle.processes.specs.Events.{IsNewNode}
use Rattle.processes.specs.Programs.{IsNewAndIdle, IsReadLog}
use Rattle.recoveries.specs.Records.{IsStarted}
use Rattle.node_core.specs.Opening.{HasBegun, HasOpened, HasReadFile, IsOpened, IsUnopened, IsUnread}
use Rattle.node_core.specs.declared.error.CoreError.{CoreError}
use Rattle.node_core.specs.declared.error.CoreError.TheVariants as errors
use Rattle.node_core.specs.declared.opening.Opened.{Opened}

-- why a node that has carried out its log does not start
abbrev pub IsUnbegun : Node → LogEnd → CoreError → Type 0
IsUnbegun copy end error = (names : FileOfNames) (number : ℕ) (disk : List ℕ) → IsReadLog names number disk copy end →
    IsUnread names number disk error

-- memory was refused
no_memory : (copy : Node) (end : LogEnd) (error : CoreError) → error ≡ errors.NoMemory → IsUnbegun copy end error
no_memory copy end error is = λ names number disk read. subst (IsUnread names number disk) (sym is) tt

-- the node was started, and its core was made
pub begun : (copy node : Node) (end : LogEnd) (cut : ℕ) (entries : List Strings) (r : Result Opened CoreError) →
    CanBeNamed copy → IsStarted (kept_of copy.keeper) (kept_of node.keeper) → node.desk ≡ copy.desk →
    entries ≡ start_entries copy → IfOk r (λ opened. opened.length ≡ end.length) → IfOk r (λ opened. opened.cut ≡ cut) →
    IfOk r (λ opened. opened.core.node ≡ node) →
    IfOk r (λ opened. opened.entries ≡ log_bytes end.chain.state entries) →
    IfOk r (λ opened. opened.core.end.length ≡ min (end.length + length opened.entries) (2 ^ 64 - 1)) →
    IfOk r (λ opened. opened.core.end.chain.state ≡ chain_behind end.chain.state entries) →
    IfOk r (λ opened. opened.core.is_stopped ≡ false) → IfErr r (λ error. error ≡ errors.NoMemory) →
    MatchResult r (HasBegun copy end cut) (IsUnbegun copy end)
begun copy node end cut entries (Ok opened) named started desk those stays lost held bytes long chained going refused = record {
  stays = stays;
  lost = lost;
  named = named;
  started = subst (λ (n : Node). IsStarted (kept_of copy.keeper) (kept_of n.keeper)) (sym held) started;
  desk = ap (λ (n : Node). n.desk) held ∙ desk;
  entries = bytes ∙ ap (λ (es : List Strings). log_bytes end.chain.state es) those;
  long = long;
  chained = chained ∙ ap (λ (es : List Strings). chain_behind end.chain.state es) those;
  going = going;
}
begun copy node end cut entries (Err error) named started desk those stays lost held bytes long chained going refused =
    no_memory copy end error refused

-- a new node carried out the log, and was started
pub opened_so : (names : FileOfNames) (number : ℕ) (disk : List ℕ) (new copy : Node) (end : LogEnd) (cut : ℕ)
    (r : Result Opened CoreError) → IsNewAndIdle names number new →
    HasRecovered CarriesOutEntry new copy (Some disk) (Ok end) → cut ≡ length disk - end.length →
    MatchResult r (HasBegun copy end cut) (IsUnbegun copy end) →
    MatchResult r (HasOpened names number disk) (IsUnread names number disk)
opened_so names number disk new copy end cut (Ok opened) is_new recovered lost begun_so = record {
  copy = copy;
  end = end;
  read = record { new = new; is_new = is_new; recovered = recovered };
  begun = subst (λ (n : ℕ). HasBegun copy end n opened) lost begun_so;
}
opened_so names number disk new copy end cut (Err error) is_new recovered lost unbegun =
    unbegun names number disk (record { new = new; is_new = is_new; recovered = recovered })

-- the same with the file that was read
module _ (text disk : List ℕ) (number : ℕ) (file : FileContents) (read : HasReadFile text number (Ok file)) where
  pub is_opened : (r : Result Opened CoreError) →
      MatchResult r (HasOpened (names_of file) number disk) (IsUnread (names_of file) number disk) →
      IfOk r (IsOpened text number disk)
  is_opened (Ok opened) is = (file, read, is)
  is_opened (Err error) is = tt

  pub is_unopened : (r : Result Opened CoreError) →
      MatchResult r (HasOpened (names_of file) number disk) (IsUnread (names_of file) number disk) →
      IfErr r (IsUnopened text number disk)
  is_unopened (Ok opened) is = tt
  is_unopened (Err (errors.BadFile error)) is = absurd is
  is_unopened (Err (errors.NoNode other)) is = absurd is
  is_unopened (Err errors.OldForm) is = absurd is
  is_unopened (Err (errors.BadLog error)) is = (file, read, is)
  is_unopened (Err (errors.Refused error)) is = (file, read, is)
  is_unopened (Err errors.NoMemory) is = (file, read, is)
  is_unopened (Err (errors.Ended error)) is = absurd is
  is_unopened (Err errors.Stopped) is = absurd is

  pub is_new_node : (node : Node) → kept_of node.keeper ≡ new_node (names_of file) number →
      node.desk.calls.entries ≡ [] → IsNewNode (names_of file) number node
  is_new_node node kept calls =
      record { file = file; lawful = read.0.lawful; same = refl; kept = kept; calls = calls }
