use Rattle.std.proofs.Common.{◌≡◌, ℕ, List, ◌++◌, take, refl, ap, ◌∙◌}
use Rattle.node.specs.Starts.{start_entries}
use Rattle.node_log.specs.Entry.{chain_behind}
use Rattle.node_store.specs.Recovery.{log_bytes}
use Rattle.node_strings.specs.Strings.{Strings}
use Rattle.example_runs.proofs.members.Member.begin.Goals as goal

pub returns : goal.returns
returns c =
    let same = c.deref.ensures.value in
    let started = c.in_ok-entries.ensures in
    let entries = started.entries in
    let those : c.deref.result.now ≡ start_entries c.args.node = cc in
    let grown = c.in_ok-push_entries.ensures in
    let state = c.args.end.chain.state in record {
      node = c.start.new.self;
      runs = refl;
      named = started.named;
      started = started.started;
      desk = started.desk;
      log = grown.log ∙ ap (λ (b : List ℕ). b ++ log_bytes state c.deref.result.now) c.truncate.ensures.items
          ∙ ap (λ (es : List Strings). take c.args.end.length c.args.self.now.log.items ++ log_bytes state es) those;
      chain = grown.chain ∙ ap (λ (es : List Strings). chain_behind state es) those;
    }
