use Rattle.std.proofs.Common.{◌++◌, ◌∷◌, [], List, map, ap, ◌∙◌}
use Rattle.recoveries.proofs.RewrittenIdLemmas.{rewritten_told}
use Rattle.recoveries.proofs.RewrittenLogLemmas.{rewritten_record}
use Rattle.node_strings.specs.Strings.{Strings}
use Rattle.node_keeper.specs.Objects.{heard_names}
use Rattle.node_keeper.specs.Anew.{anew_records}
use Rattle.node_keeper.specs.Keeping.{kept_of}
use Rattle.node_keeper.specs.Logging.{log_entry_of}
use Rattle.node.specs.Starts.{cluster_entry}
use Rattle.node.proofs.node.Node.entries_anew.Goals as goal

pub returns-clause-anew : goal.returns-clause-anew
returns-clause-anew c =
    let keeper = c.args.self.now.keeper in
    let entries = map (log_entry_of keeper.digest) (anew_records keeper) in
    let told = rewritten_told (kept_of keeper) (heard_names keeper.objects) in
    let named = cluster_entry keeper.digest keeper.ids.node ∷ [] in record {
      records = anew_records keeper;
      those = c.in_ok-log_anew.ensures.appended
          ∙ ap (λ (es : List Strings). es ++ entries) (c.in_ok-push_cluster.ensures.appended
          ∙ ap (λ (es : List Strings). es ++ named) c.new-entries.ensures.items);
      named = c.in_ok-push_cluster.ensures.writes;
      read = c.in_ok-log_anew.ensures.read;
      epochs = told.0;
      moves = told.1;
      recorded = λ own calls. rewritten_record (kept_of keeper) (heard_names keeper.objects) (c.in_ok-log_anew.ensures.names own)
          (c.may_rewrite.ensures.0 c.if-not-may_rewrite.false) own calls;
    }
