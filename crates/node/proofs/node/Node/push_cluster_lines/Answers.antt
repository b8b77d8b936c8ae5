use Rattle.std.proofs.Common.{◌≡◌, ℕ, Bool, List, length, ◌+◌, ◌++◌, ◌∙◌, ap}
use Rattle.std.specs.List.{count_by}
use Rattle.indexmap.specs.IndexMap.{index_map_len, values}
use Rattle.node.specs.Info.{cluster_lines, count_heard, drop_lines, is_move_open, kept_banks, kept_lines, kept_tags, lost_lines}
use Rattle.node.specs.Peers.{frames_dropped}
use Rattle.node.specs.Ready.{is_ready}
use Rattle.node.proofs.node.Node.push_cluster_lines.Goals as goal

pub returns : goal.returns
returns c =
    let keeper = c.args.self.now.keeper in
    let peers = c.args.self.now.peers in
    let counts = c.args.self.now.desk.counts in
    let fixed = keeper.file.fixed in
    let later = keeper.file.later in
    let text : (ready : Bool) (nodes heard calls moves banks tags dropped : ℕ) → List ℕ =
    λ ready nodes heard calls moves banks tags dropped. cluster_lines ready nodes heard calls moves
    ++ (kept_lines banks tags ++ (lost_lines counts dropped peers.foreign ++ drop_lines peers.drops)) in
    let it = c.cluster_lines-cluster.result in
    let told = c.cluster_lines-cluster.ensures in
    let b = c.open_banks.result in
    let t = c.known_tags.result in
    let d = c.frames_dropped.result in
    let known : ℕ = count_heard keeper peers fixed.nodes in
    let ready : Bool = is_ready fixed known in
    let nodes : ℕ = length fixed.nodes + length later in
    let heard : ℕ = known + count_heard keeper peers later in
    let calls : ℕ = index_map_len c.args.self.now.desk.calls in
    let moves : ℕ = count_by is_move_open (values c.args.self.now.desk.calls) in
    c.in_ok-extend_from_slice.ensures.items ∙ ap (λ t. c.args.text.now.items ++ t) (c.as_bytes.ensures.value ∙ c.in_ok-lines.ensures.ok
    ∙ ap (λ r. text r it.nodes it.heard it.calls it.moves b t d) told.ready
    ∙ ap (λ n. text ready n it.heard it.calls it.moves b t d) told.nodes
    ∙ ap (λ n. text ready nodes n it.calls it.moves b t d) told.heard
    ∙ ap (λ n. text ready nodes heard n it.moves b t d) told.calls
    ∙ ap (λ n. text ready nodes heard calls n b t d) told.moves
    ∙ ap (λ n. text ready nodes heard calls moves n t d) c.open_banks.ensures
    ∙ ap (λ n. text ready nodes heard calls moves (kept_banks keeper) n d) c.known_tags.ensures
    ∙ ap (λ n. text ready nodes heard calls moves (kept_banks keeper) (kept_tags keeper) n) c.frames_dropped.ensures)
