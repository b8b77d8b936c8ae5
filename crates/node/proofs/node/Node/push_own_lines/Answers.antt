use Rattle.std.proofs.Common.{ℕ, List, length, ◌++◌, ◌∙◌, ap}
use Rattle.indexmap.specs.IndexMap.{index_map_len}
use Rattle.node_keeper.specs.Objects.{heard_names}
use Rattle.node.specs.Info.{count_lines, kept_closed, name_lines, other_lines, size_lines, stored_bytes}
use Rattle.node.specs.Peers.{frames_dropped}
use Rattle.node.proofs.node.Node.push_own_lines.Goals as goal

pub returns : goal.returns
returns c =
    let keeper = c.args.self.now.keeper in
    let desk = c.args.self.now.desk in
    let text : (node mover epoch objects bytes closed clients calls dropped : ℕ) → List ℕ =
    λ node mover epoch objects bytes closed clients calls dropped.
    name_lines node mover keeper.digest epoch ++ (size_lines objects bytes closed clients calls
    ++ (count_lines desk.counts dropped
    ++ other_lines c.args.self.now.peers.foreign c.args.self.now.peers.declined desk.counts.log_bytes)) in
    let node = keeper.ids.node in
    let mover = keeper.file.fixed.mover in
    let epoch = keeper.ids.epoch in
    let objects : ℕ = length (heard_names keeper.objects) in
    let bytes : ℕ = stored_bytes keeper in
    let closed : ℕ = kept_closed keeper in
    let clients : ℕ = index_map_len desk.clients.by_number in
    let n = c.number.result in
    let m = c.mover.result in
    let e = c.epoch.result in
    let o = c.count.result in
    let b = c.bytes_stored.result in
    let k = c.closed_banks.result in
    let there = c.count-2.result in
    let open_calls = c.len.result in
    let calls : ℕ = index_map_len desk.calls in
    let d = c.frames_dropped.result in
    c.in_ok-extend_from_slice.ensures.items ∙ ap (λ t. c.args.text.now.items ++ t) (c.as_bytes.ensures.value ∙ c.in_ok-own.ensures.ok
    ∙ ap (λ x. text x m e o b k there open_calls d) c.number.ensures.number
    ∙ ap (λ x. text node x e o b k there open_calls d) c.mover.ensures
    ∙ ap (λ x. text node mover x o b k there open_calls d) c.epoch.ensures
    ∙ ap (λ x. text node mover epoch x b k there open_calls d) c.count.ensures.count
    ∙ ap (λ x. text node mover epoch objects x k there open_calls d) c.bytes_stored.ensures
    ∙ ap (λ x. text node mover epoch objects bytes x there open_calls d) c.closed_banks.ensures
    ∙ ap (λ x. text node mover epoch objects bytes closed x open_calls d) c.count-2.ensures
    ∙ ap (λ x. text node mover epoch objects bytes closed clients x d) c.len.ensures.len
    ∙ ap (λ x. text node mover epoch objects bytes closed clients calls x) c.frames_dropped.ensures)
