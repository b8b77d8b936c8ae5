use Rattle.std.proofs.Common.{◌≡◌, ℕ, List, length, take, map, ap, sym, ◌∙◌, arith}
use Rattle.std.proofs.lemmas.List.{length-take-le}
use Rattle.cluster_file.specs.declared.scored.Scored.{Scored}
use Rattle.cluster_file.specs.Scored.{scored}
use Rattle.cluster_file.specs.Placement.{in_order}
use Rattle.cluster_file.proofs.FirstNodesLemmas.{length-in_order}
use Rattle.cluster_file.proofs.ScoredListLemmas.{length-scored, numbers_of_scored-take}
use Rattle.cluster_file.proofs.cluster_nodes.first_of.Goals as goal

pub slice_bounds-numbers_of-end : goal.slice_bounds-numbers_of-end
slice_bounds-numbers_of-end c =
    let name = c.args.name.now in
    let ordered = in_order name c.args.nodes.now in
    let listed : c.deref.result.now ≡ map (scored name) ordered = c.deref.ensures.0 ∙ c.ranked-ranked.ensures in
    sym (length-take-le c.from.result c.deref.result.now (omega (
      arith,
      ap (λ (ss : List Scored). length ss) listed,
      length-scored name ordered,
      length-in_order name c.args.nodes.now,
      c.requires.available,
    )))

pub returns : goal.returns
returns c =
    let name = c.args.name.now in
    let nodes = c.args.nodes.now in
    let listed : c.deref.result.now ≡ map (scored name) (in_order name nodes) = c.deref.ensures.0 ∙ c.ranked-ranked.ensures in
    c.numbers_of.ensures
    ∙ ap (λ (n : ℕ). map (λ (s : Scored). s.node) (take n c.deref.result.now)) c.from.ensures
    ∙ ap (λ (ss : List Scored). map (λ (s : Scored). s.node) (take c.args.n ss)) listed
    ∙ numbers_of_scored-take name c.args.n (in_order name nodes)
