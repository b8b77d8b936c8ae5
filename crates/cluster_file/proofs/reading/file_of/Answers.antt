use Rattle.std.proofs.Common.{List, ℕ, map, sym, ap, ◌∙◌}
use Rattle.cluster_file.specs.Gives.{seen}
use Rattle.cluster_file.specs.Reading.{later_at}
use Rattle.cluster_file.proofs.MoverLemmas.{mover_is_named}
use Rattle.cluster_file.proofs.reading.file_of.Goals as goal

pub new-requires-clause-mover : goal.new-requires-clause-mover
new-requires-clause-mover c =
    let lines = map seen c.in_ok-fixed.rest.now in
    let nodes = ap (λ (ns : List ℕ). later_at ns c.args.end lines) (sym c.deref.ensures.0) in
    mover_is_named c.in_ok-fixed.fixed.nodes.items c.args.end _ lines _ (nodes ∙ c.in_ok-later.ensures.exact) c.in_ok-fixed.ensures.mover
