use Rattle.std.proofs.Common.{◌≡◌, ◌||◌, Bool, false, map, sym, ap, ◌∙◌}
use Rattle.std.specs.List.{list_any}
use Rattle.layout.specs.Quorum.{has}
use Rattle.cluster_file.specs.Numbers.{writes_node}
use Rattle.cluster_file.proofs.MoverLemmas.{any_word}
use Rattle.cluster_file.proofs.values.is_among.Goals as goal

pub returns-else-has : goal.returns-else-has
returns-else-has c =
    let none : has c.args.nodes.now c.args.node ≡ false = sym c.if-has.ensures in
    c.are_writing.ensures ∙ any_word c.args.node c.args.later.now
    ∙ ap (λ (b : Bool). b || list_any (writes_node c.args.node) (map (λ word. word.now) c.args.later.now)) (sym none)
