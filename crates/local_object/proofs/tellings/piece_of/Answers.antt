use Rattle.std.proofs.Common.{ap, sym, ◌∙◌}
use Rattle.std.specs.FinMap as map
use Rattle.std.specs.FinMap.Entries.{find}
use Rattle.tag.specs.Tag.{tag_cmp}
use Rattle.local_object.proofs.tellings.piece_of.Goals as goal

pub loop-known-init : goal.loop-known-init
loop-known-init c =
    ap (find tag_cmp c.args.tag) (c.into_iter-known-iterator.ensures.into_iter_gives ∙ c.rows-known-items.ensures)
    ∙ sym (map.get-entries c.args.bank.now.rows c.args.tag)
