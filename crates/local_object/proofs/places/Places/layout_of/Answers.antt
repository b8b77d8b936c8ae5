use Rattle.std.proofs.Common.{Some, ap, sym, ◌∙◌}
use Rattle.local_object.specs.Local.{layout_in}
use Rattle.local_object.proofs.PlaceLemmas.{read_at, unread}
use Rattle.local_object.proofs.places.Places.layout_of.Goals as goal

pub returns-in-Some : goal.returns-in-Some
returns-in-Some c =
    ap Some c.layout.ensures
    ∙ sym (ap layout_in
    (read_at c.deref.result.now c.self.inside.places.items c.args.self.now c.args.position c.in-Some.index c.index.result.now
    c.deref.ensures.value c.self.view_is c.in-Some.ensures c.index.ensures))

pub returns-in-None : goal.returns-in-None
returns-in-None c =
    sym (ap layout_in
    (unread c.deref.result.now c.self.inside.places.items c.args.self.now c.args.position c.deref.ensures.value c.self.view_is
    c.in-None.ensures))
