use Rattle.std.proofs.Common.{Option, ap, ◌∙◌}
use Rattle.layout.specs.Layout.{Layout}
use Rattle.local_object.specs.Local.{LocalObject, heard_place, layout_here, layout_in}
use Rattle.local_object.specs.Passed.{member_of}
use Rattle.local_object.proofs.local_object.LocalObject.member_at.Goals as goal

pub returns-in-Some : goal.returns-in-Some
returns-in-Some c =
    let o = c.self.inside in
    c.point_of.ensures
    ∙ ap (λ (l : Option Layout). member_of l o.node)
    (c.in-Some.ensures ∙ ap (λ n. layout_in (heard_place o.places n)) c.from.ensures)
    ∙ ap (λ (l : LocalObject). member_of (layout_here l c.args.position) l.node) c.self.view_is
