use Rattle.std.proofs.Common.{ap, sym, ◌∙◌}
use Rattle.layout.specs.Layout.{Layout}
use Rattle.local_object.specs.Codes.{carried}
use Rattle.local_object.specs.Doing.{has_member, is_served}
use Rattle.local_object.specs.Local.{LocalObject, layout_in, heard_place}
use Rattle.local_object.proofs.LearntLemmas.{known_or, unknown_or}
use Rattle.local_object.proofs.ServeLemmas.{served_is}
use Rattle.local_object.proofs.local_object.LocalObject.is_served.Goals as goal

pub returns-in-Some : goal.returns-in-Some
returns-in-Some c =
    let o = c.self.inside in
    let letter = c.args.letter.now in
    let position = letter.message.position in
    let local : LocalObject =
    record { node = o.node; delta = o.delta; start = o.start; places = o.places; reports = o.reports; calls = carried o.node o.calls } in
    served_is local letter c.in-Request.field-0 c.has_member.result c.in-Request.is (sym c.has_next.ensures ∙ c.if-not-has_next.false)
    (c.has_member.ensures
    ∙ ap (λ (l : Layout). has_member l letter.message.member o.node)
    (known_or (layout_in (heard_place o.places position)) c.in-Some.layout.now letter.layout
    (c.in-Some.ensures ∙ ap (λ n. layout_in (heard_place o.places n)) c.from.ensures)))
    ∙ ap (λ (l : LocalObject). is_served l letter) c.self.view_is

pub returns-in-None : goal.returns-in-None
returns-in-None c =
    let o = c.self.inside in
    let letter = c.args.letter.now in
    let position = letter.message.position in
    let local : LocalObject =
    record { node = o.node; delta = o.delta; start = o.start; places = o.places; reports = o.reports; calls = carried o.node o.calls } in
    served_is local letter c.in-Request.field-0 c.has_member-in-None.result c.in-Request.is
    (sym c.has_next.ensures ∙ c.if-not-has_next.false)
    (c.has_member-in-None.ensures
    ∙ ap (λ (l : Layout). has_member l letter.message.member o.node)
    (c.layout.ensures ∙ unknown_or (layout_in (heard_place o.places position)) letter.layout
    (c.in-None.ensures ∙ ap (λ n. layout_in (heard_place o.places n)) c.from.ensures)))
    ∙ ap (λ (l : LocalObject). is_served l letter) c.self.view_is
