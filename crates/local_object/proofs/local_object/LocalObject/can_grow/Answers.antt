use Rattle.std.proofs.Common.{◌≡◌, suc, ◌+◌, ◌^◌, ◌&&◌, ltb, is_some, Option, ap, ◌∙◌, arith}
use Rattle.layout.specs.Layout.{Layout}
use Rattle.local_object.specs.Anew.{can_grow}
use Rattle.local_object.specs.Local.{LocalObject, heard_place, layout_in}
use Rattle.local_object.proofs.local_object.LocalObject.can_grow.Goals as goal

pub returns-in-Some : goal.returns-in-Some
returns-in-Some c =
    let o = c.self.inside in
    let next : c.from.result + 1 ≡ suc o.start = omega (arith, c.from.ensures) in
    c.is_below_limit.ensures
    ∙ ap (λ (there : Option Layout). is_some there && ltb (o.start + 1) (2 ^ 31))
    (c.in-Some.ensures ∙ ap (λ n. layout_in (heard_place o.places n)) next)
    ∙ ap (λ (l : LocalObject). can_grow l) c.self.view_is

pub returns-in-None : goal.returns-in-None
returns-in-None c =
    let o = c.self.inside in
    let next : c.from.result + 1 ≡ suc o.start = omega (arith, c.from.ensures) in
    ap (λ (there : Option Layout). is_some there && ltb (o.start + 1) (2 ^ 31))
    (c.in-None.ensures ∙ ap (λ n. layout_in (heard_place o.places n)) next)
    ∙ ap (λ (l : LocalObject). can_grow l) c.self.view_is
