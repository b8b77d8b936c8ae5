use Rattle.std.proofs.Common.{◌+◌, IsSome, sym, subst}
use Rattle.layout.specs.Layout.{IsLawful, Layout}
use Rattle.local_object.specs.Codes.{carried}
use Rattle.local_object.specs.Local.{LocalObject, layout_here, layout_in, heard_place}
use Rattle.local_object.proofs.BeginLemmas.{known_added, move_done, ok_both}
use Rattle.local_object.proofs.local_object.LocalObject.begin_from.Goals as goal

pub begin-requires-clause-known : goal.begin-requires-clause-known
begin-requires-clause-known c =
    let places = c.self.inside.places in
    subst (λ ps. IsSome (layout_in (heard_place ps c.args.last))) (sym c.in_ok-learn.ensures.places)
    (known_added places (heard_place places (c.args.last + 1)) (c.args.last + 1) c.args.layout.now c.args.last
    (subst (λ (l : LocalObject). IsSome (layout_here l c.args.last)) (sym c.self.view_is) c.requires.known))

pub returns-clause-done : goal.returns-clause-done
returns-clause-done c =
    let o = c.self.inside in
    let local : LocalObject =
    record { node = o.node; delta = o.delta; start = o.start; places = o.places; reports = o.reports; calls = carried o.node o.calls } in
    ok_both c.begin.result c.begin.ensures.local c.begin.ensures.letters
    (λ letters is sent. move_done {o = local} c.self.view_is c.args.id c.args.layout.now c.requires.last c.in_ok-learn.ensures.places
    (subst (λ (l : Layout). IsLawful l) c.layout.ensures c.k.ensures.lawful) c.requires.still c.begin.new.self letters.items is sent)
