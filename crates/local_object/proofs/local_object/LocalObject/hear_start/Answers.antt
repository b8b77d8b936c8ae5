use Rattle.std.proofs.Common.{List, IsSome, false, true, sym, subst, ◌∙◌}
use Rattle.local_object.specs.Codes.{carried}
use Rattle.local_object.specs.Local.{LocalObject, Place, heard_place, layout_in}
use Rattle.local_object.proofs.StartLemmas.{heard_by, heard_there, later_small}
use Rattle.local_object.proofs.local_object.LocalObject.hear_start.Goals as goal

pub invariant_of-self-2 : goal.invariant_of-self-2
invariant_of-self-2 c =
    let start = c.in-Some.start in record {
      known = subst (λ (ps : List Place). IsSome (layout_in (heard_place ps start.position))) (sym c.in_ok-learn.ensures.places)
          (heard_there c.self.inside.places start.position start.layout);
      small = later_small c.args.self.now start (sym c.is_later_start-is_later.ensures ∙ c.if-not-is_later.false);
    }

pub returns-clause-heard : goal.returns-clause-heard
returns-clause-heard c =
    let o = c.self.inside in
    let local : LocalObject =
    record { node = o.node; delta = o.delta; start = o.start; places = o.places; reports = o.reports; calls = carried o.node o.calls } in
    heard_by local c.args.self.now c.self.view_is c.args.start.now c.in-Some.start (sym c.in-Some.is) true
    (sym c.is_later_start-is_later.ensures ∙ c.if-not-is_later.false) c.learn.new.self c.in_ok-learn.ensures.places

pub returns-then-not-is_later-clause-heard : goal.returns-then-not-is_later-clause-heard
returns-then-not-is_later-clause-heard c =
    let o = c.self.inside in
    let local : LocalObject =
    record { node = o.node; delta = o.delta; start = o.start; places = o.places; reports = o.reports; calls = carried o.node o.calls } in
    heard_by local c.args.self.now c.self.view_is c.args.start.now c.in-Some.start (sym c.in-Some.is) false
    (sym c.is_later_start-is_later.ensures ∙ c.if-not-is_later.true) c.learn.new.self c.in_ok-learn.ensures.places
