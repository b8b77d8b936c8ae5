use Rattle.std.proofs.Common.{is_some, ap, sym, ◌∙◌}
use Rattle.local_object.specs.Doing.{is_taken}
use Rattle.local_object.specs.Local.{LocalObject}
use Rattle.local_object.proofs.BeginLemmas.{open_found}
use Rattle.local_object.proofs.CarriedCallLemmas.{open_none}
use Rattle.local_object.proofs.OpenLemmas.{object}
use Rattle.local_object.proofs.TakeLemmas.{taken_by}
use Rattle.local_object.proofs.local_object.LocalObject.is_taken.Goals as goal

pub returns-in-Some : goal.returns-in-Some
returns-in-Some c =
    let o = c.self.inside in
    let letter = c.args.letter.now in
    taken_by (object o.node o.delta o.start o.reports o.places o.calls) letter c.in-Reply.kind c.in-Reply.reply _ c.in-Reply.is
    (sym c.has_next.ensures ∙ c.if-not-has_next.false)
    (sym (ap is_some (open_found o.node o.calls letter.message.call c.in-Some.field-0 c.in-Some.ensures.distinct c.in-Some.ensures.index)))
    ∙ ap (λ (l : LocalObject). is_taken l letter) c.self.view_is

pub returns-in-None : goal.returns-in-None
returns-in-None c =
    let o = c.self.inside in
    let letter = c.args.letter.now in
    taken_by (object o.node o.delta o.start o.reports o.places o.calls) letter c.in-Reply.kind c.in-Reply.reply _ c.in-Reply.is
    (sym c.has_next.ensures ∙ c.if-not-has_next.false)
    (sym (ap is_some (open_none o.node o.calls letter.message.call c.in-None.ensures.index)))
    ∙ ap (λ (l : LocalObject). is_taken l letter) c.self.view_is
