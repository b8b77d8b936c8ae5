use Rattle.std.proofs.Common.{ap, sym, ◌∙◌}
use Rattle.record.specs.Legal.{is_move}
use Rattle.call.specs.Call.{OpenCall as Machine}
use Rattle.local_object.specs.Doing.{is_move_call, has_move_open}
use Rattle.local_object.specs.Local.{LocalObject}
use Rattle.local_object.proofs.BeginLemmas.{open_found}
use Rattle.local_object.proofs.CarriedCallLemmas.{open_none, same_call}
use Rattle.local_object.proofs.local_object.LocalObject.is_open_move.Goals as goal

pub returns-in-Some : goal.returns-in-Some
returns-in-Some c =
    let o = c.self.inside in
    let at = c.in-Some.ensures.index in
    c.is_move.ensures ∙ ap (λ (m : Machine). is_move m.kind) (sym (same_call at.call c.at.result.now (sym at.there ∙ c.at.ensures)))
    ∙ sym (ap is_move_call (open_found o.node o.calls c.args.id c.in-Some.index c.in-Some.ensures.distinct at))
    ∙ ap (λ (l : LocalObject). has_move_open l c.args.id) c.self.view_is

pub returns-in-None : goal.returns-in-None
returns-in-None c =
    sym (ap is_move_call (open_none c.self.inside.node c.self.inside.calls c.args.id c.in-None.ensures.index))
    ∙ ap (λ (l : LocalObject). has_move_open l c.args.id) c.self.view_is
