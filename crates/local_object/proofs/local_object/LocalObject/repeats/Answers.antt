use Rattle.std.proofs.Common.{ap, sym, ◌∙◌}
use Rattle.call.specs.Call.{OpenCall as Machine}
use Rattle.local_object.specs.Local.{LocalObject}
use Rattle.local_object.specs.Taking.{is_repeat_in, is_repeated, repeats}
use Rattle.local_object.proofs.BeginLemmas.{open_found}
use Rattle.local_object.proofs.CarriedCallLemmas.{open_none, same_call}
use Rattle.local_object.proofs.local_object.LocalObject.repeats.Goals as goal

pub returns-in-Some : goal.returns-in-Some
returns-in-Some c =
    let o = c.self.inside in
    let letter = c.args.letter.now in
    let at = c.in-Some.ensures.index in
    c.is_repeat_in.ensures
    ∙ ap (λ (m : Machine). is_repeat_in m.phase letter.message)
    (sym (same_call at.call c.at.result.now (sym at.there ∙ c.at.ensures)))
    ∙ sym (ap (λ call. is_repeated call letter.message)
    (open_found o.node o.calls letter.message.call c.in-Some.index c.in-Some.ensures.distinct at))
    ∙ ap (λ (l : LocalObject). repeats l letter) c.self.view_is

pub returns-in-None : goal.returns-in-None
returns-in-None c =
    let o = c.self.inside in
    let letter = c.args.letter.now in
    sym (ap (λ call. is_repeated call letter.message) (open_none o.node o.calls letter.message.call c.in-None.ensures.index))
    ∙ ap (λ (l : LocalObject). repeats l letter) c.self.view_is
