use Rattle.std.proofs.Common.{[], ◌∷◌, ap, ◌∙◌}
use Rattle.local_object.specs.Local.{LocalObject, told_start}
use Rattle.local_object.proofs.local_object.LocalObject.redirected.Goals as goal

pub returns-clause-sent : goal.returns-clause-sent
returns-clause-sent c =
    ap (λ s. record c.args.letter { start = s } ∷ [])
    (c.in_ok-told_start.ensures.start ∙ ap (λ (l : LocalObject). told_start l) c.self.view_is)
