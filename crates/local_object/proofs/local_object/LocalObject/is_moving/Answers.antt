use Rattle.std.proofs.Common.{ap, ◌∙◌}
use Rattle.local_object.specs.Doing.{is_moving}
use Rattle.local_object.specs.Local.{LocalObject}
use Rattle.local_object.proofs.BeginLemmas.{any_carried}
use Rattle.local_object.proofs.local_object.LocalObject.is_moving.Goals as goal

pub returns : goal.returns
returns c =
    c.has_move.ensures ∙ any_carried c.self.inside.node c.self.inside.calls ∙ ap (λ (l : LocalObject). is_moving l) c.self.view_is
