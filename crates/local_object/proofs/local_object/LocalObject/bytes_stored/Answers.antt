use Rattle.std.proofs.Common.{min, ap, ◌∙◌}
use Rattle.local_object.specs.Changing.{bytes_at_places}
use Rattle.local_object.specs.Local.{LocalObject}
use Rattle.local_object.proofs.local_object.LocalObject.bytes_stored.Goals as goal

pub returns : goal.returns
returns c = c.bytes.ensures ∙ ap (λ (l : LocalObject). min (bytes_at_places l) 18446744073709551615) c.self.view_is
