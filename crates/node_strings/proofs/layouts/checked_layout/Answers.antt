use Rattle.std.proofs.Common.{refl}
use Rattle.words.proofs.PartLemmas.{no_success}
use Rattle.node_strings.proofs.LayoutLemmas.{layout_made, layout_refused}
use Rattle.node_strings.proofs.layouts.checked_layout.Goals as goal

pub returns-in-Ok-clause-exact : goal.returns-in-Ok-clause-exact
returns-in-Ok-clause-exact g c =
    layout_made c.args.fault (record { k = c.args.k; members = c.args.members.now }) c.in-Ok.layout c.in-Ok.ensures.made
    (c.in-Ok.ensures.lawful.0 refl)

pub returns-in-Err-clause-exact : goal.returns-in-Err-clause-exact
returns-in-Err-clause-exact g c =
    layout_refused c.args.fault (record { k = c.args.k; members = c.args.members.now })
    (λ lawful. no_success (c.in-Err.ensures.lawful.1 lawful))
