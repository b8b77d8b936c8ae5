use Rattle.std.proofs.Common.{refl}
use Rattle.exports.specs.Edn.{edn_text}
use Rattle.trace.proofs.ShownTextLemmas.{events_shown}
use Rattle.trace.proofs.show.show_edn.Goals as goal

pub returns : goal.returns
returns g c =
    events_shown edn_text c.args.register.now _ _ c.print.result _ _ c.deref.ensures.value c.in_ok-events.ensures
    (c.print.ensures.shown _ refl) c.print.ensures.lost
